pub mod PutLaws
pub mod LineLaws
pub mod TakeLaws
pub mod InputLaws
pub mod SaidLaws
