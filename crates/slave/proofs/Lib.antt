pub mod CountLaws
pub mod SlaveAgrees
pub mod CallAgrees
pub mod Secret
pub mod FitsKept
pub mod Examples
pub mod TextAlike
pub mod OursIsTheRust
