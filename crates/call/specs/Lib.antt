pub mod OnBlock
pub mod CallOn
pub mod Kept
pub mod Left
pub mod Edge
