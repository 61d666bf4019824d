pub mod Play
pub mod Printed
pub mod Laid
pub mod Layer1
pub mod Claims
pub mod Lent
