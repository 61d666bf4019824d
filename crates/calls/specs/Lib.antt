pub mod Transfer
pub mod Response
pub mod Init
pub mod InitSlave
pub mod Laws
