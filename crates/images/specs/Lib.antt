pub mod Numbers
pub mod EndImage
pub mod InitImage
pub mod MasterImage
pub mod InitSlaveImage
pub mod SlaveImage
