pub mod ConfigStays
