mod Floats
pub mod Encoding
pub mod Constants
pub mod Pool
pub mod Refuted
