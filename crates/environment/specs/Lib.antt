pub mod Bits
pub mod Registers
pub mod Environment
pub mod Laws
