mod Bits
mod Free
mod Four
mod Parameters
pub mod Laws
pub mod Refuted
