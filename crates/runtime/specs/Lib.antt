pub mod Operands
pub mod Value
pub mod Instruction
pub mod Opcode
pub mod Encoding
pub mod Function
pub mod Pool
