mod Walk
mod Children
mod Reading
mod FlatNodes
mod Peek
mod Conditions
mod Operands
mod Branches
mod Entries
pub mod Lent
pub mod Laws
pub mod Width
pub mod Stored
pub mod Program
pub mod Refuted
