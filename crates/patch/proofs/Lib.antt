mod Patches
pub mod Marks
pub mod Laws
pub mod Refuted
