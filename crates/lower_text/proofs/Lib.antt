pub mod Laws
pub mod Program
pub mod Refuted
