pub mod Ready
pub mod Kinds
pub mod Flat
pub mod Roots
pub mod Laws
pub mod Once
pub mod Walks
