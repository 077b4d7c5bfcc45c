pub mod Ops
pub mod Kinds
pub mod Ast
