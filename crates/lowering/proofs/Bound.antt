-- Recursion over the arena: any bound above a node's index gives the same, in lowering and in the meaning of a tree.
pub mod Lowering
pub mod Meaning
