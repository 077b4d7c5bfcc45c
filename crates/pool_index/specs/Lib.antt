pub mod Hidden
pub mod Index
