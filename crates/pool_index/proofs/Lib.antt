pub mod Records
pub mod Hiding
pub mod Positions
pub mod Index
