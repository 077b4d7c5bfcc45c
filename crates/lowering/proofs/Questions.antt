-- The questions before the walk.
pub mod Checked
pub mod Passed
