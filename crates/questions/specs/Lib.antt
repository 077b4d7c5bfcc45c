pub mod Fields
pub mod Verdict
