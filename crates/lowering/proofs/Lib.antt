pub mod Cases
pub mod Questions
pub mod Bound
pub mod Destinations
pub mod Running
pub mod Walk
