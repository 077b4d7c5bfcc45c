pub mod Words
pub mod Records
pub mod Search
pub mod Refuted
