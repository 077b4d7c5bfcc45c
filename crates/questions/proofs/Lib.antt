mod Asked
mod Below
pub mod Part
mod Tables
