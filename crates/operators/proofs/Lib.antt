pub mod Compares
mod Words
