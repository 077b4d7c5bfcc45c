pub mod Tables
pub mod KindWords
