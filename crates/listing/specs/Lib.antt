pub mod Column
pub mod Text
pub mod Output
pub mod Page
