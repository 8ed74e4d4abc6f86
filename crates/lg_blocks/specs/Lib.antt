pub mod Examples
pub mod Laws
pub mod Lines
pub mod Reader
pub mod Renumbering
pub mod Rows
pub mod Unfinished
