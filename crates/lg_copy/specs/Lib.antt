pub mod Appending
pub mod Copying
pub mod Leading
