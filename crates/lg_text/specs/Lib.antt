pub mod Examples
pub mod Shares
pub mod Text
pub mod Words
