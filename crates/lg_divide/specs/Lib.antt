pub mod Reciprocals
pub mod Quotients
