pub mod Holds
pub mod Roots
