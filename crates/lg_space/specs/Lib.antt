pub mod Rectangle
pub mod Stored
pub mod Again
pub mod Common
pub mod Laws
pub mod Partition
