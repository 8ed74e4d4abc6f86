pub mod Counted
pub mod Ordered
pub mod Pushed
pub mod Reached
pub mod States
pub mod Told
