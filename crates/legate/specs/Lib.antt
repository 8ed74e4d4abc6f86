pub mod Statuses
pub mod Commands
pub mod Messages
pub mod Running
pub mod Top
