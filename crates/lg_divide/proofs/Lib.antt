pub mod Products
pub mod Forms
pub mod Machine
pub mod Steps
pub mod Remainders
