pub mod Types
pub mod Elements
pub mod Operations
pub mod Division
pub mod Powers
pub mod Laws
