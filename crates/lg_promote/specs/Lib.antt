pub mod Kinds
pub mod Promotion
pub mod Literals
pub mod Laws
