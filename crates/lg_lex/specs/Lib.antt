pub mod Bytes
pub mod Lexical
pub mod Line
pub mod Operators
pub mod Laws
