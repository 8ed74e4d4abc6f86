pub mod HeadView
pub mod Heads
pub mod Measures
pub mod Tree
pub mod View
