mod WeakLemmas
mod LimitLemmas
mod Rows
mod Tilings
mod Pieces
mod Fits
mod Spreads
pub mod Shapes
mod Lendings
mod Gatherings
mod Indexed
mod Windows
mod Joins
pub mod Exactly
pub mod Statics
mod Reshapings
mod Spreadings
pub mod Made
mod Literals
pub mod Fillings
