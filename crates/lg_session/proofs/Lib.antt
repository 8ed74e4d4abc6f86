pub mod Links
pub mod NameLemmas
pub mod ReachLemmas
pub mod HeldLemmas
pub mod RangeLemmas
pub mod FormLemmas
pub mod TreeLemmas
pub mod BuiltLemmas
pub mod ExtentLemmas
pub mod ListLemmas
pub mod ShapeLemmas
pub mod StepLemmas
pub mod ViewLemmas
pub mod AxesLemmas
pub mod Onces
pub mod Picked
pub mod ViewedLemmas
pub mod Repeatings
pub mod IndexLemmas
pub mod Turnings
pub mod PartLemmas
pub mod Viewings
mod Copyings
pub mod LoopLemmas
pub mod StatementLemmas
pub mod Printing
mod Storing
mod RootLemmas
pub mod Writes
pub mod WriteHeld
pub mod Targets
pub mod WriteSteps
