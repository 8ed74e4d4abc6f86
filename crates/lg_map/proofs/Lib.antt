pub mod ColumnLemmas
pub mod Constants
pub mod FlagLemmas
pub mod LoopLemmas
pub mod MapLemmas
pub mod TestLemmas
