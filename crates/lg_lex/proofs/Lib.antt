pub mod DecimalLemmas
pub mod KindLemmas
pub mod FrontLemmas
pub mod LineLemmas
pub mod ReaderLemmas
