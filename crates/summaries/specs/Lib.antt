pub mod Summaries
pub mod Kinds
pub mod KindLaws
