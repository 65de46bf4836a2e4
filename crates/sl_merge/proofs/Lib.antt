-- Others use GetLemmas (places of lists), ForgettingLemmas (what stands without the clocks runs as before) and NumberLemmas (machines with clocks).
pub mod GetLemmas
mod LineLemmas
mod WeavingLemmas
mod PartLemmas
pub mod ForgettingLemmas
mod BoundLemmas
pub mod NumberLemmas
mod RunLemmas
mod BookLemmas
mod PairLemmas
mod CountLemmas
mod MergeLemmas
mod AscendingLemmas
mod EndedLemmas
mod LogLemmas
mod WindowLemmas
mod GatherLemmas
mod ResumedLemmas
mod RowLemmas
mod ApartLemmas
mod RestLemmas
mod MergedLemmas
mod WiredLemmas
