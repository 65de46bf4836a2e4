pub mod ReadableSpans
pub mod EachUnit
pub mod Fitting
pub mod Joining
pub mod Lowering
pub mod Telling
