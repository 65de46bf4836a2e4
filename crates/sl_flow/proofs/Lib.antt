pub mod Shares
pub mod SampleLemmas
pub mod Joined
pub mod Counted
pub mod Sending
