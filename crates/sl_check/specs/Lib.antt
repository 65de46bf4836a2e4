pub mod Lines
pub mod Claim
pub mod Answer
pub mod Faults
pub mod AnswerText
pub mod Spellings
pub mod Polled
pub mod Driven
