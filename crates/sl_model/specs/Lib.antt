-- Histories and worlds.
pub mod Words
pub mod History
pub mod Frame
pub mod Counting
pub mod Setup
pub mod Knowledge
pub mod Puts
pub mod World
pub mod Losses
pub mod Putting
pub mod Lamport
-- Cuts and verdicts.
pub mod Matching
pub mod Cut
pub mod Verdict
pub mod Findings
-- The end.
pub mod Schedule
pub mod End
pub mod Bound
pub mod Books
pub mod Finished
-- What the laws of worlds speak of.
pub mod Made
pub mod Fit
pub mod Turns
pub mod Late
pub mod Window
pub mod Passing
pub mod Collected
pub mod LastSeen
-- What a unit's history saves, and how it is told.
pub mod Calls
pub mod Rows
pub mod LateTotal
pub mod UnitWindow
pub mod Short
pub mod Fields
pub mod Brought
pub mod Polls
pub mod Reported
pub mod Accounts
-- What the laws of finishing speak of.
pub mod Flight
pub mod Fare
pub mod Potential
pub mod Sweeps
pub mod FirstNet
pub mod Ended
pub mod Ending
