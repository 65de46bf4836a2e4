-- Used above, where the definition of the actors and links of parts is opened: Actors (which actors and links there are), Ends (how many, and
-- the wiring by places), Grouping (lists by device). Sorts is used where a fact of sorts is shown by cases. What holds of each net is a field of
-- `IsWired` in sl_net.
pub mod Numbering
pub mod Actors
pub mod Grouping
pub mod Placing
pub mod Ends
pub mod Sorts
