-- Used above: Lists by all, as they use std's lemmas on lists, since no contract speaks of lists as such. Checked and Clash (what the first fault of a list
-- says of the parts before it), Tables (what the tables by ports tell) and NumberLemmas (the digits of a number) in the crates that look into the definition
-- of a fault, of a look-up or of a plain number itself.
pub mod NumberLemmas
pub mod NameLemmas
pub mod Clash
pub mod Tables
pub mod Checked
pub mod Lists
