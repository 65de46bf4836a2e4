pub mod Trees
pub mod Begins
pub mod UnitLists
pub mod Runs
pub mod Links
pub mod Reported
