mod Counting
mod Lists
mod Reports
mod Told
mod Takes
mod Follow
mod Plain
mod Runs
mod Stand
mod Collected
mod Listed
mod Answered
mod Held
mod ControlList
mod Outcomes
pub mod Texts
