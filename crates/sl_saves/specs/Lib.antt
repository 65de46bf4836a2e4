pub mod Calls
pub mod Keeping
pub mod Lists
pub mod Rings
pub mod Shares
pub mod Slots
pub mod Views
pub mod Walks
