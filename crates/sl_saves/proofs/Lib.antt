pub mod Chains
pub mod Held
pub mod Places
pub mod Rings
pub mod Walks
pub mod Walking
pub mod Lists
pub mod Shares
