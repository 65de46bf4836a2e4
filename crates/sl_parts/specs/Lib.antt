pub mod Text
pub mod Parts
pub mod Number
pub mod Fault
pub mod Valid
pub mod Ports
pub mod Lists
