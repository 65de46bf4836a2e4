pub mod Texts
pub mod Served
pub mod Ends
pub mod Printed
pub mod PrintedFindings
