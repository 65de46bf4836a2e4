pub mod Report
pub mod RoutesText
pub mod FaultText
pub mod TraceText
pub mod Spelled
pub mod SummaryText
pub mod Sayable
pub mod ShortRun
