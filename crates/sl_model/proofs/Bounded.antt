-- The bound on turns: what each step owes and pays.
pub mod Flights
pub mod TurnPays
pub mod Whole
pub mod PortUse
pub mod Ranks
pub mod Ways
pub mod Costs
pub mod BoundedTurns
pub mod Scripts
pub mod SortCounts
pub mod Prices
pub mod StepPays
