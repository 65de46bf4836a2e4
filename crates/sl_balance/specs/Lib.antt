pub mod Spread
pub mod Cabled
pub mod Balance
pub mod OneCut
pub mod Equal
pub mod BalanceText
