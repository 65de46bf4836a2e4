-- What holds of any net is a field of `HasWays`, by the law `nets_have_ways`; what holds of each net of parts without a fault is a field of `IsWired`, by the
-- law `nets_are_wired`. Used above: Sorts where neither is at hand, in laws on histories of any setup, and for places in any list (`place-same`);
-- NetWired for what follows where the parts have no fault (`faultless`); Wired where a law of sl_model asks for a net of such parts (`net-wired`).
pub mod Sorts
pub mod EndKinds
pub mod NetWired
pub mod Skips
pub mod Wired
pub mod Texts
pub mod Namesakes
pub mod Spellings
