-- Crates above use, where no law says so much: of lists Weighed and Sizes (sl_simulation, sl_proto, sl_cut), Entries (map-each,
-- calls), Settled (places); of schedules in parts Turns, Trails, Steps and Finished (sl_proto, sl_cut); of a unit's data channels
-- Collected and Settled, and of the puts to one unit Polls (sl_simulation); the worked nets, Nets (sl_report); of the first idle
-- entry Endings (sl_cut, sl_check).
pub mod Worlds
pub mod Lists
pub mod Cuts
pub mod Saved
pub mod Finishing
pub mod Bounded
pub mod Worked
