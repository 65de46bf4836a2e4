-- What the last steps of units tell of the end of a run.
--     newest h           the choice of the last step of a history
--     all_polled net w   the last step of each unit took a poll, or it made none
--     last_choices n es  of each of so many actors the choice of its last one of these entries
--     ends_well s w      all snapshots are issued and collected, or no retry is left and the last step of each unit took a poll
use Rattle.std.specs.Prelude.{ℕ, Bool, true, false, ◌&&◌, ◌||◌, List, [], ◌∷◌, ◌==◌, Option, Some, None, replicate, slice_get, slice_set}
use Rattle.std.specs.List.{list_all}
use Rattle.sl_layout.specs.declared.actor.Sort.TheVariants.{Poll}
use Rattle.sl_layout.specs.Net.{Net, same_sort, link_of, links_into, units}
use Rattle.sl_model.specs.History.{History, World, history}
use Rattle.sl_model.specs.Setup.{Setup}
use Rattle.sl_model.specs.Knowledge.{observer, resent}
use Rattle.sl_model.specs.World.{Entry}
use Rattle.sl_model.specs.End.{is_collected}

abbrev pub newest : History → Option ℕ
newest [] = None
newest (s ∷ h) = Some s.choice

-- the link carries polls
abbrev pub carries_polls : Net → Option ℕ → Bool
carries_polls net None = false
carries_polls net (Some l) = same_sort (link_of net l).sort Poll

-- a unit's last step, by this choice, took a poll, or it made none
abbrev pub is_polled : Net → ℕ → Option ℕ → Bool
is_polled net u None = true
is_polled net u (Some c) = carries_polls net (slice_get (links_into net u) c)

abbrev pub all_polled : Net → World → Bool
all_polled net w = list_all (λ u. is_polled net u (newest (history w u))) (units net)

abbrev pub ends_well : Setup → World → Bool
ends_well s w = is_collected s w || ((resent s.net (observer w) == s.retries) && all_polled s.net w)

-- Of a legal schedule a unit's last step is by the choice of its last entry.

abbrev pub choose_all : List (Option ℕ) → List Entry → List (Option ℕ)
choose_all cs [] = cs
choose_all cs (e ∷ es) = choose_all (slice_set cs e.0 (Some e.1)) es

abbrev pub last_choices : ℕ → List Entry → List (Option ℕ)
last_choices n es = choose_all (replicate n None) es
