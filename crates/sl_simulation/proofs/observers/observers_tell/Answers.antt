use Rattle.std.proofs.Common.{length, ap, ◌∙◌}
use Rattle.sl_layout.specs.Net.{units, unit_place, data_channels}
use Rattle.std.proofs.lemmas.List.{length-map}
use Rattle.sl_observe.specs.Observer.{unit_at, seen_of, saved_of}
use Rattle.sl_observe.specs.Observer.{register_floor}
use Rattle.sl_model.specs.Knowledge.{observer, known, collected}
use Rattle.sl_model.specs.World.{world}
use Rattle.sl_simulation.specs.ObserverImage.{unit_of}
use Rattle.sl_simulation.proofs.ObserverAccounts.{unit-there, saved-there, none-past, floor-same}
use Rattle.sl_simulation.proofs.observers.observers_tell.Goals as goal

pub returns-clause-floor : goal.returns-clause-floor
returns-clause-floor c s lost table es o h = ap register_floor h ∙ floor-same s.net table (world s lost es)

pub returns-clause-issued : goal.returns-clause-issued
returns-clause-issued c s lost table es o h = ap (λ o. o.issued) h

pub returns-clause-resent : goal.returns-clause-resent
returns-clause-resent c s lost table es o h = ap (λ o. o.resent) h

pub returns-clause-units : goal.returns-clause-units
returns-clause-units c s lost table es o h = ap (λ o. length o.units) h ∙ length-map (units s.net) (λ u. unit_of table.credits s.net u (collected s.net (world s lost es) u))

pub returns-clause-seen : goal.returns-clause-seen
returns-clause-seen c s lost table es o u i h q = ap (λ o. seen_of (unit_at o.units (unit_place s.net u))) h ∙ ap seen_of (unit-there s.net (c.nets_have_ways.ensures s.net) table (world s lost es) u i q)

pub returns-clause-saved : goal.returns-clause-saved
returns-clause-saved c s lost table es o u k i n f t l h q one p = ap (λ o. saved_of (unit_at o.units (unit_place s.net u)) k) h
    ∙ saved-there s.net (c.nets_have_ways.ensures s.net) s.credits table (world s lost es) u k i f.credits q (c.rows_are_final.ensures.collected s lost es (data_channels s.net u) u k i n q p)
    (c.rows_are_held.ensures s lost es (data_channels s.net u) u k (known (unit_place s.net u) (observer (world s lost es))) t l) one p

pub returns-clause-unsaved : goal.returns-clause-unsaved
returns-clause-unsaved c s lost table es o u k i h q p = ap (λ o. saved_of (unit_at o.units (unit_place s.net u)) k) h ∙ none-past s.net (c.nets_have_ways.ensures s.net) table (world s lost es) u k i q p
