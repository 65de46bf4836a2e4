-- Trusted text, but for valued.
-- The verdicts on snapshots in the variant without channel state (Yaseen, Sonchack and Liu 2018), where a skipped number has the next saved value.
--     value_verdict net w k    the verdict on the snapshot k in a world: pending, or not issued, as the snapshot is, or else whole
--     value_finding net w k    the verdict, with what each unit counted before its id reached k where it is whole
--     value_list i lost book   these of all snapshots of an input, in the world that a book leads to
--     valued v                 the verdict, where v is the one with channel state
use Rattle.std.specs.Prelude.{ℕ, List, [], map, nat_le, Option, Some, None, if◌then◌else◌}
use Rattle.std.specs.List.{range_with_len}
use Rattle.sl_machine.specs.declared.wiring.Entry.{Entry as BookEntry}
use Rattle.sl_layout.specs.Net.{Net, units}
use Rattle.sl_net.specs.Input.{Input}
use Rattle.sl_model.specs.declared.verdict.Lag.{Lag}
use Rattle.sl_model.specs.declared.verdict.Verdict.{Verdict}
use Rattle.sl_model.specs.declared.verdict.Verdict.TheVariants as with_channels
use Rattle.sl_model.specs.Words.{first_told}
use Rattle.sl_model.specs.Books.{schedule_of}
use Rattle.sl_model.specs.History.{World, Losses, history}
use Rattle.sl_model.specs.Setup.{setup_of}
use Rattle.sl_model.specs.World.{world}
use Rattle.sl_model.specs.Knowledge.{observer, issued, floor}
use Rattle.sl_model.specs.Verdict.{lag, floor_holder}
use Rattle.sl_value.specs.declared.whole.Whole.{Whole}
use Rattle.sl_value.specs.declared.verdict.ValueVerdict.{ValueVerdict}
use Rattle.sl_value.specs.declared.verdict.ValueVerdict.TheVariants.{Whole as IsWhole, Pending, NotIssued}
use Rattle.sl_value.specs.declared.verdict.ValueFinding.{ValueFinding}
use Rattle.sl_value.specs.Counted.{counted}

abbrev pub lagging : Option (ℕ × Lag) → ValueVerdict
lagging None = IsWhole
lagging (Some l) = Pending l.0 l.1

abbrev pub value_verdict : Net → World → ℕ → ValueVerdict
value_verdict net w k = if nat_le k (issued net (observer w)) then lagging (first_told (λ u. lag net k u (history w u)) (units net)) else NotIssued (floor_holder net w) (floor net w)

abbrev pub values_for : Net → World → ℕ → ValueVerdict → List Whole
values_for net w k IsWhole = map (λ u. counted k (history w u)) (units net)
values_for net w k _ = []

abbrev pub value_finding : Net → World → ℕ → ValueFinding
value_finding net w k = record { k = k; verdict = value_verdict net w k; values = values_for net w k (value_verdict net w k) }

-- the findings of the input's snapshots in the world that a book leads to
abbrev pub value_list : Input → Losses → List BookEntry → List ValueFinding
value_list i lost book = map (value_finding i.net (world (setup_of i) lost (schedule_of book))) (range_with_len 1 i.snapshot.count)

abbrev pub valued : Verdict → ValueVerdict
valued (with_channels.Pending unit lag) = Pending unit lag
valued (with_channels.NotIssued unit floor) = NotIssued unit floor
valued with_channels.Consistent = IsWhole
valued (with_channels.Inconsistent unit cause) = IsWhole
