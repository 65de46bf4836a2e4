-- A run without its hostile turns: those in which a host puts a bad frame, or a unit takes one.
--     is_hostile s                the step takes or puts a bad frame
--     honest h                    the history without its hostile steps
--     honest_setup s              what is run, where the raw frames that are bad went
--     honest_entries s lost es    the schedule without the entries that make hostile steps
--     AreSameButSent f g          two findings that differ in what hosts sent, and in bad frames
use Rattle.std.specs.Prelude.{◌≡◌, ℕ, Bool, false, ◌||◌, List, [], ◌∷◌, cond, if◌then◌else◌, map, filter, Option, Some, None, is_some}
use Rattle.std.specs.List.{list_any}
use Rattle.sl_model.specs.declared.message.Put.{Put}
use Rattle.sl_model.specs.declared.message.Step.{Step}
use Rattle.sl_model.specs.declared.findings.Findings.{Findings}
use Rattle.sl_model.specs.Counting.{is_bad}
use Rattle.sl_model.specs.Frame.{packet_of}
use Rattle.sl_model.specs.History.{History, World, Losses}
use Rattle.sl_model.specs.Setup.{Setup}
use Rattle.sl_model.specs.World.{Entry, start, next_step, turn}

abbrev pub puts_bad : Put → Bool
puts_bad p = is_bad (Some p.message)

abbrev pub is_hostile : Step → Bool
is_hostile s = is_bad s.taken || list_any puts_bad s.puts

abbrev pub is_hostile_turn : Option Step → Bool
is_hostile_turn None = false
is_hostile_turn (Some s) = is_hostile s

abbrev pub honest : History → History
honest [] = []
honest (s ∷ h) = if is_hostile s then honest h else s ∷ honest h

abbrev pub honest_setup : Setup → Setup
honest_setup s = record s { raws = filter (λ r. is_some (packet_of r.bytes)) s.raws }

abbrev pub honest_from : Setup → Losses → World → List Entry → List Entry
honest_from s lost w [] = []
honest_from s lost w (e ∷ es) = cond (is_hostile_turn (next_step s lost w e)) (honest_from s lost (turn s lost w e) es) (e ∷ honest_from s lost (turn s lost w e) es)

abbrev pub honest_entries : Setup → Losses → List Entry → List Entry
honest_entries s lost es = honest_from s lost (start s.net) es

-- the choices of the steps
abbrev pub choices_made : History → List ℕ
choices_made h = map (λ s. s.choice) h

-- two findings that tell the same, but for what hosts sent, where the second one tells of no bad frame
pub record AreSameButSent (f g : Findings) : Type 0 where
  pub issued : f.issued ≡ g.issued
  pub floor : f.floor ≡ g.floor
  pub resent : f.resent ≡ g.resent
  pub list : f.list ≡ g.list
  pub delivered : f.delivered ≡ g.delivered
  pub expired : f.drops.expired ≡ g.drops.expired
  pub noroute : f.drops.noroute ≡ g.drops.noroute
  pub lost : f.lost ≡ g.lost
  pub no_bad : g.drops.bad ≡ 0
