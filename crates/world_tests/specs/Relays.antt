-- The machines of the tests.
use Rattle.std.specs.Prelude.{◌+◌, ◌-◌, ◌^◌, ◌==◌, ◌∷◌, [], ℕ, min, Some, None, if◌then◌else◌}
use Rattle.sl_machine.specs.Machine.{Rules, Counts}
use Rattle.world_tests.specs.declared.relay.Relay.{Relay}

-- its outgoing links, the tokens that it has left, those that came, and the hops of the last of them
abbrev pub RelayState : Type 0
RelayState = ℕ × ℕ × ℕ × ℕ

abbrev pub relay_state : Relay → RelayState
relay_state r = (r.outs, r.left, r.seen, r.last)

abbrev pub relay_counts : Relay → Counts
relay_counts r = record { ins = r.ins; outs = r.outs; actions = r.actions }

abbrev pub relay_rules : Rules RelayState ℕ
relay_rules = record {
  take = λ s link m. record { state = (s.0, s.1, min (s.2 + 1) (2 ^ 32 - 1), m); puts = if s.0 == 0 then [] else (0, m - 1) ∷ [] };
  act = λ s action. if s.0 == 0 then None else (if s.1 == 0 then None else Some (record { state = (s.0, s.1 - 1, s.2, s.3); puts = (0, s.1) ∷ [] }));
}
