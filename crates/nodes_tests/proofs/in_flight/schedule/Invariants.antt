use Rattle.std.specs.List.{All}
use Rattle.sl_machine.specs.Plan.{HasChoice}
use Rattle.sl_layout.specs.Wiring.{plan_of}
use Rattle.nodes_tests.proofs.in_flight.schedule.Given as goal

abbrev pub invariant-loop-line : goal.invariant-loop-line
invariant-loop-line l = All (λ e. HasChoice (plan_of l.net) e.0 e.1) l.entries.items
