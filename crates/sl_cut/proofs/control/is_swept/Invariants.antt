use Rattle.sl_model.specs.Knowledge.{is_again, is_outstanding}
use Rattle.std.proofs.Common.{drop, ◌≡◌}
use Rattle.std.specs.List.{list_all}
use Rattle.std.specs.Prelude.{reverse, ◌&&◌}
use Rattle.sl_cut.proofs.control.is_swept.Given as goal

abbrev pub invariant-loop-one : goal.invariant-loop-one
invariant-loop-one l = list_all (λ v. is_outstanding v (reverse l.steps) && is_again l.sweep v (reverse l.steps)) (drop l.one-index l.one-items) ≡ list_all (λ v. is_outstanding v (reverse l.steps) && is_again l.sweep v (reverse l.steps)) l.one-items
