use Rattle.std.specs.List.{All}
use Rattle.std.proofs.Common.{◌<◌, length, take, ◌≡◌}
use Rattle.sl_layout.specs.Serving.{serving}
use Rattle.std.specs.Prelude.{map}
use Rattle.sl_cut.proofs.control.served.Given as goal

abbrev pub invariant-loop-poll : goal.invariant-loop-poll
invariant-loop-poll l = record { served : l.list.items ≡ map (serving l.net l.actor) (take l.poll-index l.poll-items); units : All (λ v. v.unit < length l.net.actors) l.list.items }
