use Rattle.std.proofs.Common.{ℕ, ◌≤◌, ap, arith, length}
use Rattle.std.proofs.lemmas.List.FromFn.{length-range_with_len}
use Rattle.std.proofs.lemmas.List.Sums.{count_by-le-length, length-filter}
use Rattle.sl_parts.specs.Parts.{below}
use Rattle.sl_layout.specs.Net.{Net, actor_of, is_unit, units}
use Rattle.sl_net.proofs.net.Net.unit_count.Goals as goal

few : (net : Net) → length (units net) ≤ length net.actors
few net = let t = λ (a : ℕ). is_unit (actor_of net a) in let all = below (length net.actors) in
    omega (arith, length-filter t all, count_by-le-length t all, length-range_with_len 0 (length net.actors))

pub overflow_cast-result : goal.overflow_cast-result
overflow_cast-result c = omega (arith, few c.args.self.now, ap length c.unit_actors.ensures.actors, ap length c.actors-actors.ensures.now, c.actors-actors.ensures.few)

pub returns-clause-few : goal.returns-clause-few
returns-clause-few c = omega (arith, few c.args.self.now, ap length c.unit_actors.ensures.actors, ap length c.actors-actors.ensures.now, c.actors-actors.ensures.few)
