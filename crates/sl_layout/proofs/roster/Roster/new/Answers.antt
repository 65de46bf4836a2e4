use Rattle.std.proofs.Common.{◌≤◌, ap, sym, subst, ◌∙◌, length, arith}
use Rattle.std.specs.List.{All}
use Rattle.sl_parts.specs.Valid.{IsValid}
use Rattle.sl_layout.specs.Roster.{IsFew, HasNumbers}
use Rattle.sl_layout.proofs.Ends.{few_actors, all_few}
use Rattle.sl_layout.proofs.roster.Roster.new.Goals as goal

pub number_actors-requires-clause-few : goal.number_actors-requires-clause-few
number_actors-requires-clause-few c =
    let valid = subst IsValid c.layout.view_is c.layout.invariant.valid in
    let few = subst (λ p. length p.hosts ≤ 128) c.layout.view_is c.layout.invariant.few_hosts in
    subst (All IsFew) (sym (c.as_slice.ensures.value ∙ c.in_ok-actors.ensures)) (all_few c.args.layout valid few)

pub number_actors-requires-clause-count : goal.number_actors-requires-clause-count
number_actors-requires-clause-count c =
    let valid = subst IsValid c.layout.view_is c.layout.invariant.valid in
    let few = subst (λ p. length p.hosts ≤ 128) c.layout.view_is c.layout.invariant.few_hosts in
    omega (arith, ap length (c.as_slice.ensures.value ∙ c.in_ok-actors.ensures), few_actors c.args.layout valid few)

pub invariant_of-result : goal.invariant_of-result
invariant_of-result c =
    let valid = subst IsValid c.layout.view_is c.layout.invariant.valid in
    let few = subst (λ p. length p.hosts ≤ 128) c.layout.view_is c.layout.invariant.few_hosts in
    record {
      valid = valid;
      actors_are = c.in_ok-actors.ensures;
      few = omega (arith, ap length c.in_ok-actors.ensures, few_actors c.args.layout valid few);
      numbers_are = subst (λ xs. HasNumbers 0 xs c.in_ok-numbers.numbers.items) c.as_slice.ensures.value c.in_ok-numbers.ensures;
    }
