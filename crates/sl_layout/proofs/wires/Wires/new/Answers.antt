use Rattle.std.proofs.Common.{◌≤◌, ap, sym, subst, ◌∙◌, length, arith}
use Rattle.std.specs.List.{All}
use Rattle.sl_layout.specs.Net.{net_of, actors_of}
use Rattle.sl_parts.specs.Valid.{IsValid}
use Rattle.sl_layout.specs.Wires.{HasEnds}
use Rattle.sl_layout.proofs.Ends.{all_ends, few_links}
use Rattle.sl_layout.proofs.wires.Wires.new.Goals as goal

pub invariant_of-result : goal.invariant_of-result
invariant_of-result c =
    let parts = c.args.roster in
    let valid = subst IsValid c.roster.view_is c.roster.invariant.valid in
    let few : length (actors_of parts) ≤ 1217 = omega (arith, ap length (c.roster.invariant.actors_are ∙ ap actors_of c.roster.view_is), c.roster.invariant.few) in
    record {
      links_are = c.in_ok-links.ensures;
      few = omega (arith, ap length c.in_ok-links.ensures, few_links parts valid few);
      few_actors = few;
      ends = subst (All (HasEnds (net_of parts))) (sym c.in_ok-links.ensures) (all_ends parts valid);
      into_are = c.in_ok-into.ensures.lists;
      choices_are = c.in_ok-into.ensures.places;
      from_are = c.in_ok-from.ensures.lists;
      outs_are = c.in_ok-from.ensures.places;
    }
