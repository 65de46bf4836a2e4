use Rattle.std.proofs.Common.{◌<◌, ap, arith, length, subst, sym, ◌∙◌}
use Rattle.std.proofs.lemmas.List.FromFn.{length-map-range_with_len}
use Rattle.std.specs.List.{All}
use Rattle.std.specs.Prelude.{◌==◌}
use Rattle.sl_layout.specs.Ends.{actor_at, links_at}
use Rattle.sl_layout.specs.Net.{link_of}
use Rattle.sl_layout.proofs.Grouping.{few_filter, list_at, low_filter}
use Rattle.sl_layout.proofs.wires.Wires.links_at.Goals as goal

pub list-requires : goal.list-requires
list-requires c =
    let net = c.args.self.now in
    omega (arith, ap length c.sorted.ensures.lists, length-map-range_with_len (links_at net c.args.end) 0 (length net.actors), c.requires)

pub returns-clause-links : goal.returns-clause-links
returns-clause-links c =
    let net = c.args.self.now in
    c.list.ensures ∙ list_at (links_at net c.args.end) _ (length net.actors) c.args.actor c.sorted.ensures.lists c.requires

pub returns-clause-each : goal.returns-clause-each
returns-clause-each c =
    let net = c.args.self.now in
    subst (All (λ l. l < length net.links)) (sym (returns-clause-links c)) (low_filter (λ l. actor_at c.args.end (link_of net l) == c.args.actor) (length net.links))

pub returns-clause-few : goal.returns-clause-few
returns-clause-few c =
    let net = c.args.self.now in
    omega (
      arith,
      ap length (returns-clause-links c),
      few_filter (λ l. actor_at c.args.end (link_of net l) == c.args.actor) (length net.links),
      c.sorted.ensures.few,
    )
