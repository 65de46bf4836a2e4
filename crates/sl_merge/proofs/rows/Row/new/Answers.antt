use Rattle.std.proofs.Common.{◌≡◌, [], Some, map, refl, rules}
use Rattle.sl_merge.proofs.RowLemmas.{moved, moved_all}
use Rattle.sl_merge.proofs.rows.Row.new.Goals as goal

pub loop-x-preserved : goal.loop-x-preserved
loop-x-preserved g c =
    moved Some c.loop-x.places.items c.push.new.self.items c.loop-x.rest.items c.pop_front.new.self.items c.in-Some.x (Some c.in-Some.x) _ c.loop-x.invariant c.in-Some.ensures.items c.in_ok-push.ensures.items refl

pub returns : goal.returns
returns g c =
    let none : c.loop-x.rest.items ≡ [] = search rules in
    moved_all (map Some) c.loop-x.places.items c.loop-x.rest.items _ refl c.loop-x.invariant none
