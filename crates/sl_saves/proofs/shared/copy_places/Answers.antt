use Rattle.std.proofs.Common.{subst}
use Rattle.std.proofs.lemmas.List.{drop_all}
use Rattle.sl_saves.specs.Shares.{AgreesBut}
use Rattle.sl_saves.proofs.Shares.{agrees-all}
use Rattle.sl_saves.proofs.shared.copy_places.Goals as goal

pub returns : goal.returns
returns c = let l = c.loop-place in
    agrees-all l.shown c.args.slots.now l.invariant.long (subst (λ ps. AgreesBut ps l.shown c.args.slots.now) (drop_all l.place-index c.args.places.now c.loop-place-test.false) l.invariant.agree)
