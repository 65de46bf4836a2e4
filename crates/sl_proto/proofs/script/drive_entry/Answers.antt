use Rattle.std.proofs.Common.{◌≡◌, ◌∙◌, sym, ap, subst}
use Rattle.sl_model.specs.Schedule.{passes_of, expand_one}
use Rattle.sl_proto.specs.Calls.{HasDriven}
use Rattle.sl_proto.proofs.script.drive_entry.Goals as goal

pub returns-in-Pass : goal.returns-in-Pass
returns-in-Pass g c =
    let net = c.args.net.now in
    let is : passes_of c.args.once.now.entries.items c.in-Pass.count ≡ expand_one net c.args.entry = ap (λ p. passes_of p c.in-Pass.count) c.requires.pass.is ∙ ap (expand_one net) (sym c.in-Pass.is) in
    subst (λ es. HasDriven g.T.Taker.scene g.T.Taker.fixed net c.args.taker.now es c.drive_passes.result c.drive_passes.new.taker) is c.drive_passes.ensures
