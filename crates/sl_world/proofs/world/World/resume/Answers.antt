use Rattle.std.proofs.Common.{◌∙◌, ap, sym, length, map}
use Rattle.std.proofs.lemmas.List.{length-map}
use Rattle.sl_world.proofs.ResumeLemmas.{lines_counted}
use Rattle.sl_world.proofs.world.World.resume.Goals as goal

pub with_lines-requires-clause-lines : goal.with_lines-requires-clause-lines
with_lines-requires-clause-lines g c =
    let fit = c.requires.fit.losses_fit in
    lines_counted c.in_ok-lines.lines.items c.args.losses.items c.as_slice.result.now (map (λ v. v.items) c.args.rests.items) c.in_ok-lines.ensures
    (ap length c.as_slice.ensures.value ∙ (c.requires.lost ∙ sym fit)) (length-map c.args.rests.items (λ v. v.items) ∙ (c.requires.rests ∙ sym fit)) ∙ fit
