use Rattle.std.proofs.Common.{◌-◌, ◌%◌, ◌∙◌, ap, arith}
use Rattle.sl_saves.specs.Keeping.{place_above}
use Rattle.sl_saves.proofs.Places.{above-mod}
use Rattle.sl_saves.proofs.list.place_from.Goals as goal

pub returns-then-to-number : goal.returns-then-to-number
returns-then-to-number c =
    let by = c.args.to - c.args.number in
    c.place_above.ensures.value ∙ ap (λ at. place_above c.args.size at by) c.requires.place
    ∙ above-mod c.args.size c.args.number by c.requires.some (omega arith) ∙ ap (λ n. n % c.args.size) (omega arith)
