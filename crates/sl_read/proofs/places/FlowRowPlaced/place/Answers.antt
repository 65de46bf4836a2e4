use Rattle.std.proofs.Common.{refl}
use Rattle.sl_read.specs.Places.{known}
use Rattle.sl_read.proofs.RowLemmas.{refused_part}
use Rattle.sl_read.proofs.places.FlowRowPlaced.place.Goals as goal

pub returns-in_err-to : goal.returns-in_err-to
returns-in_err-to c = refused_part c.from_residual-in_err-to.result c.in_err-to.field-0.0 (known c.at-2.result c.host_place-2.result) _ c.from_residual-in_err-to.ensures
    (λ x h. rw (← c.at.ensures, ← c.host_place.ensures, c.in_ok-from.ensures, ← c.at-2.ensures, ← c.host_place-2.ensures, h) refl) c.in_err-to.ensures

pub returns : goal.returns
returns c = rw (← c.at.ensures, ← c.host_place.ensures, c.in_ok-from.ensures, ← c.at-2.ensures, ← c.host_place-2.ensures, c.in_ok-to.ensures) refl
