use Rattle.std.proofs.Common.{◌≡◌, subst, sym, length, arith}
use Rattle.std.proofs.lemmas.Grind.{common_steps}
use Rattle.std.specs.Prelude.{IfSome}
use Rattle.sl_parts.specs.Parts.{other_end}
use Rattle.sl_parts.specs.Valid.{IsValid}
use Rattle.sl_parts.specs.Ports.{IsNear}
use Rattle.sl_layout.proofs.Actors.{end_near}
use Rattle.sl_layout.proofs.layout.Layout.other_end.Goals as goal

pub returns-clause-near : goal.returns-clause-near
returns-clause-near c =
    let parts = c.args.self.now in
    let e : c.index.result.now ≡ other_end parts.cables c.args.port = grind (arith, common_steps) in
    subst (λ o. IfSome o (IsNear (length parts.devices))) (sym e) (end_near parts c.args.port (subst IsValid c.self.view_is c.self.invariant.valid))
