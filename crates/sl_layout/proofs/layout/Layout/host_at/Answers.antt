use Rattle.std.proofs.Common.{◌≡◌, ◌≤◌, ◌<◌, subst, sym, length, arith}
use Rattle.std.proofs.lemmas.Grind.{common_steps}
use Rattle.std.specs.Prelude.{IfSome}
use Rattle.sl_parts.specs.Parts.{host_at}
use Rattle.sl_layout.proofs.Actors.{guest_few}
use Rattle.sl_layout.proofs.layout.Layout.host_at.Goals as goal

pub returns-clause-few : goal.returns-clause-few
returns-clause-few c =
    let e : c.index.result.now ≡ host_at c.args.self.now c.args.port = grind (arith, common_steps) in
    subst (λ o. IfSome o (λ h. h < 128)) (sym e) (guest_few c.args.self.now c.args.port (subst (λ p. length p.hosts ≤ 128) c.self.view_is c.self.invariant.few_hosts))
