use Rattle.std.proofs.Common.{◌≤◌, Ok, Option, ℕ, ap, subst, sym, ◌∙◌, arith}
use Rattle.std.specs.Prelude.{IfSome}
use Rattle.sl_read.proofs.RowLemmas.{same_err}
use Rattle.sl_read.proofs.cable.given_version.Goals as goal

pub overflow_cast-result : goal.overflow_cast-result
overflow_cast-result c =
    let low : c.in-Some.version ≤ 2 = subst (λ (o : Option ℕ). IfSome o (λ n. n ≤ 2)) c.in-Some.is c.in_ok-version.ensures.high in
    omega (arith, low)

pub returns-in_err-version : goal.returns-in_err-version
returns-in_err-version c = same_err _ _ c.from_residual.ensures ∙ c.in_err-version.ensures.exact

pub returns-in-Some : goal.returns-in-Some
returns-in-Some c = ap (λ (o : Option ℕ). Ok o) (sym c.in-Some.is) ∙ c.in_ok-version.ensures.exact

pub returns-in-None : goal.returns-in-None
returns-in-None c = ap (λ (o : Option ℕ). Ok o) (sym c.in-None.is) ∙ c.in_ok-version.ensures.exact
