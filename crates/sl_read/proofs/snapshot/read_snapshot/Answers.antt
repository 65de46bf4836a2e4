use Rattle.std.proofs.Common.{refl, ◌∙◌}
use Rattle.sl_read.proofs.RowLemmas.{same_err}
use Rattle.sl_read.proofs.snapshot.read_snapshot.Goals as goal

pub returns-in_err-window : goal.returns-in_err-window
returns-in_err-window c = same_err _ _ c.from_residual-in_err-window.ensures ∙ rw (← c.in_ok-only.ensures, ← c.in_ok-bits.ensures.exact, ← c.modulus-ids.ensures.value, ← c.min.ensures, ← c.in_err-window.ensures.exact) refl

pub returns-in_err-ring : goal.returns-in_err-ring
returns-in_err-ring c = same_err _ _ c.from_residual-in_err-ring.ensures ∙ rw (← c.in_ok-only.ensures, ← c.in_ok-bits.ensures.exact, ← c.modulus-ids.ensures.value, ← c.min.ensures, ← c.in_ok-window.ensures.exact, ← c.min-2.ensures, ← c.in_err-ring.ensures.exact) refl

pub returns-in_err-count : goal.returns-in_err-count
returns-in_err-count c = same_err _ _ c.from_residual-in_err-count.ensures ∙ rw (← c.in_ok-only.ensures, ← c.in_ok-bits.ensures.exact, ← c.modulus-ids.ensures.value, ← c.min.ensures, ← c.in_ok-window.ensures.exact, ← c.min-2.ensures, ← c.in_ok-ring.ensures.exact, ← c.in_err-count.ensures.exact) refl

pub returns-in_err-retries : goal.returns-in_err-retries
returns-in_err-retries c = same_err _ _ c.from_residual-in_err-retries.ensures ∙ rw (← c.in_ok-only.ensures, ← c.in_ok-bits.ensures.exact, ← c.modulus-ids.ensures.value, ← c.min.ensures, ← c.in_ok-window.ensures.exact, ← c.min-2.ensures, ← c.in_ok-ring.ensures.exact, ← c.in_ok-count.ensures.exact, ← c.in_err-retries.ensures.exact) refl

pub returns-in_err-credits : goal.returns-in_err-credits
returns-in_err-credits c = same_err _ _ c.from_residual-in_err-credits.ensures ∙ rw (← c.in_ok-only.ensures, ← c.in_ok-bits.ensures.exact, ← c.modulus-ids.ensures.value, ← c.min.ensures, ← c.in_ok-window.ensures.exact, ← c.min-2.ensures, ← c.in_ok-ring.ensures.exact, ← c.in_ok-count.ensures.exact, ← c.in_ok-retries.ensures.exact, ← c.in_err-credits.ensures.exact) refl

pub returns-in_err-version : goal.returns-in_err-version
returns-in_err-version c = same_err _ _ c.from_residual-in_err-version.ensures ∙ rw (← c.in_ok-only.ensures, ← c.in_ok-bits.ensures.exact, ← c.modulus-ids.ensures.value, ← c.min.ensures, ← c.in_ok-window.ensures.exact, ← c.min-2.ensures, ← c.in_ok-ring.ensures.exact, ← c.in_ok-count.ensures.exact, ← c.in_ok-retries.ensures.exact, ← c.in_ok-credits.ensures.exact, ← c.in_err-version.ensures.exact) refl

pub returns : goal.returns
returns c = rw (← c.in_ok-only.ensures, ← c.in_ok-bits.ensures.exact, ← c.modulus-ids.ensures.value, ← c.min.ensures, ← c.in_ok-window.ensures.exact, ← c.min-2.ensures, ← c.in_ok-ring.ensures.exact, ← c.in_ok-count.ensures.exact, ← c.in_ok-retries.ensures.exact, ← c.in_ok-credits.ensures.exact, ← c.in_ok-version.ensures.exact) refl
