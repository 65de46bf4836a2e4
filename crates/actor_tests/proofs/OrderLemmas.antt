-- Five entries whose actors are in order.
use Rattle.std.proofs.Common.{ℕ, zero, suc, ◌≤◌, ◌+◌, ◌<◌, [], ◌∷◌, get_or, arith}
use Rattle.std.specs.List.Sorted.{IsNonDecreasingBy}
use Rattle.std.proofs.lemmas.List.Sorted.{IsNonDecreasingBy-from_all_adjacent}
use Rattle.sl_machine.specs.declared.wiring.Entry.{Entry}

pub in_order : (a b c d e : Entry) → a.actor ≤ b.actor → b.actor ≤ c.actor → c.actor ≤ d.actor → d.actor ≤ e.actor → IsNonDecreasingBy (λ x. x.actor) (a ∷ b ∷ c ∷ d ∷ e ∷ [])
in_order a b c d e p q r s = IsNonDecreasingBy-from_all_adjacent (λ (x : Entry). x.actor) (a ∷ b ∷ c ∷ d ∷ e ∷ []) (λ k x low. step k x low)
  where
    step : (k : ℕ) (x : Entry) → k + 1 < 5 → (get_or (a ∷ b ∷ c ∷ d ∷ e ∷ []) k x).actor ≤ (get_or (a ∷ b ∷ c ∷ d ∷ e ∷ []) (k + 1) x).actor
    step zero x low = p
    step (suc zero) x low = q
    step (suc (suc zero)) x low = r
    step (suc (suc (suc zero))) x low = s
    step (suc (suc (suc (suc k)))) x low = absurd (omega arith)
