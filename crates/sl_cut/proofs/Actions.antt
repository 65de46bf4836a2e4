-- Which own action a number names.
use Rattle.std.proofs.Common.{◌≡◌, ◌≤◌, ℕ, zero, suc, refl, inl, inr, arith}
use Rattle.std.specs.Prelude.{◌⊎◌, None}
use Rattle.sl_layout.specs.declared.actor.ActorId.TheVariants.{Observer}
use Rattle.sl_model.specs.History.{History}
use Rattle.sl_model.specs.Setup.{Setup}
use Rattle.sl_model.specs.Knowledge.{can_issue, can_resend, issued}
use Rattle.sl_model.specs.Puts.{action, guarded, begin_all}

pub observer_action : (s : Setup) (f a : ℕ) (h : History) (n : ℕ)
    → ((n ≡ 0) × (action s f a Observer h n ≡ guarded (can_issue s f h) (begin_all s.net (suc (issued s.net h)))))
    ⊎ (((n ≡ 1) × (action s f a Observer h n ≡ guarded (can_resend s f h) (begin_all s.net (issued s.net h)))) ⊎ ((2 ≤ n) × (action s f a Observer h n ≡ None)))
observer_action s f a h zero = inl (refl, refl)
observer_action s f a h (suc zero) = inr (inl (refl, refl))
observer_action s f a h (suc (suc n)) = inr (inr (omega arith, refl))
