use Rattle.std.proofs.Common.{◌≡◌, ◌∷◌, [], ◌++◌, ◌-◌, ap, ◌∙◌, arith}
use Rattle.std.specs.Prelude.{map, if◌then◌else◌}
use Rattle.std.proofs.lemmas.Bool.{lt-ltb}
use Rattle.sl_saves.specs.Calls.{Adopt, Credited}
use Rattle.sl_model.specs.History.{id}
use Rattle.sl_model.specs.Counting.{packets, bytes}
use Rattle.sl_model.specs.Fit.{stamp}
use Rattle.sl_model.specs.Calls.{calls, credits_in, credit}
use Rattle.sl_model.proofs.Saved.Entries.{stamp_in, calls-rise, calls-stay, credit-clear}
use Rattle.sl_model.proofs.saved_laws.calls_follow_steps.Goals as goal

pub returns-clause-adopts : goal.returns-clause-adopts
returns-clause-adopts c cs s h m t p = let e : stamp_in s.taken ≡ stamp m = ap stamp_in t in let n : id (s ∷ h) ≡ stamp m = omega (arith, e, p) in
    calls-rise cs s h (omega (arith, n, p)) ∙ ap (λ k. Adopt (k - id h) (packets h) (bytes h) ∷ calls cs h) n

pub returns-clause-credits : goal.returns-clause-credits
returns-clause-credits c cs s h j p t q = let e : stamp_in s.taken ≡ j = ap stamp_in t in
    calls-stay cs s h (omega (arith, e, q)) ∙ ap (λ o. map Credited (credits_in cs (id h) s.choice o) ++ calls cs h) t
    ∙ ap (λ b. map Credited (if b then credit cs (id h) s.choice j p ∷ [] else []) ++ calls cs h) (lt-ltb j (id h) q)

pub returns-clause-stays : goal.returns-clause-stays
returns-clause-stays c cs s h p q = calls-stay cs s h p ∙ ap (λ xs. map Credited xs ++ calls cs h) (credit-clear cs (id h) s.choice s.taken q)
