-- More fuel changes no answer.
use Rattle.std.proofs.Common.{◌+◌, List, Option, Some, ap, suc, sym, zero, ℕ, ◌∙◌, ◌∷◌, ◌≡◌, ◌≤◌, arith, []}
use Rattle.std.specs.Prelude.{Bool, false, true}
use Rattle.sl_model.specs.End.{IsFin, after_sweeps, again_from, append_to, finish, is_collected, rose, settle, sweep_round, then_from}
use Rattle.sl_model.specs.History.{Losses, World}
use Rattle.sl_model.specs.Schedule.{resend_entry, settling_pass, sweeps}
use Rattle.sl_model.specs.Setup.{Setup}
use Rattle.sl_model.specs.World.{Entry, kept_from, run}
use Rattle.sl_model.proofs.Finishing.Enough.{then-on}
use Rattle.sl_model.proofs.Finishing.Finished.{append-splits, then-splits}

-- two ways to go on, of which the second answers whatever the first does
abbrev Answers : (World → Option (List Entry)) → (World → Option (List Entry)) → Type 0
Answers f g = (v : World) (es : List Entry) → f v ≡ Some es → g v ≡ Some es

append-more : (es : List Entry) (o p : Option (List Entry)) → ((fs : List Entry) → o ≡ Some fs → p ≡ Some fs) → (gs : List Entry) → append_to es o ≡ Some gs → append_to es p ≡ Some gs
append-more es o p h gs q = let x = append-splits es o gs q in ap (append_to es) (h x.0 x.1.0) ∙ ap Some (sym x.1.1)

again-more : (s : Setup) (lost : Losses) (w : World) (f g : World → Option (List Entry)) (ks es : List Entry) → Answers f g → again_from s lost w f ks ≡ Some es → again_from s lost w g ks ≡ Some es
again-more s lost w f g [] es h q = q
again-more s lost w f g (k ∷ ks) es h q = append-more (k ∷ ks) (f (run s lost w (k ∷ ks))) (g (run s lost w (k ∷ ks))) (h (run s lost w (k ∷ ks))) es q

then-more : (s : Setup) (lost : Losses) (w : World) (f g : World → Option (List Entry)) (o p : Option (List Entry)) (es : List Entry) → Answers f g → ((fs : List Entry) → o ≡ Some fs → p ≡ Some fs) → then_from s lost w f o ≡ Some es → then_from s lost w g p ≡ Some es
then-more s lost w f g o p es h k q = let x = then-splits s lost w f o es q in
    then-on s lost w g p x.0 x.1.1.0 (k x.0 x.1.0) (h (run s lost w x.0) x.1.1.0 x.1.1.1.0) ∙ ap Some (sym x.1.1.1.1)

settle-more : (s : Setup) (lost : Losses) (n m : ℕ) → n ≤ m → Answers (λ w. settle n s lost w) (λ w. settle m s lost w)
settle-more s lost zero m h w es q = absurd cc
settle-more s lost (suc n) zero h w es q = absurd (omega (arith, h))
settle-more s lost (suc n) (suc m) h w es q = again-more s lost w (λ v. settle n s lost v) (λ v. settle m s lost v) (kept_from s lost w (settling_pass s.net)) es (settle-more s lost n m (omega (arith, h))) q

after-more : (s : Setup) (lost : Losses) (f g : World → Option (List Entry)) → Answers f g → (w : World) (b : Bool) (es : List Entry) → after_sweeps f s lost w b ≡ Some es → after_sweeps g s lost w b ≡ Some es
after-more s lost f g h w true es q = h w es q
after-more s lost f g h w false es q = again-more s lost w f g (kept_from s lost w (resend_entry s.net ∷ [])) es h q

round-more : (s : Setup) (lost : Losses) (n m : ℕ) → n ≤ m → (f g : World → Option (List Entry)) → Answers f g → (w : World) (b : Bool) (es : List Entry) → sweep_round n f s lost w b ≡ Some es → sweep_round m g s lost w b ≡ Some es
round-more s lost n m k f g h w true es q = q
round-more s lost n m k f g h w false es q = append-more (kept_from s lost w (sweeps s.net)) (then_from s lost u (λ v. after_sweeps f s lost v (rose s.net w v)) (settle n s lost u)) (then_from s lost u (λ v. after_sweeps g s lost v (rose s.net w v)) (settle m s lost u))
    (λ fs p. then-more s lost u (λ v. after_sweeps f s lost v (rose s.net w v)) (λ v. after_sweeps g s lost v (rose s.net w v)) (settle n s lost u) (settle m s lost u) fs (λ v es q. after-more s lost f g h v (rose s.net w v) es q) (settle-more s lost n m k u) p) es q
  where
    u : World
    u = run s lost w (kept_from s lost w (sweeps s.net))

pub finish-more : (s : Setup) (lost : Losses) (n m : ℕ) → n ≤ m → Answers (λ w. finish n s lost w) (λ w. finish m s lost w)
finish-more s lost zero m h w es q = absurd cc
finish-more s lost (suc n) zero h w es q = absurd (omega (arith, h))
finish-more s lost (suc n) (suc m) h w es q = then-more s lost w (λ v. sweep_round (suc n) (λ v. finish n s lost v) s lost v (is_collected s v)) (λ v. sweep_round (suc m) (λ v. finish m s lost v) s lost v (is_collected s v)) (settle (suc n) s lost w) (settle (suc m) s lost w) es
    (λ v es q. round-more s lost (suc n) (suc m) h (λ v. finish n s lost v) (λ v. finish m s lost v) (finish-more s lost n m (omega (arith, h))) v (is_collected s v) es q) (settle-more s lost (suc n) (suc m) h w) q

-- so finishing takes one schedule
pub one-finishing : (s : Setup) (lost : Losses) (w : World) (es fs : List Entry) → IsFin s lost w es → IsFin s lost w fs → es ≡ fs
one-finishing s lost w es fs e f = let a : finish (e.fuel + f.fuel) s lost w ≡ Some es = finish-more s lost e.fuel (e.fuel + f.fuel) (omega arith) w es e.finished in
    let b : finish (e.fuel + f.fuel) s lost w ≡ Some fs = finish-more s lost f.fuel (e.fuel + f.fuel) (omega arith) w fs f.finished in
    let c : Some es ≡ Some fs = sym a ∙ b in cc
