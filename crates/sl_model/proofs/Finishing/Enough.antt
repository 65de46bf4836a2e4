-- Enough fuel: settling and finishing end.
use Rattle.std.proofs.Common.{◌*◌, ◌+◌, ◌++◌, ◌<◌, List, Option, Some, ap, length, length-append, refl, subst, suc, sym, zero, ℕ, ◌∙◌, ◌∷◌, ◌≡◌, ◌≤◌, arith, []}
use Rattle.std.specs.Prelude.{Bool, false, true}
use Rattle.sl_net.specs.Wired.{IsNet}
use Rattle.sl_model.specs.Bound.{bound_of}
use Rattle.sl_model.specs.End.{after_sweeps, again_from, append_to, finish, is_collected, rose, settle, sweep_round, then_from}
use Rattle.sl_model.specs.History.{Losses, World}
use Rattle.sl_model.specs.Schedule.{resend_entry, settling_pass, sweeps}
use Rattle.sl_model.specs.Setup.{Setup}
use Rattle.sl_model.specs.Words.{weigh}
use Rattle.sl_model.specs.World.{Entry, IsLegalFrom, kept, kept_from, run, start, world}
use Rattle.sl_model.specs.Potential.{allowed, potential}
use Rattle.sl_model.specs.Sweeps.{sweeps_in}
use Rattle.sl_model.proofs.Worlds.Legal.{kept_legal}
use Rattle.sl_model.proofs.Worlds.Trails.{run-kept}
use Rattle.sl_model.proofs.Worlds.Turns.{run-append}
use Rattle.sl_model.proofs.Finishing.NetWiring.{Wiring, wiring}
use Rattle.sl_model.proofs.Bounded.PortUse.{own-ports}
use Rattle.sl_model.proofs.Worlds.ReachedWorlds.{Reached, reached-run, reached-start}
use Rattle.sl_model.proofs.Finishing.Finished.{left, left-falls, mul-le, pass-adds, resend-adds, resend-left, rose-itself, rose-left, settle-free, settle-legal, sweep_gain, weigh-kept}
use Rattle.sl_model.proofs.Bounded.TurnPays.{potential-run}
use Rattle.sl_model.proofs.Bounded.BoundedTurns.{within-bound}
use Rattle.sl_model.proofs.Bounded.Whole.{potential-start}

-- Settling, where the fuel is above the potential.

pub record Settles (s : Setup) (lost : Losses) (n : ℕ) (w : World) : Type 0 where
  pub entries : List Entry
  pub is : settle n s lost w ≡ Some entries

pub settles : (s : Setup) (lost : Losses) → Wiring s.net → (n : ℕ) (w : World) → Reached s lost w → potential s lost w < n → Settles s lost n w
settles s lost g zero w r h = absurd (omega (arith, h))
settles s lost g (suc n) w r h = by_kept (kept_from s lost w (settling_pass s.net)) refl (λ v. settles s lost g n v)
  where
    by_kept : (ks : List Entry) → kept_from s lost w (settling_pass s.net) ≡ ks → ((v : World) → Reached s lost v → potential s lost v < n → Settles s lost n v) → Settles s lost (suc n) w
    by_kept [] q ih = record { entries = []; is = ap (again_from s lost w (λ v. settle n s lost v)) q }
    by_kept (k ∷ ks) q ih = let v = run s lost w (k ∷ ks) in
        let p = potential-run s lost g w r (k ∷ ks) (subst (IsLegalFrom s lost w) q (kept_legal s lost w (settling_pass s.net))) in
        let a : weigh (allowed s.net) (k ∷ ks) ≤ 0 = subst (λ es. weigh (allowed s.net) es ≤ 0) q (pass-adds s lost w) in
        let x = ih v (reached-run s lost w (k ∷ ks) r) (omega (arith, h, p, a)) in
        record { entries = (k ∷ ks) ++ x.entries; is = ap (again_from s lost w (λ v. settle n s lost v)) q ∙ ap (append_to (k ∷ ks)) x.is }

-- what settling does lowers the potential
settle-lowers : (s : Setup) (lost : Losses) (n : ℕ) (w : World) (es : List Entry) → Wiring s.net → Reached s lost w → settle n s lost w ≡ Some es → length es + potential s lost (run s lost w es) ≤ potential s lost w
settle-lowers s lost n w es g r h = let p = potential-run s lost g w r es (settle-legal s lost n w es h) in omega (arith, p, settle-free n s lost w es h)

-- Finishing, where the fuel is above the potential and the sweeps that it may take.

abbrev pub reserve : Setup → Losses → World → ℕ
reserve s lost w = potential s lost w + suc (left s w) * sweep_gain s.net

pub record Finishes (s : Setup) (lost : Losses) (go : World → Option (List Entry)) (w : World) : Type 0 where
  pub entries : List Entry
  pub is : go w ≡ Some entries

abbrev AreEnough : Setup → Losses → (World → Option (List Entry)) → ℕ → Type 0
AreEnough s lost go n = (w : World) → Reached s lost w → reserve s lost w < n → Finishes s lost go w

less-left : (a b g : ℕ) → suc a ≤ b → suc a * g ≤ b * g
less-left a b g h = mul-le (suc a) b g h

pub then-on : (s : Setup) (lost : Losses) (w : World) (go : World → Option (List Entry)) (o : Option (List Entry)) (xs ys : List Entry) → o ≡ Some xs → go (run s lost w xs) ≡ Some ys → then_from s lost w go o ≡ Some (xs ++ ys)
then-on s lost w go o xs ys q r = ap (then_from s lost w go) q ∙ ap (append_to xs) r

goes-on : (ks : List Entry) (o : Option (List Entry)) (es : List Entry) → o ≡ Some es → (fs : List Entry) × (append_to ks o ≡ Some fs)
goes-on ks o es q = (ks ++ es, ap (append_to ks) q)

-- the sweeps at v led to u, and settling there by xs to z; the round goes on from there, or ends
after-round : (s : Setup) (lost : Losses) (go : World → Option (List Entry)) (n : ℕ) → Wiring s.net → AreEnough s lost go n → (v : World) → Reached s lost v → (es : List Entry)
    → length es + potential s lost (run s lost v es) ≤ potential s lost v + sweep_gain s.net → reserve s lost v < suc n
    → (o : List Entry) × (after_sweeps go s lost (run s lost v es) (rose s.net v (run s lost v es)) ≡ Some o)
after-round s lost go n g ih v rv es pays few = by_rose (rose s.net v (run s lost v es)) refl
  where
    z : World
    z = run s lost v es

    rz : Reached s lost z
    rz = reached-run s lost v es rv

    some-entry : (xs : List Entry) → rose s.net v (run s lost v xs) ≡ true → 1 ≤ length xs
    some-entry [] q = absurd (let e = rose-itself s.net v in let y : true ≡ false = sym q ∙ e in cc)
    some-entry (x ∷ xs) q = omega arith

    by_kept : rose s.net v z ≡ false → (ks : List Entry) → kept_from s lost z (resend_entry s.net ∷ []) ≡ ks → (o : List Entry) × (again_from s lost z go ks ≡ Some o)
    by_kept q [] e = ([], refl)
    by_kept q (k ∷ ks) e = let u = run s lost z (k ∷ ks) in
        let p = potential-run s lost g z rz (k ∷ ks) (subst (IsLegalFrom s lost z) e (kept_legal s lost z (resend_entry s.net ∷ []))) in
        let a : weigh (allowed s.net) (k ∷ ks) ≤ 0 = subst (λ es. weigh (allowed s.net) es ≤ 0) e (resend-adds s lost z g) in
        let l : suc (left s u) ≤ left s z = resend-left s lost g z rz k ks e in
        let d : left s z ≤ left s v = left-falls s lost g v rv es in
        let m = less-left (left s u) (left s v) (sweep_gain s.net) (omega (arith, l, d)) in
        let x = ih u (reached-run s lost z (k ∷ ks) rz) (omega (arith, few, pays, p, a, m, spread (left s v) (sweep_gain s.net))) in
        goes-on (k ∷ ks) (go u) x.entries x.is
      where
        spread : (a g : ℕ) → suc a * g ≡ g + a * g
        spread a g = omega arith

    by_rose : (b : Bool) → rose s.net v z ≡ b → (o : List Entry) × (after_sweeps go s lost z b ≡ Some o)
    by_rose true q = let l : suc (left s z) ≤ left s v = rose-left s lost g v rv es q in
        let m = less-left (left s z) (left s v) (sweep_gain s.net) l in
        let x = ih z rz (omega (arith, few, pays, m, some-entry es q, spread (left s v) (sweep_gain s.net))) in
        (x.entries, x.is)
      where
        spread : (a g : ℕ) → suc a * g ≡ g + a * g
        spread a g = omega arith
    by_rose false q = by_kept q (kept_from s lost z (resend_entry s.net ∷ [])) refl

round-enough : (s : Setup) (lost : Losses) (go : World → Option (List Entry)) (n : ℕ) → Wiring s.net → AreEnough s lost go n → (v : World) → Reached s lost v → reserve s lost v < suc n → (b : Bool)
    → (o : List Entry) × (sweep_round (suc n) go s lost v b ≡ Some o)
round-enough s lost go n g ih v rv few true = ([], refl)
round-enough s lost go n g ih v rv few false = (ks ++ (x.entries ++ t.0), ap (append_to ks) (then-on s lost u (λ z. after_sweeps go s lost z (rose s.net v z)) (settle (suc n) s lost u) x.entries t.0 x.is (subst (λ z. after_sweeps go s lost z (rose s.net v z) ≡ Some t.0) e t.1)))
  where
    ks : List Entry
    ks = kept_from s lost v (sweeps s.net)

    u : World
    u = run s lost v ks

    ru : Reached s lost u
    ru = reached-run s lost v ks rv

    swept : length ks + potential s lost u ≤ potential s lost v + sweep_gain s.net
    swept = omega (arith, potential-run s lost g v rv ks (kept_legal s lost v (sweeps s.net)), weigh-kept (allowed s.net) s lost v (sweeps s.net))

    once_more : (a g : ℕ) → suc a * g ≡ g + a * g
    once_more a g = omega arith

    x : Settles s lost (suc n) u
    x = settles s lost g (suc n) u ru (omega (arith, few, swept, once_more (left s v) (sweep_gain s.net)))

    e : run s lost v (ks ++ x.entries) ≡ run s lost u x.entries
    e = run-append s lost v ks x.entries

    pays : length (ks ++ x.entries) + potential s lost (run s lost v (ks ++ x.entries)) ≤ potential s lost v + sweep_gain s.net
    pays = omega (arith, swept, settle-lowers s lost (suc n) u x.entries g ru x.is, length-append ks x.entries, ap (potential s lost) e)

    t : (o : List Entry) × (after_sweeps go s lost (run s lost v (ks ++ x.entries)) (rose s.net v (run s lost v (ks ++ x.entries))) ≡ Some o)
    t = after-round s lost go n g ih v rv (ks ++ x.entries) pays few

pub finish-enough : (s : Setup) (lost : Losses) → Wiring s.net → (n : ℕ) → AreEnough s lost (λ w. finish n s lost w) n
finish-enough s lost g zero w r h = absurd (omega (arith, h))
finish-enough s lost g (suc n) w r h = let x = settles s lost g (suc n) w r (omega (arith, h)) in let v = run s lost w x.entries in
    let rv = reached-run s lost w x.entries r in
    let m = mul-le (suc (left s v)) (suc (left s w)) (sweep_gain s.net) (omega (arith, left-falls s lost g w r x.entries)) in
    let y = round-enough s lost (λ v. finish n s lost v) n g (finish-enough s lost g n) v rv (omega (arith, h, m, settle-lowers s lost (suc n) w x.entries g r x.is)) (is_collected s v) in
    record { entries = x.entries ++ y.0; is = then-on s lost w (λ v. sweep_round (suc n) (λ v. finish n s lost v) s lost v (is_collected s v)) (settle (suc n) s lost w) x.entries y.0 x.is y.1 }

-- The fuel of the bound is enough after every schedule.
pub bound-enough : (s : Setup) (lost : Losses) (es : List Entry) (fuel : ℕ) → IsNet s.net → bound_of s (sweeps_in s.net es) ≤ fuel → Finishes s lost (λ w. finish fuel s lost w) (world s lost es)
bound-enough s lost es fuel n h = finish-enough s lost g fuel (world s lost es) (es, refl) (omega (
  arith,
  h,
  within-bound s n es,
  (own-ports s.net.parts n.right).some_device,
  weigh-kept (allowed s.net) s lost (start s.net) es,
  subst (λ w. length (kept s lost es) + potential s lost w ≤ potential s lost (start s.net) + weigh (allowed s.net) (kept s lost es)) (run-kept s lost (start s.net) es)
      (potential-run s lost g (start s.net) (reached-start s lost) (kept s lost es) (kept_legal s lost (start s.net) es)),
  potential-start s lost,
  rounds,
))
  where
    g : Wiring s.net
    g = wiring s.net n

    l : suc (left s (world s lost es)) ≤ 2 * s.count + s.retries + 1
    l = omega arith

    rounds : suc (left s (world s lost es)) * sweep_gain s.net ≤ (2 * s.count + s.retries + 1) * sweep_gain s.net
    rounds = mul-le (suc (left s (world s lost es))) (2 * s.count + s.retries + 1) (sweep_gain s.net) l
