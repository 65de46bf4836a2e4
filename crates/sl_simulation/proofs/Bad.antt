-- A step that took a frame which is no plain frame brings no stamp, counts no packet and credits nothing.
use Rattle.std.proofs.Common.{◌≡◌, ℕ, ◌+◌, ◌<◌, ◌≤◌, List, [], ◌∷◌, ◌++◌, refl, sym, ap, ◌∙◌, Option, Some, None, arith, inl, inr}
use Rattle.std.specs.Prelude.{true, false, Bool, ◌&&◌, ◌⊎◌, ◌==◌, if◌then◌else◌, cond, take, nat_lt, max, unwrap_or, option_and_then, option_map, is_none}
use Rattle.std.proofs.lemmas.Bool.{lt-ltb, le-ltb, cases_lt}
use Rattle.sl_net.specs.declared.input.Packet.{Packet}
use Rattle.sl_parts.specs.Parts.{Parts}
use Rattle.sl_model.specs.declared.message.Message.{Message}
use Rattle.sl_model.specs.declared.message.Message.TheVariants.{Host as HostMsg}
use Rattle.sl_model.specs.declared.message.Step.{Step}
use Rattle.sl_model.specs.Frame.{packet_of}
use Rattle.sl_model.specs.History.{History, stamp_of, id, last}
use Rattle.sl_model.specs.Counting.{counted_in, packets, bytes, is_bad, is_expired, is_noroute, expired, noroute}
use Rattle.sl_model.specs.Cut.{before}
use Rattle.sl_model.specs.Verdict.{is_old_data, skipped_to, adopted, nth_adopted, miscredits}
use Rattle.sl_model.specs.Calls.{credits_in}
use Rattle.sl_model.specs.Rows.{is_among, credits_at, feet_in, feet_at}
use Rattle.sl_simulation.specs.Forged.{is_forged}

-- What such a step took.

is-none : (o : Option Packet) → is_none o ≡ true → o ≡ None
is-none None q = refl
is-none (Some p) q = absurd (cc)

pub no-stamp : (o : Option Message) → is_bad o ≡ true → option_and_then stamp_of o ≡ None
no-stamp (Some (HostMsg b)) q = refl
no-stamp _ q = absurd (cc)

pub no-packet : (o : Option Message) → is_bad o ≡ true → option_and_then counted_in o ≡ None
no-packet (Some (HostMsg b)) q = is-none (packet_of b) q
no-packet _ q = absurd (cc)

pub no-old : (k : ℕ) (o : Option Message) → is_bad o ≡ true → is_old_data k o ≡ false
no-old k (Some (HostMsg b)) q = refl
no-old k _ q = absurd (cc)

pub no-credit : (cs : List ℕ) (k c : ℕ) (o : Option Message) → is_bad o ≡ true → credits_in cs k c o ≡ []
no-credit cs k c (Some (HostMsg b)) q = refl
no-credit cs k c _ q = absurd (cc)

pub no-foot : (js : List ℕ) (k : ℕ) (o : Option Message) → is_bad o ≡ true → feet_in js k o ≡ []
no-foot js k (Some (HostMsg b)) q = refl
no-foot js k _ q = absurd (cc)

-- What the history has of it.

pub id-gone : (s : Step) (h : History) → is_forged s ≡ true → id (s ∷ h) ≡ id h
id-gone s h q = let e : id (s ∷ h) ≡ max 0 (id h) = ap (λ o. max (unwrap_or o 0) (id h)) (no-stamp s.taken q) in omega (arith, e)

pub last-gone : (c : ℕ) (s : Step) (h : History) → is_forged s ≡ true → last c (s ∷ h) ≡ last c h
last-gone c s h q = ap (λ o. if s.choice == c then unwrap_or o (last c h) else last c h) (no-stamp s.taken q) ∙ by_bool (s.choice == c)
  where
    by_bool : (b : Bool) → (if b then last c h else last c h) ≡ last c h
    by_bool true = refl
    by_bool false = refl

plus-none : (n : ℕ) → n + 0 ≡ n
plus-none n = omega arith

pub packets-gone : (s : Step) (h : History) → is_forged s ≡ true → packets (s ∷ h) ≡ packets h
packets-gone s h q = ap (λ o. packets h + unwrap_or (option_map (λ p. 1) o) 0) (no-packet s.taken q) ∙ plus-none (packets h)

pub bytes-gone : (s : Step) (h : History) → is_forged s ≡ true → bytes (s ∷ h) ≡ bytes h
bytes-gone s h q = ap (λ o. bytes h + unwrap_or (option_map (λ p. p.len) o) 0) (no-packet s.taken q) ∙ plus-none (bytes h)

pub expired-gone : (s : Step) (h : History) → is_forged s ≡ true → expired (s ∷ h) ≡ expired h
expired-gone s h q = let e : expired (s ∷ h) ≡ 0 + expired h = ap (λ o. (if is_expired o then 1 else 0) + expired h) (no-packet s.taken q) in omega (arith, e)

pub noroute-gone : (parts : Parts) (d : ℕ) (s : Step) (h : History) → is_forged s ≡ true → noroute parts d (s ∷ h) ≡ noroute parts d h
noroute-gone parts d s h q = let e : noroute parts d (s ∷ h) ≡ 0 + noroute parts d h = ap (λ o. (if is_noroute parts d o then 1 else 0) + noroute parts d h) (no-packet s.taken q) in
    omega (arith, e)

-- Its cut, and why a number is inconsistent.

before-gone : {A : Type 0} (f : History → A) (k : ℕ) (s : Step) (h : History) → is_forged s ≡ true → f (s ∷ h) ≡ f h → f (before k (s ∷ h)) ≡ f (before k h)
before-gone f k s h q e = by_lt h (cases_lt (id h) k) e
  where
    all : (h : History) → nat_lt (id h) k ≡ true → before k h ≡ h
    all [] p = refl
    all (t ∷ h) p = ap (λ b. if b then t ∷ h else before k h) p

    by_lt : (h : History) → ((id h < k) ⊎ (k ≤ id h)) → f (s ∷ h) ≡ f h → f (before k (s ∷ h)) ≡ f (before k h)
    by_lt h (inl p) e = ap (λ n. f (if nat_lt n k then s ∷ h else before k h)) (id-gone s h q) ∙ ap (λ b. f (if b then s ∷ h else before k h)) (lt-ltb (id h) k p)
        ∙ e ∙ sym (ap f (all h (lt-ltb (id h) k p)))
    by_lt h (inr p) e = ap (λ n. f (if nat_lt n k then s ∷ h else before k h)) (id-gone s h q) ∙ ap (λ b. f (if b then s ∷ h else before k h)) (le-ltb (id h) k p)

pub packets-before-gone : (k : ℕ) (s : Step) (h : History) → is_forged s ≡ true → packets (before k (s ∷ h)) ≡ packets (before k h)
packets-before-gone k s h q = before-gone packets k s h q (packets-gone s h q)

pub bytes-before-gone : (k : ℕ) (s : Step) (h : History) → is_forged s ≡ true → bytes (before k (s ∷ h)) ≡ bytes (before k h)
bytes-before-gone k s h q = before-gone bytes k s h q (bytes-gone s h q)

between : (n k : ℕ) → (nat_lt n k && nat_lt k n) ≡ false
between n k = by_lt (cases_lt n k)
  where
    by_lt : ((n < k) ⊎ (k ≤ n)) → (nat_lt n k && nat_lt k n) ≡ false
    by_lt (inl p) = ap (λ b. b && nat_lt k n) (lt-ltb n k p) ∙ le-ltb k n (omega (arith, p))
    by_lt (inr p) = ap (λ b. b && nat_lt k n) (le-ltb n k p)

pub skipped-gone : (k : ℕ) (s : Step) (h : History) → is_forged s ≡ true → skipped_to k (s ∷ h) ≡ skipped_to k h
skipped-gone k s h q = ap (λ n. if nat_lt (id h) k && nat_lt k n then Some n else skipped_to k h) (id-gone s h q)
    ∙ ap (λ b. if b then Some (id h) else skipped_to k h) (between (id h) k)

pub adopted-gone : (s : Step) (h : History) → is_forged s ≡ true → adopted (s ∷ h) ≡ adopted h
adopted-gone s h q = ap (λ n. if nat_lt (id h) n then n ∷ adopted h else adopted h) (id-gone s h q) ∙ ap (λ b. if b then id h ∷ adopted h else adopted h) (le-ltb (id h) (id h) (omega arith))

pub miscredits-gone : (n k : ℕ) (s : Step) (h : History) → is_forged s ≡ true → miscredits n k (s ∷ h) ≡ miscredits n k h
miscredits-gone n k s h q = ap (λ b. cond (b && nat_lt k (nth_adopted n (s ∷ h))) (nth_adopted n (s ∷ h) ∷ miscredits n k h) (miscredits n k h)) (no-old k s.taken q)

pub credits-gone : (n : ℕ) (cs : List ℕ) (k : ℕ) (s : Step) (h : History) → is_forged s ≡ true → credits_at n cs k (s ∷ h) ≡ credits_at n cs k h
credits-gone n cs k s h q = ap (λ xs. if is_among k (take n (adopted (s ∷ h))) then xs ++ credits_at n cs k h else credits_at n cs k h) (no-credit cs k s.choice s.taken q)
    ∙ by_bool (is_among k (take n (adopted (s ∷ h))))
  where
    by_bool : (b : Bool) → (if b then credits_at n cs k h else credits_at n cs k h) ≡ credits_at n cs k h
    by_bool true = refl
    by_bool false = refl

pub feet-gone : (n k : ℕ) (s : Step) (h : History) → is_forged s ≡ true → feet_at n k (s ∷ h) ≡ feet_at n k h
feet-gone n k s h q = ap (λ xs. xs ++ feet_at n k h) (no-foot (take n (adopted (s ∷ h))) k s.taken q)
