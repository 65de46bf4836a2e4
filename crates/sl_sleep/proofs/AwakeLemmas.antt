-- The count is of those awake and of those about to be woken, until all were told to end.
use Rattle.std.proofs.Common.{◌≡◌, ◌≢◌, ◌+◌, ◌-◌, ◌<◌, ◌≤◌, ◌==◌, ◌⊎◌, inl, inr, ℕ, zero, suc, Bool, true, false, true≢false, List, [], ◌∷◌, if◌then◌else◌, refl, sym, ap, ◌∙◌, eq-eqb, ne_eqb, arith}
use Rattle.std.proofs.lemmas.Bool.{cases_eq}
use Rattle.sl_sleep.specs.Awake.{Seat, Up, Lies, Called, Sleeps, Woken, Gone, Count, Act, LieDown, GetUp, GetUpCalled, Leave, LeaveCalled, Rise, End, Begin, CountIn, WakeLying, WakeSleeping, GiveBack, TellAll, Rouse, put, Is, IsAllowed, after, after_all, AreAllowed, begun, AreAtRest}

-- how often the count has an actor in
abbrev weight : Seat → ℕ
weight Up = 1
weight Lies = 1
weight Called = 2
weight Sleeps = 0
weight Woken = 1
weight Gone = 0

abbrev total : ℕ → (ℕ → Seat) → ℕ
total zero f = 0
total (suc n) f = total n f + weight (f n)

put_is : (a b : ℕ) (x : Seat) (f : ℕ → Seat) → b ≡ a → put a x f b ≡ x
put_is a b x f same = ap (λ (t : Bool). if t then x else f b) (eq-eqb b a same)

put_else : (a b : ℕ) (x : Seat) (f : ℕ → Seat) → b ≢ a → put a x f b ≡ f b
put_else a b x f other = ap (λ (t : Bool). if t then x else f b) (ne_eqb b a other)

total_else : (n a : ℕ) (x : Seat) (f : ℕ → Seat) → n ≤ a → total n (put a x f) ≡ total n f
total_else zero a x f far = refl
total_else (suc n) a x f far = omega (arith, total_else n a x f (omega (arith, far)), ap weight (put_else a n x f (λ e. omega (arith, e, far))))

-- one actor's place changes the sum by its weight
total_put : (n a : ℕ) (x : Seat) (f : ℕ → Seat) → a < n → total n (put a x f) + weight (f a) ≡ total n f + weight x
total_put zero a x f low = absurd (omega (arith, low))
total_put (suc n) a x f low =
    elim (cases_eq n a) [
      | inl same ↦ omega (arith, total_else n a x f (omega (arith, same)), ap weight (put_is a n x f same), ap (λ k. weight (f k)) same)
      | inr other ↦ omega (arith, total_put n a x f (omega (arith, low, other)), ap weight (put_else a n x f other))
    ]

total_up : (n : ℕ) → total n (λ a. Up) ≡ n
total_up zero = refl
total_up (suc n) = omega (arith, total_up n)

total_out : (n : ℕ) (f : ℕ → Seat) → ((a : ℕ) → a < n → weight (f a) ≡ 0) → total n f ≡ 0
total_out zero f out = refl
total_out (suc n) f out = omega (arith, total_out n f (λ a low. out a (omega (arith, low))), out n (omega arith))

record Counts (n : ℕ) (s : Count) : Type 0 where
  all : s.over ≡ false → s.awake ≡ total n s.seat + s.calls
  some : s.over ≡ false → s.last ≡ false → 0 < s.awake

-- who takes off one of two or more leaves some
not_last : (n : ℕ) (b : Bool) → (if n == 1 then true else b) ≡ false → (b ≡ false) × (n ≢ 1)
not_last n b h =
    elim (cases_eq n 1) [
      | inl same ↦ absurd (true≢false (sym (ap (λ (t : Bool). if t then true else b) (eq-eqb n 1 same)) ∙ h))
      | inr other ↦ (sym (ap (λ (t : Bool). if t then true else b) (ne_eqb n 1 other)) ∙ h, other)
    ]

module _ (n : ℕ) (s : Count) (h : Counts n s) where
  -- an actor moves, and the count stays
  moves : (a : ℕ) (x y : Seat) (calls : ℕ) → Is n s a x → weight y + calls ≡ weight x + s.calls → Counts n (record s { seat = put a y s.seat; calls = calls })
  moves a x y calls is same = record {
    all = λ o. omega (arith, h.all o, total_put n a y s.seat is.0, ap weight is.1, same);
    some = h.some;
  }

  -- an actor takes itself off
  leaves : (a : ℕ) (x y : Seat) → Is n s a x → weight x ≡ weight y + 1 → Counts n (record s { seat = put a y s.seat; awake = s.awake - 1; last = if s.awake == 1 then true else s.last })
  leaves a x y is same = record {
    all = λ o. omega (arith, h.all o, total_put n a y s.seat is.0, ap weight is.1, same);
    some = λ o l. let was = not_last s.awake s.last l in omega (arith, h.some o was.0, was.1);
  }

  counts : (act : Act) → IsAllowed n s act → Counts n (after s act)
  counts (LieDown a) is = moves a Up Lies s.calls is refl
  counts (GetUp a) is = moves a Lies Up s.calls is refl
  counts (GetUpCalled a) is = moves a Called Up (s.calls + 1) is (omega arith)
  counts (Leave a) is = leaves a Lies Sleeps is refl
  counts (LeaveCalled a) is = leaves a Called Woken is refl
  counts (Rise a) is = moves a Woken Up s.calls is refl
  counts (End a) is = leaves a Up Gone is refl
  counts (Begin a) is = record {
    all = λ o. omega (arith, h.all o, total_put n a Up s.seat is.0, ap weight is.1);
    some = λ o l. omega arith;
  }
  counts CountIn is = record {
    all = λ o. omega (arith, h.all o);
    some = λ o l. omega arith;
  }
  counts (WakeLying a) is = moves a Lies Called (s.calls - 1) is.0 (omega (arith, is.1))
  counts (WakeSleeping a) is = moves a Sleeps Woken (s.calls - 1) is.0 (omega (arith, is.1))
  counts GiveBack is = record {
    all = λ o. omega (arith, h.all o, is);
    some = λ o l. let was = not_last s.awake s.last l in omega (arith, h.some o was.0, was.1);
  }
  counts TellAll is = record { all = λ o. absurd (true≢false o); some = λ o l. absurd (true≢false o) }
  counts (Rouse a) is = record { all = λ o. absurd (true≢false (sym is ∙ o)); some = λ o l. absurd (true≢false (sym is ∙ o)) }

counts_all : (n : ℕ) (s : Count) (acts : List Act) → Counts n s → AreAllowed n s acts → Counts n (after_all s acts)
counts_all n s [] h may = h
counts_all n s (a ∷ acts) h may = counts_all n (after s a) acts (counts n s h a may.0) may.1

no_weight : (x : Seat) → (x ≡ Sleeps) ⊎ (x ≡ Gone) → weight x ≡ 0
no_weight x (inl e) = ap weight e
no_weight x (inr e) = ap weight e

rest_is_told : (n : ℕ) (s : Count) → Counts n s → AreAtRest n s → (b : Bool) → s.over ≡ b → b ≡ true
rest_is_told n s h r true o = refl
rest_is_told n s h r false o = absurd (omega (arith, h.all o, h.some o r.all_told, r.no_calls, total_out n s.seat (λ a low. no_weight (s.seat a) (r.out a low))))

pub all_told : (n : ℕ) (acts : List Act) → 0 < n → AreAllowed n (begun n) acts → AreAtRest n (after_all (begun n) acts) → (after_all (begun n) acts).over ≡ true
all_told n acts some may rest =
    let s = after_all (begun n) acts in
    let h = counts_all n (begun n) acts (record { all = λ o. omega (arith, total_up n); some = λ o l. some }) may in
    rest_is_told n s h rest s.over refl
