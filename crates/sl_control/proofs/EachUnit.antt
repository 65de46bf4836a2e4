-- Units one after the other: each changed in turn, or the one whose choice it is by which a message is taken.
use Rattle.std.proofs.Common.{◌≡◌, ℕ, zero, suc, ◌<◌, ◌≤◌, List, [], ◌∷◌, ◌++◌, length, map, take, drop, get_or, refl, sym, ap, subst, ◌∙◌, ◌⊎◌, inl, inr, arith, append_assoc, append-nil, eq-eqb}
use Rattle.std.specs.Prelude.{Bool, true, false, ◌&&◌, ◌==◌, nat_eq, cond, flat_map, slice_set, Option}
use Rattle.std.specs.List.{AllByRecursion}
use Rattle.std.proofs.lemmas.Bool.Decides.{eqb_tells}
use Rattle.std.proofs.lemmas.Option.{slice_get_within, get_or_from_slice_get}
use Rattle.sl_wire.specs.Carried.{poll}
use Rattle.sl_wire.specs.declared.message.Msg.{Msg}
use Rattle.sl_control.specs.declared.known.Known.{Known}
use Rattle.sl_control.specs.Control.{asked, poll_by, is_asked, ask_puts, numbers_told, answered, answer_by, is_taken}
use Rattle.sl_wire.specs.declared.message.Dump.{Dump}
use Rattle.sl_control.specs.Joined.{AreApart, choice_of, choices_of, HasChoice}
use Rattle.sl_control.specs.declared.units.Sent.{Sent}

-- Each in turn.

pub next-changed : {A : Type 0} (f : A → A) (xs : List A) (i : ℕ) (x y : A) → i < length xs → x ≡ get_or (map f (take i xs) ++ drop i xs) i x → y ≡ f x
    → slice_set (map f (take i xs) ++ drop i xs) i y ≡ map f (take (suc i) xs) ++ drop (suc i) xs
next-changed f [] i x y h e q = absurd (omega arith)
next-changed f (z ∷ zs) zero x y h e q = ap (λ w. w ∷ zs) (q ∙ ap f e)
next-changed f (z ∷ zs) (suc i) x y h e q = ap (λ r. f z ∷ r) (next-changed f zs i x y (omega arith) e q)

pub not-yet-changed : {A : Type 0} (f : A → A) (xs : List A) (i : ℕ) (x : A) → i < length xs → x ≡ get_or (map f (take i xs) ++ drop i xs) i x → x ≡ get_or xs i x
not-yet-changed f [] i x h e = absurd (omega arith)
not-yet-changed f (z ∷ zs) zero x h e = e
not-yet-changed f (z ∷ zs) (suc i) x h e = not-yet-changed f zs i x (omega arith) e

pub next-joined : {A B : Type 0} (g : A → List B) (xs : List A) (i : ℕ) (x : A) → i < length xs → x ≡ get_or xs i x → flat_map g (take (suc i) xs) ≡ flat_map g (take i xs) ++ g x
next-joined g [] i x h e = absurd (omega arith)
next-joined g (z ∷ zs) zero x h e = append-nil (g z) ∙ ap g (sym e)
next-joined g (z ∷ zs) (suc i) x h e = ap (λ r. g z ++ r) (next-joined g zs i x (omega arith) e) ∙ sym (append_assoc (g z) (flat_map g (take i zs)) (g x))

poll-few : (r : Known) (b : Bool) → r.waits ≡ b → length (poll_by r) ≤ 1
poll-few r true q = subst (λ b. length {A = (ℕ × Msg)} (cond b [] ((r.wires.poll, poll) ∷ [])) ≤ 1) (sym q) (omega arith)
poll-few r false q = subst (λ b. length {A = (ℕ × Msg)} (cond b [] ((r.wires.poll, poll) ∷ [])) ≤ 1) (sym q) (omega arith)

pub asks-few : (o : Option ℕ) (r : Known) → length (ask_puts o r) ≤ 1
asks-few o r = elim (is_asked o r) as (λ b. length (cond b (poll_by r) []) ≤ 1) [ true ↦ poll-few r r.waits refl | false ↦ omega arith ]

-- The one whose choice it is by which a message is taken.

pub not-equal : (x y : ℕ) → (y ≡ x → ⊥) → (x == y) ≡ false
not-equal x y n = by_tells (eqb_tells x y)
  where
    by_tells : ((nat_eq x y ≡ true) × (x ≡ y)) ⊎ ((nat_eq x y ≡ false) × (x ≡ y → ⊥)) → (x == y) ≡ false
    by_tells (inl q) = absurd (n (sym q.1))
    by_tells (inr q) = q.0

-- what a message does to a unit, by whether the choice is the unit's: nothing where it isn't
pub record Turn : Type 0 where
  pub change : Bool → Known → Known
  pub puts : Bool → Known → List (ℕ × Msg)
  pub unchanged : (r : Known) → change false r ≡ r
  pub unput : (r : Known) → puts false r ≡ []

abbrev pub ask-turn : Turn
ask-turn = record { change = λ b r. cond b (asked r) r; puts = λ b r. cond b (poll_by r) []; unchanged = λ r. refl; unput = λ r. refl }

abbrev pub dump-turn : ℕ → ℕ → ℕ → Dump → Turn
dump-turn bits ring done d = record {
  change = λ b r. cond (b && is_taken (record { bits = bits; ring = ring }) d r) (answered (numbers_told bits d r) r) r;
  puts = λ b r. cond (b && is_taken (record { bits = bits; ring = ring }) d r) (answer_by done (numbers_told bits d r) d.view r) [];
  unchanged = λ r. refl;
  unput = λ r. refl;
}

abbrev pub changed : Sent → ℕ → Turn → List Known → List Known
changed s c t rs = map (λ r. t.change (c == choice_of s r) r) rs

abbrev pub all-puts : Sent → ℕ → Turn → List Known → List (ℕ × Msg)
all-puts s c t rs = flat_map (λ r. t.puts (c == choice_of s r) r) rs

another : (s : Sent) (c : ℕ) (t : Turn) (r : Known) → (choice_of s r ≡ c → ⊥) → (t.change (c == choice_of s r) r ≡ r) × (t.puts (c == choice_of s r) r ≡ [])
another s c t r n = let e = not-equal c (choice_of s r) n in (ap (λ b. t.change b r) e ∙ t.unchanged r, ap (λ b. t.puts b r) e ∙ t.unput r)

pub no-turn : (s : Sent) (c : ℕ) (t : Turn) (rs : List Known) → AllByRecursion (λ y. y ≡ c → ⊥) (choices_of s rs) → (changed s c t rs ≡ rs) × (all-puts s c t rs ≡ [])
no-turn s c t [] a = (refl, refl)
no-turn s c t (r ∷ rs) a = let o = another s c t r a.0 in let h = no-turn s c t rs a.1 in ((λ i. o.0 i ∷ h.0 i), (λ i. o.1 i ++ h.1 i))

-- what holds of all choices holds of that of the unit at a place
choice-at : (s : Sent) (P : ℕ → Type 0) (rs : List Known) (i : ℕ) (x : Known) → i < length rs → x ≡ get_or rs i x → AllByRecursion P (choices_of s rs) → P (choice_of s x)
choice-at s P [] i x l e a = absurd (omega arith)
choice-at s P (r ∷ rs) zero x l e a = subst (λ w. P (choice_of s w)) (sym e) a.0
choice-at s P (r ∷ rs) (suc i) x l e a = choice-at s P rs i x (omega arith) e a.1

one-turn : (s : Sent) (c : ℕ) (t : Turn) (rs : List Known) (i : ℕ) (x : Known) → AreApart (choices_of s rs) → i < length rs → x ≡ get_or rs i x → choice_of s x ≡ c
    → (slice_set rs i (t.change true x) ≡ changed s c t rs) × (t.puts true x ≡ all-puts s c t rs)
one-turn s c t [] i x a l e k = absurd (omega arith)
one-turn s c t (r ∷ rs) zero x a l e k =
    let is : choice_of s r ≡ c = sym (ap (choice_of s) e) ∙ k in
    let same = eq-eqb c (choice_of s r) (sym is) in
    let h = no-turn s c t rs (subst (λ m. AllByRecursion (λ y. y ≡ m → ⊥) (choices_of s rs)) is a.0) in
    (ap (λ w. t.change true w ∷ rs) e ∙ sym (λ i. t.change (same i) r ∷ h.0 i), ap (t.puts true) e ∙ sym ((λ i. t.puts (same i) r ++ h.1 i) ∙ append-nil (t.puts true r)))
one-turn s c t (r ∷ rs) (suc i) x a l e k =
    let o = another s c t r (λ is. choice-at s (λ m. m ≡ choice_of s r → ⊥) rs i x (omega arith) e a.0 (k ∙ sym is)) in
    let h = one-turn s c t rs i x a.1 (omega arith) e k in
    (ap (λ ws. r ∷ ws) h.0 ∙ sym (ap (λ w. w ∷ changed s c t rs) o.0), h.1 ∙ sym (ap (λ ps. ps ++ all-puts s c t rs) o.1))

-- Of a copy of the units, as the search was in one.

pub found-turn : (s : Sent) (c : ℕ) (t : Turn) {copy rs : List Known} (i : ℕ) (x : Known) → copy ≡ rs → HasChoice s c i copy → AreApart (choices_of s rs) → x ≡ get_or rs i x
    → (slice_set rs i (t.change true x) ≡ changed s c t rs) × (t.puts true x ≡ all-puts s c t rs)
found-turn s c t {copy} {rs} i x q h a e =
    let g = subst (HasChoice s c i) q h in
    one-turn s c t rs i x a (slice_get_within rs i g.known g.at) e (ap (choice_of s) (e ∙ get_or_from_slice_get rs i g.known x g.at) ∙ g.is)

pub found-no-turn : (s : Sent) (c : ℕ) (t : Turn) {copy rs : List Known} → copy ≡ rs → AllByRecursion (λ y. y ≡ c → ⊥) (choices_of s copy) → (changed s c t rs ≡ rs) × (all-puts s c t rs ≡ [])
found-no-turn s c t {copy} {rs} q a = no-turn s c t rs (subst (λ rs. AllByRecursion (λ y. y ≡ c → ⊥) (choices_of s rs)) q a)
