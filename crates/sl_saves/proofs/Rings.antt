-- An adoption and a credit on a ring keep what it shows.
use Rattle.std.proofs.Common.{◌≡◌, ℕ, zero, suc, ◌+◌, ◌-◌, ◌%◌, ◌<◌, ◌≤◌, List, [], ◌∷◌, length, refl, sym, ap, subst, ◌∙◌, arith, inl, inr}
use Rattle.std.specs.Prelude.{cond, true, false, Bool, nat_le, ◌==◌, ◌||◌, ◌⊎◌, replicate, slice_set, slice_index_or, max}
use Rattle.std.specs.List.{AllByRecursion}
use Rattle.std.proofs.lemmas.List.{length-replicate, length-set, get_or-set_same, get_or-set_other}
use Rattle.std.proofs.lemmas.Bool.{eq-eqb, ne_eqb, le-leb, cases_lt}
use Rattle.std.proofs.lemmas.Bool.Decides.{nat_tests}
use Rattle.std.proofs.lemmas.Nat.{mod_below}
use Rattle.std.proofs.Math.Nat.{mod-eq_of_lt}
use Rattle.sl_saves.specs.declared.entry.Slot.{Slot}
use Rattle.sl_saves.specs.declared.entry.View.{View}
use Rattle.sl_saves.specs.Calls.{Save, Call, Adopt, Credited, Credit, saves, number, with_credit, saved_credit, lower, is_empty, greatest}
use Rattle.sl_saves.specs.Views.{free_slot, slot_of, no_slot, place_below, IsSeen, IsShown}
use Rattle.sl_saves.specs.Keeping.{new_slot, place_above, view_adopted, slot_credited, is_last, slots_credited, view_credited}
use Rattle.sl_saves.proofs.Chains.{top, IsChain, all-weaken, chain-older, chain-saves, saves-below, top-number}
use Rattle.sl_saves.proofs.Held.{held-credit}
use Rattle.sl_saves.proofs.Places.{mod-other, above-mod, below-mod}

-- an entry that lies less than the size below a number stands in its slot
abbrev pub IsKept : ℕ → List Slot → ℕ → Save → Type 0
IsKept size slots id s = id < s.number + size → slice_index_or slots (s.number % size) no_slot ≡ slot_of s

-- writing the slot of a number keeps the older entries that still count
pub kept-set : (size : ℕ) (slots : List Slot) (id number : ℕ) (slot : Slot) (ss : List Save) → number ≤ id → AllByRecursion (λ t. t.number < number) ss
    → AllByRecursion (IsKept size slots id) ss → AllByRecursion (IsKept size (slice_set slots (number % size) slot) id) ss
kept-set size slots id number slot [] h o k = tt
kept-set size slots id number slot (t ∷ ss) h o k = (
  λ p. get_or-set_other slots (number % size) (t.number % size) slot no_slot
      (λ e. mod-other size number t.number o.0 (omega (arith, p, h)) (sym e)) ∙ k.0 p,
  kept-set size slots id number slot ss h o.1 k.1,
)

-- what is kept below a number is kept below a larger one
kept-later : (size : ℕ) (slots : List Slot) (id by : ℕ) (ss : List Save) → AllByRecursion (IsKept size slots id) ss → AllByRecursion (IsKept size slots (id + by)) ss
kept-later size slots id by ss h = all-weaken (IsKept size slots id) (IsKept size slots (id + by)) ss (λ s k p. k (omega (arith, p))) h

-- the entries of slots after a write
seen-set : (slots : List Slot) (p id : ℕ) (slot : Slot) (ss : List Save) → AllByRecursion (IsKept (length slots) (slice_set slots p slot) id) ss
    → AllByRecursion (IsSeen (slice_set slots p slot) id) ss
seen-set slots p id slot ss h = subst (λ n. AllByRecursion (IsKept n (slice_set slots p slot) id) ss) (sym (length-set slots p slot)) h

pub ring-adopt : (n : ℕ) (view : View) (by packets bytes : ℕ) (calls : List Call) → 1 ≤ by → by ≤ length view.slots → IsShown n view calls
    → IsShown n (view_adopted by packets bytes view) (Adopt by packets bytes ∷ calls)
ring-adopt n view by packets bytes calls one b s =
    let slot : Slot = new_slot by packets bytes in
    let long = length-set view.slots (place_above (length view.slots) view.at by) slot in
    let older : AllByRecursion (λ t. t.number < number calls + by) (saves n calls) = all-weaken (λ t. t.number ≤ number calls) (λ t. t.number < number calls + by) (saves n calls)
    (λ t p. omega (arith, p, one)) (saves-below n calls s.rising) in
    let place : place_above (length view.slots) view.at by ≡ (number calls + by) % length view.slots
    = ap (λ p. place_above (length view.slots) p by) s.at ∙ above-mod (length view.slots) (number calls) by s.some b in
    record {
      rising = (one, s.rising);
      some = subst (λ m. 1 ≤ m) (sym long) s.some;
      at = place ∙ ap (λ m. (number calls + by) % m) (sym long);
      seen = subst (λ p. AllByRecursion (IsSeen (slice_set view.slots p slot) (number calls + by)) (saves n (Adopt by packets bytes ∷ calls))) (sym place)
          (seen-set view.slots ((number calls + by) % length view.slots) (number calls + by) slot (saves n (Adopt by packets bytes ∷ calls)) (
            λ p. get_or-set_same view.slots ((number calls + by) % length view.slots) slot no_slot (mod_below (number calls + by) (length view.slots) s.some),
            kept-set (length view.slots) view.slots (number calls + by) (number calls + by) slot (saves n calls) (omega arith) older
                (kept-later (length view.slots) view.slots (number calls) by (saves n calls) s.seen),
          ));
      start = λ h. let l : number calls + by < length view.slots = subst (λ m. number calls + by < m) long h in
          let p : place_above (length view.slots) view.at by ≡ number calls + by = place ∙ mod-eq_of_lt l in
          ap (λ (x : Slot). x.back) (get_or-set_other view.slots (place_above (length view.slots) view.at by) 0 slot no_slot (λ e. omega (arith, e, p, one)))
          ∙ s.start (omega (arith, l));
    }

-- A credit to a slot.

pub slot-credited : (is_foot : Bool) (c : Credit) (s : Save) → c.channel < 8 → slot_credited is_foot c (slot_of s) ≡ slot_of (saved_credit is_foot c s)
slot-credited is_foot c s h = let t = held-credit c.channel c.age c.bytes s.credits h in
    let r : cond is_foot (max (greatest s.feet) c.age) (greatest s.feet) ≡ greatest (cond is_foot (c.age ∷ s.feet) s.feet)
    = elim is_foot as (λ b. cond b (max (greatest s.feet) c.age) (greatest s.feet) ≡ greatest (cond b (c.age ∷ s.feet) s.feet)) [ true ↦ omega arith | false ↦ refl ] in
    λ i. record { packets = s.packets; bytes = s.bytes; inflight = t i; back = s.by; reach = r i }

-- each slot stays as far above the one before
back-set : (slots : List Slot) (p q : ℕ) (x : Slot) → x.back ≡ (slice_index_or slots p no_slot).back
    → (slice_index_or (slice_set slots p x) q no_slot).back ≡ (slice_index_or slots q no_slot).back
back-set [] p q x e = refl
back-set (s ∷ slots) zero zero x e = e
back-set (s ∷ slots) zero (suc q) x e = refl
back-set (s ∷ slots) (suc p) zero x e = refl
back-set (s ∷ slots) (suc p) (suc q) x e = back-set slots p q x e

backs-credited : (n : ℕ) (c : Credit) (place : ℕ) (slots : List Slot) (q : ℕ)
    → (slice_index_or (slots_credited n c place slots) q no_slot).back ≡ (slice_index_or slots q no_slot).back
backs-credited zero c place slots q = refl
backs-credited (suc n) c place slots q =
    let s : Slot = slice_index_or slots place no_slot in
    let next : ℕ = place_below (length slots) place s.back in
    elim (is_last n c place slots) as (λ b. (slice_index_or (cond b (slice_set slots place (slot_credited true c s))
    (slots_credited n (lower s.back c) next (slice_set slots place (slot_credited false c s)))) q no_slot).back ≡ (slice_index_or slots q no_slot).back) [
      | true ↦ back-set slots place q (slot_credited true c s) refl
      | false ↦ backs-credited n (lower s.back c) next (slice_set slots place (slot_credited false c s)) q ∙ back-set slots place q (slot_credited false c s) refl
    ]

pub length-credited : (n : ℕ) (c : Credit) (place : ℕ) (slots : List Slot) → length (slots_credited n c place slots) ≡ length slots
length-credited zero c place slots = refl
length-credited (suc n) c place slots =
    let s : Slot = slice_index_or slots place no_slot in
    let next : ℕ = place_below (length slots) place s.back in
    elim (is_last n c place slots) as (λ b. length (cond b (slice_set slots place (slot_credited true c s))
    (slots_credited n (lower s.back c) next (slice_set slots place (slot_credited false c s)))) ≡ length slots) [
      | true ↦ length-set slots place (slot_credited true c s)
      | false ↦ length-credited n (lower s.back c) next (slice_set slots place (slot_credited false c s)) ∙ length-set slots place (slot_credited false c s)
    ]

-- A credit to the slots of some entries, whose last lies less than the ring's size below the id, as does its stamp.

-- the slots keep the entries, and the slot before the first number is free where that number has come round to no other
record IsRing (size id : ℕ) (slots : List Slot) (ss : List Save) : Type 0 where
  pub long : length slots ≡ size
  pub kept : AllByRecursion (IsKept size slots id) ss
  pub start : id < size → (slice_index_or slots 0 no_slot).back ≡ 0

-- it ends at the slot where it ends at the entry
module _ (size id : ℕ) (c : Credit) (s : Save) (h : s.number ≤ id) (a : id + c.age ≤ s.number + size) where
  -- the slot before holds something where there is an entry before
  before : (slots : List Slot) (ss : List Save) → IsChain (s ∷ ss) → IsRing size id slots ss → s.by < c.age
      → ((slice_index_or slots (place_below size (s.number % size) s.by) no_slot).back == 0) ≡ is_empty ss
  before slots ss chain r l =
      let m : s.number ≡ top ss + s.by = chain.1 in
      let place : place_below size (s.number % size) s.by ≡ top ss % size
      = ap (place_below size (s.number % size)) (omega (arith, m)) ∙ below-mod size s.number (top ss) (omega (arith, m)) (omega (arith, m, l, a, h)) in
      ap (λ p. (slice_index_or slots p no_slot).back == 0) place ∙ by_entry ss chain.2 m r.kept
    where
      by_entry : (ss : List Save) → IsChain ss → s.number ≡ top ss + s.by → AllByRecursion (IsKept size slots id) ss
          → ((slice_index_or slots (top ss % size) no_slot).back == 0) ≡ is_empty ss
      by_entry [] chain m kept = eq-eqb (slice_index_or slots (0 % size) no_slot).back 0
          (ap (λ p. (slice_index_or slots p no_slot).back) (mod-eq_of_lt (omega (arith, m, l, a, h))) ∙ r.start (omega (arith, m, l, a)))
      by_entry (t ∷ ts) chain m kept = ap (λ (x : Slot). x.back == 0) (kept.0 (omega (arith, m, l, a, h))) ∙ ne_eqb t.by 0 (λ e. let one : 1 ≤ t.by = chain.0 in omega (arith, e, one))

  ends : (slots : List Slot) (ss : List Save) → IsChain (s ∷ ss) → IsRing size id slots ss
      → (nat_le c.age s.by || ((slice_index_or slots (place_below size (s.number % size) s.by) no_slot).back == 0)) ≡ (nat_le c.age s.by || is_empty ss)
  ends slots ss chain r = by_cases (cases_lt s.by c.age)
    where
      by_cases : ((s.by < c.age) ⊎ (c.age ≤ s.by)) → (nat_le c.age s.by || ((slice_index_or slots (place_below size (s.number % size) s.by) no_slot).back == 0)) ≡ (nat_le c.age s.by || is_empty ss)
      by_cases (inl l) = ap (λ b. nat_le c.age s.by || b) (before slots ss chain r l)
      by_cases (inr l) = rw (le-leb c.age s.by l) refl

-- what a credit makes of the slots: they keep the entries, and those of later numbers stay as they were
abbrev IsCredited : ℕ → ℕ → ℕ → List Slot → List Slot → List Save → Type 0
IsCredited size id number slots new ss = AllByRecursion (IsKept size new id) ss
    × ((j : ℕ) → number < j → j ≤ id → slice_index_or new (j % size) no_slot ≡ slice_index_or slots (j % size) no_slot)

one-credited : (is_foot : Bool) (size id : ℕ) (c : Credit) (slots : List Slot) (s : Save) (ss : List Save) → IsChain (s ∷ ss) → s.number ≤ id → id < s.number + size
    → IsRing size id slots (s ∷ ss) → IsCredited size id s.number slots (slice_set slots (s.number % size) (slot_of (saved_credit is_foot c s))) (saved_credit is_foot c s ∷ ss)
one-credited is_foot size id c slots s ss chain h l r =
    let slot : Slot = slot_of (saved_credit is_foot c s) in
    let inside : s.number % size < length slots = subst (λ m. s.number % size < m) (sym r.long) (mod_below s.number size (omega (arith, h, l))) in (
      (λ p. get_or-set_same slots (s.number % size) slot no_slot inside, kept-set size slots id s.number slot ss h (chain-older s ss chain) r.kept.1),
      λ j p q. get_or-set_other slots (s.number % size) (j % size) slot no_slot (λ e. mod-other size j s.number p (omega (arith, q, l)) e),
    )

credited-step : (n size id : ℕ) (c : Credit) (slots : List Slot) (s : Save) (ss : List Save) → c.channel < 8 → IsChain (s ∷ ss) → s.number ≤ id → id < s.number + size
    → id + c.age ≤ s.number + size → IsRing size id slots (s ∷ ss) → slots_credited (suc n) c (s.number % size) slots
    ≡ cond (n == 0 || (nat_le c.age s.by || is_empty ss)) (slice_set slots (s.number % size) (slot_of (saved_credit true c s)))
    (slots_credited n (lower s.by c) (place_below size (s.number % size) s.by) (slice_set slots (s.number % size) (slot_of (saved_credit false c s))))
credited-step n size id c slots s ss b chain h l a r =
    let place : ℕ = s.number % size in
    let long = r.long in
    let old : slice_index_or slots (s.number % size) no_slot ≡ slot_of s = r.kept.0 l in
    let end = ends size id c s h a slots ss chain (record { long = r.long; kept = r.kept.1; start = r.start }) in
    let foot = slot-credited true c s b in
    let more = slot-credited false c s b in
    (λ i. cond (n == 0 || (nat_le c.age (old i).back || ((slice_index_or slots (place_below (long i) place (old i).back) no_slot).back == 0)))
    (slice_set slots place (slot_credited true c (old i)))
    (slots_credited n (lower (old i).back c) (place_below (long i) place (old i).back) (slice_set slots place (slot_credited false c (old i)))))
    ∙ (λ i. cond (n == 0 || end i) (slice_set slots place (foot i)) (slots_credited n (lower s.by c) (place_below size place s.by) (slice_set slots place (more i))))

goes-on : (a b d : Bool) → (a || (b || d)) ≡ false → b ≡ false
goes-on false false d h = refl
goes-on false true d h = absurd (cc)
goes-on true b d h = absurd (cc)

lt-of-le : (x y : ℕ) → nat_le x y ≡ false → y < x
lt-of-le x y h = grind (arith, nat_tests, h)

credited : (n size id : ℕ) (c : Credit) (slots : List Slot) (s : Save) (ss : List Save) → c.channel < 8 → IsChain (s ∷ ss) → s.number ≤ id → id < s.number + size
    → id + c.age ≤ s.number + size → IsRing size id slots (s ∷ ss)
    → IsCredited size id s.number slots (slots_credited n c (s.number % size) slots) (with_credit n c (s ∷ ss))
credited zero size id c slots s ss b chain h l a r = (r.kept, λ j p q. refl)
credited (suc n) size id c slots s [] b chain h l a r =
    subst (λ xs. IsCredited size id s.number slots xs (with_credit (suc n) c (s ∷ []))) (sym (credited-step n size id c slots s [] b chain h l a r))
    (by_end (n == 0) (nat_le c.age s.by))
  where
    by_end : (e f : Bool) → IsCredited size id s.number slots (cond (e || (f || true)) (slice_set slots (s.number % size) (slot_of (saved_credit true c s)))
        (slots_credited n (lower s.by c) (place_below size (s.number % size) s.by) (slice_set slots (s.number % size) (slot_of (saved_credit false c s)))))
        (cond (e || (f || true)) (saved_credit true c s ∷ []) (saved_credit false c s ∷ with_credit n (lower s.by c) []))
    by_end true f = one-credited true size id c slots s [] chain h l r
    by_end false true = one-credited true size id c slots s [] chain h l r
    by_end false false = one-credited true size id c slots s [] chain h l r
credited (suc n) size id c slots s (t ∷ ts) b chain h l a r =
    let m : s.number ≡ t.number + s.by = chain.1 in
    let o = one-credited false size id c slots s (t ∷ ts) chain h l r in
    let old : slice_index_or slots (s.number % size) no_slot ≡ slot_of s = r.kept.0 l in
    let ring : IsRing size id (slice_set slots (s.number % size) (slot_of (saved_credit false c s))) (t ∷ ts) = record {
      long = length-set slots (s.number % size) (slot_of (saved_credit false c s)) ∙ r.long;
      kept = o.0.1;
      start = λ p. back-set slots (s.number % size) 0 (slot_of (saved_credit false c s)) (ap (λ (x : Slot). x.back) (sym old)) ∙ r.start p;
    } in
    subst (λ xs. IsCredited size id s.number slots xs (with_credit (suc n) c (s ∷ t ∷ ts))) (sym (credited-step n size id c slots s (t ∷ ts) b chain h l a r))
    (by_end (n == 0 || (nat_le c.age s.by || false)) refl
    (λ d. credited n size id (lower s.by c) (slice_set slots (s.number % size) (slot_of (saved_credit false c s))) t ts b chain.2 (omega (arith, m, h)) (omega (arith, m, d, a)) (omega (arith, m, d, a)) ring))
  where
    by_end : (e : Bool) → (n == 0 || (nat_le c.age s.by || false)) ≡ e
        → (s.by < c.age → IsCredited size id t.number (slice_set slots (s.number % size) (slot_of (saved_credit false c s)))
        (slots_credited n (lower s.by c) (t.number % size) (slice_set slots (s.number % size) (slot_of (saved_credit false c s)))) (with_credit n (lower s.by c) (t ∷ ts)))
        → IsCredited size id s.number slots (cond e (slice_set slots (s.number % size) (slot_of (saved_credit true c s)))
        (slots_credited n (lower s.by c) (place_below size (s.number % size) s.by) (slice_set slots (s.number % size) (slot_of (saved_credit false c s)))))
        (cond e (saved_credit true c s ∷ t ∷ ts) (saved_credit false c s ∷ with_credit n (lower s.by c) (t ∷ ts)))
    by_end true q f = one-credited true size id c slots s (t ∷ ts) chain h l r
    by_end false q f =
        let m : s.number ≡ t.number + s.by = chain.1 in
        let one : 1 ≤ s.by = chain.0 in
        let d : s.by < c.age = lt-of-le c.age s.by (goes-on (n == 0) (nat_le c.age s.by) false q) in
        let o = one-credited false size id c slots s (t ∷ ts) chain h l r in
        let ih = f d in
        let new : List Slot = slice_set slots (s.number % size) (slot_of (saved_credit false c s)) in
        let place : place_below size (s.number % size) s.by ≡ t.number % size
        = ap (place_below size (s.number % size)) (omega (arith, m)) ∙ below-mod size s.number t.number (omega (arith, m)) (omega (arith, m, d, a, h)) in
        subst (λ p. IsCredited size id s.number slots (slots_credited n (lower s.by c) p new) (saved_credit false c s ∷ with_credit n (lower s.by c) (t ∷ ts))) (sym place) (
          (λ p. ih.1 s.number (omega (arith, m, one)) h ∙ o.0.0 p, ih.0),
          λ j p q. ih.1 j (omega (arith, m, p)) q ∙ o.1 j p q,
        )

none-credited : (P : Save → Type 0) (n : ℕ) (c : Credit) → AllByRecursion P (with_credit n c [])
none-credited P zero c = tt
none-credited P (suc n) c = tt

pub ring-credit : (n : ℕ) (view : View) (c : Credit) (calls : List Call) → c.channel < 8 → c.age ≤ length view.slots → IsShown n view calls → IsShown n (view_credited n c view) (Credited c ∷ calls)
ring-credit n view c calls b a s =
    let long = length-credited n c view.at view.slots in
    record {
      rising = s.rising;
      some = subst (λ m. 1 ≤ m) (sym long) s.some;
      at = s.at ∙ ap (λ m. number calls % m) (sym long);
      seen = subst (λ m. AllByRecursion (IsKept m (slots_credited n c view.at view.slots) (number calls)) (with_credit n c (saves n calls))) (sym long)
          (by_saves (saves n calls) (chain-saves n calls s.rising) (top-number n calls) s.seen);
      start = λ l. backs-credited n c view.at view.slots 0 ∙ s.start (subst (λ m. number calls < m) long l);
    }
  where
    by_saves : (ss : List Save) → IsChain ss → top ss ≡ number calls → AllByRecursion (IsKept (length view.slots) view.slots (number calls)) ss
        → AllByRecursion (IsKept (length view.slots) (slots_credited n c view.at view.slots) (number calls)) (with_credit n c ss)
    by_saves [] chain e kept = none-credited (IsKept (length view.slots) (slots_credited n c view.at view.slots) (number calls)) n c
    by_saves (t ∷ ts) chain e kept =
        let place : view.at ≡ t.number % length view.slots = s.at ∙ ap (λ m. m % length view.slots) (sym e) in
        let one : 1 ≤ length view.slots = s.some in
        subst (λ p. AllByRecursion (IsKept (length view.slots) (slots_credited n c p view.slots) (number calls)) (with_credit n c (t ∷ ts))) (sym place)
        (credited n (length view.slots) (number calls) c view.slots t ts b chain (omega (arith, e)) (omega (arith, e, one)) (omega (arith, e, a))
        (record { long = refl; kept = kept; start = s.start })).0

-- a ring in which nothing is saved shows no call
pub ring-first : (n size : ℕ) → 1 ≤ size → IsShown n (record { at = 0; slots = replicate size free_slot }) []
ring-first n size one = let long = length-replicate size free_slot in
    record { rising = tt; some = subst (λ m. 1 ≤ m) (sym long) one; at = sym (ap (λ m. 0 % m) long ∙ mod-eq_of_lt one); seen = tt; start = λ h. free size }
  where
    free : (size : ℕ) → (slice_index_or (replicate size free_slot) 0 no_slot).back ≡ 0
    free zero = refl
    free (suc size) = refl

-- The loop of a credit: it ends at a slot, or goes on.

pub slots-end : (left : ℕ) (c : Credit) (place : ℕ) (slots : List Slot) → 0 < left → is_last (left - 1) c place slots ≡ true
    → slice_set slots place (slot_credited true c (slice_index_or slots place no_slot)) ≡ slots_credited left c place slots
slots-end zero c place slots h e = absurd (omega (arith, h))
slots-end (suc n) c place slots h e = let s : Slot = slice_index_or slots place no_slot in
    let one : suc n - 1 ≡ n = omega arith in
    sym (ap (λ b. cond b (slice_set slots place (slot_credited true c s))
    (slots_credited n (lower s.back c) (place_below (length slots) place s.back) (slice_set slots place (slot_credited false c s))))
    (subst (λ m. is_last m c place slots ≡ true) one e))

pub slots-on : (left : ℕ) (c : Credit) (place : ℕ) (slots : List Slot) → 0 < left → is_last (left - 1) c place slots ≡ false
    → (let s = slice_index_or slots place no_slot in
    slots_credited (left - 1) (lower s.back c) (place_below (length slots) place s.back) (slice_set slots place (slot_credited false c s))) ≡ slots_credited left c place slots
slots-on zero c place slots h e = absurd (omega (arith, h))
slots-on (suc n) c place slots h e = let s : Slot = slice_index_or slots place no_slot in
    let one : suc n - 1 ≡ n = omega arith in
    ap (λ m. slots_credited m (lower s.back c) (place_below (length slots) place s.back) (slice_set slots place (slot_credited false c s))) one
    ∙ sym (ap (λ b. cond b (slice_set slots place (slot_credited true c s))
    (slots_credited n (lower s.back c) (place_below (length slots) place s.back) (slice_set slots place (slot_credited false c s))))
    (subst (λ m. is_last m c place slots ≡ false) one e))

-- where it goes on, the slot before lies above the stamp
pub on-above : (n : ℕ) (c : Credit) (place : ℕ) (slots : List Slot) → is_last n c place slots ≡ false → (slice_index_or slots place no_slot).back < c.age
on-above n c place slots e = lt-of-le c.age (slice_index_or slots place no_slot).back (goes-on (n == 0) (nat_le c.age (slice_index_or slots place no_slot).back)
    ((slice_index_or slots (place_below (length slots) place (slice_index_or slots place no_slot).back) no_slot).back == 0) e)
