-- The walk over a view that shows some calls answers what they saved.
use Rattle.std.proofs.Common.{◌≡◌, ℕ, zero, suc, ◌+◌, ◌-◌, ◌%◌, ◌<◌, ◌≤◌, List, [], ◌∷◌, length, refl, sym, ap, subst, ◌∙◌, Option, Some, None, arith, inl, inr}
use Rattle.std.specs.Prelude.{cond, true, false, Bool, nat_lt, ◌==◌, filter, unwrap_or, option_map, ◌⊎◌, slice_index_or}
use Rattle.std.specs.List.{list_any, AllByRecursion}
use Rattle.std.proofs.lemmas.Bool.{lt-ltb, le-ltb, eq-eqb, ne_eqb, cases_order}
use Rattle.sl_saves.specs.declared.entry.Slot.{Slot}
use Rattle.sl_saves.specs.declared.entry.View.{View}
use Rattle.sl_saves.specs.declared.entry.Saved.TheVariants.{Skipped}
use Rattle.sl_saves.specs.Calls.{Save, Call, saves, number, saved, judged, find, least_save, number_or, is_above, is_miscredit}
use Rattle.sl_saves.specs.Views.{Place, path, slot_of, slot_in, place_below, no_slot, IsSeen, IsShown, IsLive, find_place, last_place, is_bad, place_number_or, answer, read, held_saved}
use Rattle.sl_saves.proofs.Chains.{top, IsChain, least-older, any-greatest, chain-older, chain-saves, saves-below, top-number, all-weaken}
use Rattle.sl_saves.proofs.Places.{below-mod}

-- the slots that are read are those of the entries
abbrev pub IsLooked : (ℕ → Slot) → ℕ → List Save → Type 0
IsLooked slot k ss = AllByRecursion (λ s. k ≤ s.number → slot s.number ≡ slot_of s) ss

abbrev place_of : Save → Place
place_of s = record { number = s.number; slot = slot_of s }

-- the places of the entries down to k
abbrev upto : ℕ → List Save → List Place
upto k [] = []
upto k (s ∷ ss) = cond (nat_lt s.number k) [] (place_of s ∷ cond (s.number == k) [] (upto k ss))

-- below k there is nothing to find
none-below : (k : ℕ) (ss : List Save) → AllByRecursion (λ s. s.number < k) ss → (find k ss ≡ None) × (filter (is_miscredit k) ss ≡ []) × (filter (is_above k) ss ≡ [])
none-below k [] h = (refl, refl, refl)
none-below k (s ∷ ss) h = let n : s.number < k = h.0 in
    let e : (s.number == k) ≡ false = ne_eqb s.number k (λ q. omega (arith, n, q)) in
    let l : nat_lt k s.number ≡ false = le-ltb k s.number (omega (arith, n)) in
    let ih = none-below k ss h.1 in
    (rw e ih.0, rw l ih.1, rw l ih.2)

none-older : (k : ℕ) (s : Save) (ss : List Save) → IsChain (s ∷ ss) → s.number ≤ k → (find k ss ≡ None) × (filter (is_miscredit k) ss ≡ []) × (filter (is_above k) ss ≡ [])
none-older k s ss c h = none-below k ss (all-weaken (λ t. t.number < s.number) (λ t. t.number < k) ss (λ t p. omega (arith, p, h)) (chain-older s ss c))

abbrev Order : ℕ → ℕ → Type 0
Order n k = (n ≡ k) ⊎ ((n < k) ⊎ (k < n))

-- the walk reads the places of the entries
path-upto : (n : ℕ) (slot : ℕ → Slot) (k : ℕ) (ss : List Save) → IsChain ss → IsLooked slot k ss → 1 ≤ k → top ss < n + k → path n slot (top ss) k ≡ upto k ss
path-upto zero slot k [] c l one h = refl
path-upto zero slot k (s ∷ ss) c l one h = rw (lt-ltb s.number k (omega (arith, h))) refl
path-upto (suc n) slot k [] c l one h = rw (lt-ltb 0 k (omega (arith, one))) refl
path-upto (suc n) slot k (s ∷ ss) c l one h = by_order (cases_order s.number k)
    (path-upto n slot k ss c.2 l.1 one (let m : s.number ≡ top ss + s.by = c.1 in let i : 1 ≤ s.by = c.0 in omega (arith, m, i, h)))
  where
    by_order : Order s.number k → path n slot (top ss) k ≡ upto k ss → path (suc n) slot s.number k ≡ upto k (s ∷ ss)
    by_order (inl q) ih = let g : slot s.number ≡ slot_of s = l.0 (omega (arith, q)) in
        rw (le-ltb s.number k (omega (arith, q)), eq-eqb s.number k q, g) refl
    by_order (inr (inl q)) ih = rw (lt-ltb s.number k q) refl
    by_order (inr (inr q)) ih = let g : slot s.number ≡ slot_of s = l.0 (omega (arith, q)) in
        let d : s.number - s.by ≡ top ss = let m : s.number ≡ top ss + s.by = c.1 in omega (arith, m) in
        rw (le-ltb s.number k (omega (arith, q)), ne_eqb s.number k (λ p. omega (arith, p, q)), g, d, ih) refl

-- what is found on it
find-upto : (k : ℕ) (ss : List Save) → IsChain ss → find_place k (upto k ss) ≡ option_map place_of (find k ss)
find-upto k [] c = refl
find-upto k (s ∷ ss) c = by_order (cases_order s.number k) (find-upto k ss c.2)
  where
    by_order : Order s.number k → find_place k (upto k ss) ≡ option_map place_of (find k ss) → find_place k (upto k (s ∷ ss)) ≡ option_map place_of (find k (s ∷ ss))
    by_order (inl q) ih = rw (le-ltb s.number k (omega (arith, q)), eq-eqb s.number k q) refl
    by_order (inr (inl q)) ih = let nb = none-older k s ss c (omega (arith, q)) in
        rw (lt-ltb s.number k q, ne_eqb s.number k (λ p. omega (arith, p, q)), nb.0) refl
    by_order (inr (inr q)) ih = rw (le-ltb s.number k (omega (arith, q)), ne_eqb s.number k (λ p. omega (arith, p, q))) ih

unwrap-map : (o : Option Save) (s : Save) → unwrap_or (option_map place_of o) (place_of s) ≡ place_of (unwrap_or o s)
unwrap-map None s = refl
unwrap-map (Some t) s = refl

-- the last place that passes is that of the least entry that does
last-by : (b : Bool) (ps : List Place) (p : Save → Bool) (s : Save) (ss : List Save) → IsChain (s ∷ ss) → last_place ps ≡ option_map place_of (least_save (filter p ss))
    → last_place (cond b (place_of s ∷ ps) ps) ≡ option_map place_of (least_save (cond b (s ∷ filter p ss) (filter p ss)))
last-by true ps p s ss c ih = ap (λ o. Some (unwrap_or o (place_of s))) ih ∙ ap Some (unwrap-map (least_save (filter p ss)) s)
    ∙ sym (ap (option_map place_of) (least-older p s ss c))
last-by false ps p s ss c ih = ih

bad-upto : (k : ℕ) (ss : List Save) → IsChain ss → last_place (filter (is_bad k) (upto k ss)) ≡ option_map place_of (least_save (filter (is_miscredit k) ss))
bad-upto k [] c = refl
bad-upto k (s ∷ ss) c = by_order (cases_order s.number k) (bad-upto k ss c.2)
  where
    by_order : Order s.number k → last_place (filter (is_bad k) (upto k ss)) ≡ option_map place_of (least_save (filter (is_miscredit k) ss))
        → last_place (filter (is_bad k) (upto k (s ∷ ss))) ≡ option_map place_of (least_save (filter (is_miscredit k) (s ∷ ss)))
    by_order (inl q) ih = let nb = none-older k s ss c (omega (arith, q)) in
        rw (le-ltb s.number k (omega (arith, q)), eq-eqb s.number k q, le-ltb k s.number (omega (arith, q)), nb.1) refl
    by_order (inr (inl q)) ih = let nb = none-older k s ss c (omega (arith, q)) in
        rw (lt-ltb s.number k q, le-ltb k s.number (omega (arith, q)), nb.1) refl
    by_order (inr (inr q)) ih =
        rw (le-ltb s.number k (omega (arith, q)), ne_eqb s.number k (λ p. omega (arith, p, q)), lt-ltb k s.number q, any-greatest (s.number - k) s.feet)
        (last-by (list_any (λ a. nat_lt (s.number - k) a) s.feet) (filter (is_bad k) (upto k ss)) (is_miscredit k) s ss c ih)

-- where k was not saved, the last place of all is that of the least entry above it
last-upto : (k : ℕ) (ss : List Save) → IsChain ss → find k ss ≡ None → last_place (upto k ss) ≡ option_map place_of (least_save (filter (is_above k) ss))
last-upto k [] c f = refl
last-upto k (s ∷ ss) c f = by_order (cases_order s.number k) f (λ g. last-upto k ss c.2 g)
  where
    by_order : Order s.number k → find k (s ∷ ss) ≡ None → (find k ss ≡ None → last_place (upto k ss) ≡ option_map place_of (least_save (filter (is_above k) ss)))
        → last_place (upto k (s ∷ ss)) ≡ option_map place_of (least_save (filter (is_above k) (s ∷ ss)))
    by_order (inl q) f ih = let bad = rw (eq-eqb s.number k q) at f in absurd (cc)
    by_order (inr (inl q)) f ih = let nb = none-older k s ss c (omega (arith, q)) in
        rw (lt-ltb s.number k q, le-ltb k s.number (omega (arith, q)), nb.2) refl
    by_order (inr (inr q)) f ih = let e : (s.number == k) ≡ false = ne_eqb s.number k (λ p. omega (arith, p, q)) in
        let g : find k ss ≡ None = rw e at f in
        rw (le-ltb s.number k (omega (arith, q)), e, lt-ltb k s.number q) (last-by true (upto k ss) (is_above k) s ss c (ih g))

number-map : (o : Option Save) → place_number_or 0 (option_map place_of o) ≡ number_or 0 o
number-map None = refl
number-map (Some s) = refl

answered : (f b a : Option Save) (last : Option Place) → (f ≡ None → last ≡ option_map place_of a) → answer (option_map place_of f) (option_map place_of b) last ≡ held_saved (judged f b a)
answered None b a last h = ap (λ o. Skipped (place_number_or 0 o)) (h refl) ∙ ap Skipped (number-map a)
answered (Some s) None a last h = refl
answered (Some s) (Some b) a last h = refl

pub looked-saved : (slot : ℕ → Slot) (k : ℕ) (ss : List Save) → IsChain ss → IsLooked slot k ss → 1 ≤ k → k ≤ top ss
    → (let ps = path (suc (top ss - k)) slot (top ss) k in answer (find_place k ps) (last_place (filter (is_bad k) ps)) (last_place ps)) ≡ held_saved (saved k ss)
looked-saved slot k ss c l one h =
    rw (path-upto (suc (top ss - k)) slot k ss c l one (omega (arith, h)), find-upto k ss c, bad-upto k ss c)
    (answered (find k ss) (least_save (filter (is_miscredit k) ss)) (least_save (filter (is_above k) ss)) (last_place (upto k ss)) (last-upto k ss c))

-- each slot on it is live
live-upto : (k : ℕ) (ss : List Save) → IsChain ss → AllByRecursion (λ p. 1 ≤ p.slot.back) (upto k ss)
live-upto k [] c = tt
live-upto k (s ∷ ss) c = by_tests (nat_lt s.number k) (s.number == k) (live-upto k ss c.2)
  where
    by_tests : (a b : Bool) → AllByRecursion (λ p. 1 ≤ p.slot.back) (upto k ss)
        → AllByRecursion (λ p. 1 ≤ p.slot.back) (cond a [] (place_of s ∷ cond b [] (upto k ss)))
    by_tests true b ih = tt
    by_tests false true ih = (c.0, tt)
    by_tests false false ih = (c.0, ih)

-- the slots that a view shows
seen-looked : (view : View) (id k : ℕ) (ss : List Save) → view.at ≡ id % length view.slots → id < k + length view.slots → AllByRecursion (λ s. s.number ≤ id) ss
    → AllByRecursion (IsSeen view.slots id) ss → IsLooked (slot_in view id) k ss
seen-looked view id k [] a l b h = tt
seen-looked view id k (s ∷ ss) a l b h = (
  λ p. ap (λ x. slice_index_or view.slots x no_slot) (ap (λ x. place_below (length view.slots) x (id - s.number)) a
      ∙ below-mod (length view.slots) id s.number b.0 (omega (arith, p, l)))
      ∙ h.0 (omega (arith, p, l)),
  seen-looked view id k ss a l b.1 h.1,
)

shown-looked : (n : ℕ) (view : View) (calls : List Call) (k : ℕ) → IsShown n view calls → number calls < k + length view.slots → IsLooked (slot_in view (number calls)) k (saves n calls)
shown-looked n view calls k s l = seen-looked view (number calls) k (saves n calls) s.at l (saves-below n calls s.rising) s.seen

pub shown-read : (n : ℕ) (view : View) (calls : List Call) (k : ℕ) → IsShown n view calls → 1 ≤ k → k ≤ number calls → number calls < k + length view.slots
    → read view (number calls) k ≡ held_saved (saved k (saves n calls))
shown-read n view calls k s one h l =
    subst (λ m. k ≤ m → (let ps = path (suc (m - k)) (slot_in view (number calls)) m k in answer (find_place k ps) (last_place (filter (is_bad k) ps)) (last_place ps)) ≡ held_saved (saved k (saves n calls)))
    (top-number n calls) (looked-saved (slot_in view (number calls)) k (saves n calls) (chain-saves n calls s.rising) (shown-looked n view calls k s l) one) h

pub shown-live : (n : ℕ) (view : View) (calls : List Call) (k : ℕ) → IsShown n view calls → 1 ≤ k → k ≤ number calls → number calls < k + length view.slots → IsLive view (number calls) k
shown-live n view calls k s one h l = subst (λ m. k ≤ m → AllByRecursion (λ p. 1 ≤ p.slot.back) (path (suc (m - k)) (slot_in view (number calls)) m k)) (top-number n calls)
    (λ q. subst (AllByRecursion (λ p. 1 ≤ p.slot.back)) (sym (path-upto (suc (top (saves n calls) - k)) (slot_in view (number calls)) k (saves n calls) (chain-saves n calls s.rising)
    (shown-looked n view calls k s l) one (omega (arith, q)))) (live-upto k (saves n calls) (chain-saves n calls s.rising))) h

-- the same of an id that is the number
pub read-as : (n : ℕ) (view : View) (calls : List Call) (id k : ℕ) → number calls ≡ id → IsShown n view calls → 1 ≤ k → k ≤ id → id < k + length view.slots
    → read view id k ≡ held_saved (saved k (saves n calls))
read-as n view calls id k e s one = subst (λ m. k ≤ m → m < k + length view.slots → read view m k ≡ held_saved (saved k (saves n calls))) e (shown-read n view calls k s one)
