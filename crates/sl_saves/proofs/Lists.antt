-- A list of all entries shows them.
use Rattle.std.proofs.Common.{◌≡◌, ℕ, zero, suc, ◌+◌, ◌-◌, ◌%◌, ◌<◌, ◌≤◌, List, [], ◌∷◌, ◌++◌, length, take, drop, refl, sym, ap, subst, ◌∙◌, arith}
use Rattle.std.specs.Prelude.{cond, true, false, nat_le, ◌==◌, ◌||◌, slice_set, slice_index_or, map, reverse, replicate}
use Rattle.std.specs.List.{AllByRecursion}
use Rattle.std.proofs.lemmas.List.{length-set, length-replicate, length-reverse, length-drop, get_or-set_same, get_or-set_other, reverse-append, reverse-reverse, append_assoc, append-nil, take-append-drop, take-map}
use Rattle.std.proofs.lemmas.Nat.{mod_below}
use Rattle.std.proofs.lemmas.Bool.{ne_eqb}
use Rattle.std.proofs.Math.Nat.{mod-eq_of_lt}
use Rattle.std.proofs.Math.Seq.{drop-append_seam, set-append_seam, get_or-append_seam}
use Rattle.sl_saves.specs.declared.entry.Slot.{Slot}
use Rattle.sl_saves.specs.declared.entries.Entry.{Entry}
use Rattle.sl_saves.specs.Calls.{Save, Call, Adopt, Credited, Credit, saves, number, with_credit, saved_credit, written_to, lower, is_empty, IsRising}
use Rattle.sl_saves.specs.Views.{slot_of, free_slot, no_slot, IsShown}
use Rattle.sl_saves.specs.Keeping.{entry_of, entry_credited, entries_credited, written, EntryList, IsListed, list_adopted, list_credited, list_view, new_slot}
use Rattle.sl_saves.proofs.Chains.{top, IsChain, all-weaken, chain-below, chain-older, chain-saves, saves-below, top-number}
use Rattle.sl_saves.proofs.Rings.{IsKept, kept-set, slot-credited}

abbrev pub no_entry : Entry
no_entry = record { number = 0; slot = no_slot }

-- what is written

pub length-written : (slots : List Slot) (es : List Entry) → length (written slots es) ≡ length slots
length-written slots [] = refl
length-written slots (e ∷ es) = length-written (slice_set slots (e.number % length slots) e.slot) es ∙ length-set slots (e.number % length slots) e.slot

pub length-view : (size : ℕ) (entries : List Entry) → length (written (replicate size free_slot) (drop (length entries - size) entries)) ≡ size
length-view size entries = length-written (replicate size free_slot) (drop (length entries - size) entries) ∙ length-replicate size free_slot

written-append : (slots : List Slot) (es : List Entry) (e : Entry) → written slots (es ++ e ∷ []) ≡ slice_set (written slots es) (e.number % length slots) e.slot
written-append slots [] e = refl
written-append slots (x ∷ es) e = written-append (slice_set slots (x.number % length slots) x.slot) es e
    ∙ ap (λ n. slice_set (written (slice_set slots (x.number % length slots) x.slot) es) (e.number % n) e.slot) (length-set slots (x.number % length slots) x.slot)

-- numbers that fall
abbrev IsFalling : List Save → Type 0
IsFalling [] = Unit {0}
IsFalling (s ∷ ss) = AllByRecursion (λ t. t.number < s.number) ss × IsFalling ss

chain-falling : (ss : List Save) → IsChain ss → IsFalling ss
chain-falling [] h = tt
chain-falling (s ∷ ss) h = (chain-older s ss h, chain-falling ss h.2)

all-take : (P : Save → Type 0) (n : ℕ) (ss : List Save) → AllByRecursion P ss → AllByRecursion P (take n ss)
all-take P zero ss h = tt
all-take P (suc n) [] h = tt
all-take P (suc n) (s ∷ ss) h = (h.0, all-take P n ss h.1)

falling-take : (n : ℕ) (ss : List Save) → IsFalling ss → IsFalling (take n ss)
falling-take zero ss h = tt
falling-take (suc n) [] h = tt
falling-take (suc n) (s ∷ ss) h = (all-take (λ t. t.number < s.number) n ss h.0, falling-take n ss h.1)

all-parts : (P : Save → Type 0) (n : ℕ) (ss : List Save) → AllByRecursion P (take n ss) → AllByRecursion P (drop n ss) → AllByRecursion P ss
all-parts P zero ss h l = l
all-parts P (suc n) [] h l = tt
all-parts P (suc n) (s ∷ ss) h l = (h.0, all-parts P n ss h.1 l)

-- the entries before the last n lie n below
chain-drop : (n : ℕ) (ss : List Save) → IsChain ss → AllByRecursion (λ t. t.number + n ≤ top ss) (drop n ss)
chain-drop zero ss h = all-weaken (λ t. t.number ≤ top ss) (λ t. t.number + 0 ≤ top ss) ss (λ t p. omega (arith, p)) (chain-below ss h)
chain-drop (suc n) [] h = tt
chain-drop (suc n) (s ∷ ss) h = let m : s.number ≡ top ss + s.by = h.1 in let o : 1 ≤ s.by = h.0 in
    all-weaken (λ t. t.number + n ≤ top ss) (λ t. t.number + suc n ≤ s.number) (drop n ss) (λ t p. omega (arith, p, m, o)) (chain-drop n ss h.2)

-- later entries written over earlier ones are kept
kept-written : (size id : ℕ) (slots : List Slot) (ss : List Save) → length slots ≡ size → 1 ≤ size → IsFalling ss → AllByRecursion (λ s. s.number ≤ id) ss
    → AllByRecursion (IsKept size (written slots (reverse (map entry_of ss))) id) ss
kept-written size id slots [] e one f b = tt
kept-written size id slots (s ∷ ss) e one f b =
    let es : List Entry = reverse (map entry_of ss) in
    let w : written slots (reverse (map entry_of (s ∷ ss))) ≡ slice_set (written slots (reverse (map entry_of ss))) (s.number % size) (slot_of s)
    = ap (written slots) (reverse-append (entry_of s ∷ []) (map entry_of ss)) ∙ written-append slots (reverse (map entry_of ss)) (entry_of s)
    ∙ ap (λ n. slice_set (written slots (reverse (map entry_of ss))) (s.number % n) (slot_of s)) e in
    subst (λ xs. AllByRecursion (IsKept size xs id) (s ∷ ss)) (sym w) (
      λ p. get_or-set_same (written slots (reverse (map entry_of ss))) (s.number % size) (slot_of s) no_slot
          (subst (λ n. s.number % size < n) (sym (length-written slots (reverse (map entry_of ss)) ∙ e)) (mod_below s.number size one)),
      kept-set size (written slots (reverse (map entry_of ss))) id s.number (slot_of s) ss b.0 f.0 (kept-written size id slots ss e one f.1 b.1),
    )

drop-reverse : (n : ℕ) (xs : List Entry) → drop (length (reverse xs) - n) (reverse xs) ≡ reverse (take n xs)
drop-reverse n xs =
    let parts : reverse xs ≡ reverse (drop n xs) ++ reverse (take n xs) = ap reverse (sym (take-append-drop n xs)) ∙ reverse-append (take n xs) (drop n xs) in
    let len : length (reverse xs) - n ≡ length (reverse (drop n xs)) = omega (arith, length-reverse xs, length-reverse (drop n xs), length-drop n xs) in
    ap (λ m. drop m (reverse xs)) len ∙ ap (drop (length (reverse (drop n xs)))) parts ∙ drop-append_seam (reverse (drop n xs)) (reverse (take n xs))

-- entries below the ring's size leave the slot before the first number as it is

start-written : (size : ℕ) (slots : List Slot) (ss : List Save) → length slots ≡ size → AllByRecursion (λ s. (1 ≤ s.number) × (s.number < size)) ss
    → slice_index_or (written slots (reverse (map entry_of ss))) 0 no_slot ≡ slice_index_or slots 0 no_slot
start-written size slots [] e b = refl
start-written size slots (s ∷ ss) e b =
    let m : s.number % length slots ≡ s.number = ap (λ m. s.number % m) e ∙ mod-eq_of_lt b.0.1 in
    let one : 1 ≤ s.number = b.0.0 in
    ap (λ xs. slice_index_or xs 0 no_slot) (ap (written slots) (reverse-append (entry_of s ∷ []) (map entry_of ss)) ∙ written-append slots (reverse (map entry_of ss)) (entry_of s))
    ∙ get_or-set_other (written slots (reverse (map entry_of ss))) (s.number % length slots) 0 (slot_of s) no_slot (λ q. omega (arith, q, m, one))
    ∙ start-written size slots ss e b.1

start-free : (size : ℕ) → (slice_index_or (replicate size free_slot) 0 no_slot).back ≡ 0
start-free zero = refl
start-free (suc size) = refl

chain-between : (size : ℕ) (ss : List Save) → IsChain ss → top ss < size → AllByRecursion (λ s. (1 ≤ s.number) × (s.number < size)) ss
chain-between size [] h l = tt
chain-between size (s ∷ ss) h l = let m : s.number ≡ top ss + s.by = h.1 in let one : 1 ≤ s.by = h.0 in
    ((omega (arith, m, one), l), chain-between size ss h.2 (omega (arith, m, l)))

saves-between : (size n : ℕ) (calls : List Call) → IsRising calls → number calls < size → AllByRecursion (λ s. (1 ≤ s.number) × (s.number < size)) (saves n calls)
saves-between size n calls rising l = chain-between size (saves n calls) (chain-saves n calls rising) (subst (λ m. m < size) (sym (top-number n calls)) l)

shown : (n size : ℕ) (calls : List Call) (last : ℕ) (entries : List Entry) → 1 ≤ size → IsRising calls → last ≡ number calls
    → entries ≡ reverse (map entry_of (saves n calls)) → IsShown n (list_view (record { size = size; last = last; entries = entries })) calls
shown n size calls last entries one rising l e =
    let free : List Slot = replicate size free_slot in
    let wide : length (replicate size free_slot) ≡ size = length-replicate size free_slot in
    let recent : drop (length entries - size) entries ≡ reverse (map entry_of (take size (saves n calls)))
    = ap (λ es. drop (length es - size) es) e ∙ drop-reverse size (map entry_of (saves n calls)) ∙ ap reverse (take-map entry_of size (saves n calls)) in
    let slots : written (replicate size free_slot) (drop (length entries - size) entries) ≡ written (replicate size free_slot) (reverse (map entry_of (take size (saves n calls))))
    = ap (written (replicate size free_slot)) recent in
    let long : length (written (replicate size free_slot) (drop (length entries - size) entries)) ≡ size
    = length-view size entries in
    let chain : IsChain (saves n calls) = chain-saves n calls rising in
    let below : AllByRecursion (λ t. t.number ≤ number calls) (saves n calls) = saves-below n calls rising in
    let old : AllByRecursion (λ t. t.number + size ≤ number calls) (drop size (saves n calls)) = subst (λ m. AllByRecursion (λ t. t.number + size ≤ m) (drop size (saves n calls))) (top-number n calls)
    (chain-drop size (saves n calls) chain) in
    let xs : List Slot = written (replicate size free_slot) (reverse (map entry_of (take size (saves n calls)))) in
    let kept : AllByRecursion (IsKept size (written (replicate size free_slot) (reverse (map entry_of (take size (saves n calls))))) (number calls)) (saves n calls)
    = all-parts (IsKept size (written (replicate size free_slot) (reverse (map entry_of (take size (saves n calls))))) (number calls)) size (saves n calls)
    (kept-written size (number calls) (replicate size free_slot) (take size (saves n calls)) wide one (falling-take size (saves n calls) (chain-falling (saves n calls) chain))
    (all-take (λ t. t.number ≤ number calls) size (saves n calls) below))
    (all-weaken (λ t. t.number + size ≤ number calls) (IsKept size (written (replicate size free_slot) (reverse (map entry_of (take size (saves n calls))))) (number calls)) (drop size (saves n calls))
    (λ t p q. absurd (omega (arith, p, q))) old) in
    record {
      rising = rising;
      some = subst (λ m. 1 ≤ m) (sym long) one;
      at = ap (λ m. m % size) l ∙ ap (λ m. number calls % m) (sym long);
      seen = subst (λ m. AllByRecursion (IsKept m (written (replicate size free_slot) (drop (length entries - size) entries)) (number calls)) (saves n calls)) (sym long)
          (subst (λ ys. AllByRecursion (IsKept size ys (number calls)) (saves n calls)) (sym slots) kept);
      start = λ h. ap (λ (xs : List Slot). (slice_index_or xs 0 no_slot).back) slots
          ∙ ap (λ (x : Slot). x.back) (start-written size (replicate size free_slot) (take size (saves n calls)) wide
          (all-take (λ t. (1 ≤ t.number) × (t.number < size)) size (saves n calls) (saves-between size n calls rising (subst (λ m. number calls < m) long h))))
          ∙ start-free size;
    }

pub list-shown : (n : ℕ) (l : EntryList) (calls : List Call) → IsListed n l calls → IsShown n (list_view l) calls
list-shown n l calls s = shown n l.size calls l.last l.entries s.some s.rising s.last s.entries

-- An adoption adds an entry.
pub list-adopt : (n by packets bytes : ℕ) (l : EntryList) (calls : List Call) → 1 ≤ by → IsListed n l calls → IsListed n (list_adopted by packets bytes l) (Adopt by packets bytes ∷ calls)
list-adopt n by packets bytes l calls one s =
    let e : Entry = record { number = number calls + by; slot = new_slot by packets bytes } in
    record {
      rising = (one, s.rising);
      some = s.some;
      last = ap (λ m. m + by) s.last;
      entries = (λ i. s.entries i ++ record { number = s.last i + by; slot = new_slot by packets bytes } ∷ []) ∙ sym (reverse-append (e ∷ []) (map entry_of (saves n calls)));
    }

-- A credit grows the last entries.

abbrev back_of : Entry → ℕ
back_of e = e.slot.back

empty-map : (ss : List Save) → is_empty (map entry_of ss) ≡ is_empty ss
empty-map [] = refl
empty-map (s ∷ ss) = refl

entries-credit : (n : ℕ) (c : Credit) (ss : List Save) → c.channel < 8 → written_to back_of entry_credited n c (map entry_of ss) ≡ map entry_of (with_credit n c ss)
entries-credit zero c ss b = refl
entries-credit (suc n) c [] b = refl
entries-credit (suc n) c (s ∷ ss) b =
    let empty = empty-map ss in
    let foot = slot-credited true c s b in
    let more = slot-credited false c s b in
    let ih = entries-credit n (lower s.by c) ss b in
    (λ i. cond (n == 0 || (nat_le c.age s.by || empty i)) (record { number = s.number; slot = foot i } ∷ map entry_of ss) (record { number = s.number; slot = more i } ∷ ih i))
    ∙ elim (n == 0 || (nat_le c.age s.by || is_empty ss)) as
    (λ e. cond e (map entry_of (saved_credit true c s ∷ ss)) (map entry_of (saved_credit false c s ∷ with_credit n (lower s.by c) ss))
    ≡ map entry_of (cond e (saved_credit true c s ∷ ss) (saved_credit false c s ∷ with_credit n (lower s.by c) ss))) [ true ↦ refl | false ↦ refl ]

pub list-credit : (n : ℕ) (c : Credit) (l : EntryList) (calls : List Call) → c.channel < 8 → IsListed n l calls → IsListed n (list_credited n c l) (Credited c ∷ calls)
list-credit n c l calls b s = record {
  rising = s.rising;
  some = s.some;
  last = s.last;
  entries = ap (entries_credited n c) s.entries ∙ ap (λ es. reverse (written_to back_of entry_credited n c es)) (reverse-reverse (map entry_of (saves n calls)))
      ∙ ap reverse (entries-credit n c (saves n calls) b);
}

-- The loop of a credit: to n at most of the first entries, from the last of them on.
abbrev pub first_credited : ℕ → Credit → ℕ → List Entry → List Entry
first_credited zero c count es = es
first_credited (suc n) c zero es = es
first_credited (suc n) c (suc place) es = let e = slice_index_or es place no_entry in
    cond (n == 0 || (nat_le c.age e.slot.back || place == 0)) (slice_set es place (entry_credited true c e))
    (first_credited n (lower e.slot.back c) place (slice_set es place (entry_credited false c e)))

empty-length : (es : List Entry) → (length es == 0) ≡ is_empty es
empty-length [] = refl
empty-length (e ∷ es) = ne_eqb (suc (length es)) 0 (λ q. omega (arith, q))

onto-append : (x : Entry) (xs ys : List Entry) → reverse (x ∷ xs) ++ ys ≡ reverse xs ++ x ∷ ys
onto-append x xs ys = ap (λ es. es ++ ys) (reverse-append (x ∷ []) xs) ∙ append_assoc (reverse xs) (x ∷ []) ys

first-reverse : (n : ℕ) (c : Credit) (xs ys : List Entry) → first_credited n c (length xs) (reverse xs ++ ys) ≡ reverse (written_to back_of entry_credited n c xs) ++ ys
first-reverse zero c xs ys = refl
first-reverse (suc n) c [] ys = refl
first-reverse (suc n) c (x ∷ xs) ys =
    let split : reverse (x ∷ xs) ++ ys ≡ reverse xs ++ x ∷ ys = onto-append x xs ys in
    let len : length xs ≡ length (reverse xs) = sym (length-reverse xs) in
    let at : slice_index_or (reverse xs ++ x ∷ ys) (length xs) no_entry ≡ x = ap (λ m. slice_index_or (reverse xs ++ x ∷ ys) m no_entry) len ∙ get_or-append_seam (reverse xs) x ys no_entry in
    let set_foot : slice_set (reverse xs ++ x ∷ ys) (length xs) (entry_credited true c x) ≡ reverse xs ++ entry_credited true c x ∷ ys
    = ap (λ m. slice_set (reverse xs ++ x ∷ ys) m (entry_credited true c x)) len ∙ set-append_seam (reverse xs) x ys (entry_credited true c x) in
    let set_more : slice_set (reverse xs ++ x ∷ ys) (length xs) (entry_credited false c x) ≡ reverse xs ++ entry_credited false c x ∷ ys
    = ap (λ m. slice_set (reverse xs ++ x ∷ ys) m (entry_credited false c x)) len ∙ set-append_seam (reverse xs) x ys (entry_credited false c x) in
    let empty = empty-length xs in
    ap (first_credited (suc n) c (suc (length xs))) split
    ∙ (λ i. cond (n == 0 || (nat_le c.age (at i).slot.back || empty i)) (slice_set (reverse xs ++ x ∷ ys) (length xs) (entry_credited true c (at i)))
    (first_credited n (lower (at i).slot.back c) (length xs) (slice_set (reverse xs ++ x ∷ ys) (length xs) (entry_credited false c (at i)))))
    ∙ (λ i. cond (n == 0 || (nat_le c.age x.slot.back || is_empty xs)) (set_foot i) (first_credited n (lower x.slot.back c) (length xs) (set_more i)))
    ∙ ap (cond (n == 0 || (nat_le c.age x.slot.back || is_empty xs)) (reverse xs ++ entry_credited true c x ∷ ys)) (first-reverse n (lower x.slot.back c) xs (entry_credited false c x ∷ ys))
    ∙ elim (n == 0 || (nat_le c.age x.slot.back || is_empty xs)) as
    (λ e. cond e (reverse xs ++ entry_credited true c x ∷ ys) (reverse (written_to back_of entry_credited n (lower x.slot.back c) xs) ++ entry_credited false c x ∷ ys)
    ≡ reverse (cond e (entry_credited true c x ∷ xs) (entry_credited false c x ∷ written_to back_of entry_credited n (lower x.slot.back c) xs)) ++ ys) [
      | true ↦ sym (onto-append (entry_credited true c x) xs ys)
      | false ↦ sym (onto-append (entry_credited false c x) (written_to back_of entry_credited n (lower x.slot.back c) xs) ys)
    ]

pub first-all : (n : ℕ) (c : Credit) (es : List Entry) → first_credited n c (length es) es ≡ entries_credited n c es
first-all n c es =
    (λ i. first_credited n c (sym (length-reverse es) i) (sym (append-nil es) i))
    ∙ ap (λ xs. first_credited n c (length (reverse es)) (xs ++ [])) (sym (reverse-reverse es))
    ∙ first-reverse n c (reverse es) [] ∙ append-nil (entries_credited n c es)

-- where it goes on
pub first-on : (left place : ℕ) (c : Credit) (es : List Entry) → 0 < left → 0 < place
    → (left - 1 == 0 || (nat_le c.age (slice_index_or es (place - 1) no_entry).slot.back || (place - 1 == 0))) ≡ false
    → first_credited (left - 1) (lower (slice_index_or es (place - 1) no_entry).slot.back c) (place - 1)
    (slice_set es (place - 1) (entry_credited false c (slice_index_or es (place - 1) no_entry))) ≡ first_credited left c place es
first-on zero place c es h p e = absurd (omega (arith, h))
first-on (suc n) zero c es h p e = absurd (omega (arith, p))
first-on (suc n) (suc m) c es h p e =
    let left : suc n - 1 ≡ n = omega arith in
    let place : suc m - 1 ≡ m = omega arith in
    let x : Entry = slice_index_or es m no_entry in
    (λ i. first_credited (left i) (lower (slice_index_or es (place i) no_entry).slot.back c) (place i)
    (slice_set es (place i) (entry_credited false c (slice_index_or es (place i) no_entry))))
    ∙ sym (ap (λ b. cond b (slice_set es m (entry_credited true c x)) (first_credited n (lower x.slot.back c) m (slice_set es m (entry_credited false c x))))
    (sym (λ i. left i == 0 || (nat_le c.age (slice_index_or es (place i) no_entry).slot.back || (place i == 0))) ∙ e))
