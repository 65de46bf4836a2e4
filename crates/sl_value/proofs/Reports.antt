-- What a control plane puts on a dump can be read by the dump's view.
use Rattle.std.proofs.Common.{◌≡◌, ℕ, zero, suc, ◌+◌, ◌-◌, ◌<◌, ◌≤◌, List, [], ◌∷◌, ◌++◌, length, map, take, refl, sym, ap, subst, ◌∙◌, Option, Some, None, arith}
use Rattle.std.specs.Prelude.{Bool, true, false, ◌&&◌, ◌==◌, cond, nat_lt, nat_le, min, flat_map}
use Rattle.std.specs.List.{AllByRecursion, list_all, fold, range_with_len}
use Rattle.std.proofs.lemmas.Bool.{ltb-true, leb-true, eqb-true}
use Rattle.std.proofs.lemmas.List.FromFn.{length-map-range_with_len}
use Rattle.sl_saves.specs.declared.entry.View.{View}
use Rattle.sl_saves.specs.Views.{Place, walk}
use Rattle.sl_wire.specs.declared.message.Dump.{Dump}
use Rattle.sl_wire.specs.declared.message.Done.{Done}
use Rattle.sl_wire.specs.declared.message.Msg.{Msg}
use Rattle.sl_wire.specs.Sizes.{Lengths}
use Rattle.sl_control.specs.declared.known.Known.{Known}
use Rattle.sl_control.specs.Rows.{span, is_sized, is_live, is_readable, row}
use Rattle.sl_control.specs.Control.{has_wids, has_rooms, is_read, is_taken, takes_dump, dump_puts, numbers_told, new_numbers, reached_by, done_of, answer_by}
use Rattle.sl_value.specs.Valued.{CanRead, CanReadAll, done_in, or_done, first_done}

-- Tests.

pub both : (a b : Bool) → (a && b) ≡ true → (a ≡ true) × (b ≡ true)
both true b e = (refl, e)
both false b e = absurd (cc)

all-true : {A : Type 0} (t : A → Bool) (xs : List A) → list_all t xs ≡ true → AllByRecursion (λ x. t x ≡ true) xs
all-true t [] e = tt
all-true t (x ∷ xs) e = let p = both (t x) (list_all t xs) e in (p.0, all-true t xs p.1)

-- Numbers.

pub least-below : (n : ℕ) (xs : List ℕ) → fold min n xs ≤ n
least-below n [] = omega arith
least-below n (x ∷ xs) = omega (arith, least-below (min n x) xs)

weaken : (P Q : ℕ → Type 0) → ((j : ℕ) → P j → Q j) → (js : List ℕ) → AllByRecursion P js → AllByRecursion Q js
weaken P Q f [] p = tt
weaken P Q f (j ∷ js) p = (f j p.0, weaken P Q f js p.1)

each-within : (n count : ℕ) → AllByRecursion (λ j. (n ≤ j) × (j < n + count)) (range_with_len n count)
each-within n zero = tt
each-within n (suc count) = (
  (omega arith, omega arith),
  weaken (λ j. (n + 1 ≤ j) × (j < n + 1 + count)) (λ j. (n ≤ j) × (j < n + suc count)) (λ j p. let a = p.0 in let b = p.1 in (omega (arith, a), omega (arith, b))) (range_with_len (n + 1) count) (each-within (n + 1) count),
)

-- The rows of a report.

live : (ps : List Place) → list_all (λ p. nat_le 1 p.slot.back) ps ≡ true → AllByRecursion (λ p. 1 ≤ p.slot.back) ps
live [] e = tt
live (p ∷ ps) e = let b = both (nat_le 1 p.slot.back) (list_all (λ q. nat_le 1 q.slot.back) ps) e in (leb-true 1 p.slot.back b.0, live ps b.1)

-- a number of a span lies above its start, and at most at its end
pub each-in-span : (a b : ℕ) → AllByRecursion (λ j. (suc a ≤ j) × (j ≤ b)) (span a b)
each-in-span a b = by_length (b - a) refl
  where
    by_length : (n : ℕ) → b - a ≡ n → AllByRecursion (λ j. (suc a ≤ j) × (j ≤ b)) (range_with_len (suc a) n)
    by_length zero e = tt
    by_length (suc n) e = weaken (λ j. (suc a ≤ j) × (j < suc a + suc n)) (λ j. (suc a ≤ j) × (j ≤ b)) (λ j p. let q = p.1 in (p.0, omega (arith, q, e))) (range_with_len (suc a) (suc n)) (each-within (suc a) (suc n))

readable : (view : View) (id m k : ℕ) → m ≤ id → is_readable view id k ≡ true → (1 ≤ k) × (k ≤ m) → CanRead view id k
readable view id m k h e r = let b = both (nat_lt id (k + length view.slots)) (is_live view id k) e in record {
  least = r.0;
  most = let q = r.1 in omega (arith, q, h);
  near = ltb-true id (k + length view.slots) b.0;
  live = live (walk view id k) b.1;
}

rows-read : (view : View) (id m : ℕ) (ks : List ℕ) → m ≤ id → AllByRecursion (λ k. is_readable view id k ≡ true) ks → AllByRecursion (λ k. (1 ≤ k) × (k ≤ m)) ks
    → AllByRecursion (λ r. CanRead view id r.0) (map (row view id) ks)
rows-read view id m [] h t r = tt
rows-read view id m (k ∷ ks) h t r = (readable view id m k h t.0 r.0, rows-read view id m ks h t.1 r.1)

-- the first of a span is near, so it is no longer than a ring
few-rows : (ring : ℕ) (view : View) (id a b : ℕ) → length view.slots ≡ ring → b ≤ id → AllByRecursion (λ k. is_readable view id k ≡ true) (span a b) → length (map (row view id) (span a b)) ≤ ring
few-rows ring view id a b size h t = by_length (b - a) refl t
  where
    by_length : (n : ℕ) → b - a ≡ n → AllByRecursion (λ k. is_readable view id k ≡ true) (range_with_len (suc a) n) → length (map (row view id) (range_with_len (suc a) n)) ≤ ring
    by_length zero e t = omega arith
    by_length (suc n) e t = let near = ltb-true id (suc a + length view.slots) (both (nat_lt id (suc a + length view.slots)) (is_live view id (suc a)) t.0).0 in
        let len = length-map-range_with_len (row view id) (suc a) (suc n) in omega (arith, len, near, size, h, e)

-- The report of a dump that is taken.

taken-reads : (sizes : Lengths) (c : ℕ) (d : Dump) (r : Known) → takes_dump sizes c d r ≡ true → CanReadAll sizes.ring d.view (done_of (numbers_told sizes.bits d r) d.view r)
taken-reads sizes c d r e =
    let n = numbers_told sizes.bits d r in
    let taken = (both (c == r.wires.dump) (is_taken sizes d r) e).1 in
    let roomy = (both (has_wids sizes.bits d) (has_rooms sizes.bits r && is_read sizes.ring n d.view r) taken).1 in
    let read = (both (has_rooms sizes.bits r) (is_read sizes.ring n d.view r) roomy).1 in
    let sized = (both r.waits (is_sized sizes.ring d.view && list_all (is_readable d.view n.id) (new_numbers n r)) read).1 in
    let parts = both (is_sized sizes.ring d.view) (list_all (is_readable d.view n.id) (new_numbers n r)) sized in
    let place = both (nat_lt d.view.at (length d.view.slots)) (length d.view.slots == sizes.ring) parts.0 in
    let size : length d.view.slots ≡ sizes.ring = eqb-true (length d.view.slots) sizes.ring place.1 in
    let low : reached_by n r ≤ n.id = least-below n.id (take r.wires.channels n.last) in
    let each = all-true (is_readable d.view n.id) (new_numbers n r) parts.1 in record {
      at = ltb-true d.view.at (length d.view.slots) place.0;
      few = few-rows sizes.ring d.view n.id r.upto (reached_by n r) size low each;
      rows = rows-read d.view n.id (reached_by n r) (new_numbers n r) low each
          (weaken (λ j. (suc r.upto ≤ j) × (j ≤ reached_by n r)) (λ j. (1 ≤ j) × (j ≤ reached_by n r)) (λ j p. let q = p.0 in (omega (arith, q), p.1)) (new_numbers n r) (each-in-span r.upto (reached_by n r)));
    }

pub first-append : (xs ys : List (ℕ × Msg)) → first_done (xs ++ ys) ≡ or_done (first_done xs) (first_done ys)
first-append [] ys = refl
first-append (x ∷ xs) ys = ap (or_done (done_in x.1)) (first-append xs ys) ∙ assoc (done_in x.1) (first_done xs) (first_done ys)
  where
    assoc : (a b c : Option Done) → or_done a (or_done b c) ≡ or_done (or_done a b) c
    assoc None b c = refl
    assoc (Some d) b c = refl

pub report-reads : (sizes : Lengths) (out c : ℕ) (d : Dump) (rs : List Known) (done : Done) → first_done (flat_map (dump_puts sizes out c d) rs) ≡ Some done → CanReadAll sizes.ring d.view done
report-reads sizes out c d [] done e = absurd (cc)
report-reads sizes out c d (r ∷ rs) done e = by_taken (takes_dump sizes c d r) refl (sym (first-append (dump_puts sizes out c d r) (flat_map (dump_puts sizes out c d) rs)) ∙ e) (λ f. report-reads sizes out c d rs done f)
  where
    by_taken : (b : Bool) → takes_dump sizes c d r ≡ b → or_done (first_done (cond b (answer_by out (numbers_told sizes.bits d r) d.view r) [])) (first_done (flat_map (dump_puts sizes out c d) rs)) ≡ Some done
        → (first_done (flat_map (dump_puts sizes out c d) rs) ≡ Some done → CanReadAll sizes.ring d.view done) → CanReadAll sizes.ring d.view done
    by_taken true t f ih = let is : done_of (numbers_told sizes.bits d r) d.view r ≡ done = cc in subst (CanReadAll sizes.ring d.view) is (taken-reads sizes c d r t)
    by_taken false t f ih = ih f
