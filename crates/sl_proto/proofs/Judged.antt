-- What accounts of units say of a number, unit by unit.
use Rattle.std.proofs.Common.{◌≡◌, ℕ, zero, suc, ◌+◌, ◌-◌, ◌<◌, ◌≤◌, List, [], ◌∷◌, ◌++◌, length, refl, sym, ap, subst, ◌∙◌, Option, Some, None, arith, inl, inr, take, drop, get_or, eq-eqb}
use Rattle.std.specs.Prelude.{◌⊎◌, true, false, nat_lt, nat_le, min, if◌then◌else◌, map, slice_get, unwrap_or, option_and_then, slice_index}
use Rattle.std.specs.List.{fold}
use Rattle.std.proofs.Math.Numerals.{add-one}
use Rattle.std.proofs.lemmas.Bool.{ne_eqb}
use Rattle.std.proofs.lemmas.Bool.Decides.{leb_tells}
use Rattle.std.proofs.lemmas.List.{at_drop_more, get_or-map, length-map, take_more, map_push}
use Rattle.std.proofs.lemmas.Option.{slice_get-get_or}
use Rattle.sl_layout.specs.Net.{Net, units}
use Rattle.std.proofs.lemmas.Simd.{map-map}
use Rattle.sl_saves.specs.declared.entry.Saved.{Saved}
use Rattle.sl_saves.specs.declared.entry.Saved.TheVariants.{Value, Skipped, Miscredited}
use Rattle.sl_observe.specs.Observer.{UnitState, ObserverState, new_unit, unit_at, saved_of, register_floor}
use Rattle.sl_model.specs.declared.verdict.Cause.{Cause}
use Rattle.sl_model.specs.declared.verdict.Lag.{Lag}
use Rattle.sl_model.specs.declared.verdict.Lag.TheVariants.{Id}
use Rattle.sl_model.specs.declared.verdict.Verdict.TheVariants.{Consistent, NotIssued}
use Rattle.sl_parts.specs.Lists.{Each}
use Rattle.sl_model.specs.Words.{first_from, first_told, or_later}
use Rattle.sl_route.specs.Least.{least as least_here}
use Rattle.sl_model.specs.Verdict.{lag_at, judged, place_or_zero}
use Rattle.sl_model.specs.Accounts.{Account, row_of, behind, lag_by, cause_in, cause_by, floor_by, holds, verdict_by}
use Rattle.sl_simulation.specs.ObserverImage.{account_of}
use Rattle.sl_proto.specs.Told.{HasRows, HasAllRows, accounts_of, IsValue}

-- Walks over the units.

abbrev none : UnitState
none = new_unit 0 0

-- one unit on
pub walk_on : {B : Type 0} (f : Account → Option B) (us : List UnitState) (i : ℕ) → i < length us
    → first_from i f (drop i (map account_of us)) ≡ or_later i (f (account_of (unit_at us i))) (first_from (i + 1) f (drop (i + 1) (map account_of us)))
walk_on f us i h = at_drop_more (first_from i f) (map account_of us) i (account_of none) (let n = length-map us account_of in omega (arith, h, n))
    ∙ ap (λ a. or_later i (f a) (first_from (suc i) f (drop (i + 1) (map account_of us)))) (get_or-map account_of us i none (account_of none) h)
    ∙ ap (λ j. or_later i (f (account_of (unit_at us i))) (first_from j f (drop (i + 1) (map account_of us)))) (sym (add-one i))

-- what is made of the units so far, with one more
pub more_made : {B : Type 0} (f : Account → B) (us : List UnitState) (i : ℕ) → i < length us
    → map f (take (i + 1) (map account_of us)) ≡ map f (take i (map account_of us)) ++ f (account_of (unit_at us i)) ∷ []
more_made f us i h = ap (map f) (take_more (map account_of us) i (account_of none) (let n = length-map us account_of in omega (arith, h, n)))
    ∙ map_push f (take i (map account_of us)) (get_or (map account_of us) i (account_of none))
    ∙ ap (λ a. map f (take i (map account_of us)) ++ f a ∷ []) (get_or-map account_of us i none (account_of none) h)

-- a walk that says nothing says nothing of each
silent-each : {A B : Type 0} (f : A → Option B) (n : ℕ) (xs : List A) → first_from n f xs ≡ None → Each (λ x. f x ≡ None) xs
silent-each f n [] h = tt
silent-each {A} {B} f n (x ∷ xs) h = by_first (f x) refl (silent-each f (suc n) xs) h
  where
    by_first : (o : Option B) → f x ≡ o → (first_from (suc n) f xs ≡ None → Each (λ x. f x ≡ None) xs) → or_later n o (first_from (suc n) f xs) ≡ None → (f x ≡ None) × Each (λ x. f x ≡ None) xs
    by_first None e rest k = (e, rest k)
    by_first (Some y) e rest k = absurd (cc)

-- Rows.

pub row_is_saved : (x : UnitState) (k : ℕ) → 1 ≤ k → saved_of x k ≡ row_of k (account_of x)
row_is_saved x k p = ap (λ b. if b then None else slice_get x.rows (k - 1)) (ne_eqb k 0 (λ e. absurd (omega (arith, e, p))))

-- The floor.

pub floor_is_by : (o : ObserverState) → register_floor o ≡ floor_by o.issued (accounts_of o)
floor_is_by o = ap (λ m. unwrap_or m o.issued) (ap least_here (sym (map-map (λ a. a.floor) account_of o.units)))

pub holds_it : (f : ℕ) (a : Account) → a.floor ≡ f → holds f a ≡ Some a.floor
holds_it f a e = ap (λ b. if b then Some a.floor else None) (eq-eqb a.floor f e)

pub holds_not : (f : ℕ) (a : Account) → (a.floor ≡ f → ⊥) → holds f a ≡ None
holds_not f a e = ap (λ b. if b then Some a.floor else None) (ne_eqb a.floor f e)

pub not_issued : (o : ObserverState) (k place floor : ℕ) → o.issued < k → place ≡ place_or_zero (first_told (holds (floor_by o.issued (accounts_of o))) (accounts_of o)) → floor ≡ register_floor o
    → NotIssued place floor ≡ verdict_by o.issued (accounts_of o) k
not_issued o k place floor past p f = by_tells (leb_tells k o.issued)
  where
    by_tells : ((nat_le k o.issued ≡ true) × (k ≤ o.issued)) ⊎ ((nat_le k o.issued ≡ false) × (o.issued < k)) → NotIssued place floor ≡ verdict_by o.issued (accounts_of o) k
    by_tells (inl q) = absurd (let e = q.1 in omega (arith, past, e))
    by_tells (inr q) = (λ i. NotIssued (p i) ((f ∙ floor_is_by o) i))
        ∙ sym (ap (λ b. if b then judged (first_told (lag_by k) (accounts_of o)) (first_told (cause_by k) (accounts_of o))
        else NotIssued (place_or_zero (first_told (holds (floor_by o.issued (accounts_of o))) (accounts_of o))) (floor_by o.issued (accounts_of o))) q.0)

-- A consistent number has a value at each unit.

judged-none : (o : Option (ℕ × Lag)) (q : Option (ℕ × Cause)) → judged o q ≡ Consistent → (o ≡ None) × (q ≡ None)
judged-none (Some l) q h = absurd cc
judged-none None (Some c) h = absurd cc
judged-none None None h = (refl, refl)

lag-none : (o : Option (ℕ × ℕ)) → lag_at o ≡ None → o ≡ None
lag-none None h = refl
lag-none (Some c) h = absurd cc

not-behind : (k n : ℕ) → behind k n ≡ None → k ≤ n
not-behind k n h = by_tells (leb_tells (suc n) k)
  where
    by_tells : ((nat_lt n k ≡ true) × (suc n ≤ k)) ⊎ ((nat_lt n k ≡ false) × (k < suc n)) → k ≤ n
    by_tells (inl q) = absurd (let e : Some n ≡ None = sym (ap (λ b. if b then Some n else None) q.0) ∙ h in cc)
    by_tells (inr q) = omega (arith, q.1)

least-high : (k n : ℕ) (xs : List ℕ) → k ≤ n → Each (λ x. behind k x ≡ None) xs → k ≤ fold min n xs
least-high k n [] p e = p
least-high k n (x ∷ xs) p e = let q = not-behind k x e.0 in least-high k (min n x) xs (omega (arith, p, q)) e.1

reached : (k : ℕ) (a : Account) → lag_by k a ≡ None → k ≤ fold min a.id a.last
reached k a h = by_tells (leb_tells (suc a.id) k)
  where
    by_tells : ((nat_lt a.id k ≡ true) × (suc a.id ≤ k)) ⊎ ((nat_lt a.id k ≡ false) × (k < suc a.id)) → k ≤ fold min a.id a.last
    by_tells (inl q) = absurd (let e = sym (ap (λ b. if b then Some (Id a.id) else lag_at (first_told (behind k) a.last)) q.0) ∙ h in cc)
    by_tells (inr q) = least-high k a.id a.last (omega (arith, q.1)) (silent-each (behind k) 0 a.last (lag-none (first_told (behind k) a.last) (sym (ap (λ b. if b then Some (Id a.id) else lag_at (first_told (behind k) a.last)) q.0) ∙ h)))

is-value : (o : Option Saved) (s : Saved) → o ≡ Some s → option_and_then cause_in o ≡ None → IsValue o
is-value None s e h = absurd cc
is-value (Some (Value p b f)) s e h = tt
is-value (Some (Skipped to)) s e h = absurd cc
is-value (Some (Miscredited by reach)) s e h = absurd cc

value-at : (net : Net) (u k : ℕ) (x : UnitState) → HasRows net u x → 1 ≤ k → lag_by k (account_of x) ≡ None → cause_by k (account_of x) ≡ None → IsValue (saved_of x k)
value-at net u k x c one lag cause =
    let r = reached k (account_of x) lag in
    let n = c.rows in
    subst IsValue (sym (row_is_saved x k one)) (is-value (row_of k (account_of x)) (get_or x.rows (k - 1) (Skipped 0)) (slice_get-get_or x.rows (k - 1) (Skipped 0) (omega (arith, r, n, one))) cause)

each-account : (P : Account → Type 0) (us : List UnitState) (i : ℕ) → i < length us → Each P (map account_of us) → P (account_of (unit_at us i))
each-account P [] i h e = absurd (omega (arith, h))
each-account P (u ∷ us) zero h e = e.0
each-account P (u ∷ us) (suc i) h e = each-account P us i (omega (arith, h)) e.1

pub values_are : (net : Net) (o : ObserverState) (k : ℕ) → HasAllRows net o → 1 ≤ k → verdict_by o.issued (accounts_of o) k ≡ Consistent
    → (place : ℕ) → place < length (units net) → IsValue (saved_of (unit_at o.units place) k)
values_are net o k c one h place below_all = by_tells (leb_tells k o.issued)
  where
    xs : List Account
    xs = accounts_of o

    by_tells : ((nat_le k o.issued ≡ true) × (k ≤ o.issued)) ⊎ ((nat_le k o.issued ≡ false) × (o.issued < k)) → IsValue (saved_of (unit_at o.units place) k)
    by_tells (inr q) = absurd (let e : NotIssued (place_or_zero (first_told (holds (floor_by o.issued xs)) xs)) (floor_by o.issued xs) ≡ Consistent =
        sym (ap (λ b. if b then judged (first_told (lag_by k) xs) (first_told (cause_by k) xs) else NotIssued (place_or_zero (first_told (holds (floor_by o.issued xs)) xs)) (floor_by o.issued xs)) q.0) ∙ h in cc)
    by_tells (inl q) = let e : judged (first_told (lag_by k) xs) (first_told (cause_by k) xs) ≡ Consistent =
        sym (ap (λ b. if b then judged (first_told (lag_by k) xs) (first_told (cause_by k) xs) else NotIssued (place_or_zero (first_told (holds (floor_by o.issued xs)) xs)) (floor_by o.issued xs)) q.0) ∙ h in
        let j = judged-none (first_told (lag_by k) xs) (first_told (cause_by k) xs) e in
        let n = c.count in
        let low : place < length o.units = omega (arith, n, below_all) in
        value-at net (slice_index (units net) place) k (unit_at o.units place) (c.each place below_all) one
        (each-account (λ a. lag_by k a ≡ None) o.units place low (silent-each (lag_by k) 0 xs j.0))
        (each-account (λ a. cause_by k a ≡ None) o.units place low (silent-each (cause_by k) 0 xs j.1))
