-- What the steps of a definition that answered were.
use Rattle.std.proofs.Common.{◌≡◌, ℕ, suc, ◌+◌, ◌≤◌, List, [], ◌∷◌, length, Bool, true, false, Option, Some, None, Result, Ok, Err, refl, ap, subst, arith}
use Rattle.std.specs.Prelude.{ℤ, pos, negsuc, ◌&&◌, nat_le, if◌then◌else◌, option_map, option_and_then, IfSome}
use Rattle.std.proofs.lemmas.Bool.{and_parts}
use Rattle.std.proofs.lemmas.Bool.Decides.{nat_tests}
use Rattle.toml.specs.Data.{Data, integer, Items, no_items, item, Members}
use Rattle.sl_parts.specs.Lists.{Each}
use Rattle.sl_form.specs.declared.path.TableName.{TableName}
use Rattle.sl_form.specs.declared.path.Key.{Key}
use Rattle.sl_form.specs.declared.path.Path.{Path}
use Rattle.sl_form.specs.declared.refusal.Refusal.{Refusal}
use Rattle.sl_form.specs.Paths.{at, element}
use Rattle.sl_form.specs.Refusals.{◌>>=◌}
use Rattle.sl_form.specs.Fields.{get_key, required, optional, in_range, number, required_number, optional_number, given_number, formed}
use Rattle.sl_read.specs.Rows.{table_at, row, rows}
use Rattle.sl_read.specs.Tables.{count_items}
use Rattle.sl_read.specs.Places.{each, known}

pub bind_ok : {A B : Type 0} (r : Result A Refusal) (f : A → Result B Refusal) (y : B) → (r >>= f) ≡ Ok y → (x : A) × (r ≡ Ok x) × (f x ≡ Ok y)
bind_ok (Ok x) f y h = (x, refl, h)
bind_ok (Err e) f y h = absurd (cc)

pub same_ok : {A : Type 0} (x y : A) → (λ (r : Result A Refusal). r ≡ Ok y) (Ok x) → x ≡ y
same_ok x y h = cc

pub same_some : {A : Type 0} (x y : A) → Some x ≡ Some y → x ≡ y
same_some x y h = cc

-- a test that has to hold, and one that mustn't
pub held : {A : Type 0} (b : Bool) (x : A) (e : Refusal) (y : A) → (if b then Ok x else Err e) ≡ Ok y → (b ≡ true) × (x ≡ y)
held true x e y h = (refl, same_ok x y h)
held false x e y h = absurd (cc)

pub not_held : {A : Type 0} (b : Bool) (e : Refusal) (x y : A) → (if b then Err e else Ok x) ≡ Ok y → (b ≡ false) × (x ≡ y)
not_held true e x y h = absurd (cc)
not_held false e x y h = (refl, same_ok x y h)

pub and_then_some : {A B : Type 0} (f : A → Option B) (o : Option A) (y : B) → option_and_then f o ≡ Some y → (x : A) × (o ≡ Some x) × (f x ≡ Some y)
and_then_some f (Some x) y h = (x, refl, h)
and_then_some f None y h = absurd (cc)

pub map_some : {A B : Type 0} (f : A → B) (o : Option A) (y : B) → option_map f o ≡ Some y → (x : A) × (o ≡ Some x) × (f x ≡ y)
map_some f (Some x) y h = (x, refl, same_some (f x) y h)
map_some f None y h = absurd (cc)

pub kept : {A : Type 0} (b : Bool) (x y : A) → (if b then Some x else None) ≡ Some y → (b ≡ true) × (x ≡ y)
kept true x y h = (refl, same_some x y h)
kept false x y h = absurd (cc)

pub known_ok : {A : Type 0} (p : Path) (o : Option A) (x : A) → known p o ≡ Ok x → o ≡ Some x
known_ok p (Some y) x h = ap Some (same_ok y x h)
known_ok p None x h = absurd (cc)

pub formed_ok : {A : Type 0} (p : Path) (o : Option A) (x : A) → formed p o ≡ Ok x → o ≡ Some x
formed_ok p (Some y) x h = ap Some (same_ok y x h)
formed_ok p None x h = absurd (cc)

-- Numbers.

range_ok : (p : Path) (low high : ℕ) (z : ℤ) (n : ℕ) → in_range p low high z ≡ Ok n → (low ≤ n) × (n ≤ high)
range_ok p low high (pos m) n h =
    let t = held (nat_le low m && nat_le m high) m _ n h in
    let b = and_parts (nat_le low m) (nat_le m high) t.0 in
    let some : nat_le low m ≡ true = b.0 in
    let most : nat_le m high ≡ true = b.1 in
    let e : m ≡ n = t.1 in
    (subst (λ n. low ≤ n) e (grind (arith, nat_tests)), subst (λ n. n ≤ high) e (grind (arith, nat_tests)))
range_ok p low high (negsuc m) n h = absurd (cc)

number_ok : (p : Path) (low high : ℕ) (d : Data) (n : ℕ) → number p low high d ≡ Ok n → (low ≤ n) × (n ≤ high)
number_ok p low high (integer z) n h = range_ok p low high z n h
number_ok p low high _ n h = absurd (cc)

pub required_ok : (t : TableName) (k : Key) (low high : ℕ) (ms : Members) (n : ℕ) → required_number t k low high ms ≡ Ok n → (low ≤ n) × (n ≤ high)
required_ok t k low high ms n h = by_value (get_key k ms) h
  where
    by_value : (o : Option Data) → required (at t k) (λ p. number p low high) o ≡ Ok n → (low ≤ n) × (n ≤ high)
    by_value None h = absurd (cc)
    by_value (Some d) h = number_ok (at t k) low high d n h

pub optional_ok : (t : TableName) (k : Key) (low high : ℕ) (ms : Members) (n : ℕ) → low ≤ high → optional_number t k low high ms ≡ Ok n → (low ≤ n) × (n ≤ high)
optional_ok t k low high ms n some h = by_value (get_key k ms) h
  where
    by_value : (o : Option Data) → optional (at t k) low (λ p. number p low high) o ≡ Ok n → (low ≤ n) × (n ≤ high)
    by_value None h = let e : low ≡ n = same_ok low n h in (omega (arith, e), omega (arith, e, some))
    by_value (Some d) h = number_ok (at t k) low high d n h

pub given_ok : (t : TableName) (k : Key) (low high : ℕ) (ms : Members) (o : Option ℕ) → given_number t k low high ms ≡ Ok o → IfSome o (λ n. (low ≤ n) × (n ≤ high))
given_ok t k low high ms o h = by_value (get_key k ms) h
  where
    by_value : (v : Option Data) → optional (at t k) None (λ p d. number p low high d >>= (λ n. Ok (Some n))) v ≡ Ok o → IfSome o (λ n. (low ≤ n) × (n ≤ high))
    by_value None h = subst (λ o. IfSome o (λ n. (low ≤ n) × (n ≤ high))) (same_ok None o h) tt
    by_value (Some d) h =
        let n = bind_ok (number (at t k) low high d) _ o h in
        subst (λ o. IfSome o (λ n. (low ≤ n) × (n ≤ high))) (same_ok (Some n.0) o n.2) (number_ok (at t k) low high d n.0 n.1)

-- a number, and what comes after it
pub number_then : {B : Type 0} (t : TableName) (k : Key) (low high : ℕ) (ms : Members) (f : ℕ → Result B Refusal) (y : B) → (required_number t k low high ms >>= f) ≡ Ok y → (n : ℕ) × (low ≤ n) × (n ≤ high) × (f n ≡ Ok y)
number_then t k low high ms f y h =
    let a = bind_ok (required_number t k low high ms) f y h in
    let r = required_ok t k low high ms a.0 a.1 in
    (a.0, r.0, r.1, a.2)

pub option_then : {B : Type 0} (t : TableName) (k : Key) (low high : ℕ) (ms : Members) (f : ℕ → Result B Refusal) (y : B) → low ≤ high
    → (optional_number t k low high ms >>= f) ≡ Ok y → (n : ℕ) × (low ≤ n) × (n ≤ high) × (f n ≡ Ok y)
option_then t k low high ms f y some h =
    let a = bind_ok (optional_number t k low high ms) f y h in
    let r = optional_ok t k low high ms a.0 some a.1 in
    (a.0, r.0, r.1, a.2)

-- Lists.

pub each_ok : {A B : Type 0} (f : ℕ → A → Result B Refusal) (P : A → Type 0) (Q : B → Type 0) → ((i : ℕ) (x : A) (y : B) → P x → f i x ≡ Ok y → Q y)
    → (i : ℕ) (xs : List A) (ys : List B) → Each P xs → each f i xs ≡ Ok ys → Each Q ys × (length ys ≡ length xs)
each_ok f P Q s i [] ys e h = subst (λ ys. Each Q ys × (length ys ≡ 0)) (same_ok [] ys h) (tt, refl)
each_ok f P Q s i (x ∷ xs) ys e h =
    let a = bind_ok (f i x) _ ys h in
    let b = bind_ok (each f (i + 1) xs) _ ys a.2 in
    let r = each_ok f P Q s (i + 1) xs b.0 e.1 b.1 in
    subst (λ ys. Each Q ys × (length ys ≡ suc (length xs))) (same_ok (a.0 ∷ b.0) ys b.2) ((s i x a.0 e.0 a.1, r.0), ap suc r.1)

pub rows_ok : {A : Type 0} (t : TableName) (k : Key) (read : ℕ → Members → Result A Refusal) (P : A → Type 0) → ((i : ℕ) (ms : Members) (x : A) → read i ms ≡ Ok x → P x)
    → (i : ℕ) (ds : Items) (xs : List A) → rows t k read i ds ≡ Ok xs → Each P xs × (length xs ≡ count_items ds)
rows_ok t k read P s i no_items xs h = subst (λ xs. Each P xs × (length xs ≡ 0)) (same_ok [] xs h) (tt, refl)
rows_ok t k read P s i (item d ds) xs h =
    let a = bind_ok (row t k read i d) _ xs h in
    let c = bind_ok (table_at (element t k i) d) (read i) a.0 a.1 in
    let b = bind_ok (rows t k read (i + 1) ds) _ xs a.2 in
    let r = rows_ok t k read P s (i + 1) ds b.0 b.1 in
    subst (λ xs. Each P xs × (length xs ≡ suc (count_items ds))) (same_ok (a.0 ∷ b.0) xs b.2) ((s i c.0 a.0 c.2, r.0), ap suc r.1)
