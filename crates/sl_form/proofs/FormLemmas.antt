-- Names and bytes in hexadecimal.
use Rattle.std.proofs.Common.{◌≡◌, ℕ, ◌≤◌, List, [], ◌∷◌, ◌++◌, length, get_or, drop, Option, Some, None, Bool, true, false, nat_le, refl, sym, ap, subst, arith, append_assoc, append-nil}
use Rattle.std.specs.Prelude.{option_map, if◌then◌else◌}
use Rattle.std.proofs.lemmas.Bool.{and_parts, and_from}
use Rattle.std.proofs.lemmas.Bool.Decides.{nat_tests}
use Rattle.std.proofs.lemmas.Str.{IsUtf8-from_is_utf8, is_utf8-from_IsUtf8}
use Rattle.std.specs.Str.{IsUtf8, is_utf8}
use Rattle.sl_parts.specs.Text.{IsName}
use Rattle.sl_form.specs.Forms.{is_name, name_of, byte_of, pairs_of}

is_name_from : (text : List ℕ) → IsName text → is_name text ≡ true
is_name_from text h = and_from _ _ (grind (arith, nat_tests)) (and_from _ _ (grind (arith, nat_tests)) h.each)

name_from : (text : List ℕ) → is_name text ≡ true → IsName text
name_from text q =
    let p = and_parts _ _ q in
    let r = and_parts _ _ p.1 in
    let some : nat_le 1 (length text) ≡ true = p.0 in
    let most : nat_le (length text) 16 ≡ true = r.0 in
    record { some = grind (arith, nat_tests); at_most = grind (arith, nat_tests); each = r.1 }

pub no_name : (text : List ℕ) → (IsName text → ⊥) → None ≡ name_of text
no_name text h = by_test (is_name text) refl
  where
    by_test : (b : Bool) → is_name text ≡ b → None ≡ (if b then Some text else None)
    by_test true q = absurd (h (name_from text q))
    by_test false q = refl

pub a_name : (text name : List ℕ) → name ≡ text → IsName name → Some name ≡ name_of text
a_name text name e h = subst (λ t. Some name ≡ name_of t) e (ap (λ b. if b then Some name else None) (sym (is_name_from name h)))

-- what was read, after what was found before
abbrev pub with_bytes : List ℕ → Option (List ℕ) → Option (List ℕ)
with_bytes front rest = option_map (λ bytes. front ++ bytes) rest

pub pairs_more : (left front : List ℕ) (byte : ℕ) → 2 ≤ length left → byte_of (get_or left 0 0) (get_or left 1 0) ≡ Some byte → with_bytes front (pairs_of left) ≡ with_bytes (front ++ byte ∷ []) (pairs_of (drop 2 left))
pairs_more [] front byte h e = absurd (omega arith)
pairs_more (a ∷ []) front byte h e = absurd (omega arith)
pairs_more (a ∷ b ∷ rest) front byte h e = rw e (by_rest (pairs_of rest))
  where
    by_rest : (r : Option (List ℕ)) → with_bytes front (option_map (λ bytes. byte ∷ bytes) r) ≡ with_bytes (front ++ byte ∷ []) r
    by_rest None = refl
    by_rest (Some x) = ap Some (sym (append_assoc front (byte ∷ []) x))

pub pairs_none : (left front : List ℕ) → 2 ≤ length left → byte_of (get_or left 0 0) (get_or left 1 0) ≡ None → with_bytes front (pairs_of left) ≡ None
pairs_none [] front h e = absurd (omega arith)
pairs_none (a ∷ []) front h e = absurd (omega arith)
pairs_none (a ∷ b ∷ rest) front h e = rw e refl

pub pairs_empty : (left front : List ℕ) → length left ≡ 0 → with_bytes front (pairs_of left) ≡ Some front
pairs_empty [] front h = ap Some (append-nil front)
pairs_empty (a ∷ rest) front h = absurd (cc)

pub pairs_odd : (left front : List ℕ) → length left ≡ 1 → with_bytes front (pairs_of left) ≡ None
pairs_odd [] front h = absurd (cc)
pairs_odd (a ∷ []) front h = refl
pairs_odd (a ∷ b ∷ rest) front h = absurd (cc)

pub with_bytes_none : (r : Option (List ℕ)) → with_bytes [] r ≡ r
with_bytes_none None = refl
with_bytes_none (Some x) = refl

pub ruleset pair_steps = (pairs_more, pairs_none, pairs_empty, pairs_odd, with_bytes_none)

-- Texts.

pub not_text : (bs : List ℕ) → (IsUtf8 bs → ⊥) → is_utf8 bs ≡ false
not_text bs bad = by_test (is_utf8 bs) refl
  where
    by_test : (t : Bool) → is_utf8 bs ≡ t → is_utf8 bs ≡ false
    by_test true t = absurd (bad (IsUtf8-from_is_utf8 bs t))
    by_test false t = t

pub is_text : (bs : List ℕ) → IsUtf8 bs → is_utf8 bs ≡ true
is_text = is_utf8-from_IsUtf8

pub ruleset texts = (not_text, is_text)
