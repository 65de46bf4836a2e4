-- The readers of TOML's grammar leave no more text than they get: strings, keys, and the text between.
use Rattle.std.proofs.Common.{ℕ, zero, suc, ◌≤◌, Bool, true, false, List, [], ◌∷◌, ◌++◌, length, drop, Option, Some, None, is_some, unwrap_or, arith, length-drop, inl, inr}
use Rattle.std.specs.Prelude.{IfSome, if◌then◌else◌, option_map, option_and_then, ◌==◌, ◌&&◌, nat_lt, encode_utf8, slice_index}
use Rattle.std.specs.List.{prefix_len}
use Rattle.std.proofs.lemmas.Bool.{cases_Bool}
use Rattle.toml_parser.specs.Lexical.{Read, first, skip_ws, skip_from, skip_turn, skip_lines, skip_blank, split_while, starts_newline, is_ws, is_bare}
use Rattle.toml_parser.specs.Strings.{hex_len, hex_escape, simple_escape, escape_char, escape, at_delims, special, prepend, after_piece, body, trim_newline, one_line, quoted, simple_key, key_after, key, is_plain, starts_string}
use Rattle.toml.specs.Parse.{after_byte, after_element, key_equals, header_key}

-- Steps that may fail: what holds of what they give.

pub some-then : {A B : Type 0} (P : A → Type 0) (Q : B → Type 0) (f : A → Option B) (o : Option A) → IfSome o P → ((x : A) → P x → IfSome (f x) Q) → IfSome (option_and_then f o) Q
some-then P Q f None h k = tt
some-then P Q f (Some x) h k = k x h

pub some-map : {A B : Type 0} (P : A → Type 0) (Q : B → Type 0) (f : A → B) (o : Option A) → IfSome o P → ((x : A) → P x → Q (f x)) → IfSome (option_map f o) Q
some-map P Q f None h k = tt
some-map P Q f (Some x) h k = k x h

pub some-if : {A : Type 0} (P : A → Type 0) (b : Bool) (x y : Option A) → IfSome x P → IfSome y P → IfSome (if b then x else y) P
some-if P true x y h k = h
some-if P false x y h k = k

pub some-any : {A : Type 0} (o : Option A) → IfSome o (λ _. Unit {0})
some-any None = tt
some-any (Some x) = tt

-- what was read leaves at most n bytes
abbrev pub Leaves : {A : Type 0} → ℕ → A × List ℕ → Type 0
Leaves n p = length p.1 ≤ n

abbrev pub IsShort : ℕ → List ℕ → Type 0
IsShort n text = length text ≤ n

-- Text that is dropped or skipped.

pub drop-short : (k n : ℕ) (text : List ℕ) → IsShort n text → IsShort n (drop k text)
drop-short k n text h = omega (arith, length-drop k text, h)

pub skip-short : (comments inside : Bool) (n : ℕ) (text : List ℕ) → IsShort n text → IsShort n (skip_from comments inside text)
unfolding skip_from
skip-short comments inside n [] h = h
skip-short comments inside n (c ∷ cs) h =
    let next = skip-short comments (unwrap_or (skip_turn comments inside c (first cs)) false) n cs (omega (arith, h)) in
    elim (cases_Bool (is_some (skip_turn comments inside c (first cs)))) [
      | inl more ↦ rw more next
      | inr stop ↦ rw stop h
    ]

pub blank-short : (n : ℕ) (text : List ℕ) → IsShort n text → IsShort n (skip_blank text)
blank-short n text h = skip-short true false n text h

pub ws-short : (n : ℕ) (text : List ℕ) → IsShort n text → IsShort n (skip_ws text)
unfolding skip_ws
ws-short n text h = drop-short (prefix_len is_ws text) n text h

-- Strings.

hex-leaves : (k n : ℕ) (text : List ℕ) → IsShort n text → IfSome (hex_escape k text) (Leaves n)
unfolding hex_escape
hex-leaves k n text h = some-if (Leaves n) _ (Some (_, drop k text)) None (drop-short k n text h) tt

char-leaves : (n : ℕ) (text : List ℕ) → IsShort n text → IfSome (escape_char text) (Leaves n)
unfolding escape_char
char-leaves n text h = some-if (Leaves n) (nat_lt 0 (hex_len (first text))) (hex_escape (hex_len (first text)) (drop 1 text)) (option_map (λ c. (c, drop 1 text)) (simple_escape (first text)))
    (hex-leaves (hex_len (first text)) n (drop 1 text) (drop-short 1 n text h))
    (some-map (λ _. Unit {0}) (Leaves n) (λ c. (c, drop 1 text)) (simple_escape (first text)) (some-any (simple_escape (first text))) (λ c k. drop-short 1 n text h))

escape-leaves : (multi : Bool) (n : ℕ) (text : List ℕ) → IsShort n text → IfSome (escape multi text) (Leaves n)
unfolding escape
escape-leaves multi n text h = some-if (Leaves n) (multi && starts_newline (skip_ws text)) (Some ([], skip_lines text)) (option_map (λ p. (encode_utf8 p.0, p.1)) (escape_char text))
    (skip-short false false n text h)
    (some-map (Leaves n) (Leaves n) (λ p. (encode_utf8 p.0, p.1)) (escape_char text) (char-leaves n text h) (λ p k. k))

delims-leaves : (delim n : ℕ) (text : List ℕ) → IsShort n text → IfSome (at_delims delim text) (Leaves n)
delims-leaves delim n text h =
    let count = prefix_len (λ c. c == delim) text in
    some-if (Leaves n) (count == 3) (Some (None, drop 3 text)) (if nat_lt count 6 then Some (Some (delim ∷ []), drop 1 text) else None) (drop-short 3 n text h)
    (some-if (Leaves n) (nat_lt count 6) (Some (Some (delim ∷ []), drop 1 text)) None (drop-short 1 n text h) tt)

special-leaves : (delim : ℕ) (multi : Bool) (n : ℕ) (text : List ℕ) → IsShort n text → IfSome (special delim multi text) (Leaves n)
unfolding special
special-leaves delim multi n text h =
    let short = drop-short 1 n text h in
    let ends : Read (Option (List ℕ)) = if multi then at_delims delim text else Some (None, drop 1 text) in
    let newline : Read (Option (List ℕ)) = if multi && starts_newline text then Some (Some (first text ∷ []), drop 1 text) else None in
    let escaped : Read (Option (List ℕ)) = option_map (λ p. (Some p.0, p.1)) (escape multi (drop 1 text)) in
    some-if (Leaves n) (first text == delim) ends (if first text == 92 then escaped else newline) (some-if (Leaves n) multi (at_delims delim text) (Some (None, drop 1 text)) (delims-leaves delim n text h) short)
    (some-if (Leaves n) (first text == 92) escaped newline (some-map (Leaves n) (Leaves n) (λ p. (Some p.0, p.1)) (escape multi (drop 1 text)) (escape-leaves multi n (drop 1 text) short) (λ p k. k))
    (some-if (Leaves n) (multi && starts_newline text) (Some (Some (first text ∷ []), drop 1 text)) None short tt))

prepend-leaves : (front : List ℕ) (n : ℕ) (r : Read (List ℕ)) → IfSome r (Leaves n) → IfSome (prepend front r) (Leaves n)
prepend-leaves front n r h = some-map (Leaves n) (Leaves n) (λ p. (front ++ p.0, p.1)) r h (λ p k. k)

piece-leaves : (more : List ℕ → Read (List ℕ)) (piece : Option (List ℕ)) (n : ℕ) (rest : List ℕ) → IsShort n rest → IfSome (more rest) (Leaves n) → IfSome (after_piece more piece rest) (Leaves n)
piece-leaves more None n rest h k = h
piece-leaves more (Some bytes) n rest h k = prepend-leaves bytes n (more rest) k

body-leaves : (delim : ℕ) (multi : Bool) (m n : ℕ) (text : List ℕ) → IsShort n text → IfSome (body delim multi m text) (Leaves n)
unfolding body
body-leaves delim multi zero n text h = tt
body-leaves delim multi (suc m) n text h = some-if (Leaves n) (is_plain delim multi (first text)) (prepend (first text ∷ []) (body delim multi m (drop 1 text))) (option_and_then (λ p. after_piece (body delim multi m) p.0 p.1) (special delim multi text))
    (prepend-leaves (first text ∷ []) n (body delim multi m (drop 1 text)) (body-leaves delim multi m n (drop 1 text) (drop-short 1 n text h)))
    (some-then (Leaves n) (Leaves n) (λ p. after_piece (body delim multi m) p.0 p.1) (special delim multi text) (special-leaves delim multi n text h)
    (λ p k. piece-leaves (body delim multi m) p.0 n p.1 k (body-leaves delim multi m n p.1 k)))

trim-short : (n : ℕ) (text : List ℕ) → IsShort n text → IsShort n (trim_newline text)
trim-short n text h = by_tests (first text == 10) (starts_newline text)
  where
    by_tests : (a b : Bool) → IsShort n (if a then drop 1 text else if b then drop 2 text else text)
    by_tests true b = drop-short 1 n text h
    by_tests false true = drop-short 2 n text h
    by_tests false false = h

line-leaves : (n : ℕ) (text : List ℕ) → IsShort n text → IfSome (one_line text) (Leaves n)
unfolding one_line
line-leaves n text h = body-leaves (first text) false (length text) n (drop 1 text) (drop-short 1 n text h)

pub quoted-leaves : (n : ℕ) (text : List ℕ) → IsShort n text → IfSome (quoted text) (Leaves n)
unfolding quoted
quoted-leaves n text h = some-if (Leaves n) (slice_index text 1 == first text && slice_index text 2 == first text) (body (first text) true (length text) (trim_newline (drop 3 text))) (one_line text)
    (body-leaves (first text) true (length text) n (trim_newline (drop 3 text)) (trim-short n (drop 3 text) (drop-short 3 n text h)))
    (line-leaves n text h)

-- Keys.

simple-leaves : (n : ℕ) (text : List ℕ) → IsShort n text → IfSome (simple_key text) (Leaves n)
unfolding simple_key
simple-leaves n text h = some-if (Leaves n) (starts_string text) (one_line text) (if is_bare (first text) then Some (split_while is_bare text) else None) (line-leaves n text h)
    (some-if (Leaves n) (is_bare (first text)) (Some (split_while is_bare text)) None (drop-short (prefix_len is_bare text) n text h) tt)

after-leaves : (m n : ℕ) (path : List (List ℕ)) (text : List ℕ) → IsShort n text → IfSome (key_after m path text) (Leaves n)
unfolding key_after
after-leaves zero n path text h = tt
after-leaves (suc m) n path text h = some-then (Leaves n) (Leaves n) _ (simple_key text) (simple-leaves n text h)
    (λ p k. some-if (Leaves n) (first (skip_ws p.1) == 46) (key_after m (path ++ p.0 ∷ []) (skip_ws (drop 1 (skip_ws p.1)))) (Some ((path, p.0), skip_ws p.1))
    (after-leaves m n (path ++ p.0 ∷ []) (skip_ws (drop 1 (skip_ws p.1))) (ws-short n (drop 1 (skip_ws p.1)) (drop-short 1 n (skip_ws p.1) (ws-short n p.1 k))))
    (ws-short n p.1 k))

key-leaves : (n : ℕ) (text : List ℕ) → IsShort n text → IfSome (key text) (Leaves n)
key-leaves n text h = after-leaves 80 n [] text h

pub byte-short : (byte n : ℕ) (text : List ℕ) → IsShort n text → IfSome (after_byte byte text) (IsShort n)
byte-short byte n text h = some-if (IsShort n) (first text == byte) (Some (drop 1 text)) None (drop-short 1 n text h) tt

pub element-short : (closing n : ℕ) (text : List ℕ) → IsShort n text → IfSome (after_element closing text) (IsShort n)
unfolding after_element
element-short closing n text h =
    let rest = skip_blank text in
    let short = blank-short n text h in
    some-if (IsShort n) (first rest == 44) (Some (drop 1 rest)) (if first rest == closing then Some rest else None) (drop-short 1 n rest short)
    (some-if (IsShort n) (first rest == closing) (Some rest) None short tt)

pub equals-leaves : (n : ℕ) (text : List ℕ) → IsShort n text → IfSome (key_equals text) (Leaves n)
unfolding key_equals
equals-leaves n text h = some-then (Leaves n) (Leaves n) _ (key text) (key-leaves n text h)
    (λ k short. some-map (IsShort n) (Leaves n) (λ rest. (k.0, skip_ws rest)) (after_byte 61 k.1) (byte-short 61 n k.1 short) (λ rest s. ws-short n rest s))

pub header-leaves : (n : ℕ) (text : List ℕ) → IsShort n text → IfSome (header_key text) (Leaves n)
unfolding header_key
header-leaves n text h = some-then (Leaves n) (Leaves n) _ (key (skip_ws text)) (key-leaves n (skip_ws text) (ws-short n text h))
    (λ k short. some-map (IsShort n) (Leaves n) (λ rest. (k.0, rest)) (after_byte 93 k.1) (byte-short 93 n k.1 short) (λ rest s. s))
