-- What a command with one flag and nothing else makes of any words.
use Rattle.std.proofs.Common.{◌≡◌, ◌+◌, ◌⊎◌, ℕ, suc, Bool, true, false, ◌==◌, List, [], ◌∷◌, map, Option, Some, None, option_map, codes, refl, ap, sym, subst, ◌∙◌, arith, inl, inr}
use Rattle.std.specs.Str.{bytes_eq, chars}
use Rattle.std.proofs.lemmas.Option.{same_Some}
use Rattle.std.proofs.lemmas.Bool.Decides.{nat_tests}
use Rattle.std.specs.Borrow.{Bor}
use Rattle.std.specs.Prelude.{option_and_then}
use Rattle.clap.specs.Values.{read_as}
use Rattle.clap.specs.Walk.{row_text, texts}
use Rattle.clap.specs.declared.builder.value_parser.Reading.{Reading}
use Rattle.std.specs.Prelude.{slice_get, find}
use Rattle.std.specs.List.{before_first}
use Rattle.std.specs.Cmp.Lexicographic.{same_text}
use Rattle.clap.specs.Matches.{one_text}
use Rattle.clap.specs.declared.parser.matches.Found.{Found}
use Rattle.clap.specs.Facts.{Entry}
use Rattle.clap.specs.Lexer.{has_byte, long_of, short_of, name_and_value}
use Rattle.clap.specs.Walk.{Row, Walk, Text, idle, walked, walk_from, nothing_held, one_of, row_of, rows_of, bundle_met}
use Rattle.clap.specs.Simple.{Shape, built, matches_of}
use Rattle.clap.specs.Takes.{takes}
use Rattle.clap.specs.Kinds.{Kinds, or_else}
use Rattle.clap.specs.Faults.{fault_of, turn_fault, walk_fault, flags_fault}
use Rattle.clap.proofs.OnLiterals.{clap_on_literals}
use Rattle.sl_words.specs.Words.{flag_app, flag_words, flag_word, name_of, ends, dashes}
use Rattle.sl_words.specs.declared.flags.Flag.{Flag}
use Rattle.sl_words.specs.declared.flags.Flag.TheVariants.{Trace, Input}

abbrev shape : Flag → Shape
shape f = (built (flag_app f)).top

abbrev pub Fails : Kinds → Type 0
Fails ks = ks ≡ [] → ⊥

fails_first : (ks rest : Kinds) → Fails ks → Fails (or_else ks rest)
fails_first [] rest h = λ e. h refl
fails_first (k ∷ ks) rest h = λ e. cc

fails_later : (ks rest : Kinds) → ks ≡ [] → Fails rest → Fails (or_else ks rest)
fails_later ks rest is h = rw is h

abbrev at_rows : List Row → Walk
at_rows rows = record { held = record { rows = rows; pending = None; skip = 0 }; waiting = idle; position = 1; is_trailing = false; stopped = None }

module _ (f : Flag) (rows : List Row) (w : Text) (not_dashes : bytes_eq w dashes ≡ false) where
  -- a word of flags of one letter, and a word that is no flag
  refused_short : long_of w ≡ None → (s : Option Text) → short_of w ≡ s → Fails (turn_fault (shape f) [] (at_rows rows) w)
  unfolding bundle_met flags_fault
  refused_short l None s = rw (not_dashes, l, s) (λ e. cc)
  refused_short l (Some []) s = rw (not_dashes, l, s) (λ e. cc)
  refused_short l (Some (x ∷ xs)) s = go (slice_get (chars (x ∷ xs)) 0) refl
    where
      go : (y : Option ℕ) → slice_get (chars (x ∷ xs)) 0 ≡ y → Fails (turn_fault (shape f) [] (at_rows rows) w)
      go None y = rw (not_dashes, l, s, y) (λ e. cc)
      go (Some c) y = rw (not_dashes, l, s, y) (λ e. cc)

  -- `--name` and `--name=value`
  refused_long : (name : Text) (v : Option Text) → long_of w ≡ Some (name, v) → ((bytes_eq (name_of f) name ≡ true) × (v ≡ None) → ⊥) → Fails (turn_fault (shape f) [] (at_rows rows) w)
  refused_long name v l other = go (bytes_eq (name_of f) name) refl v refl
    where
      go : (t : Bool) → bytes_eq (name_of f) name ≡ t → (u : Option Text) → v ≡ u → Fails (turn_fault (shape f) [] (at_rows rows) w)
      go false t u is = rw (not_dashes, l, t) (λ e. cc)
      go true t (Some x) is = rw (not_dashes, l, t, is) (λ e. cc)
      go true t None is = absurd (other (t, is))

after_trailing : (f : Flag) → (rows : List Row) (w : Text) → Fails (turn_fault (shape f) [] (record (at_rows rows) { is_trailing = true }) w)
after_trailing f rows w = λ e. cc

-- ---- names

one_more : (n : ℕ) → 1 + n ≡ suc n
one_more n = omega arith

whole_name : (xs : List ℕ) → has_byte 61 xs ≡ false → before_first (λ x. x == 61) xs ≡ xs
whole_name [] h = refl
whole_name (x ∷ xs) h = go (x == 61) refl (whole_name xs)
  where
    go : (t : Bool) → (x == 61) ≡ t → (has_byte 61 xs ≡ false → before_first (λ y. y == 61) xs ≡ xs) → before_first (λ y. y == 61) (x ∷ xs) ≡ x ∷ xs
    go true t ih = let bad = rw t at h in absurd (cc)
    go false t ih = let more : has_byte 61 xs ≡ false = rw t at h in rw (t, one_more) (ap (λ ys. x ∷ ys) (ih more))

bare_name : (text name : Text) → name_and_value text ≡ (name, None) → text ≡ name
bare_name text name told = go (has_byte 61 text) refl
  where
    go : (b : Bool) → has_byte 61 text ≡ b → text ≡ name
    go true b = let bad = ap (λ (p : Text × Option Text). p.1) (rw b at told) in absurd (cc)
    go false b = sym (whole_name text b) ∙ ap (λ (p : Text × Option Text). p.0) told

named : (w name : Text) → long_of w ≡ Some (name, None) → w ≡ 45 ∷ 45 ∷ name
named [] name e = absurd (cc)
named (x ∷ []) name e = go (x == 45) refl
  where
    go : (t : Bool) → (x == 45) ≡ t → x ∷ [] ≡ 45 ∷ 45 ∷ name
    go true t = let bad = rw t at e in absurd (cc)
    go false t = let bad = rw t at e in absurd (cc)
named (x ∷ y ∷ rest) name e = go (x == 45) refl (y == 45) refl rest refl
  where
    go : (t : Bool) → (x == 45) ≡ t → (u : Bool) → (y == 45) ≡ u → (r : Text) → rest ≡ r → x ∷ y ∷ rest ≡ 45 ∷ 45 ∷ name
    go false t u v r i = let bad = rw t at e in absurd (cc)
    go true t false v r i = let bad = rw (t, v) at e in absurd (cc)
    go true t true v [] i = let bad = rw (t, v, i) at e in absurd (cc)
    go true t true v (z ∷ zs) i =
        let told : Some (name_and_value (z ∷ zs)) ≡ Some (name, None) = rw (t, v, i) at e in
        let is_x : x ≡ 45 = grind (arith, nat_tests) in
        let is_y : y ≡ 45 = grind (arith, nat_tests) in
        rw (is_x, is_y, i) (ap (λ r. 45 ∷ 45 ∷ r) (bare_name (z ∷ zs) name (same_Some _ _ told)))

-- ---- the whole list of words

from_walk : (f : Flag) → (ws : List Text) → Fails (walk_fault (shape f) [] (walk_from nothing_held) ws) → Fails (fault_of (flag_app f) ws)
from_walk f ws h = fails_first _ _ h

abbrev pub flag_text : Bool → Text
flag_text true = codes "true"
flag_text false = codes "false"

-- the words are a spelling, or the parse fails
abbrev pub Settles : (f : Flag) → List Text → Type 0
Settles f ws = ((b : Bool) × (flag_words (flag_word f) ws ≡ Some b) × (takes (flag_app f) ws ≡ true) × (one_of (codes "flag") (matches_of (flag_app f) ws) ≡ Some (flag_text b)))
    ⊎ ((flag_words (flag_word f) ws ≡ None) × Fails (fault_of (flag_app f) ws))

nothing : (f : Flag) → Settles f []
unfolding clap_on_literals
nothing Trace = inl (false, refl, refl, refl)
nothing Input = inl (false, refl, refl, refl)

trailing : (f : Flag) → (rows : List Row) (w : Text) (rest : List Text) → Fails (walk_fault (shape f) [] (record (at_rows rows) { is_trailing = true }) (w ∷ rest))
unfolding walk_fault
trailing f rows w rest =
    let here = record (at_rows rows) { is_trailing = true } in
    fails_first (turn_fault (shape f) [] here w) (walk_fault (shape f) [] (walked (shape f).rules [] here w) rest) (after_trailing f rows w)

dashes_only : (f : Flag) → (rest : List Text) → Settles f (dashes ∷ rest)
unfolding clap_on_literals
dashes_only Trace [] = inl (false, refl, refl, refl)
dashes_only Input [] = inl (false, refl, refl, refl)
dashes_only Trace (w ∷ rest) = inr (refl, from_walk Trace (dashes ∷ w ∷ rest) (trailing Trace [] w rest))
dashes_only Input (w ∷ rest) = inr (refl, from_walk Input (dashes ∷ w ∷ rest) (trailing Input [] w rest))

same_flag : (f : Flag) → bytes_eq (flag_word f) (flag_word f) ≡ true
same_flag Trace = refl
same_flag Input = refl

-- another word, that is no --
other_word : (f : Flag) → (rows : List Row) (w : Text) → bytes_eq w dashes ≡ false → bytes_eq w (flag_word f) ≡ false → Fails (turn_fault (shape f) [] (at_rows rows) w)
other_word f rows w a b = go (long_of w) refl (short_of w) refl
  where
    go : (l : Option (Text × Option Text)) → long_of w ≡ l → (s : Option Text) → short_of w ≡ s → Fails (turn_fault (shape f) [] (at_rows rows) w)
    go None l u s = refused_short f rows w a l u s
    go (Some (name, v)) l u s = refused_long f rows w a name v l (λ known.
        let bare : long_of w ≡ Some (name, None) = rw known.1 at l in
        let is : w ≡ flag_word f = named w name bare ∙ ap (λ r. 45 ∷ 45 ∷ r) (sym (same_text (name_of f) name (sym known.0))) in
        let bad : bytes_eq (flag_word f) (flag_word f) ≡ false = rw is at b in
        let no : true ≡ false = sym (same_flag f) ∙ bad in absurd (cc))

other_first : (f : Flag) → (w : Text) (rest : List Text) → bytes_eq w dashes ≡ false → bytes_eq w (flag_word f) ≡ false → Fails (walk_fault (shape f) [] (walk_from nothing_held) (w ∷ rest))
unfolding walk_fault
other_first f w rest a b =
    fails_first (turn_fault (shape f) [] (at_rows []) w) (walk_fault (shape f) [] (walked (shape f).rules [] (at_rows []) w) rest) (other_word f [] w a b)

-- where the flag was used
abbrev flagged : (f : Flag) → Walk
flagged f = walked (shape f).rules [] (walk_from nothing_held) (flag_word f)

abbrev used_rows : (f : Flag) → List Row
used_rows f = (flagged f).held.rows

flagged_is : (f : Flag) → flagged f ≡ at_rows (used_rows f)
unfolding clap_on_literals
flagged_is Trace = refl
flagged_is Input = refl

twice : (f : Flag) → Fails (turn_fault (shape f) [] (at_rows (used_rows f)) (flag_word f))
unfolding clap_on_literals
twice Trace = λ e. cc
twice Input = λ e. cc

after_flag : (f : Flag) → (w : Text) → bytes_eq w dashes ≡ false → Fails (turn_fault (shape f) [] (at_rows (used_rows f)) w)
after_flag f w a = go (bytes_eq w (flag_word f)) refl
  where
    go : (t : Bool) → bytes_eq w (flag_word f) ≡ t → Fails (turn_fault (shape f) [] (at_rows (used_rows f)) w)
    go true t = let is : w ≡ flag_word f = same_text w (flag_word f) (sym t) in subst (λ (u : Text). Fails (turn_fault (shape f) [] (at_rows (used_rows f)) u)) (sym is) (twice f)
    go false t = other_word f (used_rows f) w a t

flag_first : (f : Flag) → turn_fault (shape f) [] (walk_from nothing_held) (flag_word f) ≡ []
unfolding clap_on_literals
flag_first Trace = refl
flag_first Input = refl

flag_then : (f : Flag) → (w : Text) (rest : List Text) → bytes_eq w dashes ≡ false → Fails (walk_fault (shape f) [] (walk_from nothing_held) ((flag_word f) ∷ w ∷ rest))
unfolding walk_fault
flag_then f w rest a =
    let here = fails_first (turn_fault (shape f) [] (at_rows (used_rows f)) w) (walk_fault (shape f) [] (walked (shape f).rules [] (at_rows (used_rows f)) w) rest) (after_flag f w a) in
    fails_later (turn_fault (shape f) [] (walk_from nothing_held) (flag_word f)) (walk_fault (shape f) [] (flagged f) (w ∷ rest)) (flag_first f)
    (subst (λ (u : Walk). Fails (walk_fault (shape f) [] u (w ∷ rest))) (sym (flagged_is f)) here)

flag_dashes : (f : Flag) → (rest : List Text) → Settles f ((flag_word f) ∷ dashes ∷ rest)
unfolding clap_on_literals
flag_dashes Trace [] = inl (true, refl, refl, refl)
flag_dashes Input [] = inl (true, refl, refl, refl)
flag_dashes Trace (w ∷ rest) = inr (refl, from_walk Trace ((flag_word Trace) ∷ dashes ∷ w ∷ rest) (trailing Trace (used_rows Trace) w rest))
flag_dashes Input (w ∷ rest) = inr (refl, from_walk Input ((flag_word Input) ∷ dashes ∷ w ∷ rest) (trailing Input (used_rows Input) w rest))

ends_none : (b : Bool) (w : Text) (rest : List Text) → bytes_eq w dashes ≡ false → ends b (w ∷ rest) ≡ None
ends_none b w [] a = rw a refl
ends_none b w (x ∷ rest) a = refl

with_flag : (f : Flag) → (rest : List Text) → Settles f ((flag_word f) ∷ rest)
unfolding clap_on_literals
with_flag Trace [] = inl (true, refl, refl, refl)
with_flag Input [] = inl (true, refl, refl, refl)
with_flag f (w ∷ rest) = go (bytes_eq w dashes) refl
  where
    go : (t : Bool) → bytes_eq w dashes ≡ t → Settles f ((flag_word f) ∷ w ∷ rest)
    go true t = subst (λ (u : Text). Settles f ((flag_word f) ∷ u ∷ rest)) (sym (same_text w dashes (sym t))) (flag_dashes f rest)
    go false t = inr (rw (same_flag f) (ends_none true w rest t), from_walk f ((flag_word f) ∷ w ∷ rest) (flag_then f w rest t))

pub settles : (f : Flag) → (ws : List Text) → Settles f ws
settles f [] = nothing f
settles f (w ∷ rest) = first (bytes_eq w (flag_word f)) refl (bytes_eq w dashes) refl
  where
    first : (t : Bool) → bytes_eq w (flag_word f) ≡ t → (u : Bool) → bytes_eq w dashes ≡ u → Settles f (w ∷ rest)
    first true t u d = subst (λ (x : Text). Settles f (x ∷ rest)) (sym (same_text w (flag_word f) (sym t))) (with_flag f rest)
    first false t true d = subst (λ (x : Text). Settles f (x ∷ rest)) (sym (same_text w dashes (sym d))) (dashes_only f rest)
    first false t false d = inr (rw t (ends_none false w rest d), from_walk f (w ∷ rest) (other_first f w rest d t))

-- ---- what `get_flag` reads

first_text : (how : Reading) (vs : List (Bor Text)) → option_map (λ s. read_as how s.now) (slice_get vs 0) ≡ option_map (read_as how) (slice_get (texts vs) 0)
first_text how [] = refl
first_text how (v ∷ vs) = refl

same_entry : (id : Text) (es : List Entry) → option_and_then (λ a. option_map (λ s. read_as a.reading s.now) (slice_get a.vals.items 0)) (option_map (λ e. e.1) (find (λ e. bytes_eq e.0.now id) es))
    ≡ option_and_then row_text (find (λ r. bytes_eq r.id id) (map row_of es))
same_entry id [] = refl
same_entry id (e ∷ es) = go (bytes_eq e.0.now id) refl (same_entry id es)
  where
    go : (t : Bool) → bytes_eq e.0.now id ≡ t
        → option_and_then (λ a. option_map (λ s. read_as a.reading s.now) (slice_get a.vals.items 0)) (option_map (λ x. x.1) (find (λ x. bytes_eq x.0.now id) es)) ≡ option_and_then row_text (find (λ r. bytes_eq r.id id) (map row_of es))
        → option_and_then (λ a. option_map (λ s. read_as a.reading s.now) (slice_get a.vals.items 0)) (option_map (λ x. x.1) (find (λ x. bytes_eq x.0.now id) (e ∷ es))) ≡ option_and_then row_text (find (λ r. bytes_eq r.id id) (map row_of (e ∷ es)))
    go true t ih = rw t (first_text e.1.reading e.1.vals.items)
    go false t ih = rw t ih

pub one_text-rows : (f : Found) (id : Text) → one_text f id ≡ one_of id (rows_of f)
one_text-rows f id = same_entry id f.entries.items
