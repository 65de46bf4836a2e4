-- The words of a command with no option, by those of one with an option.
use Rattle.std.proofs.Common.{◌≡◌, ℕ, Bool, true, false, not, List, [], ◌∷◌, Option, Some, None, is_some, refl, sym, subst}
use Rattle.std.specs.Str.{bytes_eq}
use Rattle.std.specs.Cmp.Lexicographic.{same_text}
use Rattle.sl_words.specs.Words.{flag_words, flag_word, ends, dashes}
use Rattle.sl_words.specs.declared.flags.Flag.TheVariants.{Trace}

abbrev pub plain : Option Bool → Bool
plain None = false
plain (Some asked) = not asked

after_option : (rest : List (List ℕ)) → plain (ends true rest) ≡ is_some (ends false (flag_word Trace ∷ rest))
after_option [] = refl
after_option (w ∷ []) = go (bytes_eq w dashes) refl
  where
    go : (t : Bool) → bytes_eq w dashes ≡ t → plain (ends true (w ∷ [])) ≡ false
    go true t = rw t refl
    go false t = rw t refl
after_option (w ∷ x ∷ rest) = refl

with_none : (ws : List (List ℕ)) → plain (ends false ws) ≡ is_some (ends false ws)
with_none [] = refl
with_none (w ∷ []) = go (bytes_eq w dashes) refl
  where
    go : (t : Bool) → bytes_eq w dashes ≡ t → plain (ends false (w ∷ [])) ≡ is_some (ends false (w ∷ []))
    go true t = rw t refl
    go false t = rw t refl
with_none (w ∷ x ∷ rest) = refl

pub no_option : (ws : List (List ℕ)) (r : Option Bool) → r ≡ flag_words (flag_word Trace) ws → plain r ≡ is_some (ends false ws)
no_option [] r e = rw e refl
no_option (w ∷ rest) r e = rw e (go (bytes_eq w (flag_word Trace)) refl)
  where
    go : (t : Bool) → bytes_eq w (flag_word Trace) ≡ t → plain (flag_words (flag_word Trace) (w ∷ rest)) ≡ is_some (ends false (w ∷ rest))
    go true t = let is : w ≡ flag_word Trace = same_text w (flag_word Trace) (sym t) in
        rw t (subst (λ (u : List ℕ). plain (ends true rest) ≡ is_some (ends false (u ∷ rest))) (sym is) (after_option rest))
    go false t = rw t (with_none (w ∷ rest))
