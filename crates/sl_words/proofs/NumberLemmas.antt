-- The number among the words, found from the front.
use Rattle.std.proofs.Common.{◌≡◌, ℕ, ◌+◌, ◌<◌, List, [], ◌∷◌, ◌++◌, length, get_or, drop, map, Option, Some, None, option_map, String, Global, string_bytes, refl, ap, sym, ◌∙◌, append_assoc, append-nil}
use Rattle.std.proofs.lemmas.List.{drop_more}
use Rattle.sl_words.specs.Words.{sample_number, take_number}

abbrev Text : Type 0
Text = List ℕ

-- what comes of the rest, after a number or none, and the other words so far
abbrev pub resumed : Option ℕ → List Text → List Text → Option (ℕ × List Text)
resumed (Some n) others rest = Some (n, others ++ rest)
resumed None others rest = option_map {T = ℕ × List Text} {U = ℕ × List Text} (λ p. (p.0, others ++ p.1)) (take_number rest)

put_off : (others : List Text) (w : Text) (o : Option (ℕ × List Text))
    → option_map {T = ℕ × List Text} {U = ℕ × List Text} (λ p. (p.0, others ++ p.1)) (option_map {T = ℕ × List Text} {U = ℕ × List Text} (λ p. (p.0, w ∷ p.1)) o) ≡ option_map {T = ℕ × List Text} {U = ℕ × List Text} (λ p. (p.0, (others ++ w ∷ []) ++ p.1)) o
put_off others w None = refl
put_off others w (Some p) = ap (λ (ws : List Text). Some (p.0, ws)) (sym (append_assoc others (w ∷ []) p.1))

module _ (words : List (String Global)) (i : ℕ) (d : String Global) (others : List Text) (here : i < length words) where
  pub found_number : (n : ℕ) → sample_number (string_bytes (get_or words i d)) ≡ Some n
      → resumed None others (map string_bytes (drop i words)) ≡ resumed (Some n) others (map string_bytes (drop (i + 1) words))
  found_number n e = rw (drop_more words i d here, e) refl

  pub no_number : sample_number (string_bytes (get_or words i d)) ≡ None
      → resumed None others (map string_bytes (drop i words)) ≡ resumed None (others ++ string_bytes (get_or words i d) ∷ []) (map string_bytes (drop (i + 1) words))
  no_number e = rw (drop_more words i d here, e) (put_off others _ _)

  pub later_word : (n : ℕ) → resumed (Some n) others (map string_bytes (drop i words)) ≡ resumed (Some n) (others ++ string_bytes (get_or words i d) ∷ []) (map string_bytes (drop (i + 1) words))
  later_word n = rw (drop_more words i d here) (ap (λ (ws : List Text). Some (n, ws)) (sym (append_assoc others (string_bytes (get_or words i d) ∷ []) _)))

pub ruleset number_steps = (found_number, no_number, later_word, append-nil)
