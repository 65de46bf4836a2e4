-- Loops over lists, and over numbers.
use Rattle.std.proofs.Common.{◌≡◌, ℕ, ◌+◌, ◌<◌, List, ◌++◌, length, get_or, drop, refl, sym, ap, ◌∙◌, length-append, arith, []}
use Rattle.std.proofs.lemmas.List.{drop_more}
use Rattle.std.specs.Prelude.{Bool, true, false, cond, filter, ◌∷◌}
use Rattle.std.specs.List.{flat_map}
use Rattle.sl_parts.specs.Parts.{Parts, below}
use Rattle.sl_parts.proofs.Lists.{filter_below_more}
use Rattle.sl_balance.specs.declared.line.Line1.{Line1}
use Rattle.sl_balance.specs.BalanceText.{line_text}

pub lines_more : (parts : Parts) (ls : List Line1) (i : ℕ) (d : Line1) → i < length ls → flat_map (line_text parts) (drop i ls) ≡ line_text parts (get_or ls i d) ++ flat_map (line_text parts) (drop (i + 1) ls)
lines_more parts ls i d h = rw (drop_more ls i d h) refl

-- of those numbers that pass
pub passing_more : (test : ℕ → Bool) (n : ℕ) (b : Bool) (out new : List ℕ) → new ≡ out ++ cond b (n ∷ []) [] → b ≡ test n → out ≡ filter test (below n) → new ≡ filter test (below (n + 1))
passing_more test n b out new e is so_far = e ∙ ap (λ xs. xs ++ cond b (n ∷ []) []) so_far ∙ ap (λ c. filter test (below n) ++ cond c (n ∷ []) []) is ∙ sym (filter_below_more test n)

-- how many of them
pub count_more : (test : ℕ → Bool) (n : ℕ) → length (filter test (below (n + 1))) ≡ length (filter test (below n)) + cond (test n) 1 0
count_more test n = ap length (filter_below_more test n) ∙ simp length-append (go (test n))
  where
    go : (b : Bool) → length (filter test (below n)) + length (cond b (n ∷ []) []) ≡ length (filter test (below n)) + cond b 1 0
    go true = omega arith
    go false = omega arith
