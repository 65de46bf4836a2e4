-- The texts of lists, from a place on.
use Rattle.std.proofs.Common.{◌≡◌, ℕ, ◌+◌, ◌<◌, ◌≤◌, min, List, [], ◌∷◌, ◌++◌, length, get_or, drop, refl, sym, ap, ◌∙◌, append-nil, ◌⊎◌, inl, inr, arith}
use Rattle.std.proofs.lemmas.List.{drop_more, drop_all}
use Rattle.std.proofs.lemmas.Bool.{cases_order}
use Rattle.std.specs.List.{flat_map}
use Rattle.sl_layout.specs.Net.{Net}
use Rattle.sl_value.specs.declared.whole.Whole.{Whole}
use Rattle.sl_value.specs.declared.verdict.ValueFinding.{ValueFinding}
use Rattle.sl_value.specs.ValuesText.{value_line, value_lines, value_finding_text}

pub lines_more : (net : Net) (us : List ℕ) (vs : List Whole) (i : ℕ) (d : Whole) → i < length us → i < length vs
    → value_lines net (drop i us) (drop i vs) ≡ value_line net (get_or us i 0) (get_or vs i d) ++ value_lines net (drop (i + 1) us) (drop (i + 1) vs)
lines_more net us vs i d h k = rw (drop_more us i 0 h, drop_more vs i d k) refl

pub lines_none : (net : Net) (us : List ℕ) (vs : List Whole) (i : ℕ) → min (length us) (length vs) ≤ i → value_lines net (drop i us) (drop i vs) ≡ []
lines_none net us vs i h = go (cases_order (length us) i) (cases_order (length vs) i)
  where
    no_lines : (ks : List ℕ) → value_lines net ks [] ≡ []
    no_lines [] = refl
    no_lines (k ∷ ks) = refl

    go : (length us ≡ i) ⊎ ((length us < i) ⊎ (i < length us)) → (length vs ≡ i) ⊎ ((length vs < i) ⊎ (i < length vs)) → value_lines net (drop i us) (drop i vs) ≡ []
    go (inl a) o = rw (drop_all i us (omega arith)) refl
    go (inr (inl a)) o = rw (drop_all i us (omega arith)) refl
    go (inr (inr a)) (inl b) = rw (drop_all i vs (omega arith)) (no_lines (drop i us))
    go (inr (inr a)) (inr (inl b)) = rw (drop_all i vs (omega arith)) (no_lines (drop i us))
    go (inr (inr a)) (inr (inr b)) = absurd (omega arith)

pub findings_more : (net : Net) (fs : List ValueFinding) (i : ℕ) (d : ValueFinding) → i < length fs
    → flat_map (value_finding_text net) (drop i fs) ≡ value_finding_text net (get_or fs i d) ++ flat_map (value_finding_text net) (drop (i + 1) fs)
findings_more net fs i d h = rw (drop_more fs i d h) refl

-- where nothing is left to write, all is written
pub written_all : (out old rest whole : List ℕ) → out ++ rest ≡ old ++ whole → rest ≡ [] → out ≡ old ++ whole
written_all out old rest whole e none = sym (append-nil out) ∙ ap (λ r. out ++ r) (sym none) ∙ e
