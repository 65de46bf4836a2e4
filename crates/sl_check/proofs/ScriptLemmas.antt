-- A text is that of one script at most.
use Rattle.std.proofs.Common.{◌≡◌, ℕ, List, [], ◌∷◌, ◌++◌, map, length, get_or, drop, inl, inr, refl, sym, ap, ◌∙◌, append-nil}
use Rattle.std.specs.List.{All}
use Rattle.std.proofs.lemmas.List.{map-append, length-map}
use Rattle.std.proofs.lemmas.List.Elements.{All-nil, All-cons, All-head, All-tail, All-append}
use Rattle.std.specs.Prelude.{codes}
use Rattle.sl_parts.specs.Lists.{Each, Member}
use Rattle.sl_layout.specs.Net.{Net}
use Rattle.sl_net.specs.Spelling.{choice_text, HasChoice}
use Rattle.sl_net.specs.Spelled.{HasOneSpelling}
use Rattle.sl_check.specs.Lines.{IsLine, lines_text}
use Rattle.sl_check.specs.Spellings.{SpellsLines, IsTurn, script_text, IsScript}
use Rattle.sl_check.proofs.LineLemmas.{line_is_first, line_has_none, lines_step, lines_more}

-- these turns were read, and this is left
pub record HasRead (net : Net) (text : List ℕ) (es : List (ℕ × ℕ)) (rest : List ℕ) : Type 0 where
  pub choices : All (IsTurn net) es
  pub whole : text ≡ script_text net es ++ rest

pub spelled-lines : (net : Net) (es : List (ℕ × ℕ)) → SpellsLines net → All (IsTurn net) es → Each IsLine (map (λ e. choice_text net e.0 e.1) es)
spelled-lines net [] k all = tt
spelled-lines net (e ∷ es) k all = (k e.0 e.1 (All-head (IsTurn net) e es all), spelled-lines net es k (All-tail (IsTurn net) e es all))

pub read_more : (net : Net) (text : List ℕ) (es : List (ℕ × ℕ)) (rest line next : List ℕ) (e : ℕ × ℕ) → HasRead net text es rest → rest ≡ line ++ (codes "\n" ++ next)
    → HasChoice net e.0 e.1 → choice_text net e.0 e.1 ≡ line → HasRead net text (es ++ (e ∷ [])) next
read_more net text es rest line next e p s h t = record {
  choices = All-append (IsTurn net) es (e ∷ []) p.choices (All-cons (IsTurn net) e [] h (All-nil (IsTurn net)));
  whole = p.whole ∙ ap (λ (r : List ℕ). script_text net es ++ r) (s ∙ ap (λ (l : List ℕ). l ++ (codes "\n" ++ next)) (sym t))
      ∙ sym (lines_more (map (λ e. choice_text net e.0 e.1) es) (choice_text net e.0 e.1) next)
      ∙ ap (λ (ls : List (List ℕ)). lines_text ls ++ next) (sym (map-append (λ (e : ℕ × ℕ). choice_text net e.0 e.1) es (e ∷ [])));
}

-- a line after others of a text is one of the text's lines
line_among : (ls ms : List (List ℕ)) (line next : List ℕ) → Each IsLine ls → IsLine line → Each IsLine ms → lines_text ls ++ (line ++ (10 ∷ next)) ≡ lines_text ms → Member line ms
line_among [] [] line next h k i e = absurd (line_has_none [] line next tt (sym e))
line_among (l ∷ ls) [] line next h k i e = absurd (line_has_none [] l (lines_text ls ++ (line ++ (10 ∷ next))) tt (sym e ∙ lines_step l ls (line ++ (10 ∷ next))))
line_among [] (m ∷ ms) line next h k i e = inl (line_is_first line m next (lines_text ms ++ []) k i.0 (e ∙ sym (append-nil (lines_text (m ∷ ms))) ∙ lines_step m ms [])).0
line_among (l ∷ ls) (m ∷ ms) line next h k i e = inr (line_among ls ms line next h.1 k i.1
    ((line_is_first l m (lines_text ls ++ (line ++ (10 ∷ next))) (lines_text ms ++ []) h.0 i.0 (sym (lines_step l ls (line ++ (10 ∷ next))) ∙ e ∙ sym (append-nil (lines_text (m ∷ ms))) ∙ lines_step m ms [])).1 ∙ append-nil (lines_text ms)))

-- what is left after lines of a text, and has no newline, is nothing
nothing_left : (ls ms : List (List ℕ)) (rest : List ℕ) → Each IsLine ls → IsLine rest → Each IsLine ms → lines_text ls ++ rest ≡ lines_text ms → rest ≡ []
nothing_left [] [] rest h k i e = e
nothing_left [] (m ∷ ms) rest h k i e = absurd (line_has_none rest m (lines_text ms ++ []) k (e ∙ sym (append-nil (lines_text (m ∷ ms))) ∙ lines_step m ms []))
nothing_left (l ∷ ls) [] rest h k i e = absurd (line_has_none [] l (lines_text ls ++ rest) tt (sym e ∙ lines_step l ls rest))
nothing_left (l ∷ ls) (m ∷ ms) rest h k i e = nothing_left ls ms rest h.1 k i.1
    ((line_is_first l m (lines_text ls ++ rest) (lines_text ms ++ []) h.0 i.0 (sym (lines_step l ls rest) ∙ e ∙ sym (append-nil (lines_text (m ∷ ms))) ∙ lines_step m ms [])).1 ∙ append-nil (lines_text ms))

member_spelled : (net : Net) (es : List (ℕ × ℕ)) (line : List ℕ) → All (IsTurn net) es → Member line (map (λ e. choice_text net e.0 e.1) es)
    → (a : ℕ) × (c : ℕ) × HasChoice net a c × (choice_text net a c ≡ line)
member_spelled net [] line all m = absurd m
member_spelled net (e ∷ es) line all (inl p) = (e.0, e.1, All-head (IsTurn net) e es all, sym p)
member_spelled net (e ∷ es) line all (inr m) = member_spelled net es line (All-tail (IsTurn net) e es all) m

-- no script has a line that is no spelling
pub no_spelling : (net : Net) (text : List ℕ) (es fs : List (ℕ × ℕ)) (rest line next : List ℕ) → SpellsLines net → HasRead net text es rest → IsLine line → rest ≡ line ++ (codes "\n" ++ next)
    → ((a c : ℕ) → HasChoice net a c → choice_text net a c ≡ line → ⊥) → IsScript net text fs → ⊥
no_spelling net text es fs rest line next k p l s none q =
    let m = line_among (map (λ e. choice_text net e.0 e.1) es) (map (λ e. choice_text net e.0 e.1) fs) line next (spelled-lines net es k p.choices) l (spelled-lines net fs k q.choices)
    (ap (λ (r : List ℕ). script_text net es ++ r) (sym s) ∙ sym p.whole ∙ q.text_is) in
    let f = member_spelled net fs line q.choices m in none f.0 f.1 f.2 f.3

-- nor ends it within a line
pub no_rest : (net : Net) (text : List ℕ) (es fs : List (ℕ × ℕ)) (rest : List ℕ) → SpellsLines net → HasRead net text es rest → IsLine rest → IsScript net text fs → rest ≡ []
no_rest net text es fs rest k p l q = nothing_left (map (λ e. choice_text net e.0 e.1) es) (map (λ e. choice_text net e.0 e.1) fs) rest
    (spelled-lines net es k p.choices) l (spelled-lines net fs k q.choices) (sym p.whole ∙ q.text_is)

pub read_all : (net : Net) (text : List ℕ) (es : List (ℕ × ℕ)) (rest : List ℕ) → HasRead net text es rest → rest ≡ [] → IsScript net text es
read_all net text es rest p e = record { choices = p.choices; text_is = p.whole ∙ ap (λ (r : List ℕ). script_text net es ++ r) e ∙ append-nil (script_text net es) }

-- the lines of a text are told by it
one_lines : (ls ms : List (List ℕ)) → Each IsLine ls → Each IsLine ms → lines_text ls ≡ lines_text ms → ls ≡ ms
one_lines [] [] h i e = refl
one_lines [] (m ∷ ms) h i e = absurd (line_has_none [] m (lines_text ms ++ []) tt (e ∙ sym (append-nil (lines_text (m ∷ ms))) ∙ lines_step m ms []))
one_lines (l ∷ ls) [] h i e = absurd (line_has_none [] l (lines_text ls ++ []) tt (sym e ∙ sym (append-nil (lines_text (l ∷ ls))) ∙ lines_step l ls []))
one_lines (l ∷ ls) (m ∷ ms) h i e =
    let t = line_is_first l m (lines_text ls ++ []) (lines_text ms ++ []) h.0 i.0
    (sym (lines_step l ls []) ∙ append-nil (lines_text (l ∷ ls)) ∙ e ∙ sym (append-nil (lines_text (m ∷ ms))) ∙ lines_step m ms []) in
    let u = one_lines ls ms h.1 i.1 (sym (append-nil (lines_text ls)) ∙ t.1 ∙ append-nil (lines_text ms)) in
    ap (λ n. n ∷ ls) t.0 ∙ ap (λ (r : List (List ℕ)). m ∷ r) u

same_spellings : (net : Net) (text : List ℕ) (es fs : List (ℕ × ℕ)) → SpellsLines net → IsScript net text es → IsScript net text fs
    → map (λ e. choice_text net e.0 e.1) es ≡ map (λ e. choice_text net e.0 e.1) fs
same_spellings net text es fs k p q = one_lines (map (λ e. choice_text net e.0 e.1) es) (map (λ e. choice_text net e.0 e.1) fs)
    (spelled-lines net es k p.choices) (spelled-lines net fs k q.choices) (sym p.text_is ∙ q.text_is)

pub same_length : (net : Net) (text : List ℕ) (es fs : List (ℕ × ℕ)) → SpellsLines net → IsScript net text es → IsScript net text fs → length es ≡ length fs
same_length net text es fs k p q = sym (length-map es (λ (e : ℕ × ℕ). choice_text net e.0 e.1)) ∙ ap length (same_spellings net text es fs k p q) ∙ length-map fs (λ (e : ℕ × ℕ). choice_text net e.0 e.1)

one_each : (net : Net) (es fs : List (ℕ × ℕ)) → HasOneSpelling net → All (IsTurn net) es → All (IsTurn net) fs
    → map (λ e. choice_text net e.0 e.1) es ≡ map (λ e. choice_text net e.0 e.1) fs → es ≡ fs
one_each net [] [] one h i e = refl
one_each net [] (f ∷ fs) one h i e = absurd cc
one_each net (e ∷ es) [] one h i p = absurd cc
one_each net (e ∷ es) (f ∷ fs) one h i p =
    let t : choice_text net e.0 e.1 ≡ choice_text net f.0 f.1 = ap (λ (ls : List (List ℕ)). get_or ls 0 []) p in
    let r : map (λ e. choice_text net e.0 e.1) es ≡ map (λ e. choice_text net e.0 e.1) fs = ap (drop 1) p in
    let u = one.one e.0 e.1 f.0 f.1 (All-head (IsTurn net) e es h) (All-head (IsTurn net) f fs i) t in
    ap (λ n. (n, e.1) ∷ es) u.0 ∙ ap (λ n. (f.0, n) ∷ es) u.1 ∙ ap (λ (r : List (ℕ × ℕ)). f ∷ r) (one_each net es fs one (All-tail (IsTurn net) e es h) (All-tail (IsTurn net) f fs i) r)

-- a text is that of one script
pub one_script : (net : Net) (text : List ℕ) (es fs : List (ℕ × ℕ)) → HasOneSpelling net → SpellsLines net → IsScript net text es → IsScript net text fs → es ≡ fs
one_script net text es fs one k p q = one_each net es fs one p.choices q.choices (same_spellings net text es fs k p q)
