-- A text has one first line that is a mark.
use Rattle.std.proofs.Common.{◌≡◌, ℕ, ◌+◌, List, [], ◌∷◌, ◌++◌, length, length-append, take, refl, sym, ap, ◌∙◌, append_assoc}
use Rattle.std.specs.Prelude.{codes}
use Rattle.std.proofs.Math.Seq.{take-append_seam}
use Rattle.std.proofs.lemmas.List.{append-nil}
use Rattle.sl_parts.specs.Lists.{Each}
use Rattle.sl_check.specs.Lines.{IsLine, lines_text, PartsAt}

-- a line ends at the first newline
pub line_is_first : (l m x y : List ℕ) → IsLine l → IsLine m → l ++ (10 ∷ x) ≡ m ++ (10 ∷ y) → (l ≡ m) × (x ≡ y)
line_is_first [] [] x y h k e = (refl, cc)
line_is_first [] (b ∷ m) x y h k e = let z : b ≡ 10 = cc in absurd (k.0 z)
line_is_first (b ∷ l) [] x y h k e = let z : b ≡ 10 = cc in absurd (h.0 z)
line_is_first (b ∷ l) (c ∷ m) x y h k e =
    let z : b ≡ c = cc in
    let t : l ++ (10 ∷ x) ≡ m ++ (10 ∷ y) = cc in
    let u = line_is_first l m x y h.1 k.1 t in
    (ap (λ n. n ∷ l) z ∙ ap (λ (r : List ℕ). c ∷ r) u.0, u.1)

-- a line has no newline
pub line_has_none : (l x y : List ℕ) → IsLine l → l ≡ x ++ (10 ∷ y) → ⊥
line_has_none [] [] y h e = cc
line_has_none [] (c ∷ x) y h e = cc
line_has_none (b ∷ l) [] y h e = let z : b ≡ 10 = cc in h.0 z
line_has_none (b ∷ l) (c ∷ x) y h e = let t : l ≡ x ++ (10 ∷ y) = cc in line_has_none l x y h.1 t

-- the first of some lines, and what follows it
pub lines_step : (l : List ℕ) (ls : List (List ℕ)) (rest : List ℕ) → lines_text (l ∷ ls) ++ rest ≡ l ++ (10 ∷ (lines_text ls ++ rest))
lines_step l ls rest = append_assoc (l ++ codes "\n") (lines_text ls) rest ∙ append_assoc l (codes "\n") (lines_text ls ++ rest)

-- one more line
pub lines_more : (ls : List (List ℕ)) (l rest : List ℕ) → lines_text (ls ++ (l ∷ [])) ++ rest ≡ lines_text ls ++ (l ++ (10 ∷ rest))
lines_more [] l rest = lines_step l [] rest
lines_more (m ∷ ls) l rest = lines_step m (ls ++ (l ∷ [])) rest ∙ ap (λ (t : List ℕ). m ++ (10 ∷ t)) (lines_more ls l rest) ∙ sym (lines_step m ls (l ++ (10 ∷ rest)))

-- where these lines, none of which is the mark, are followed by the mark, and those too, they are the same
pub same_front : (mark : List ℕ) (ls ms : List (List ℕ)) (x y : List ℕ) → IsLine mark → Each IsLine ls → Each IsLine ms
    → Each (λ line. line ≡ mark → ⊥) ls → Each (λ line. line ≡ mark → ⊥) ms
    → lines_text ls ++ (mark ++ (10 ∷ x)) ≡ lines_text ms ++ (mark ++ (10 ∷ y)) → (ls ≡ ms) × (x ≡ y)
same_front mark [] [] x y k h i n o e = (refl, (line_is_first mark mark x y k k e).1)
same_front mark [] (m ∷ ms) x y k h i n o e = absurd (o.0 (sym (line_is_first mark m x (lines_text ms ++ (mark ++ (10 ∷ y))) k i.0 (e ∙ lines_step m ms (mark ++ (10 ∷ y)))).0))
same_front mark (l ∷ ls) [] x y k h i n o e = absurd (n.0 (line_is_first l mark (lines_text ls ++ (mark ++ (10 ∷ x))) y h.0 k (sym (lines_step l ls (mark ++ (10 ∷ x))) ∙ e)).0)
same_front mark (l ∷ ls) (m ∷ ms) x y k h i n o e =
    let t = line_is_first l m (lines_text ls ++ (mark ++ (10 ∷ x))) (lines_text ms ++ (mark ++ (10 ∷ y))) h.0 i.0 (sym (lines_step l ls (mark ++ (10 ∷ x))) ∙ e ∙ lines_step m ms (mark ++ (10 ∷ y))) in
    let u = same_front mark ls ms x y k h.1 i.1 n.1 o.1 t.1 in
    (ap (λ n. n ∷ ls) t.0 ∙ ap (λ (r : List (List ℕ)). m ∷ r) u.0, u.1)

pub one_part : (mark text f g b c : List ℕ) → IsLine mark → PartsAt mark text f b → PartsAt mark text g c → (f ≡ g) × (b ≡ c)
one_part mark text f g b c k p q =
    let t = same_front mark p.lines q.lines b c k p.each q.each p.none q.none
    (ap (λ (r : List ℕ). r ++ (mark ++ (10 ∷ b))) (sym p.front_is) ∙ sym p.whole ∙ q.whole ∙ ap (λ (r : List ℕ). r ++ (mark ++ (10 ∷ c))) q.front_is) in
    (p.front_is ∙ ap lines_text t.0 ∙ sym q.front_is, t.1)

-- where these lines, none of which is the mark, are followed by a line's beginning alone, there is no mark
pub no_mark : (mark : List ℕ) (ls ms : List (List ℕ)) (x y : List ℕ) → IsLine mark → Each IsLine ls → Each IsLine ms → Each (λ line. line ≡ mark → ⊥) ls → IsLine x
    → lines_text ls ++ x ≡ lines_text ms ++ (mark ++ (10 ∷ y)) → ⊥
no_mark mark [] [] x y k h i n o e = line_has_none x mark y o e
no_mark mark [] (m ∷ ms) x y k h i n o e = line_has_none x m (lines_text ms ++ (mark ++ (10 ∷ y))) o (e ∙ lines_step m ms (mark ++ (10 ∷ y)))
no_mark mark (l ∷ ls) [] x y k h i n o e = n.0 (line_is_first l mark (lines_text ls ++ x) y h.0 k (sym (lines_step l ls x) ∙ e)).0
no_mark mark (l ∷ ls) (m ∷ ms) x y k h i n o e =
    no_mark mark ls ms x y k h.1 i.1 n.1 o (line_is_first l m (lines_text ls ++ x) (lines_text ms ++ (mark ++ (10 ∷ y))) h.0 i.0 (sym (lines_step l ls x) ∙ e ∙ lines_step m ms (mark ++ (10 ∷ y)))).1

-- What was read of a text: these lines, none of which is the mark, and the rest.
pub record Passed (mark text : List ℕ) (at : ℕ) (rest : List ℕ) : Type 0 where
  pub lines : List (List ℕ)
  pub each : Each IsLine lines
  pub none : Each (λ line. line ≡ mark → ⊥) lines
  pub at_is : at ≡ length (lines_text lines)
  pub whole : text ≡ lines_text lines ++ rest

pub part_here : (mark text : List ℕ) (at : ℕ) (rest line next : List ℕ) → Passed mark text at rest → rest ≡ line ++ (codes "\n" ++ next) → line ≡ mark
    → PartsAt mark text (take at text) next
part_here mark text at rest line next p e q =
    let whole : text ≡ lines_text p.lines ++ (mark ++ (codes "\n" ++ next)) = p.whole ∙ ap (λ (r : List ℕ). lines_text p.lines ++ r) (e ∙ ap (λ (r : List ℕ). r ++ (codes "\n" ++ next)) q) in
    let front : take at text ≡ lines_text p.lines = ap (λ n. take n text) p.at_is ∙ ap (take (length (lines_text p.lines))) whole ∙ take-append_seam (lines_text p.lines) (mark ++ (codes "\n" ++ next)) in
    record { lines = p.lines; each = p.each; none = p.none; front_is = front; whole = whole ∙ ap (λ (r : List ℕ). r ++ (mark ++ (codes "\n" ++ next))) (sym front) }

each-more : {A : Type 0} (P : A → Type 0) (xs : List A) (x : A) → Each P xs → P x → Each P (xs ++ (x ∷ []))
each-more P [] x h p = (p, tt)
each-more P (y ∷ ys) x h p = (h.0, each-more P ys x h.1 p)

length-more : (ls : List (List ℕ)) (l : List ℕ) → length (lines_text (ls ++ (l ∷ []))) ≡ length (lines_text ls) + (length l + 1)
length-more ls l = ap length (sym (append-nil (lines_text (ls ++ (l ∷ [])))) ∙ lines_more ls l []) ∙ length-append (lines_text ls) (l ++ codes "\n") ∙ ap (λ n. length (lines_text ls) + n) (length-append l (codes "\n"))

pub passed_more : (mark text : List ℕ) (at : ℕ) (rest line next : List ℕ) → Passed mark text at rest → IsLine line → rest ≡ line ++ (codes "\n" ++ next) → (line ≡ mark → ⊥)
    → Passed mark text (at + (length line + 1)) next
passed_more mark text at rest line next p k e n = record {
  lines = p.lines ++ (line ∷ []);
  each = each-more IsLine p.lines line p.each k;
  none = each-more (λ l. l ≡ mark → ⊥) p.lines line p.none n;
  at_is = ap (λ m. m + (length line + 1)) p.at_is ∙ sym (length-more p.lines line);
  whole = p.whole ∙ ap (λ (r : List ℕ). lines_text p.lines ++ r) e ∙ sym (lines_more p.lines line next);
}

pub none_left : (mark text : List ℕ) (at : ℕ) (rest front back : List ℕ) → IsLine mark → Passed mark text at rest → IsLine rest → PartsAt mark text front back → ⊥
none_left mark text at rest front back k p o q =
    no_mark mark p.lines q.lines rest back k p.each q.each p.none o (sym p.whole ∙ q.whole ∙ ap (λ (r : List ℕ). r ++ (mark ++ (codes "\n" ++ back))) q.front_is)
