-- Puts of the same on links.
use Rattle.std.proofs.Common.{◌≡◌, ℕ, ◌+◌, ◌<◌, List, [], ◌∷◌, ◌++◌, length, refl, ap, ◌∙◌, take, get_or}
use Rattle.std.specs.Prelude.{Bool, filter, cond, slice_set}
use Rattle.std.proofs.lemmas.List.{take_more}
use Rattle.std.proofs.lemmas.List.Elements.{filter-append}
use Rattle.sl_poll.specs.declared.lane.Mark.{Mark}
use Rattle.sl_poll.specs.Lanes.{Lane, with_mark, lane_at, put_each}

put-append : (m : Mark) (xs ys : List ℕ) (lanes : List Lane) → put_each m (xs ++ ys) lanes ≡ put_each m ys (put_each m xs lanes)
put-append m [] ys lanes = refl
put-append m (x ∷ xs) ys lanes = put-append m xs ys (slice_set lanes x (with_mark m (lane_at lanes x)))

pub put_more : (m : Mark) (t : ℕ → Bool) (ls : List ℕ) (i : ℕ) (lanes : List Lane) → i < length ls
    → put_each m (filter t (take (i + 1) ls)) lanes ≡ put_each m (cond (t (get_or ls i 0)) (get_or ls i 0 ∷ []) []) (put_each m (filter t (take i ls)) lanes)
put_more m t ls i lanes h = ap (λ xs. put_each m xs lanes) (ap (filter t) (take_more ls i 0 h) ∙ filter-append t (take i ls) (get_or ls i 0 ∷ []))
    ∙ put-append m (filter t (take i ls)) (cond (t (get_or ls i 0)) (get_or ls i 0 ∷ []) []) lanes
