-- What a listener was told, one thing after the other.
use Rattle.std.proofs.Common.{◌≡◌, ℕ, ◌+◌, ◌<◌, List, [], ◌∷◌, ◌++◌, length, get_or, take, refl, sym, ap, subst, ◌∙◌, Option, Some, None, append-nil, append_assoc}
use Rattle.std.specs.Prelude.{Bool, true, false, cond, find, IfSome}
use Rattle.std.specs.Option.{option_or}
use Rattle.std.proofs.lemmas.List.{take_more}
use Rattle.std.proofs.lemmas.List.Folds.{find-append}
use Rattle.sl_layout.specs.Net.{Net, units}
use Rattle.sl_poll.specs.declared.poll.Polling.{Polling}
use Rattle.sl_poll.specs.declared.trail.Counted.{Counted}
use Rattle.sl_poll.specs.declared.trail.Pair.{Pair}
use Rattle.sl_poll.specs.Hearing.{Hears}
use Rattle.sl_poll.specs.HasRead.{HasRead}
use Rattle.sl_poll.specs.Reading.{read_after, breaks}
use Rattle.sl_poll.specs.Sums.{add_one, Summed}
use Rattle.sl_poll.proofs.Told.{summed_more}

module _ {L : Type 0} (heard : Net → L → L → List Pair → List Counted → Type 0) (net : Net) where
  pub hears_same : (x y : L) (before ps : List Pair) (counts cs : List Counted) → ps ≡ before → cs ≡ counts → heard net x y before counts → heard net x y ps cs
  hears_same x y before ps counts cs p c h = subst (λ qs. heard net x y qs cs) (sym p) (subst (heard net x y before) (sym c) h)

  pub hears_nothing : (x : L) → Hears heard net x x [] []
  hears_nothing x first before counts h = hears_same first x before (before ++ []) counts (counts ++ []) (append-nil before) (append-nil counts) h

  pub hears_both : (x y z : L) (ps qs : List Pair) (cs ds : List Counted) → Hears heard net x y ps cs → Hears heard net y z qs ds → Hears heard net x z (ps ++ qs) (cs ++ ds)
  hears_both x y z ps qs cs ds a b first before counts h = hears_same first z ((before ++ ps) ++ qs) (before ++ (ps ++ qs)) ((counts ++ cs) ++ ds) (counts ++ (cs ++ ds))
      (sym (append_assoc before ps qs)) (sym (append_assoc counts cs ds)) (b first (before ++ ps) (counts ++ cs) (a first before counts h))

  -- pairs, and then steps
  pub hears_apart : (x y z : L) (ps : List Pair) (cs : List Counted) → Hears heard net x y ps [] → Hears heard net y z [] cs → Hears heard net x z ps cs
  hears_apart x y z ps cs a b first before counts h = hears_same first z (before ++ (ps ++ [])) (before ++ ps) (counts ++ cs) (counts ++ cs)
      (ap (λ r. before ++ r) (sym (append-nil ps))) refl (hears_both x y z ps [] [] cs a b first before counts h)

  -- one thing more of a list
  pub pairs_more : (x y z : L) (ps : List Pair) (k : ℕ) (d : Pair) → k < length ps → Hears heard net x y (take k ps) [] → Hears heard net y z (get_or ps k d ∷ []) [] → Hears heard net x z (take (k + 1) ps) []
  pairs_more x y z ps k d low a b = subst (λ qs. Hears heard net x z qs []) (sym (take_more ps k d low)) (hears_both x y z (take k ps) (get_or ps k d ∷ []) [] [] a b)

  pub counts_more : (x y z : L) (cs : List Counted) (k : ℕ) (d : Counted) → k < length cs → Hears heard net x y [] (take k cs) → Hears heard net y z [] (get_or cs k d ∷ []) → Hears heard net x z [] (take (k + 1) cs)
  counts_more x y z cs k d low a b = subst (Hears heard net x z []) (sym (take_more cs k d low)) (hears_both x y z [] [] (take k cs) (get_or cs k d ∷ []) a b)

-- the same of a net that is the same
pub hears_on : {L : Type 0} (heard : Net → L → L → List Pair → List Counted → Type 0) (net full : Net) → net ≡ full → (first x y : L) (before ps : List Pair) (counts cs : List Counted)
    → Hears heard net x y ps cs → heard full first x before counts → heard full first y (before ++ ps) (counts ++ cs)
hears_on heard net full q first x y before ps counts cs a h = subst (λ (n : Net). heard n first y (before ++ ps) (counts ++ cs)) q (a first before counts (subst (λ (n : Net). heard n first x before counts) (sym q) h))

-- A trail.

-- A reading.

either-low : (net : Net) (o : Option Pair) (b : Bool) (p : Pair) → IfSome o (λ q. q.link < length net.links) → p.link < length net.links → IfSome (option_or o (cond b (Some p) None)) (λ q. q.link < length net.links)
either-low net (Some x) b p low h = low
either-low net None true p low h = h
either-low net None false p low h = low

pub read_pair : (net : Net) (old new : Polling) (p : Pair) → p.link < length net.links → new.pace ≡ old.pace → new.sums ≡ old.sums
    → new.broken ≡ option_or old.broken (find (breaks net old.pace.count old.pace.start old.pace.gap) (p ∷ [])) → Hears HasRead net old new (p ∷ []) []
read_pair net old new p low a s b first before counts h =
    let t = breaks net first.pace.count first.pace.start first.pace.gap in
    let paced : find (breaks net old.pace.count old.pace.start old.pace.gap) (p ∷ []) ≡ find t (p ∷ []) = ap (λ k. find (breaks net k.count k.start k.gap) (p ∷ [])) h.pace in
    record {
      pace = a ∙ h.pace;
      sums = subst (λ cs. Summed (read_after first.pace.count first.pace.start first.pace.gap) cs (length (units net)) new.sums.items) (sym (append-nil counts))
          (subst (Summed (read_after first.pace.count first.pace.start first.pace.gap) counts (length (units net))) (sym (ap (λ v. v.items) s)) h.sums);
      broken = b ∙ ap (option_or old.broken) paced ∙ ap (λ o. option_or o (find t (p ∷ []))) h.broken ∙ sym (find-append t before (p ∷ []));
      link = subst (λ o. IfSome o (λ q. q.link < length net.links)) (sym b) (either-low net old.broken (breaks net old.pace.count old.pace.start old.pace.gap p) p h.link low);
    }

pub read_count : (net : Net) (old new : Polling) (c : Counted) → new.pace ≡ old.pace → new.sums.items ≡ add_one (read_after old.pace.count old.pace.start old.pace.gap) c old.sums.items → new.broken ≡ old.broken
    → Hears HasRead net old new [] (c ∷ [])
read_count net old new c a s b first before counts h =
    let at = read_after first.pace.count first.pace.start first.pace.gap in
    record {
      pace = a ∙ h.pace;
      sums = summed_more at counts (length (units net)) c old.sums.items new.sums.items h.sums (s ∙ ap (λ k. add_one (read_after k.count k.start k.gap) c old.sums.items) h.pace);
      broken = b ∙ h.broken ∙ ap (find (breaks net first.pace.count first.pace.start first.pace.gap)) (sym (append-nil before));
      link = subst (λ o. IfSome o (λ q. q.link < length net.links)) (sym b) h.link;
    }
