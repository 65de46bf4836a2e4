-- The rests of links whose ends have met, link by link.
use Rattle.std.proofs.Common.{◌≡◌, ◌≢◌, ℕ, ◌+◌, ◌<◌, List, [], ◌∷◌, ◌++◌, length, get_or, map, drop, Option, None, Some, refl, ap, sym, ◌∙◌, arith, inl, inr, le_refl, ◌≤◌}
use Rattle.std.specs.Prelude.{Result, Ok, Err, OnOk}
use Rattle.std.proofs.lemmas.Bool.{cases_eq}
use Rattle.std.proofs.lemmas.List.{get_or_append_left, get_or_push, length_push, map-append, drop_at}
use Rattle.std.proofs.lemmas.Option.{same_Some}
use Rattle.sl_machine.specs.Plan.{link_at, link_in, link_out}
use Rattle.sl_machine.specs.declared.wiring.Link.{Link}
use Rattle.sl_link.specs.Ends.{TakeView}
use Rattle.sl_link.specs.declared.ends.Stamped.{Stamped}
use Rattle.sl_actor.specs.declared.part.OutPart.{OutPart}
use Rattle.sl_actor.specs.Rows.{IsFilled, place_at}
use Rattle.sl_merge.specs.RunOfActors.{LeftOnLinks}
use Rattle.sl_merge.specs.Parted.{empty_at, AreApart, AreThere, AreLeftOnLinksOf, IsAdded, rest_of}
use Rattle.sl_merge.proofs.RowLemmas.{filled_by, filled_row, else_there}
use Rattle.sl_actor.proofs.MakeLemmas.{apart_by}

-- the ends of the links from the n-th on are at their places as before
pub record AreAsBefore {M : Type 0} (links : List Link) (n : ℕ) (takes takes' : List (List (Option (TakeView (Stamped M))))) (outs outs' : List (List (Option (OutPart M)))) : Type 0 where
  pub takes_at : (l : ℕ) → n ≤ l → l < length links → place_at takes' (link_at links l).to (link_at links l).choice ≡ place_at takes (link_at links l).to (link_at links l).choice
  pub outs_at : (l : ℕ) → n ≤ l → l < length links → place_at outs' (link_at links l).from (link_at links l).out ≡ place_at outs (link_at links l).from (link_at links l).out

-- a list with one more element
pushed_at : {X : Type 0} (xs xs' : List X) (y d : X) (n l : ℕ) → xs' ≡ xs ++ y ∷ [] → length xs ≡ n → l ≡ n → get_or xs' l d ≡ y
pushed_at xs xs' y d n l more len at = ap (λ ys. get_or ys l d) more ∙ get_or_push xs y d l (len ∙ sym at)

pushed_before : {X : Type 0} (xs xs' : List X) (y d : X) (n l : ℕ) → xs' ≡ xs ++ y ∷ [] → length xs ≡ n → l < n → get_or xs' l d ≡ get_or xs l d
pushed_before xs xs' y d n l more len low = ap (λ ys. get_or ys l d) more ∙ get_or_append_left xs (y ∷ []) d l (omega arith)

pushed_length : {X : Type 0} (xs xs' : List X) (y : X) (n : ℕ) → xs' ≡ xs ++ y ∷ [] → length xs ≡ n → length xs' ≡ n + 1
pushed_length xs xs' y n more len = ap length more ∙ length_push xs y ∙ ap (λ k. k + 1) len

-- what another link has at its place stays when the end of one is taken
kept_there : {X : Type 0} (rows rows' : List (List (Option X))) (links : List Link) (find : ℕ → ℕ → ℕ) (l n : ℕ) (row place : Link → ℕ) (x : X) → find (row (link_at links l)) (place (link_at links l)) ≡ l → find (row (link_at links n)) (place (link_at links n)) ≡ n → l ≢ n
    → place_at rows (row (link_at links n)) (place (link_at links n)) ≡ Some x → rows' ≡ empty_at (row (link_at links n)) (place (link_at links n)) rows → place_at rows' (row (link_at links l)) (place (link_at links l)) ≡ place_at rows (row (link_at links l)) (place (link_at links l))
kept_there rows rows' links find l n row place x once_l once_n other at is =
    let a = row (link_at links n) in
    let b = place (link_at links n) in
    ap (λ rs. place_at rs (row (link_at links l)) (place (link_at links l))) is
    ∙ else_there rows a b (row (link_at links l)) (place (link_at links l)) (filled_row rows a b (filled_by _ x at)) (apart_by find l n (row (link_at links l)) a (place (link_at links l)) b once_l once_n other)

module _ {M : Type 0} (links : List Link) (n : ℕ) (takes takes' : List (List (Option (TakeView (Stamped M))))) (outs outs' : List (List (Option (OutPart M)))) where
  pub before_on : (end : TakeView (Stamped M)) (part : OutPart M) (takes'' : List (List (Option (TakeView (Stamped M))))) (outs'' : List (List (Option (OutPart M)))) → AreApart links → n < length links → AreAsBefore links n takes takes' outs outs'
      → place_at takes' (link_at links n).to (link_at links n).choice ≡ Some end → place_at outs' (link_at links n).from (link_at links n).out ≡ Some part
      → takes'' ≡ empty_at (link_at links n).to (link_at links n).choice takes' → outs'' ≡ empty_at (link_at links n).from (link_at links n).out outs' → AreAsBefore links (n + 1) takes takes'' outs outs''
  before_on end part takes'' outs'' apart low h end_at part_at takes_are outs_are =
      record {
        takes_at = λ l more here.
            let other : l ≢ n = λ same. absurd (omega arith) in
            kept_there takes' takes'' links (link_in links) l n (λ k. k.to) (λ k. k.choice) end (apart.once_in l here) (apart.once_in n low) other end_at takes_are ∙ h.takes_at l (omega arith) here;
        outs_at = λ l more here.
            let other : l ≢ n = λ same. absurd (omega arith) in
            kept_there outs' outs'' links (link_out links) l n (λ k. k.from) (λ k. k.out) part (apart.once_out l here) (apart.once_out n low) other part_at outs_are ∙ h.outs_at l (omega arith) here;
      }

  pub rests_on : (end : TakeView (Stamped M)) (part : OutPart M) (r r' : LeftOnLinks M) → n < length links → AreAsBefore links n takes takes' outs outs'
      → place_at takes' (link_at links n).to (link_at links n).choice ≡ Some end → place_at outs' (link_at links n).from (link_at links n).out ≡ Some part
      → IsAdded end part r r' → AreLeftOnLinksOf links n takes outs r → AreLeftOnLinksOf links (n + 1) takes outs r'
  rests_on end part r r' low before end_at part_at added h =
      record {
        losses_each = pushed_length r.losses r'.losses part.loss n added.losses h.losses_each;
        lost_each = pushed_length r.lost r'.lost part.lost n added.lost h.lost_each;
        messages_each = pushed_length r.messages r'.messages (rest_of end part) n added.messages h.messages_each;
        rests = λ l below. elim (cases_eq l n) [
          | inl same ↦
              record {
                end = end;
                part = part;
                end_at = ap (λ k. place_at takes (link_at links k).to (link_at links k).choice) same ∙ sym (before.takes_at n (omega arith) low) ∙ end_at;
                part_at = ap (λ k. place_at outs (link_at links k).from (link_at links k).out) same ∙ sym (before.outs_at n (omega arith) low) ∙ part_at;
                met = added.met;
                loss_is = pushed_at r.losses r'.losses part.loss None n l added.losses h.losses_each same;
                lost_is = pushed_at r.lost r'.lost part.lost 0 n l added.lost h.lost_each same;
                messages_are = pushed_at r.messages r'.messages (rest_of end part) [] n l added.messages h.messages_each same;
              }
          | inr other ↦
              let lower : l < n = omega arith in
              let old = h.rests l lower in
              record {
                end = old.end;
                part = old.part;
                end_at = old.end_at;
                part_at = old.part_at;
                met = old.met;
                loss_is = pushed_before r.losses r'.losses part.loss None n l added.losses h.losses_each lower ∙ old.loss_is;
                lost_is = pushed_before r.lost r'.lost part.lost 0 n l added.lost h.lost_each lower ∙ old.lost_is;
                messages_are = pushed_before r.messages r'.messages (rest_of end part) [] n l added.messages h.messages_each lower ∙ old.messages_are;
              }
        ];
      }

  pub take_is_there : AreThere links takes outs → AreAsBefore links n takes takes' outs outs' → n < length links → IsFilled (place_at takes' (link_at links n).to (link_at links n).choice)
  take_is_there all before low = let w = all n low in filled_by _ w.end (before.takes_at n (le_refl n) low ∙ w.end_at)

  pub part_is_there : AreThere links takes outs → AreAsBefore links n takes takes' outs outs' → n < length links → IsFilled (place_at outs' (link_at links n).from (link_at links n).out)
  part_is_there all before low = let w = all n low in filled_by _ w.part (before.outs_at n (le_refl n) low ∙ w.part_at)

  pub one_channel : (end : TakeView (Stamped M)) (part : OutPart M) → AreThere links takes outs → AreAsBefore links n takes takes' outs outs' → n < length links
      → place_at takes' (link_at links n).to (link_at links n).choice ≡ Some end → place_at outs' (link_at links n).from (link_at links n).out ≡ Some part → end.channel ≡ part.put.channel
  one_channel end part all before low end_at part_at =
      let w = all n low in
      let same_end : end ≡ w.end = same_Some _ _ (sym end_at ∙ before.takes_at n (le_refl n) low ∙ w.end_at) in
      let same_part : part ≡ w.part = same_Some _ _ (sym part_at ∙ before.outs_at n (le_refl n) low ∙ w.part_at) in
      ap (λ (e : TakeView (Stamped M)). e.channel) same_end ∙ w.one_channel ∙ sym (ap (λ (p : OutPart M). p.put.channel) same_part)

-- at first all ends are at their places
pub before_first : {M : Type 0} (links : List Link) (takes : List (List (Option (TakeView (Stamped M))))) (outs : List (List (Option (OutPart M)))) → AreAsBefore links 0 takes takes outs outs
before_first links takes outs = record { takes_at = λ l more low. refl; outs_at = λ l more low. refl }

left_is : {X : Type 0} (put taken left : List X) → put ≡ taken ++ left → drop (length taken) put ≡ left
left_is put taken left h = ap (drop (length taken)) h ∙ drop_at taken left (length taken) refl

pub rest_added : {M : Type 0} (end : TakeView (Stamped M)) (part : OutPart M) (r r' : LeftOnLinks M) (put taken left : List (Stamped M)) (ms ms' : List M) → put ≡ part.put.put → taken ≡ end.taken → put ≡ taken ++ left
    → ms ≡ map (λ s. s.m) left → ms' ≡ ms ++ map (λ s. s.m) part.outbox.items → r'.losses ≡ r.losses ++ part.loss ∷ [] → r'.lost ≡ r.lost ++ part.lost ∷ [] → r'.messages ≡ r.messages ++ ms' ∷ [] → IsAdded end part r r'
rest_added {M} end part r r' put taken left ms ms' put_is taken_is met ms_are more losses lost messages =
    let whole : part.put.put ≡ end.taken ++ left = sym put_is ∙ met ∙ ap (λ ts. ts ++ left) taken_is in
    let rest : drop (length end.taken) part.put.put ≡ left = left_is part.put.put end.taken left whole in
    let all : ms' ≡ rest_of end part =
    more ∙ ap (λ l. l ++ map (λ s. s.m) part.outbox.items) (ms_are ∙ ap (map (λ s. s.m)) (sym rest)) ∙ sym (map-append (λ (s : Stamped M). s.m) (drop (length end.taken) part.put.put) part.outbox.items) in
    record { met = whole ∙ ap (λ l. end.taken ++ l) (sym rest); losses = losses; lost = lost; messages = messages ∙ ap (λ l. r.messages ++ l ∷ []) all }

pub on_all : {X E P Q R W : Type 0} (r : Result X E) → (P → Q → R → W) → OnOk r P → OnOk r Q → OnOk r R → OnOk r W
on_all (Ok x) f p q s = f p q s
on_all (Err e) f p q s = tt
