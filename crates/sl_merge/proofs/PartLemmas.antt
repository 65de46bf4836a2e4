-- What is said of each actor's history, said of the list into which they are woven.
use Rattle.std.proofs.Common.{◌≡◌, ℕ, ◌<◌, ◌==◌, Bool, true, false, if◌then◌else◌, List, [], ◌∷◌, ◌++◌, length, set, slice_get, Option, Some, None, sym, refl, ap, ap₂, ◌∙◌, subst, length-set, eqb-true, eq-eqb}
use Rattle.std.specs.Prelude.{◌&&◌, ⊤, slice_index}
use Rattle.std.proofs.lemmas.Bool.{eqb-false, and_parts, and_from, false_from_ne_true}
use Rattle.std.proofs.lemmas.Option.{slice_get_within, same_Some}
use Rattle.sl_machine.specs.Machine.{Rules}
use Rattle.sl_machine.specs.Plan.{Plan, IsSound, link_in, link_out, link_at}
use Rattle.sl_actor.specs.Histories.{Step, IsHistory, last_state, on, put_on, took, taken_by, IsChosen, AreChosen}
use Rattle.sl_world.proofs.LinkLemmas.{link_in_is, link_out_is, no_link_in}
use Rattle.sl_merge.proofs.GetLemmas.{slice_get-set_same, slice_get-set_other, some_at}
use Rattle.sl_merge.proofs.LineLemmas.{puts_at}
use Rattle.sl_merge.proofs.WeavingLemmas.{IsLinked, AllLinked, IsWoven, states_after, all_taken, all_put}

-- of a list woven of many actors' lists, the part of one
abbrev pub part_of : {X : Type 0} → ℕ → List (ℕ × X) → List X
part_of actor [] = []
part_of actor (e ∷ es) = if e.0 == actor then e.1 ∷ part_of actor es else part_of actor es

-- each element is of one of so many actors
abbrev pub AreBelow : {X : Type 0} → ℕ → List (ℕ × X) → Type 0
AreBelow actors [] = ⊤
AreBelow actors (e ∷ es) = (e.0 < actors) × AreBelow actors es

-- the step of this actor comes first in its part
own_first : {X : Type 0} (a : ℕ) (x : X) (es : List (ℕ × X)) → part_of a ((a, x) ∷ es) ≡ x ∷ part_of a es
own_first a x es = rw (eq-eqb a a refl) refl

-- in that of another actor it is not
other_first : {X : Type 0} (b a : ℕ) (x : X) (es : List (ℕ × X)) → (b == a) ≡ false → part_of a ((b, x) ∷ es) ≡ part_of a es
other_first b a x es e = rw e refl

module _ {S M : Type 0} (rules : Rules S M) where
  -- each actor goes on from its state by its part
  abbrev pub Histories : List S → List (ℕ × Step S M) → Type 0
  Histories states es = (a : ℕ) (s : S) → slice_get states a ≡ Some s → IsHistory rules s (part_of a es)

  histories_on : (states : List S) (b a : ℕ) (x : Step S M) (es : List (ℕ × Step S M)) (s0 s : S) (t : Bool) → (b == a) ≡ t → slice_get states b ≡ Some s0 → Histories states ((b, x) ∷ es)
      → slice_get (set states b x.after.state) a ≡ Some s → IsHistory rules s (part_of a es)
  histories_on states b a x es s0 s true e here all is =
      let same : b ≡ a = eqb-true b a e in
      let at : slice_get (set states b x.after.state) b ≡ Some x.after.state = slice_get-set_same states b x.after.state (slice_get_within states b s0 here) in
      let there : Some x.after.state ≡ Some s = sym at ∙ ap (slice_get (set states b x.after.state)) same ∙ is in
      let state : x.after.state ≡ s = same_Some x.after.state s there in
      let whole : IsHistory rules s0 (x ∷ part_of b es) = subst (IsHistory rules s0) (own_first b x es) (all b s0 here) in
      subst (λ (j : ℕ). IsHistory rules s (part_of j es)) same (subst (λ (y : S). IsHistory rules y (part_of b es)) state whole.1)
  histories_on states b a x es s0 s false e here all is =
      subst (IsHistory rules s) (other_first b a x es e) (all a s (sym (slice_get-set_other states b a x.after.state (eqb-false b a e)) ∙ is))

  pub woven : (n : ℕ) (states : List S) (es : List (ℕ × Step S M)) → length states ≡ n → AreBelow n es → Histories states es → IsWoven rules states es
  woven n states [] len below all = tt
  woven n states (e ∷ es) len below all =
      let low : e.0 < length states = subst (λ (k : ℕ). e.0 < k) (sym len) below.0 in
      let s = some_at states e.0 low in
      let whole : IsHistory rules s.0 (e.1 ∷ part_of e.0 es) = subst (IsHistory rules s.0) (own_first e.0 e.1 es) (all e.0 s.0 s.1) in (
        s.0,
        s.1,
        whole.0,
        woven n (set states e.0 e.1.after.state) es (length-set states e.0 e.1.after.state ∙ len) below.1
            (λ a t is. histories_on states e.0 a e.1 es s.0 t (e.0 == a) refl s.1 all is),
      )

-- a choice of an actor is a link exactly where it is below the actor's incoming links
linked : {M : Type 0} (plan : Plan) (a c : ℕ) (o : Option M) → IsSound plan → a < length plan.ins → IsChosen (slice_index plan.ins a) c o → IsLinked plan.links a c o
linked plan a c None sound low chosen = no_link_in plan a c sound chosen
linked plan a c (Some m) sound low chosen = sound.each_in a c low chosen

module _ {S M : Type 0} where
  last_on : (states : List S) (b a : ℕ) (x : Step S M) (es : List (ℕ × Step S M)) (s : S) (t : Bool) → (b == a) ≡ t → slice_get states a ≡ Some s
      → (s' : S) × (slice_get (set states b x.after.state) a ≡ Some s') × (last_state s' (part_of a es) ≡ last_state s (part_of a ((b, x) ∷ es)))
  last_on states b a x es s true e here =
      let same : b ≡ a = eqb-true b a e in
      let at : slice_get (set states a x.after.state) a ≡ Some x.after.state = slice_get-set_same states a x.after.state (slice_get_within states a s here) in
      let own : part_of a ((b, x) ∷ es) ≡ x ∷ part_of a es = rw e refl in
      (x.after.state, ap (λ (j : ℕ). slice_get (set states j x.after.state) a) same ∙ at, sym (ap (last_state s) own))
  last_on states b a x es s false e here = (s, slice_get-set_other states b a x.after.state (eqb-false b a e) ∙ here, sym (ap (last_state s) (other_first b a x es e)))

  -- each actor ends where its own steps lead
  pub last_states : (states : List S) (es : List (ℕ × Step S M)) (a : ℕ) (s : S) → slice_get states a ≡ Some s → slice_get (states_after states es) a ≡ Some (last_state s (part_of a es))
  last_states states [] a s here = here
  last_states states (e ∷ es) a s here =
      let next = last_on states e.0 a e.1 es s (e.0 == a) refl here in
      last_states (set states e.0 e.1.after.state) es a next.0 next.1 ∙ ap (λ (t : S). Some t) next.2

  pub length-states_after : (states : List S) (es : List (ℕ × Step S M)) → length (states_after states es) ≡ length states
  length-states_after states [] = refl
  length-states_after states (e ∷ es) = length-states_after (set states e.0 e.1.after.state) es ∙ length-set states e.0 e.1.after.state

  chosen_on : (ins b a : ℕ) (x : Step S M) (es : List (ℕ × Step S M)) (t : Bool) → (b == a) ≡ t → AreChosen ins (part_of a ((b, x) ∷ es)) → AreChosen ins (part_of a es)
  chosen_on ins b a x es true e h = let own : part_of a ((b, x) ∷ es) ≡ x ∷ part_of a es = rw e refl in let both : AreChosen ins (x ∷ part_of a es) = subst (AreChosen ins) own h in both.1
  chosen_on ins b a x es false e h = subst (AreChosen ins) (other_first b a x es e) h

  pub all_linked : (plan : Plan) (es : List (ℕ × Step S M)) → IsSound plan → AreBelow (length plan.ins) es → ((a : ℕ) → a < length plan.ins → AreChosen (slice_index plan.ins a) (part_of a es)) → AllLinked plan.links es
  all_linked plan [] sound below h = tt
  all_linked plan (e ∷ es) sound below h =
      let own : AreChosen (slice_index plan.ins e.0) (e.1 ∷ part_of e.0 es) = subst (AreChosen (slice_index plan.ins e.0)) (own_first e.0 e.1 es) (h e.0 below.0) in
      (linked plan e.0 e.1.choice e.1.message sound below.0 own.0, all_linked plan es sound below.1 (λ a low. chosen_on (slice_index plan.ins a) e.0 a e.1 es (e.0 == a) refl (h a low)))

-- a test of a number, by one of two numbers
test_of_both : (k l x u y v : ℕ) → (k ≡ l → (x ≡ u) × (y ≡ v)) → (x ≡ u → y ≡ v → k ≡ l) → (k == l) ≡ ((x == u) && (y == v))
test_of_both k l x u y v to from = by_test (k == l) refl
  where
    by_test : (t : Bool) → (k == l) ≡ t → t ≡ ((x == u) && (y == v))
    by_test true e = let both = to (eqb-true k l e) in sym (and_from (x == u) (y == v) (eq-eqb x u both.0) (eq-eqb y v both.1))
    by_test false e = sym (false_from_ne_true ((x == u) && (y == v)) (λ t. let both = and_parts (x == u) (y == v) t in eqb-false k l e (from (eqb-true x u both.0) (eqb-true y v both.1))))

-- whether an actor's choice is the link at this place
in_test : (plan : Plan) (l a c : ℕ) → IsSound plan → l < length plan.links → (link_in plan.links a c == l) ≡ ((a == (link_at plan.links l).to) && (c == (link_at plan.links l).choice))
in_test plan l a c sound low = test_of_both (link_in plan.links a c) l a (link_at plan.links l).to c (link_at plan.links l).choice
    (λ is. let found = link_in_is plan.links a c (subst (λ (k : ℕ). k < length plan.links) (sym is) low) in (sym found.0 ∙ ap (λ (k : ℕ). (link_at plan.links k).to) is, sym found.1 ∙ ap (λ (k : ℕ). (link_at plan.links k).choice) is))
    (λ to choice. ap₂ (link_in plan.links) to choice ∙ sound.once_in l low)

-- whether an actor's outgoing number is the link at this place
out_test : (plan : Plan) (l a o : ℕ) → IsSound plan → l < length plan.links → (link_out plan.links a o == l) ≡ ((a == (link_at plan.links l).from) && (o == (link_at plan.links l).out))
out_test plan l a o sound low = test_of_both (link_out plan.links a o) l a (link_at plan.links l).from o (link_at plan.links l).out
    (λ is. let found = link_out_is plan.links a o (subst (λ (k : ℕ). k < length plan.links) (sym is) low) in (sym found.0 ∙ ap (λ (k : ℕ). (link_at plan.links k).from) is, sym found.1 ∙ ap (λ (k : ℕ). (link_at plan.links k).out) is))
    (λ from out. ap₂ (link_out plan.links) from out ∙ sound.once_out l low)

took_none : {M : Type 0} (o : Option M) → took false o ≡ []
took_none None = refl
took_none (Some m) = refl

module _ {M : Type 0} (plan : Plan) (l : ℕ) (sound : IsSound plan) (low : l < length plan.links) where
  puts_there : (a : ℕ) (ps : List (ℕ × M)) (t : Bool) → (a == (link_at plan.links l).from) ≡ t → puts_at plan.links a l ps ≡ (if t then on (link_at plan.links l).out ps else [])
  puts_there a [] true e = refl
  puts_there a [] false e = refl
  puts_there a (p ∷ ps) true e =
      let k = link_at plan.links l in
      rw (out_test plan l a p.0 sound low, e)
      (elim (p.0 == k.out) as (λ (b : Bool). (if b then p.1 ∷ puts_at plan.links a l ps else puts_at plan.links a l ps) ≡ (if b then p.1 ∷ on k.out ps else on k.out ps)) [
        | true ↦ ap (λ (t : List M). p.1 ∷ t) (puts_there a ps true e)
        | false ↦ puts_there a ps true e
      ])
  puts_there a (p ∷ ps) false e = rw (out_test plan l a p.0 sound low, e) (puts_there a ps false e)

module _ {S M : Type 0} (plan : Plan) (l : ℕ) (sound : IsSound plan) (low : l < length plan.links) where
  -- what was taken from a link is what its receiver took by its choice
  pub taken_there : (es : List (ℕ × Step S M)) → all_taken plan.links l es ≡ taken_by (link_at plan.links l).choice (part_of (link_at plan.links l).to es)
  taken_there [] = refl
  taken_there (e ∷ es) =
      let k = link_at plan.links l in
      let rest : all_taken plan.links l es ≡ taken_by k.choice (part_of k.to es) = taken_there es in
      rw (in_test plan l e.0 e.1.choice sound low)
      (elim (e.0 == k.to) as (λ (b : Bool). took (b && (e.1.choice == k.choice)) e.1.message ++ all_taken plan.links l es ≡ taken_by k.choice (if b then e.1 ∷ part_of k.to es else part_of k.to es)) [
        | true ↦ ap (λ (t : List M). took (e.1.choice == k.choice) e.1.message ++ t) rest
        | false ↦ ap (λ (t : List M). t ++ all_taken plan.links l es) (took_none e.1.message) ∙ rest
      ])

  put_by : (a : ℕ) (x : Step S M) (es : List (ℕ × Step S M)) (t : Bool) → (a == (link_at plan.links l).from) ≡ t → all_put plan.links l es ≡ put_on (link_at plan.links l).out (part_of (link_at plan.links l).from es)
      → puts_at plan.links a l x.after.puts ++ all_put plan.links l es ≡ put_on (link_at plan.links l).out (part_of (link_at plan.links l).from ((a, x) ∷ es))
  put_by a x es true e rest = rw (puts_there plan l sound low a x.after.puts true e, e, rest) refl
  put_by a x es false e rest = rw (puts_there plan l sound low a x.after.puts false e, e, rest) refl

  -- what was put on a link is what its sender put on its number
  pub put_there : (es : List (ℕ × Step S M)) → all_put plan.links l es ≡ put_on (link_at plan.links l).out (part_of (link_at plan.links l).from es)
  put_there [] = refl
  put_there (e ∷ es) = put_by e.0 e.1 es (e.0 == (link_at plan.links l).from) refl (put_there es)
