-- Links that were looked up before.
use Rattle.std.proofs.Common.{◌≡◌, ◌∙◌, ℕ, ◌+◌, ◌<◌, ◌≤◌, ◌==◌, ◌&&◌, Bool, true, false, List, [], ◌∷◌, ◌++◌, ◌≢◌, ◌-◌, take, map, length, get_or, set, refl, ap, sym, subst, zero, suc, arith, inl, inr}
use Rattle.std.proofs.Math.Seq.{map-set_same, get_or-append_seam}
use Rattle.std.proofs.lemmas.Bool.Decides.{nat_tests}
use Rattle.std.specs.Prelude.{if◌then◌else◌, nat_lt}
use Rattle.std.proofs.lemmas.List.{length-map, length-set, get_or-map, get_or_default, get_or-set_same, get_or-set_other, map-append, take_more, length_push, get_or_append_left}
use Rattle.std.proofs.lemmas.Bool.{cases_eq}
use Rattle.sl_machine.specs.Plan.{Plan, link_in}
use Rattle.sl_machine.specs.declared.wiring.Link.{Link}
use Rattle.sl_world.specs.Scene.{Scene, Line, FindsNothing, line_at, links_of}
use Rattle.sl_world.specs.Looked.{HasRuns, entry_of, step_at}
use Rattle.sl_world.specs.declared.looked.Step.{Step}

-- what is looked up is a link's place or the number of links
pub link_in_most : (ls : List Link) (actor choice : ℕ) → link_in ls actor choice ≤ length ls
link_in_most [] actor choice = omega arith
link_in_most (l ∷ ls) actor choice = step ((l.to == actor) && (l.choice == choice)) (link_in_most ls actor choice)
  where
    step : (b : Bool) → link_in ls actor choice ≤ length ls → (if b then 0 else link_in ls actor choice + 1) ≤ suc (length ls)
    step true rest = omega arith
    step false rest = omega (arith, rest)

-- one more entry is looked up
pub looked_more : (plan : Plan) (schedule : List (ℕ × ℕ)) (i : ℕ) → i < length schedule → links_of plan (take (i + 1) schedule) ≡ links_of plan (take i schedule) ++ (get_or schedule i (0, 0), link_in plan.links (get_or schedule i (0, 0)).0 (get_or schedule i (0, 0)).1) ∷ []
looked_more plan schedule i low = ap (links_of plan) (take_more schedule i (0, 0) low) ∙ map-append (λ e. (e, link_in plan.links e.0 e.1)) (take i schedule) (get_or schedule i (0, 0) ∷ [])

-- the step past the end
abbrev pub no_step : Step
no_step = record { actor = 0; choice = 0; link = 0; run = 0 }

module _ (plan : Plan) (schedule : List (ℕ × ℕ)) (steps : List Step) (is : map entry_of steps ≡ links_of plan schedule) where
  pub looked_long : length steps ≡ length schedule
  looked_long = sym (length-map steps entry_of) ∙ (ap length is ∙ length-map schedule (λ e. (e, link_in plan.links e.0 e.1)))

  looked-up : (k : ℕ) → k < length schedule → entry_of (step_at steps k) ≡ (get_or schedule k (0, 0), link_in plan.links (get_or schedule k (0, 0)).0 (get_or schedule k (0, 0)).1)
  looked-up k low = sym (get_or-map entry_of steps k no_step (entry_of no_step) (omega (arith, low, looked_long))) ∙ (ap (λ (es : List ((ℕ × ℕ) × ℕ)). get_or es k (entry_of no_step)) is ∙ get_or-map (λ e. (e, link_in plan.links e.0 e.1)) schedule k (0, 0) (entry_of no_step) low)

  pub looked_entry : (k : ℕ) → k < length schedule → ((step_at steps k).actor, (step_at steps k).choice) ≡ get_or schedule k (0, 0)
  looked_entry k low = ap (λ (e : (ℕ × ℕ) × ℕ). e.0) (looked-up k low)

  pub looked_link : (k : ℕ) → k < length schedule → (step_at steps k).link ≡ link_in plan.links (get_or schedule k (0, 0)).0 (get_or schedule k (0, 0)).1
  looked_link k low = ap (λ (e : (ℕ × ℕ) × ℕ). e.1) (looked-up k low)

  pub looked_most : (k : ℕ) (d : Step) → k < length steps → (get_or steps k d).link ≤ length plan.links
  looked_most k d low = omega (arith, ap (λ (s : Step). s.link) (get_or_default steps k d no_step low), looked_link k (omega (arith, low, looked_long)), link_in_most plan.links (get_or schedule k (0, 0)).0 (get_or schedule k (0, 0)).1)

-- between these places of a schedule no choice finds anything
pub record IsQuiet {S M : Type 0} (w : Scene S M) (schedule : List (ℕ × ℕ)) (i j : ℕ) : Type 0 where
  pub within : j ≤ length schedule
  pub nothing : (k : ℕ) → i ≤ k → k < j → let e = get_or schedule k (0, 0) in FindsNothing w e.0 e.1

-- so it is where nothing is on the links that were looked up for them
pub by_links : {S M : Type 0} (w : Scene S M) (schedule : List (ℕ × ℕ)) (steps : List Step) (i j : ℕ) → map entry_of steps ≡ links_of w.plan schedule → j ≤ length steps
    → ((k : ℕ) → i ≤ k → k < j → let link = (step_at steps k).link in (link < length w.plan.links) × ((line_at w.lines link).queue ≡ [])) → IsQuiet w schedule i j
by_links w schedule steps i j is within nothing = record {
  within = omega (arith, within, looked_long w.plan schedule steps is);
  nothing = λ k from below.
      let none = nothing k from below in
      let low : k < length schedule = omega (arith, below, within, looked_long w.plan schedule steps is) in
      let same = looked_link w.plan schedule steps is k low in
      record { linked = omega (arith, same, none.0); empty = ap (λ l. (line_at w.lines l).queue) (sym same) ∙ none.1 };
}

-- a step is joined to the next
module _ (steps : List Step) (k : ℕ) (new : Step) (low : k + 1 < length steps) (same : new.link ≡ (step_at steps k).link) where
  abbrev pub joined : List Step
  joined = set steps k new

  at-k : step_at joined k ≡ new
  at-k = get_or-set_same steps k new no_step (omega (arith, low))

  at-other : (j : ℕ) → j ≢ k → step_at joined j ≡ step_at steps j
  at-other j other = get_or-set_other steps k j new no_step other

  link-same : (j : ℕ) → (step_at joined j).link ≡ (step_at steps j).link
  link-same j =
      elim (cases_eq j k) [
        | inl here ↦ rw here (ap (λ (s : Step). s.link) at-k ∙ same)
        | inr other ↦ ap (λ (s : Step). s.link) (at-other j other)
      ]

  module _ (runs : HasRuns steps) (follows : (step_at steps (k + 1)).link ≡ new.link + 1) (some : 0 < new.run) (most : new.run ≤ (step_at steps (k + 1)).run + 1) where
    links-k : (i : ℕ) → i < new.run → (step_at steps (k + i)).link ≡ new.link + i
    links-k zero less =
        let at : k + 0 ≡ k = omega arith in
        omega (arith, same, ap (λ (n : ℕ). (step_at steps n).link) at)
    links-k (suc i) less =
        let at : k + suc i ≡ k + 1 + i = omega arith in
        omega (arith, follows, runs.links (k + 1) i low (omega (arith, less, most)), ap (λ (n : ℕ). (step_at steps n).link) at)

    long : length joined ≡ length steps
    long = length-set steps k new

    pub runs_joined : HasRuns joined
    runs_joined =
        record {
          some = λ j h.
              elim (cases_eq j k) [
                | inl here ↦ rw (here, at-k) some
                | inr other ↦ rw (at-other j other) (runs.some j (omega (arith, h, long)))
              ];
          within = λ j h.
              elim (cases_eq j k) [
                | inl here ↦ rw (here, at-k) (omega (arith, long, most, runs.within (k + 1) low))
                | inr other ↦ rw (at-other j other) (omega (arith, long, runs.within j (omega (arith, h, long))))
              ];
          links = λ j i h less.
              link-same (j + i) ∙ (elim (cases_eq j k) [
                | inl here ↦ rw (here, at-k) (links-k i (subst (λ (s : Step). i < s.run) (ap (step_at joined) here ∙ at-k) less))
                | inr other ↦ rw (at-other j other) (runs.links j i (omega (arith, h, long)) (subst (λ (s : Step). i < s.run) (at-other j other) less))
              ]);
        }

    pub entries_joined : entry_of new ≡ entry_of (step_at steps k) → map entry_of joined ≡ map entry_of steps
    entries_joined is = map-set_same entry_of steps k new no_step is

-- steps of which each stands alone
pub alone : (steps : List Step) → ((k : ℕ) → k < length steps → (step_at steps k).run ≡ 1) → HasRuns steps
alone steps one =
    record {
      some = λ k h. omega (arith, one k h);
      within = λ k h. omega (arith, one k h, h);
      links = λ k i h less.
          let here : i ≡ 0 = omega (arith, less, one k h) in
          let at : k + i ≡ k = omega (arith, here) in
          omega (arith, here, ap (λ (n : ℕ). (step_at steps n).link) at);
    }

-- the search by runs: no link of a front of a run has a message
pub run_skipped : {M : Type 0} (steps : List Step) (lines : List (Line M)) (n from at found : ℕ) → HasRuns steps → at < length steps → found ≤ (step_at steps at).link + (step_at steps at).run
    → ((k : ℕ) → from ≤ k → k < at → let link = (step_at steps k).link in (link < n) × ((line_at lines link).queue ≡ []))
    → ((k : ℕ) → (step_at steps at).link ≤ k → k < found → (k < n) × ((line_at lines k).queue ≡ []))
    → (k : ℕ) → from ≤ k → k < at + (found - (step_at steps at).link) → let link = (step_at steps k).link in (link < n) × ((line_at lines link).queue ≡ [])
run_skipped steps lines n from at found runs low most before none k h less = split (nat_lt k at) refl
  where
    split : (b : Bool) → nat_lt k at ≡ b → let link = (step_at steps k).link in (link < n) × ((line_at lines link).queue ≡ [])
    split true e = before k h (grind (arith, nat_tests, e))
    split false e =
        let high : at ≤ k = grind (arith, nat_tests, e) in
        let place : at + (k - at) ≡ k = omega (arith, high) in
        let is : (step_at steps k).link ≡ (step_at steps at).link + (k - at) = ap (λ (i : ℕ). (step_at steps i).link) (sym place) ∙ runs.links at (k - at) low (omega (arith, less, most, high)) in
        let found_none = none ((step_at steps at).link + (k - at)) (omega arith) (omega (arith, less, high)) in
        (omega (arith, is, found_none.0), ap (λ l. (line_at lines l).queue) is ∙ found_none.1)

-- one more step
pub looked_next : (plan : Plan) (schedule : List (ℕ × ℕ)) (steps : List Step) (i : ℕ) (s : Step) → i < length schedule → map entry_of steps ≡ links_of plan (take i schedule) → entry_of s ≡ (get_or schedule i (0, 0), link_in plan.links (get_or schedule i (0, 0)).0 (get_or schedule i (0, 0)).1) → map entry_of (steps ++ s ∷ []) ≡ links_of plan (take (i + 1) schedule)
looked_next plan schedule steps i s low before is =
    map-append entry_of steps (s ∷ []) ∙ (ap (λ (es : List ((ℕ × ℕ) × ℕ)). es ++ entry_of s ∷ []) before ∙ (ap (λ (e : (ℕ × ℕ) × ℕ). links_of plan (take i schedule) ++ e ∷ []) is ∙ sym (looked_more plan schedule i low)))

pub alone_more : (steps : List Step) (s : Step) → ((k : ℕ) → k < length steps → (step_at steps k).run ≡ 1) → s.run ≡ 1 → (k : ℕ) → k < length (steps ++ s ∷ []) → (step_at (steps ++ s ∷ []) k).run ≡ 1
alone_more steps s before one k h =
    elim (cases_eq k (length steps)) [
      | inl end ↦ ap (λ (i : ℕ). (step_at (steps ++ s ∷ []) i).run) end ∙ (ap (λ (t : Step). t.run) (get_or-append_seam steps s [] no_step) ∙ one)
      | inr other ↦
          let low : k < length steps = omega (arith, h, other, length_push steps s) in
          ap (λ (t : Step). t.run) (get_or_append_left steps (s ∷ []) no_step k low) ∙ before k low
    ]

-- a run ends with a link or past the last
pub run_end : (steps : List Step) (n at : ℕ) → HasRuns steps → ((k : ℕ) (d : Step) → k < length steps → (get_or steps k d).link ≤ n) → at < length steps → (step_at steps at).link + (step_at steps at).run ≤ n + 1
run_end steps n at runs most low =
    let last : ℕ = (step_at steps at).run - 1 in
    omega (arith, runs.some at low, runs.links at last low (omega (arith, runs.some at low)), most (at + last) no_step (omega (arith, runs.some at low, runs.within at low)))
