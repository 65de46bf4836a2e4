-- A world that goes on from actors that have ended is the one to which the merge of their logs leads.
use Rattle.std.proofs.Common.{◌≡◌, ℕ, zero, suc, ◌<◌, List, [], ◌∷◌, length, get_or, Option, Some, None, sym, refl, ◌∙◌, subst, arith}
use Rattle.std.proofs.lemmas.List.{same_lists, get_or_default}
use Rattle.sl_machine.specs.Machine.{Rules}
use Rattle.sl_machine.specs.declared.wiring.Entry.{Entry}
use Rattle.sl_loss.specs.Loss.{Loss}
use Rattle.sl_actor.specs.Outs.{OutView}
use Rattle.sl_actor.specs.Follows.{ActorView}
use Rattle.sl_world.specs.Scene.{Scene, empty_line, line_at, lines_with, first_scene, after_all, run_of, schedule_of}
use Rattle.sl_world.specs.Keeping.{SameShape}
use Rattle.sl_world.proofs.ResumeLemmas.{length-lines_with}
use Rattle.sl_merge.specs.RunOfActors.{EndedActors, HaveMet, IsMergeOf, IsRunOf, LeftOnLinks, AreLeftOnLinks, StandsAsRun, resumed}
use Rattle.sl_merge.proofs.EndedLemmas.{ended_is_run, out_end}

-- lists of one length with the same elements by place
same_at : {X : Type 0} (d : X) (xs ys : List X) → length xs ≡ length ys → ((k : ℕ) → k < length xs → get_or xs k d ≡ get_or ys k d) → xs ≡ ys
same_at d xs ys len h =
    same_lists xs ys len (λ k e low. get_or_default xs k e d low ∙ (h k low ∙ get_or_default ys k d e (subst (λ (n : ℕ). k < n) len low)))

pub line_with : {M : Type 0} (losses : List (Option Loss)) (lost : List ℕ) (rests : List (List M)) (l : ℕ) → l < length losses → length lost ≡ length losses → length rests ≡ length losses
    → line_at (lines_with losses lost rests) l ≡ record { queue = get_or rests l []; loss = get_or losses l None; lost = get_or lost l 0 }
line_with [] lost rests l low e f = absurd (omega arith)
line_with (x ∷ losses) [] rests l low e f = absurd (omega arith)
line_with (x ∷ losses) (n ∷ lost) [] l low e f = absurd (omega arith)
line_with (x ∷ losses) (n ∷ lost) (q ∷ rests) zero low e f = refl
line_with (x ∷ losses) (n ∷ lost) (q ∷ rests) (suc l) low e f = line_with losses lost rests l (omega arith) (omega arith) (omega arith)

-- the laws of schedules of a world
abbrev pub KeepShape : {S M : Type 0} → Rules S M → Type 0
KeepShape {S} {M} rules = (w : Scene S M) (es : List (ℕ × ℕ)) → SameShape w (after_all rules w es)

abbrev pub LeadWhereLegal : {S M : Type 0} → Rules S M → Type 0
LeadWhereLegal {S} {M} rules = (w v : Scene S M) (es : List (ℕ × ℕ)) → run_of rules w es ≡ Some v → after_all rules w es ≡ v

module _ {S M : Type 0} (rules : Rules S M) (shape : KeepShape rules) (only : LeadWhereLegal rules) (e : EndedActors S M) (h : HaveMet rules e) (rests : LeftOnLinks M) (are : AreLeftOnLinks e rests) (book : List Entry) (m : IsMergeOf e book) where
  r : IsRunOf rules e book
  r = ended_is_run rules e h book m

  first : Scene S M
  first = first_scene e.plan e.firsts e.losses

  plan_is : r.world.plan ≡ e.plan
  unfolding first
  plan_is =
      let after : after_all rules first (schedule_of book) ≡ r.world = only first r.world (schedule_of book) r.run in
      subst (λ (w : Scene S M). w.plan ≡ e.plan) after (shape first (schedule_of book)).plan

  -- any end of a link
  line_is : (l : ℕ) (b : ActorView S M) (o : OutView M) → l < length e.plan.links → line_at r.world.lines l ≡ line_at (lines_with rests.losses rests.lost rests.messages) l
  line_is l b o low =
      let low' : l < length rests.losses = subst (λ (n : ℕ). l < n) (sym are.losses_each) low in
      let queue : (line_at r.world.lines l).queue ≡ get_or rests.messages l [] = r.queues l b o low ∙ sym (are.messages_are l b o low) in
      let loss : (line_at r.world.lines l).loss ≡ get_or rests.losses l None = r.answered l b o low ∙ sym (are.losses_are l b o low) in
      let count : (line_at r.world.lines l).lost ≡ get_or rests.lost l 0 = r.counted l b o low ∙ sym (are.lost_are l b o low) in
      (λ i. record { queue = queue i; loss = loss i; lost = count i })
      ∙ sym (line_with rests.losses rests.lost rests.messages l low' (are.lost_each ∙ sym are.losses_each) (are.messages_each ∙ sym are.losses_each))

  lines_are : r.world.lines ≡ lines_with rests.losses rests.lost rests.messages
  lines_are =
      let long : length (lines_with rests.losses rests.lost rests.messages) ≡ length e.plan.links = length-lines_with rests.losses rests.lost rests.messages (are.lost_each ∙ sym are.losses_each) (are.messages_each ∙ sym are.losses_each) ∙ are.losses_each in
      same_at empty_line r.world.lines (lines_with rests.losses rests.lost rests.messages) (r.lines ∙ sym long) (λ l low.
      let low' : l < length e.plan.links = subst (λ (n : ℕ). l < n) r.lines low in
      let end = out_end rules e h l low' in
      line_is l end.0 end.1 low')

  pub resumed_is_run : StandsAsRun rules e.plan e.firsts e.losses (resumed e rests book)
  resumed_is_run = record {
    world = r.world;
    run = r.run;
    same = λ i. record { plan = sym plan_is i; states = sym r.states i; lines = sym lines_are i; book = book };
  }
