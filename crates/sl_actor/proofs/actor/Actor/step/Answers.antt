use Rattle.std.proofs.Common.{◌≡◌, ◌∙◌, ◌+◌, ap, map, refl, arith}
use Rattle.std.specs.Prelude.{max}
use Rattle.sl_actor.specs.Held.{held}
use Rattle.sl_actor.proofs.StepLemmas.{ends_given, same_channels, none_taken, taken_step, acted_step}
use Rattle.sl_actor.proofs.actor.Actor.step.Goals as goal
use Rattle.sl_actor.proofs.actor.Actor.step.Goals.{then-choice-len+in-Some, else-choice-len+else-not-act}

pub returns-in-None-clause-idle : goal.returns-in-None-clause-idle
returns-in-None-clause-idle g c =
    none_taken _ _ _ _ _ _ refl refl refl refl (omega (arith, c.if-choice-len.true, c.len.ensures, c.args.self.now.takes.ok)) c.index_mut-end.ensures.value c.take.ensures.channel c.in-None.ensures.same c.take.ensures.told c.in-None.ensures.none

pub returns-in-None-clause-ends : goal.returns-in-None-clause-ends
returns-in-None-clause-ends g c = record { takes = same_channels _ _ _ _ c.index_mut-end.ensures.value c.take.ensures.channel; outs = refl; capacities = refl; losses = refl }

pub returns-clause-did : goal.returns-clause-did
returns-clause-did g c =
    let old = held c.args.self.now in
    let puts = c.if-choice-len.self.1.1.1.1.1.1.1.0.items in
    elim c.if-choice-len.branch [
      | then-choice-len+in-Some w ↦
          taken_step g.A.Machine.rules c.args.choice old _ w.index_mut-end.result.now w.take.new.self w.in-Some.s puts
          (omega (arith, w.if-choice-len.true, c.len.ensures, c.args.self.now.takes.ok)) w.index_mut-end.ensures.value w.in-Some.ensures.some
          (ap (λ s. s.1.1.1.1.1.0.items) w.self-is)
          (ap (λ s. g.A.Machine.state s.1.1.0) w.self-is ∙ w.take-then-choice-len.ensures.state)
          (ap (λ s. s.1.1.1.1.1.1.1.0.items) w.self-is ∙ w.take-then-choice-len.ensures.puts)
          (c.next_number-number.ensures ∙ ap (λ n. max old.number n + 1) w.taken-is) c.note.ensures.log c.note.ensures.given
      | else-choice-len+else-not-act w ↦
          acted_step g.A.Machine.rules c.args.choice old _ _ puts
          (omega (arith, w.if-choice-len.false, c.len.ensures, c.args.self.now.takes.ok)) w.if-not-act.ensures.did
          (ap (λ s. g.A.Machine.state s.1.1.0) w.self-is) (ap (λ s. s.1.1.1.1.1.1.1.0.items) w.self-is) (ap (λ s. s.1.1.1.1.1.0.items) w.self-is)
          (c.next_number-number.ensures ∙ ap (λ n. max old.number n + 1) w.taken-is) c.note.ensures.log c.note.ensures.given
    ]

pub returns-clause-ends : goal.returns-clause-ends
returns-clause-ends g c =
    let puts = c.if-choice-len.self.1.1.1.1.1.1.1.0.items in
    let same = elim c.if-choice-len.branch as (λ _. map (λ e. e.channel) c.if-choice-len.self.1.1.1.1.1.0.items ≡ map (λ e. e.channel) c.args.self.now.takes.items) [
      | then-choice-len+in-Some w ↦ ap (λ s. map (λ e. e.channel) s.1.1.1.1.1.0.items) w.self-is ∙ same_channels _ _ _ _ w.index_mut-end.ensures.value w.take.ensures.channel
      | else-choice-len+else-not-act w ↦ ap (λ s. map (λ e. e.channel) s.1.1.1.1.1.0.items) w.self-is
    ] in
    ends_given _ _ c.next_number-number.result puts same c.note.ensures.given
