use Rattle.std.proofs.lemmas.Grind.{common_steps}
use Rattle.std.proofs.Common.{◌≡◌, ℕ, ◌+◌, ◌-◌, List, ◌∷◌, ap, sym, ◌∙◌, take, min, max, Option, Some, arith}
use Rattle.std.specs.Prelude.{Bool, reverse, ◌&&◌, nat_lt, unwrap_or, if◌then◌else◌, slice_index_or}
use Rattle.sl_model.specs.declared.message.Step.{Step}
use Rattle.sl_model.specs.History.{History, id, stamp_taken}
use Rattle.sl_model.specs.Verdict.{adopted, is_old_data, miscredits}
use Rattle.sl_route.specs.Least.{least}
use Rattle.sl_cut.proofs.ForwardSteps.{reverse_more}
use Rattle.sl_cut.proofs.Judging.{least_if}
use Rattle.sl_cut.proofs.judge.miscredited_by.Goals.{then-is_old_data, else-is_old_data}
use Rattle.sl_cut.proofs.judge.miscredited_by.Goals as goal

pub loop-step-preserved : goal.loop-step-preserved
loop-step-preserved c =
    let n = c.args.credits in let k = c.args.snapshot in
    let xs = c.args.steps.now in let i = c.loop-step.step-index in let s = c.step-item.result in
    let h = reverse (take i xs) in
    let more : reverse (take (i + 1) xs) ≡ s ∷ h = reverse_more xs i s c.loop-step-test.true ∙ ap (λ (t : Step). t ∷ h) (sym c.step-item.is) in
    let next : c.max-next.result ≡ id (s ∷ h) = c.max-next.ensures ∙ ap (λ (m : ℕ). max m c.loop-step.id) (c.unwrap_or.ensures ∙ ap (λ (o : Option ℕ). unwrap_or o 0) c.stamp_taken.ensures)
    ∙ ap (max (unwrap_or (stamp_taken s) 0)) c.loop-step.invariant.id in
    let put = λ (a m : ℕ) (ms : List ℕ). if nat_lt a m then m ∷ ms else ms in
    let grown : c.adopt.new.adopted.items ≡ adopted (s ∷ h) = c.in_ok-adopt.ensures ∙ ap (λ (a : ℕ). put a c.max-next.result c.loop-step.adopted.items) c.loop-step.invariant.id
    ∙ ap (λ (m : ℕ). put (id h) m c.loop-step.adopted.items) next ∙ ap (put (id h) (id (s ∷ h))) c.loop-step.invariant.adopted in
    let nth : c.nth_of-nth.result ≡ slice_index_or (adopted (s ∷ h)) (n - 1) 0 = c.nth_of-nth.ensures ∙ ap (λ (ms : List ℕ). slice_index_or ms (n - 1) 0) (c.deref.ensures.value ∙ grown) in
    let counts : c.if-is_old_data.counts ≡ (is_old_data k s.taken && nat_lt k c.nth_of-nth.result) = elim c.if-is_old_data.branch [
      | then-is_old_data w ↦ w.counts-is ∙ ap (λ (b : Bool). b && nat_lt k c.nth_of-nth.result) w.if-is_old_data.ensures
      | else-is_old_data w ↦ w.counts-is ∙ w.if-is_old_data.false ∙ ap (λ (b : Bool). b && nat_lt k c.nth_of-nth.result) w.if-is_old_data.ensures
    ] in
    let one = λ (b : Bool) (m : ℕ) (o : Option ℕ). if b then Some (min (unwrap_or o m) m) else o in
    record {
      id = next ∙ ap id (sym more);
      by = c.least_with-by.ensures ∙ ap (λ (b : Bool). one b c.nth_of-nth.result c.loop-step.by) counts ∙ ap (λ (m : ℕ). one (is_old_data k s.taken && nat_lt k m) m c.loop-step.by) nth
          ∙ ap (one (is_old_data k s.taken && nat_lt k (slice_index_or (adopted (s ∷ h)) (n - 1) 0)) (slice_index_or (adopted (s ∷ h)) (n - 1) 0)) c.loop-step.invariant.by
          ∙ sym (least_if (is_old_data k s.taken && nat_lt k (slice_index_or (adopted (s ∷ h)) (n - 1) 0)) (slice_index_or (adopted (s ∷ h)) (n - 1) 0) (miscredits n k h)) ∙ ap (λ (g : History). least (miscredits n k g)) (sym more);
      adopted = grown ∙ ap adopted (sym more);
    }

pub returns : goal.returns
returns c = grind (arith, common_steps)
