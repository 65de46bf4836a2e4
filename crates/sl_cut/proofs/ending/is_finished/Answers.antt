use Rattle.std.proofs.Common.{rules, refl, sym, ◌∙◌, inl}
use Rattle.sl_cut.proofs.ending.is_finished.Goals as goal

pub returns-then-is_collected : goal.returns-then-is_collected
returns-then-is_collected c = (
  λ e. record {
    settled = record { taken_all = c.in_ok-all_taken.ensures.0 c.if-not-branch.false; sent_all = c.in_ok-all_sent.ensures.0 c.if-not-branch-2.false; none_to_issue = search rules };
    ended = inl (sym c.is_collected.ensures ∙ c.if-is_collected.true);
  },
  λ f. refl,
)

pub returns-then-resent-input : goal.returns-then-resent-input
returns-then-resent-input c = search rules

pub returns-then-not-branch : goal.returns-then-not-branch
returns-then-not-branch c = (λ e. absurd cc, λ f. sym c.if-not-branch.true ∙ c.in_ok-all_taken.ensures.1 f.settled.taken_all)

pub returns-then-not-branch-2 : goal.returns-then-not-branch-2
returns-then-not-branch-2 c = (λ e. absurd cc, λ f. sym c.if-not-branch-2.true ∙ c.in_ok-all_sent.ensures.1 f.settled.sent_all)
