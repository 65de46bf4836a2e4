-- The merge of the logs is a run.
use Rattle.std.proofs.Common.{ℕ, ◌<◌, List, [], ◌∷◌, length, sym, subst, arith}
use Rattle.std.specs.List.{AllByRecursion}
use Rattle.sl_machine.specs.Machine.{Rules}
use Rattle.sl_machine.specs.declared.wiring.Entry.{Entry}
use Rattle.sl_link.specs.declared.ends.Stamped.{Stamped}
use Rattle.sl_actor.specs.Histories.{Step, IsHistory, numbered, number, entries_of}
use Rattle.sl_merge.specs.Merging.{IsMerge}
use Rattle.sl_merge.specs.Outcome.{Outcome, AreFollowed, IsRun, all_entries}
use Rattle.sl_merge.proofs.GetLemmas.{some_at}
use Rattle.sl_merge.proofs.BoundLemmas.{each_so}
use Rattle.sl_merge.proofs.NumberLemmas.{step_later}
use Rattle.sl_merge.proofs.BookLemmas.{book_is_run}
use Rattle.sl_merge.proofs.CountLemmas.{AreStrict, merge_has_logs}

module _ {S M : Type 0} (rules : Rules S M) where
  -- the numbers of a history rise
  history_later : (s : S × ℕ) (es : List (Step (S × ℕ) (Stamped M))) → IsHistory (numbered rules) s es → AllByRecursion (λ (w : ℕ × ℕ). s.1 < w.0) (entries_of es) × AreStrict (entries_of es)
  history_later s [] h = (tt, tt)
  history_later s (e ∷ es) h =
      let rest = history_later e.after.state es h.1 in
      let up : s.1 < number e = step_later rules s e.choice e.message e.after h.0 in
      ((up, each_so (λ w. number e < w.0) (λ w. s.1 < w.0) (λ w lt. omega arith) (entries_of es) rest.0), rest)

  pub logs_rise : (o : Outcome S M) → AreFollowed rules o → (a : ℕ) → a < length o.plan.ins → AreStrict (entries_of (o.histories a))
  logs_rise o h a low =
      let s = some_at o.firsts a (subst (λ (n : ℕ). a < n) (sym h.firsts_each) low) in
      (history_later (s.0, 0) (o.histories a) (h.runs a s.0 s.1)).1

  pub merge_is_run : (o : Outcome S M) (book : List Entry) → AreFollowed rules o → IsMerge (all_entries o) book → IsRun rules o book
  merge_is_run o book h m =
      book_is_run rules o h book (merge_has_logs (length o.plan.ins) (λ a. entries_of (o.histories a)) book (logs_rise o h) m)
