use Rattle.std.proofs.Common.{rules, List, ◌≡◌, ap, subst, sym}
use Rattle.std.specs.List.Sorted.{IsPermutation, IsNonDecreasingBy}
use Rattle.std.proofs.lemmas.List.Sorted.{IsNonDecreasingBy-from_sort_by_key, ties_still_rise}
use Rattle.std.proofs.lemmas.Fn.{always_returns_same}
use Rattle.sl_machine.specs.declared.wiring.Entry.{Entry}
use Rattle.sl_machine.specs.Book.{Book}
use Rattle.sl_merge.specs.Merging.{AreLogs}
use Rattle.sl_merge.proofs.AscendingLemmas.{by_key, ascends}
use Rattle.sl_merge.proofs.book.sort_book.Goals as goal

pub returns-clause-merge : goal.returns-clause-merge
returns-clause-merge c =
    let was : c.book.inside.entries.items ≡ c.args.book.now.entries = ap (λ (b : Book). b.entries) c.book.view_is in
    record {
      same_entries = subst (λ (es : List Entry). IsPermutation es c.sort_by_key.new.self.items) was c.sort_by_key.ensures.permutation;
      rising = IsNonDecreasingBy-from_sort_by_key (λ (e : Entry). e.number) _ c.in_ok-sort_by_key.ensures.sorted (λ a r q k. search rules);
    }

pub returns-clause-ascending : goal.returns-clause-ascending
returns-clause-ascending c logs =
    let was : c.book.inside.entries.items ≡ c.args.book.now.entries = ap (λ (b : Book). b.entries) c.book.view_is in
    ascends c.book.inside.entries.items _ (subst AreLogs (sym was) logs) c.sort_by_key.ensures.permutation
    (IsNonDecreasingBy-from_sort_by_key (λ (e : Entry). e.number) _ c.in_ok-sort_by_key.ensures.sorted (λ a r q k. search rules))
    (ties_still_rise (λ (e : Entry). e.actor) (λ (e : Entry). e.number) c.book.inside.entries.items _ (by_key (λ e. e.actor) c.book.inside.entries.items (subst (IsNonDecreasingBy (λ e. e.actor)) (sym was) c.requires)) (c.in_ok-sort_by_key.ensures.stable (λ (e : Entry). e.number) (always_returns_same _ _ _ (λ a r q k. search rules))))
