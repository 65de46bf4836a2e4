-- Machines that number their turns: the numbers are a clock, and without them the machines do as before.
use Rattle.std.proofs.Common.{◌≡◌, ℕ, ◌+◌, ◌<◌, ◌≤◌, max, List, [], ◌∷◌, length, map, slice_get, Option, Some, None, sym, refl, ap, ◌∙◌, subst, arith, le_refl, le_trans}
use Rattle.std.specs.Option.{option_map}
use Rattle.std.specs.List.{AllByRecursion}
use Rattle.std.proofs.lemmas.List.{length-map}
use Rattle.std.proofs.lemmas.Option.{slice_get-map, slice_get_within, same_Some}
use Rattle.sl_machine.specs.Machine.{After, Rules}
use Rattle.sl_loss.specs.Loss.{Loss}
use Rattle.sl_link.specs.declared.ends.Stamped.{Stamped}
use Rattle.sl_actor.specs.Histories.{step_of, stamp_all, numbered_after, numbered}
use Rattle.sl_world.specs.Scene.{Line, new_line}
use Rattle.sl_merge.specs.Lamport.{unnumbered}
use Rattle.sl_merge.proofs.GetLemmas.{some_at}
use Rattle.sl_merge.proofs.WeavingLemmas.{IsTimed, PutsFrom}
use Rattle.sl_merge.proofs.ForgettingLemmas.{IsSeen, seen_after, seen_line}
use Rattle.sl_merge.proofs.BoundLemmas.{each_so, AfterUpTo, IsSlow, LinesUpTo}

module _ {S : Type 0} where
  abbrev pub time : S × ℕ → ℕ
  time s = s.1

  abbrev pub state : S × ℕ → S
  state s = s.0

  pub zeros : (firsts : List S) → AllByRecursion (λ (s : S × ℕ). time s ≤ 0) (unnumbered firsts)
  zeros [] = tt
  zeros (s ∷ firsts) = (le_refl 0, zeros firsts)

  pub states-seen : (firsts : List S) → map state (unnumbered firsts) ≡ firsts
  states-seen [] = refl
  states-seen (s ∷ firsts) = ap (λ (ss : List S). s ∷ ss) (states-seen firsts)

  -- the state before anything happened
  pub first_at : (firsts : List S) (a : ℕ) (s : S × ℕ) → slice_get (unnumbered firsts) a ≡ Some s → (t : S) × (slice_get firsts a ≡ Some t) × ((t, 0) ≡ s)
  first_at firsts a s here =
      let low : a < length firsts = subst (λ (n : ℕ). a < n) (length-map firsts (λ t. (t, 0))) (slice_get_within (unnumbered firsts) a s here) in
      let t = some_at firsts a low in
      (t.0, t.1, same_Some (t.0, 0) s (sym (slice_get-map (λ t. (t, 0)) firsts a ∙ ap (option_map (λ t. (t, 0))) t.1) ∙ here))

module _ {M : Type 0} where
  abbrev pub stamp : Stamped M → ℕ
  stamp s = s.number

  abbrev pub message : Stamped M → M
  message s = s.m

  stamps_from : (n : ℕ) (ps : List (ℕ × M)) → PutsFrom stamp n (stamp_all n ps)
  stamps_from n [] = tt
  stamps_from n (p ∷ ps) = (le_refl n, stamps_from n ps)

  unstamped : (n : ℕ) (ps : List (ℕ × M)) → map (λ p. (p.0, message p.1)) (stamp_all n ps) ≡ ps
  unstamped n [] = refl
  unstamped n (p ∷ ps) = ap (λ (t : List (ℕ × M)). p ∷ t) (unstamped n ps)

  puts_small : (n : ℕ) (ps : List (ℕ × M)) → AllByRecursion (λ (p : ℕ × Stamped M). stamp p.1 ≤ n) (stamp_all n ps)
  puts_small n [] = tt
  puts_small n (p ∷ ps) = (le_refl n, puts_small n ps)

pub empties : (S M : Type 0) (losses : List (Option Loss)) → LinesUpTo {S = S × ℕ} {M = Stamped M} time stamp 0 (map new_line losses)
empties S M [] = tt
empties S M (x ∷ losses) = (tt, empties S M losses)

pub lines-seen : (M : Type 0) (losses : List (Option Loss)) → map (seen_line {M' = Stamped M} message) (map new_line losses) ≡ map new_line losses
lines-seen M [] = refl
lines-seen M (x ∷ losses) = ap (λ (ls : List (Line M)). new_line x ∷ ls) (lines-seen M losses)

module _ {S M : Type 0} (rules : Rules S M) where
  act_from : (n : ℕ) (o : Option (After S M)) (a : After (S × ℕ) (Stamped M)) → option_map (numbered_after n) o ≡ Some a → PutsFrom stamp (time a.state) a.puts
  act_from n None a e = absurd (cc)
  act_from n (Some b) a e = let is : numbered_after n b ≡ a = same_Some (numbered_after n b) a e in subst (λ (c : After (S × ℕ) (Stamped M)). PutsFrom stamp (time c.state) c.puts) is (stamps_from n b.puts)

  pub timed : IsTimed (numbered rules) time stamp
  timed = record {
    later = λ s choice m. omega arith;
    take_puts = λ s choice m. stamps_from (max s.1 m.number + 1) (rules.take s.0 choice m.m).puts;
    act_puts = λ s choice a e. act_from (s.1 + 1) (rules.act s.0 choice) a e;
  }

  after-seen : (n : ℕ) (a : After S M) → a ≡ seen_after state message (numbered_after n a)
  after-seen n a = ap (λ (ps : List (ℕ × M)). record { state = a.state; puts = ps }) (sym (unstamped n a.puts))

  act-seen : (n : ℕ) (o : Option (After S M)) → o ≡ option_map (seen_after state message) (option_map (numbered_after n) o)
  act-seen n None = refl
  act-seen n (Some a) = ap (λ (b : After S M). Some b) (after-seen n a)

  pub plain : IsSeen state message (numbered rules) rules
  plain = record {
    take = λ s choice m. after-seen (max s.1 m.number + 1) (rules.take s.0 choice m.m);
    act = λ s choice. act-seen (s.1 + 1) (rules.act s.0 choice);
  }

  small_more : (n m : ℕ) (a : After (S × ℕ) (Stamped M)) → n ≤ m → AfterUpTo time stamp n a → AfterUpTo time stamp m a
  small_more n m a le h = record { state = le_trans h.state le; puts = each_so (λ p. stamp p.1 ≤ n) (λ p. stamp p.1 ≤ m) (λ p x. le_trans x le) a.puts h.puts }

  act_small : (n m : ℕ) (o : Option (After S M)) (a : After (S × ℕ) (Stamped M)) → n ≤ m → option_map (numbered_after n) o ≡ Some a → AfterUpTo time stamp m a
  act_small n m None a le e = absurd (cc)
  act_small n m (Some b) a le e =
      subst (AfterUpTo time stamp m) (same_Some (numbered_after n b) a e) (small_more n m (numbered_after n b) le (record { state = le_refl n; puts = puts_small n b.puts }))

  pub slow : IsSlow time stamp (numbered rules)
  slow = record {
    take = λ n s choice m at by.
        let k : ℕ = max s.1 m.number + 1 in
        small_more k (n + 1) (numbered_after k (rules.take s.0 choice m.m)) (omega arith) (record { state = le_refl k; puts = puts_small k (rules.take s.0 choice m.m).puts });
    act = λ n s choice a at e. act_small (s.1 + 1) (n + 1) (rules.act s.0 choice) a (omega arith) e;
  }

  act_later : (n : ℕ) (o : Option (After S M)) (a : After (S × ℕ) (Stamped M)) → option_map (numbered_after n) o ≡ Some a → a.state.1 ≡ n
  act_later n None a e = absurd (cc)
  act_later n (Some b) a e = ap (λ (c : After (S × ℕ) (Stamped M)). c.state.1) (sym (same_Some (numbered_after n b) a e))

  -- a step has a later number than the one before it
  pub step_later : (s : S × ℕ) (choice : ℕ) (o : Option (Stamped M)) (a : After (S × ℕ) (Stamped M)) → step_of (numbered rules) s choice o ≡ Some a → s.1 < a.state.1
  step_later s choice None a e = let is : a.state.1 ≡ s.1 + 1 = act_later (s.1 + 1) (rules.act s.0 choice) a e in omega arith
  step_later s choice (Some m) a e =
      let is : max s.1 m.number + 1 ≡ a.state.1 = ap (λ (c : After (S × ℕ) (Stamped M)). c.state.1) (same_Some (numbered_after (max s.1 m.number + 1) (rules.take s.0 choice m.m)) a e) in omega arith
