-- A run without its hostile turns, from the start to the end.
use Rattle.std.proofs.Common.{◌≡◌, ℕ, suc, ◌<◌, ◌≤◌, List, [], ◌∷◌, length, refl, sym, ap, subst, ◌∙◌, Option, Some, None, arith, inl, inr, lt-ltb, le-ltb}
use Rattle.std.specs.Prelude.{true, false, Bool, ◌⊎◌, cond, if◌then◌else◌, map, nat_eq, nat_lt, option_map, slice_set, IsSome}
use Rattle.std.proofs.lemmas.Bool.{cases_lt}
use Rattle.std.proofs.lemmas.Bool.Decides.{eqb_tells}
use Rattle.std.proofs.lemmas.List.{get_or-set_same, get_or-set_other, length-set, length-map}
use Rattle.sl_model.specs.declared.message.Step.{Step}
use Rattle.sl_model.specs.History.{History, World, Losses, history, first}
use Rattle.sl_model.specs.Setup.{Setup}
use Rattle.sl_model.specs.Turns.{TakesTurns}
use Rattle.sl_model.specs.World.{Entry, start, next_step, after, turn, run, world, IsLegalFrom}
use Rattle.sl_cut.specs.Honest.{honest, is_hostile, is_hostile_turn, honest_setup, honest_from, honest_entries}
use Rattle.sl_cut.proofs.Honest.Anew.{anew_step}
use Rattle.sl_cut.proofs.Honest.Links.{first-all}
use Rattle.sl_cut.proofs.Honest.Found.{Laws, IsAt, tell_in, told_in}
use Rattle.sl_cut.proofs.Honest.Turns.{IsSeen, next-at}

-- What was done stays.

first-length : (n : ℕ) (h : History) → n ≤ length h → length (first n h) ≡ n
first-length n [] p = omega (arith, p)
first-length n (s ∷ h) p = by_lt (cases_lt (length h) n) (first-length n h)
  where
    by_lt : ((length h < n) ⊎ (n ≤ length h)) → (n ≤ length h → length (first n h) ≡ n) → length (if nat_lt (length h) n then s ∷ h else first n h) ≡ n
    by_lt (inl q) rest = ap (λ b. length (if b then s ∷ h else first n h)) (lt-ltb (length h) n q) ∙ (let z : suc (length h) ≡ n = omega (arith, p, q) in z)
    by_lt (inr q) rest = ap (λ b. length (if b then s ∷ h else first n h)) (le-ltb (length h) n q) ∙ rest q

first-few : (n : ℕ) (h : History) → length (first n h) ≤ length h
first-few n [] = omega arith
first-few n (s ∷ h) = by_bool (nat_lt (length h) n) (first-few n h)
  where
    by_bool : (b : Bool) → length (first n h) ≤ length h → length (if b then s ∷ h else first n h) ≤ suc (length h)
    by_bool true e = omega arith
    by_bool false e = omega (arith, e)

run-grows : TakesTurns → (s : Setup) (lost : Losses) (w : World) (es : List Entry) (a n : ℕ) → n ≤ length (history w a) → first n (history (run s lost w es) a) ≡ first n (history w a)
run-grows turns s lost w [] a n p = refl
run-grows turns s lost w (e ∷ es) a n p =
    let more = (turns.extends s lost w e a).steps n p in
    let long = first-length n (history w a) p in
    let few = first-few n (history (turn s lost w e) a) in
    let same : length (first n (history (turn s lost w e) a)) ≡ length (first n (history w a)) = ap length more in
    run-grows turns s lost (turn s lost w e) es a n (omega (arith, long, few, same)) ∙ more

-- Turns.

-- what an entry that makes a step leaves
record Grown (w v : World) (a : ℕ) (step : Step) : Type 0 where
  same : history v a ≡ step ∷ history w a
  other : (b : ℕ) → (b ≡ a → ⊥) → history v b ≡ history w b
  size : length v ≡ length w

grown : (w : World) (a : ℕ) (step : Step) → a < length w → Grown w (slice_set w a (step ∷ history w a)) a step
grown w a step p = record { same = get_or-set_same w a (step ∷ history w a) [] p; other = λ b ne. get_or-set_other w a b (step ∷ history w a) [] ne; size = length-set w a (step ∷ history w a) }

by-actor : (a b : ℕ) (P : ℕ → Type 0) → P b → ((a ≡ b → ⊥) → P a) → P a
by-actor a b P p q = by_tells (eqb_tells a b)
  where
    by_tells : ((nat_eq a b ≡ true) × (a ≡ b)) ⊎ ((nat_eq a b ≡ false) × (a ≡ b → ⊥)) → P a
    by_tells (inl z) = subst P (sym z.1) p
    by_tells (inr z) = q z.1

-- the entries es from the world w, and fs, which are those that are not hostile, from v
pub record Follows (s : Setup) (lost : Losses) (z w v : World) (es fs : List Entry) : Type 0 where
  pub at : IsAt s lost z z (run (honest_setup s) lost v fs)
  pub legal : IsLegalFrom s lost w es → IsLegalFrom (honest_setup s) lost v fs

pub follow : (s : Setup) (lost : Losses) → Laws s lost → (es : List Entry) (z w v : World) → run s lost w es ≡ z → IsAt s lost z w v → Follows s lost z w v es (honest_from s lost w es)
follow s lost laws [] z w v q at = record { at = subst (λ x. IsAt s lost z x v) q at; legal = λ l. tt }
follow s lost laws (e ∷ es) z w v q at = by_next (next_step s lost w e) refl (λ u. follow s lost laws es z (turn s lost w e) u q)
  where
    Goes : Bool → Type 0
    Goes b = Follows s lost z w v (e ∷ es) (cond b (honest_from s lost (turn s lost w e) es) (e ∷ honest_from s lost (turn s lost w e) es))

    Rest : Type 0
    Rest = (u : World) → IsAt s lost z (turn s lost w e) u → Follows s lost z (turn s lost w e) u es (honest_from s lost (turn s lost w e) es)

    grows : (a n : ℕ) → n ≤ length (history (turn s lost w e) a) → first n (history z a) ≡ first n (history (turn s lost w e) a)
    grows a n p = ap (λ y. first n (history y a)) (sym q) ∙ run-grows laws.turns s lost (turn s lost w e) es a n p

    idle : next_step s lost w e ≡ None → turn (honest_setup s) lost v e ≡ v
    idle x = ap (after v e.0) (next-at s lost z w v e laws at (ap is_hostile_turn x) (λ step y. let f = sym x ∙ y in absurd cc) ∙ ap (option_map (anew_step (tell_in s.net z) s.net e.0)) x)

    idle-at : next_step s lost w e ≡ None → IsAt s lost z (turn s lost w e) v
    idle-at x = subst (λ u. IsAt s lost z u v) (sym (ap (after w e.0) x)) at

    by_step : (step : Step) → next_step s lost w e ≡ Some step → (b : Bool) → is_hostile step ≡ b → Rest → Goes b
    by_step step x b h rest =
        let low = laws.turns.within s lost w e step x in
        let size = at.size in
        let here = subst (λ u. Grown w u e.0 step) (sym (ap (after w e.0) x)) (grown w e.0 step (omega (arith, low, size))) in
        go b h here
      where
        seen : Grown w (turn s lost w e) e.0 step → IsSeen s z w e step
        seen g = let n = ap length g.same in grows e.0 (suc (length (history w e.0))) (omega (arith, n)) ∙ ap (first (suc (length (history w e.0)))) g.same
            ∙ first-all (suc (length (history w e.0))) (step ∷ history w e.0) (omega arith)

        go : (b : Bool) → is_hostile step ≡ b → Grown w (turn s lost w e) e.0 step → Goes b
        go true h g = let r = rest v (record {
          fifo_run = laws.turns.goes_on s lost w e at.fifo_run;
          same = λ a. by-actor a e.0 (λ a. history v a ≡ told_in s z a (history (turn s lost w e) a))
              (at.same e.0 ∙ ap (λ b. map (anew_step (tell_in s.net z) s.net e.0) (if b then honest (history w e.0) else step ∷ honest (history w e.0))) (sym h) ∙ ap (told_in s z e.0) (sym g.same))
              (λ ne. at.same a ∙ ap (told_in s z a) (sym (g.other a ne)));
          grows = grows;
          size = g.size ∙ at.size;
          size_too = at.size_too;
        }) in record { at = r.at; legal = λ l. r.legal l.1 }
        go false h g =
            let made : next_step (honest_setup s) lost v e ≡ Some (anew_step (tell_in s.net z) s.net e.0 step) =
            next-at s lost z w v e laws at (ap is_hostile_turn x ∙ h) (λ other y. let same : step ≡ other = (let f : Some step ≡ Some other = sym x ∙ y in cc) in subst (IsSeen s z w e) same (seen g))
            ∙ ap (option_map (anew_step (tell_in s.net z) s.net e.0)) x in
            let low = laws.turns.within s lost w e step x in
            let size = at.size_too in
            let too = subst (λ u. Grown v u e.0 (anew_step (tell_in s.net z) s.net e.0 step)) (sym (ap (after v e.0) made)) (grown v e.0 (anew_step (tell_in s.net z) s.net e.0 step) (omega (arith, low, size))) in
            let r = rest (turn (honest_setup s) lost v e) (record {
              fifo_run = laws.turns.goes_on s lost w e at.fifo_run;
              same = λ a. by-actor a e.0 (λ a. history (turn (honest_setup s) lost v e) a ≡ told_in s z a (history (turn s lost w e) a))
                  (too.same ∙ ap (λ r. anew_step (tell_in s.net z) s.net e.0 step ∷ r) (at.same e.0)
                  ∙ ap (λ b. map (anew_step (tell_in s.net z) s.net e.0) (if b then honest (history w e.0) else step ∷ honest (history w e.0))) (sym h) ∙ ap (told_in s z e.0) (sym g.same))
                  (λ ne. too.other a ne ∙ at.same a ∙ ap (told_in s z a) (sym (g.other a ne)));
              grows = grows;
              size = g.size ∙ at.size;
              size_too = too.size ∙ at.size_too;
            }) in record { at = r.at; legal = λ l. (subst IsSome (sym made) refl, r.legal l.1) }

    by_next : (o : Option Step) → next_step s lost w e ≡ o → Rest → Goes (is_hostile_turn (next_step s lost w e))
    by_next None x rest = subst Goes (sym (ap is_hostile_turn x)) (record {
      at = subst (λ u. IsAt s lost z z (run (honest_setup s) lost u (honest_from s lost (turn s lost w e) es))) (sym (idle x)) (rest v (idle-at x)).at;
      legal = λ l. absurd (let none : IsSome {T = Step} None = subst IsSome x l.0 in cc);
    })
    by_next (Some step) x rest = subst Goes (sym (ap is_hostile_turn x)) (by_step step x (is_hostile step) refl rest)

-- from the start
pub honest-run : (s : Setup) (lost : Losses) → Laws s lost → (es : List Entry)
    → Follows s lost (world s lost es) (start s.net) (start s.net) es (honest_entries s lost es)
honest-run s lost laws es = follow s lost laws es (world s lost es) (start s.net) (start s.net) refl (record {
  fifo_run = laws.turns.fifo_run s lost [];
  same = λ a. laws.turns.starts s.net a ∙ ap (told_in s (world s lost es) a) (sym (laws.turns.starts s.net a));
  grows = λ a n p. run-grows laws.turns s lost (start s.net) es a n p;
  size = length-map s.net.actors (λ a. []);
  size_too = length-map s.net.actors (λ a. []);
})
