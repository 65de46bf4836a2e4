-- A schedule has one ending, and what its first idle entry is.
use Rattle.std.proofs.Common.{◌≡◌, ℕ, suc, ◌+◌, ◌<◌, List, [], ◌∷◌, ◌++◌, length, length-take, get_or, take, drop, Some, None, refl, sym, ap, subst, ◌∙◌, arith}
use Rattle.std.specs.Prelude.{IsSome, slice_get}
use Rattle.std.proofs.lemmas.List.{take-append-drop, drop_more}
use Rattle.std.proofs.lemmas.Option.{slice_get-get_or}
use Rattle.sl_model.specs.History.{World, Losses}
use Rattle.sl_model.specs.Setup.{Setup}
use Rattle.sl_model.specs.World.{Entry, start, next_step, turn, run, world, IsLegal, IsLegalFrom}
use Rattle.sl_model.specs.declared.ending.Ending.{Ending}
use Rattle.sl_model.specs.declared.ending.Ending.TheVariants.{Idle, Unfinished, Finished}
use Rattle.sl_model.specs.Ending.{IsFirstIdle, HasEnding}

legal-not-idle : (s : Setup) (lost : Losses) (w : World) (e : Entry) → IsSome (next_step s lost w e) → next_step s lost w e ≡ None → ⊥
legal-not-idle s lost w e h n = let z = subst IsSome n h in cc

-- the first idle entry stands at one place
one-first : (s : Setup) (lost : Losses) (w : World) (b c r q : List Entry) (e f : Entry) → b ++ (e ∷ r) ≡ c ++ (f ∷ q)
    → IsLegalFrom s lost w b → IsLegalFrom s lost w c → next_step s lost (run s lost w b) e ≡ None → next_step s lost (run s lost w c) f ≡ None → length b ≡ length c
one-first s lost w [] [] r q e f p h k m n = refl
one-first s lost w [] (x ∷ c) r q e f p h k m n = let z : e ≡ x = cc in absurd (legal-not-idle s lost w e (subst (λ (y : Entry). IsSome (next_step s lost w y)) (sym z) k.0) m)
one-first s lost w (x ∷ b) [] r q e f p h k m n = let z : x ≡ f = cc in absurd (legal-not-idle s lost w f (subst (λ (y : Entry). IsSome (next_step s lost w y)) z h.0) n)
one-first s lost w (x ∷ b) (y ∷ c) r q e f p h k m n =
    let z : x ≡ y = cc in
    let t : b ++ (e ∷ r) ≡ c ++ (f ∷ q) = cc in
    ap (λ n. suc n) (one-first s lost (turn s lost w x) b c r q e f t h.1 (subst (λ (x : Entry). IsLegalFrom s lost (turn s lost w x) c) (sym z) k.1) m
    (subst (λ (x : Entry). next_step s lost (run s lost (turn s lost w x) c) f ≡ None) (sym z) n))

not-legal : (s : Setup) (lost : Losses) (w : World) (b r : List Entry) (e : Entry) → IsLegalFrom s lost w (b ++ (e ∷ r)) → next_step s lost (run s lost w b) e ≡ None → ⊥
not-legal s lost w [] r e h n = legal-not-idle s lost w e h.0 n
not-legal s lost w (x ∷ b) r e h n = not-legal s lost (turn s lost w x) b r e h.1 n

idle-or-legal : (s : Setup) (lost : Losses) (es : List Entry) (n : ℕ) → IsFirstIdle s lost es n → IsLegal s lost es → ⊥
idle-or-legal s lost es n i h = not-legal s lost (start s.net) i.before i.rest i.entry (subst (IsLegal s lost) i.whole h) i.idle

pub one_ending : (s : Setup) (lost : Losses) (es : List Entry) (a b : Ending) → HasEnding s lost es a → HasEnding s lost es b → a ≡ b
one_ending s lost es (Idle n) (Idle m) i j = ap Idle (i.number ∙ ap (λ n. suc n) (one-first s lost (start s.net) i.before j.before i.rest j.rest i.entry j.entry (sym i.whole ∙ j.whole) i.legal j.legal i.idle j.idle) ∙ sym j.number)
one_ending s lost es (Idle n) Unfinished i j = absurd (idle-or-legal s lost es n i j.0)
one_ending s lost es (Idle n) Finished i j = absurd (idle-or-legal s lost es n i j.0)
one_ending s lost es Unfinished (Idle m) i j = absurd (idle-or-legal s lost es m j i.0)
one_ending s lost es Finished (Idle m) i j = absurd (idle-or-legal s lost es m j i.0)
one_ending s lost es Unfinished Unfinished i j = refl
one_ending s lost es Unfinished Finished i j = absurd (i.1 j.1)
one_ending s lost es Finished Unfinished i j = absurd (j.1 i.1)
one_ending s lost es Finished Finished i j = refl

-- the entries before an idle one
pub first_idle : (s : Setup) (lost : Losses) (es : List Entry) (n : ℕ) (w : World) → n < length es → IsLegal s lost (take n es) → w ≡ world s lost (take n es)
    → ((e : Entry) → slice_get es n ≡ Some e → next_step s lost w e ≡ None) → IsFirstIdle s lost es (n + 1)
first_idle s lost es n w h legal reached idle = let z : Entry = (0, 0) in let e = get_or es n z in record {
  before = take n es;
  entry = e;
  rest = drop (n + 1) es;
  whole = sym (take-append-drop n es) ∙ ap (λ (r : List Entry). take n es ++ r) (drop_more es n z h);
  number = let k = length-take n es in omega (arith, k, h);
  legal = legal;
  idle = subst (λ (v : World). next_step s lost v e ≡ None) reached (idle e (slice_get-get_or es n z h));
}
