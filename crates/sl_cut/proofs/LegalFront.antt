-- One more turn of a schedule.
use Rattle.std.proofs.Common.{◌≡◌, ℕ, ◌+◌, ◌<◌, List, [], ◌∷◌, length, take, get_or, Option, Some, None, refl, sym, ap, subst, ◌∙◌, arith, true, false}
use Rattle.std.specs.Prelude.{is_some, IsSome, slice_get}
use Rattle.std.proofs.lemmas.List.{take_more}
use Rattle.std.proofs.lemmas.Option.{slice_get_past, get_or_from_slice_get}
use Rattle.sl_model.specs.declared.message.Step.{Step}
use Rattle.sl_model.specs.History.{World, Losses}
use Rattle.sl_model.specs.Setup.{Setup}
use Rattle.sl_model.specs.World.{Entry, start, next_step, after, turn, run, world, IsLegal}
use Rattle.sl_model.specs.Turns.{TakesTurns}

-- the turn of the i-th entry, in the world v that those before it reach
pub reached_more : TakesTurns → (s : Setup) (lost : Losses) (es : List Entry) (i : ℕ) (d : Entry) (v w : World) → i < length es → v ≡ world s lost (take i es)
    → w ≡ turn s lost v (get_or es i d) → w ≡ world s lost (take (i + 1) es)
reached_more turns s lost es i d v w h reached after =
    let e = get_or es i d in
    after ∙ ap (λ (x : World). turn s lost x e) reached ∙ sym (turns.parts s lost (start s.net) (take i es) (e ∷ [])) ∙ ap (world s lost) (sym (take_more es i d h))

-- where it did something
pub legal_more : TakesTurns → (s : Setup) (lost : Losses) (es : List Entry) (i : ℕ) (d : Entry) (v : World) → i < length es → v ≡ world s lost (take i es) → IsLegal s lost (take i es)
    → is_some (next_step s lost v (get_or es i d)) ≡ true → IsLegal s lost (take (i + 1) es)
legal_more turns s lost es i d v h reached legal did =
    let e = get_or es i d in
    let some : IsSome (next_step s lost (run s lost (start s.net) (take i es)) e) = subst (λ (x : World). IsSome (next_step s lost x e)) reached did in
    subst (IsLegal s lost) (sym (take_more es i d h)) (turns.legal_parts s lost (start s.net) (take i es) (e ∷ []) legal (some, tt))

pub none_after : {A : Type 0} (es : List A) (e : A) {P : Type 0} → slice_get es (length es) ≡ Some e → P
none_after es e h = let n = slice_get_past es (length es) (omega arith) in absurd cc

is_none_of : (o : Option Step) → is_some o ≡ false → o ≡ None
is_none_of None h = refl
is_none_of (Some s) h = absurd cc

-- where it did nothing, the world stays
pub idle_stays : (s : Setup) (lost : Losses) (v w : World) (e : Entry) → is_some (next_step s lost v e) ≡ false → w ≡ turn s lost v e → w ≡ v
idle_stays s lost v w e idle came = came ∙ ap (after v e.0) (is_none_of (next_step s lost v e) idle)

-- and its entry is idle there
pub idle_at : (s : Setup) (lost : Losses) (es : List Entry) (i : ℕ) (d : Entry) (v w : World) → is_some (next_step s lost v (get_or es i d)) ≡ false → w ≡ v
    → (e : Entry) → slice_get es i ≡ Some e → next_step s lost w e ≡ None
idle_at s lost es i d v w idle same e at = ap (λ (x : World). next_step s lost x e) same ∙ ap (next_step s lost v) (sym (get_or_from_slice_get es i e d at)) ∙ is_none_of (next_step s lost v (get_or es i d)) idle
