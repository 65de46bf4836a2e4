-- What settling and finishing do is legal: no entry of it is idle.
use Rattle.std.proofs.Common.{◌≡◌, ℕ, zero, suc, Bool, true, false, List, [], ◌∷◌, ◌++◌, Option, Some, None, is_some, refl, subst, cond}
use Rattle.sl_model.specs.History.{World, Losses}
use Rattle.sl_model.specs.Setup.{Setup}
use Rattle.sl_model.specs.World.{Entry, next_step, turn, run, IsLegalFrom, kept_from}
use Rattle.sl_model.specs.Schedule.{settling_pass, sweeps, resend_entry}
use Rattle.sl_model.specs.End.{append_to, then_from, again_from, settle, is_collected, rose, after_sweeps, sweep_round, finish}

pub kept_legal : (s : Setup) (lost : Losses) (w : World) (es : List Entry) → IsLegalFrom s lost w (kept_from s lost w es)
kept_legal s lost w [] = tt
kept_legal s lost w (e ∷ es) = go (is_some (next_step s lost w e)) refl (kept_legal s lost (turn s lost w e) es) (kept_legal s lost w es)
  where
    go : (t : Bool) → is_some (next_step s lost w e) ≡ t → IsLegalFrom s lost (turn s lost w e) (kept_from s lost (turn s lost w e) es) → IsLegalFrom s lost w (kept_from s lost w es)
        → IsLegalFrom s lost w (cond t (e ∷ kept_from s lost (turn s lost w e) es) (kept_from s lost w es))
    go true t done idle = (t, done)
    go false t done idle = idle

pub legal_append : (s : Setup) (lost : Losses) (w : World) (xs ys : List Entry) → IsLegalFrom s lost w xs → IsLegalFrom s lost (run s lost w xs) ys → IsLegalFrom s lost w (xs ++ ys)
legal_append s lost w [] ys a b = b
legal_append s lost w (x ∷ xs) ys a b = (a.0, legal_append s lost (turn s lost w x) xs ys a.1 b)

-- what is done, if there is enough fuel, is legal
abbrev pub IsLegalDone : Setup → Losses → World → Option (List Entry) → Type 0
IsLegalDone s lost w None = Unit {0}
IsLegalDone s lost w (Some es) = IsLegalFrom s lost w es

append_done : (s : Setup) (lost : Losses) (w : World) (es : List Entry) (o : Option (List Entry)) → IsLegalFrom s lost w es → IsLegalDone s lost (run s lost w es) o → IsLegalDone s lost w (append_to es o)
append_done s lost w es None a b = tt
append_done s lost w es (Some fs) a b = legal_append s lost w es fs a b

then_done : (s : Setup) (lost : Losses) (w : World) (go : World → Option (List Entry)) (o : Option (List Entry)) → ((v : World) → IsLegalDone s lost v (go v)) → IsLegalDone s lost w o → IsLegalDone s lost w (then_from s lost w go o)
then_done s lost w go None each a = tt
then_done s lost w go (Some es) each a = append_done s lost w es (go (run s lost w es)) a (each (run s lost w es))

again_done : (s : Setup) (lost : Losses) (w : World) (go : World → Option (List Entry)) (es : List Entry) → ((v : World) → IsLegalDone s lost v (go v)) → IsLegalFrom s lost w es → IsLegalDone s lost w (again_from s lost w go es)
again_done s lost w go [] each a = tt
again_done s lost w go (e ∷ es) each a = append_done s lost w (e ∷ es) (go (run s lost w (e ∷ es))) a (each (run s lost w (e ∷ es)))

pub settle_legal : (fuel : ℕ) (s : Setup) (lost : Losses) (w : World) → IsLegalDone s lost w (settle fuel s lost w)
settle_legal zero s lost w = tt
settle_legal (suc fuel) s lost w = again_done s lost w (λ v. settle fuel s lost v) (kept_from s lost w (settling_pass s.net)) (λ v. settle_legal fuel s lost v) (kept_legal s lost w (settling_pass s.net))

sweeps_done : (s : Setup) (lost : Losses) (go : World → Option (List Entry)) → ((v : World) → IsLegalDone s lost v (go v)) → (w : World) (more : Bool) → IsLegalDone s lost w (after_sweeps go s lost w more)
sweeps_done s lost go each w true = each w
sweeps_done s lost go each w false = again_done s lost w go (kept_from s lost w (resend_entry s.net ∷ [])) each (kept_legal s lost w (resend_entry s.net ∷ []))

round_done : (fuel : ℕ) (s : Setup) (lost : Losses) (go : World → Option (List Entry)) → ((v : World) → IsLegalDone s lost v (go v)) → (w : World) (collected : Bool) → IsLegalDone s lost w (sweep_round fuel go s lost w collected)
round_done fuel s lost go each w true = tt
round_done fuel s lost go each w false =
    then_done s lost w (λ swept. then_from s lost swept (λ v. after_sweeps go s lost v (rose s.net w v)) (settle fuel s lost swept)) (Some (kept_from s lost w (sweeps s.net)))
    (λ swept. then_done s lost swept (λ v. after_sweeps go s lost v (rose s.net w v)) (settle fuel s lost swept) (λ v. sweeps_done s lost go each v (rose s.net w v)) (settle_legal fuel s lost swept))
    (kept_legal s lost w (sweeps s.net))

pub finish_legal : (fuel : ℕ) (s : Setup) (lost : Losses) (w : World) → IsLegalDone s lost w (finish fuel s lost w)
finish_legal zero s lost w = tt
finish_legal (suc fuel) s lost w =
    then_done s lost w (λ settled. sweep_round (suc fuel) (λ v. finish fuel s lost v) s lost settled (is_collected s settled)) (settle (suc fuel) s lost w)
    (λ settled. round_done (suc fuel) s lost (λ v. finish fuel s lost v) (λ v. finish_legal fuel s lost v) settled (is_collected s settled)) (settle_legal (suc fuel) s lost w)

-- the schedule that finishing takes is legal
pub fin_legal : (fuel : ℕ) (s : Setup) (lost : Losses) (w : World) (es : List Entry) → finish fuel s lost w ≡ Some es → IsLegalFrom s lost w es
fin_legal fuel s lost w es e = subst (λ (o : Option (List Entry)). IsLegalDone s lost w o) e (finish_legal fuel s lost w)
