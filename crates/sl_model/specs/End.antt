-- Trusted text.
-- The end of a run. fuel is a number of rounds; where it is too small the answer is None, and more fuel changes no other answer.
--     settle fuel s lost w    what settling does from the world w: settling passes until one in which nothing happens
--     finish fuel s lost w    what finishing does
--     IsFin s lost w es       es is the schedule that finishing takes from w, without idle entries
--     IsFinished s lost w     how a world ends
use Rattle.std.specs.Prelude.{◌≡◌, ℕ, suc, zero, ◌<◌, Bool, true, false, ◌&&◌, ◌||◌, List, [], ◌∷◌, ◌++◌, length, nat_lt, ◌==◌, Option, Some, None, slice_get, ◌⊎◌}
use Rattle.sl_layout.specs.declared.actor.ActorId.TheVariants.{Host as OfHost}
use Rattle.sl_layout.specs.Net.{Net, action_choice, units, unit_place}
use Rattle.sl_parts.specs.Lists.{Each}
use Rattle.sl_model.specs.History.{World, Losses, history, taken}
use Rattle.sl_model.specs.Setup.{Setup, frames_of}
use Rattle.sl_model.specs.Knowledge.{observer, known, issued, resent, floor, can_issue}
use Rattle.sl_model.specs.World.{Entry, receiver, carried, taken_by, run, kept_from}
use Rattle.sl_model.specs.Schedule.{settling_pass, sweeps, resend_entry}

-- What was done, followed by what go does from where it leads.

abbrev pub append_to : List Entry → Option (List Entry) → Option (List Entry)
append_to es None = None
append_to es (Some fs) = Some (es ++ fs)

abbrev pub then_from : Setup → Losses → World → (World → Option (List Entry)) → Option (List Entry) → Option (List Entry)
then_from s lost w go None = None
then_from s lost w go (Some es) = append_to es (go (run s lost w es))

-- the same, but the end where nothing was done
abbrev pub again_from : Setup → Losses → World → (World → Option (List Entry)) → List Entry → Option (List Entry)
again_from s lost w go [] = Some []
again_from s lost w go (e ∷ es) = append_to (e ∷ es) (go (run s lost w (e ∷ es)))

abbrev pub settle : ℕ → Setup → Losses → World → Option (List Entry)
settle zero s lost w = None
settle (suc fuel) s lost w = again_from s lost w (λ v. settle fuel s lost v) (kept_from s lost w (settling_pass s.net))

-- all snapshots are issued and collected: F = K = count
abbrev pub is_collected : Setup → World → Bool
is_collected s w = (floor s.net w == issued s.net (observer w)) && (issued s.net (observer w) == s.count)

-- F or K rose from one world to another
abbrev pub rose : Net → World → World → Bool
rose net w v = nat_lt (floor net w) (floor net v) || nat_lt (issued net (observer w)) (issued net (observer v))

-- A round of finishing: settle; where all is collected, end; else sweep and settle; where F or K rose since before the sweeps, begin again;
-- else resend; where that did something, begin again; else end.

abbrev pub after_sweeps : (World → Option (List Entry)) → Setup → Losses → World → Bool → Option (List Entry)
after_sweeps go s lost w true = go w
after_sweeps go s lost w false = again_from s lost w go (kept_from s lost w (resend_entry s.net ∷ []))

abbrev pub sweep_round : ℕ → (World → Option (List Entry)) → Setup → Losses → World → Bool → Option (List Entry)
sweep_round fuel go s lost w true = Some []
sweep_round fuel go s lost w false = then_from s lost w
    (λ swept. then_from s lost swept (λ v. after_sweeps go s lost v (rose s.net w v)) (settle fuel s lost swept))
    (Some (kept_from s lost w (sweeps s.net)))

abbrev pub finish : ℕ → Setup → Losses → World → Option (List Entry)
finish zero s lost w = None
finish (suc fuel) s lost w = then_from s lost w
    (λ settled. sweep_round (suc fuel) (λ v. finish fuel s lost v) s lost settled (is_collected s settled))
    (settle (suc fuel) s lost w)

pub record IsFin (s : Setup) (lost : Losses) (w : World) (es : List Entry) : Type 0 where
  pub fuel : ℕ
  pub finished : finish fuel s lost w ≡ Some es

-- Ends.

abbrev pub AllTaken : Net → Losses → World → Type 0
AllTaken net lost w = (l : ℕ) → l < length net.links → taken_by net l (receiver net w l) ≡ length (carried net lost w l)

abbrev pub AllSent : Setup → World → Type 0
AllSent s w = (a h : ℕ) → slice_get s.net.actors a ≡ Some (OfHost h) → taken (action_choice s.net a) (history w a) ≡ length (frames_of s h)

-- each link is empty, each host has put all its messages, and there is nothing to issue
pub record Settled (s : Setup) (lost : Losses) (w : World) : Type 0 where
  pub taken_all : AllTaken s.net lost w
  pub sent_all : AllSent s w
  pub none_to_issue : can_issue s (floor s.net w) (observer w) ≡ false

-- the observer knows of each unit its whole history
abbrev pub KnowsAll : Net → World → Type 0
KnowsAll net w = Each (λ u. known (unit_place net u) (observer w) ≡ length (history w u)) (units net)

-- no retry is left, and what lags lags for good
pub record IsSpent (s : Setup) (w : World) : Type 0 where
  pub no_retry : resent s.net (observer w) ≡ s.retries
  pub knows_all : KnowsAll s.net w

pub record IsFinished (s : Setup) (lost : Losses) (w : World) : Type 0 where
  pub settled : Settled s lost w
  pub ended : (is_collected s w ≡ true) ⊎ IsSpent s w
