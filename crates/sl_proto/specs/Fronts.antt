-- How far a call has come, also where it ends for want of memory: the turns that it took are the first of those that it takes.
--     FollowsFront s lost old es new        by the first entries of the schedule es
--     SettlesTowards, FinishesTowards       by the first turns of settling, of finishing
--     Leads s lost P old Q new              by the first turns of each schedule of P; those that are left are a schedule of Q
--     SettlesBy, SweepsBy, ResendsBy s lost w es    es is what settling takes from the world w; what finishing takes from where it
--         has settled, and from where it resends
use Rattle.std.specs.Prelude.{◌≡◌, ℕ, suc, List, [], ◌∷◌, ◌++◌, Some}
use Rattle.sl_model.specs.History.{World, Losses}
use Rattle.sl_model.specs.Setup.{Setup}
use Rattle.sl_model.specs.World.{Entry, kept_from}
use Rattle.sl_model.specs.Schedule.{resend_entry}
use Rattle.sl_model.specs.End.{settle, finish, again_from, sweep_round, is_collected, IsFin}
use Rattle.sl_proto.specs.Runs.{Run, Follows, Goes}

pub record FollowsFront (s : Setup) (lost : Losses) (old : Run) (schedule : List Entry) (new : Run) : Type 0 where
  pub first : List Entry
  pub rest : List Entry
  pub whole : schedule ≡ first ++ rest
  pub follows : Follows s lost old first new

pub record SettlesBy (s : Setup) (lost : Losses) (w : World) (es : List Entry) : Type 0 where
  pub fuel : ℕ
  pub settled : settle fuel s lost w ≡ Some es

pub record SettlesTowards (s : Setup) (lost : Losses) (old new : Run) : Type 0 where
  pub turns : List Entry
  pub rest : List Entry
  pub settles : SettlesBy s lost old.world (turns ++ rest)
  pub goes : Goes s lost old turns new

pub record FinishesTowards (s : Setup) (lost : Losses) (old new : Run) : Type 0 where
  pub turns : List Entry
  pub rest : List Entry
  pub finishes : IsFin s lost old.world (turns ++ rest)
  pub goes : Goes s lost old turns new

-- Within settling and finishing.

pub record Leads (s : Setup) (lost : Losses) (P : List Entry → Type 0) (old : Run) (Q : List Entry → Type 0) (new : Run) : Type 0 where
  pub turns : List Entry
  pub goes : Goes s lost old turns new
  pub on : (es : List Entry) → P es → (rest : List Entry) × ((es ≡ turns ++ rest) × Q rest)

-- nothing is said of what is left, and nothing is left
abbrev pub Whatever : List Entry → Type 0
Whatever es = Unit {0}

abbrev pub Nothing : List Entry → Type 0
Nothing es = es ≡ []

pub record SweepsBy (s : Setup) (lost : Losses) (w : World) (es : List Entry) : Type 0 where
  pub fuel : ℕ
  pub swept : sweep_round (suc fuel) (λ v. finish fuel s lost v) s lost w (is_collected s w) ≡ Some es

pub record ResendsBy (s : Setup) (lost : Losses) (w : World) (es : List Entry) : Type 0 where
  pub fuel : ℕ
  pub resent : again_from s lost w (λ v. finish fuel s lost v) (kept_from s lost w (resend_entry s.net ∷ [])) ≡ Some es
