-- The nets of the rows meet what the laws ask, so the laws speak of them: finishing ends there, in a finished world, within the bound.
use Rattle.std.proofs.Common.{◌++◌, ◌<◌, ◌==◌, List, ap, inl, inr, refl, subst, ℕ, ◌≡◌, arith}
use Rattle.std.specs.Prelude.{◌&&◌, codes, false, nat_eq, true, ◌⊎◌}
use Rattle.std.proofs.lemmas.Bool.Decides.{eqb_tells}
use Rattle.sl_layout.specs.Net.{Net, link_of}
use Rattle.sl_net.specs.Wired.{IsNet}
use Rattle.sl_layout.specs.Wiring.{kind_of}
use Rattle.sl_layout.specs.declared.actor.LinkKind.TheVariants.{Reliable}
use Rattle.sl_net.specs.declared.input.Flow.{Flow}
use Rattle.sl_net.specs.declared.input.RawPart.{RawPart}
use Rattle.sl_model.specs.Bound.{bound_of}
use Rattle.sl_model.specs.History.{Losses}
use Rattle.sl_model.specs.Setup.{Setup}
use Rattle.sl_model.specs.World.{Entry, IsLossTable, kept}
use Rattle.sl_model.specs.Ended.{IsEnded}
use Rattle.sl_model.specs.FirstNet.{IsFirstNet}
use Rattle.sl_model.specs.Sweeps.{sweeps_in}
use Rattle.sl_model.proofs.Worked.Nets.{drop_one, net_a, net_c, net_d, setup, no_loss}
use Rattle.sl_model.proofs.Finishing.Enough.{bound-enough}
use Rattle.sl_model.proofs.Bounded.BoundedTurns.{run-ends}

nets-a : IsNet net_a
nets-a = record { made = refl; right = refl }

nets-c : IsNet net_c
nets-c = record { made = refl; right = refl }

nets-d : IsNet net_d
nets-d = record { made = refl; right = refl }

first-a : IsFirstNet net_a
first-a = record { device = codes "a"; host_0 = codes "h0"; host_1 = codes "h1"; made = refl }

-- no loss at all, and the loss of one initiation
table-none : (net : Net) → IsLossTable net no_loss
table-none net l n k = refl

lost-init : IsLossTable net_a (drop_one 11 1)
lost-init l n k = by_tells (eqb_tells l 11)
  where
    by_tells : ((nat_eq l 11 ≡ true) × (l ≡ 11)) ⊎ ((nat_eq l 11 ≡ false) × (l ≡ 11 → ⊥)) → ((l == 11) && (n == 1)) ≡ false
    by_tells (inl q) = let z : kind_of (link_of net_a 11).sort ≡ Reliable = subst (λ l. kind_of (link_of net_a l).sort ≡ Reliable) q.1 k in absurd cc
    by_tells (inr q) = ap (λ b. b && (n == 1)) q.0

ends-well : (s : Setup) (lost : Losses) (es : List Entry) → IsNet s.net → IsLossTable s.net lost → 0 < s.window → (fs : List Entry) × IsEnded s lost es (kept s lost es ++ fs)
ends-well s lost es n t p = let b = bound-enough s lost es (bound_of s (sweeps_in s.net es)) n (omega arith) in (b.entries, run-ends s lost es b.entries n t p (record { fuel = bound_of s (sweeps_in s.net es); finished = b.is }))

abbrev Ends : Setup → Losses → List Entry → Type 0
Ends s lost es = (fs : List Entry) × IsEnded s lost es (kept s lost es ++ fs)

-- any flows and raw frames, any loss of initiations on one link, any schedule
ends-a : (count retries : ℕ) (flows : List Flow) (raws : List RawPart) (es : List Entry) → Ends (record { net = net_a; window = 3; count = count; retries = retries; credits = 1; flows = flows; raws = raws }) (drop_one 11 1) es
ends-a count retries flows raws es = ends-well (record { net = net_a; window = 3; count = count; retries = retries; credits = 1; flows = flows; raws = raws }) (drop_one 11 1) es nets-a lost-init (omega arith)

-- two devices joined by a cable, and three in a line
ends-c : (count retries : ℕ) (flows : List Flow) (es : List Entry) → Ends (setup net_c 1 count retries flows) no_loss es
ends-c count retries flows es = ends-well (setup net_c 1 count retries flows) no_loss es nets-c (table-none net_c) (omega arith)

ends-d : (count retries : ℕ) (flows : List Flow) (es : List Entry) → Ends (setup net_d 1 count retries flows) no_loss es
ends-d count retries flows es = ends-well (setup net_d 1 count retries flows) no_loss es nets-d (table-none net_d) (omega arith)
