-- An accepted input has what a run asks.
use Rattle.std.proofs.Common.{◌≡◌, ℕ, ◌<◌, ◌≤◌, ◌^◌, length, ap, ◌∙◌, inl, inr, arith}
use Rattle.std.specs.Prelude.{true}
use Rattle.std.proofs.lemmas.Bool.{le-leb}
use Rattle.std.specs.List.{All}
use Rattle.sl_machine.specs.Plan.{HasChoice}
use Rattle.sl_parts.specs.Lists.{Each}
use Rattle.sl_parts.proofs.Checked.{few_hosts}
use Rattle.sl_parts.proofs.Lists.{each-from_all}
use Rattle.sl_layout.specs.Wiring.{plan_of}
use Rattle.sl_layout.specs.Net.{Net}
use Rattle.sl_net.specs.declared.input.Flow.{Flow}
use Rattle.sl_net.specs.declared.input.Script1.{Script1}
use Rattle.sl_net.specs.declared.input.Script1.TheVariants.{Pass, Choice}
use Rattle.sl_net.specs.Spelling as spelling
use Rattle.sl_net.specs.declared.input.RawPart.{RawPart}
use Rattle.sl_net.specs.Input.{Input}
use Rattle.sl_net.specs.Wired.{IsNet}
use Rattle.sl_net.proofs.NetWired.{no-reason}
use Rattle.sl_flow.specs.Flow.{HasAddresses}
use Rattle.sl_read.specs.Accepted.{IsAccepted, IsEntry, IsCarried}
use Rattle.sl_wire.specs.Frames.{carries}
use Rattle.sl_unit.specs.Made.{IsRanged}
use Rattle.sl_model.specs.Setup.{setup_of}
use Rattle.sl_model.specs.Short.{SendsShort}
use Rattle.sl_simulation.specs.Messages.{CarryIds}
use Rattle.sl_proto.specs.Script.{IsScriptEntry}
use Rattle.sl_proto.specs.RunBook.{CanRun}

net-of : (i : Input) → IsAccepted i → IsNet i.net
net-of i a = record { made = a.net; right = a.right }

ranged : (i : Input) → IsAccepted i → IsRanged i.snapshot
ranged i a = record { some_bits = a.snapshot.some_bits; few_bits = a.snapshot.few_bits; some_window = a.snapshot.some_window; few_window = a.snapshot.few_window; some_ring = a.snapshot.some_ring; some_credits = a.snapshot.some_credits; few_credits = a.snapshot.few_credits }

-- the hosts of its flows have 16 bits
addressed : (i : Input) → IsAccepted i → All HasAddresses i.flows
addressed i a = λ k d h. let f = a.flows k d h in record { from = omega (arith, f.from, few); to = omega (arith, f.to, few) }
  where
    few : length i.net.parts.hosts ≤ 128
    few = few_hosts i.net.parts (no-reason i.net.parts a.right).1.1.1.1.1.1.0

short-of : (i : Input) → IsAccepted i → SendsShort (setup_of i)
short-of i a = record {
  flows = each-from_all (λ (f : Flow). f.bytes < 2 ^ 16) i.flows (λ k d h. (a.flows k d h).bytes);
  raws = each-from_all (λ (r : RawPart). Each (λ b. b < 256) r.bytes) i.raws (λ k d h. each-from_all (λ b. b < 256) _ (a.raws k d h).bytes);
}

-- frames carry its ids
pub carries-is : (bits version : ℕ) → IsCarried bits version → carries bits version ≡ true
carries-is bits version (inl h) = ap (λ v. carries bits v) h.0 ∙ le-leb bits 8 h.1
carries-is bits version (inr e) = ap (λ v. carries bits v) e

carried-of : (i : Input) → IsAccepted i → CarryIds i.net i.snapshot
carried-of i a = record { snapshot = carries-is i.snapshot.width i.snapshot.version a.carried; cables = λ k d h. carries-is i.snapshot.width _ (a.cables k d h) }

-- what is a choice by its spelling is one of the net's wiring
abbrev pub Spelled : Type 0
Spelled = (net : Net) (a c : ℕ) → spelling.HasChoice net a c → HasChoice (plan_of net) a c

entry : Spelled → (net : Net) (e : Script1) → IsEntry net e → IsScriptEntry net e
entry spelled net (Pass n) h = tt
entry spelled net (Choice a c) h = spelled net a c h

pub can-run : Spelled → (i : Input) → IsAccepted i → CanRun i
can-run spelled i a = record {
  net = net-of i a;
  snapshot = ranged i a;
  carried = carried-of i a;
  addresses = addressed i a;
  short = short-of i a;
  script = λ k d h. entry spelled i.net _ (a.script k d h);
}
