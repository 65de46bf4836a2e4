-- The answers of a check, from what each of its steps tells.
use Rattle.std.proofs.Common.{◌≡◌, ℕ, ◌≤◌, Bool, List, length, true, false, sym, subst, ◌∙◌}
use Rattle.std.specs.Prelude.{◌≢◌, Ok, Err, codes}
use Rattle.std.specs.Bool.{Decides}
use Rattle.std.specs.List.{All}
use Rattle.sl_machine.specs.Plan.{HasChoice}
use Rattle.sl_layout.specs.Net.{Net}
use Rattle.sl_layout.specs.Wiring.{plan_of}
use Rattle.sl_net.specs.Spelling as spelling
use Rattle.sl_net.specs.Input.{Input}
use Rattle.sl_read.specs.declared.fault.InputFault.{InputFault}
use Rattle.sl_read.specs.declared.fault.InputFault.TheVariants as input
use Rattle.sl_read.specs.Inputs.{input_of}
use Rattle.sl_model.specs.Losses.{losses}
use Rattle.sl_model.specs.Setup.{setup_of}
use Rattle.sl_model.specs.World.{Entry}
use Rattle.sl_model.specs.Ending.{HasEnding}
use Rattle.sl_model.specs.declared.ending.Ending.TheVariants.{Idle, Unfinished, Finished}
use Rattle.sl_check.specs.declared.answer.Checked.{Checked}
use Rattle.sl_check.specs.declared.answer.Checked.TheVariants.{Yes, NoTrace, NoLegal, NoFinished, NoReport}
use Rattle.sl_check.specs.Lines.{PartsAt}
use Rattle.sl_check.specs.Claim.{IsClaim}
use Rattle.sl_check.specs.Answer.{report_of, IsAnswer, IsChecked}
use Rattle.sl_check.specs.Faults.{fault_of}

module _ (i : Input) (net : Net) (text : List ℕ) (net_is : net ≡ i.net) where
  pub answers-no-trace : ((report : List ℕ) (es : List Entry) → IsClaim net text report es → ⊥) → IsAnswer i text NoTrace
  answers-no-trace none report es claim = none report es (subst (λ (n : Net). IsClaim n text report es) (sym net_is) claim)

  module _ (report : List ℕ) (es : List Entry) (claim : IsClaim net text report es) where
    claimed : IsClaim i.net text report es
    claimed = subst (λ (n : Net). IsClaim n text report es) net_is claim

    pub answers-idle : (n : ℕ) → HasEnding (setup_of i) (losses i) es (Idle n) → IsAnswer i text (NoLegal n)
    answers-idle n ends = (report, es, record { claim_is = claimed; ends = ends })

    pub answers-unfinished : HasEnding (setup_of i) (losses i) es Unfinished → IsAnswer i text NoFinished
    answers-unfinished ends = (report, es, record { claim_is = claimed; ends = ends })

    pub answers-yes : HasEnding (setup_of i) (losses i) es Finished → (fs : List Entry) → fs ≡ es → report ≡ report_of i fs → IsAnswer i text Yes
    answers-yes ends fs same is = (report, es, record { claim_is = claimed; ends = ends }, subst (λ (gs : List Entry). report ≡ report_of i gs) same is)

    pub answers-no-report : HasEnding (setup_of i) (losses i) es Finished → (fs : List Entry) → fs ≡ es → (report ≡ report_of i fs → ⊥) → IsAnswer i text NoReport
    answers-no-report ends fs same other = (report, es, record { claim_is = claimed; ends = ends }, subst (λ (gs : List Entry). report ≡ report_of i gs → ⊥) same other)

-- the turns of a claim are choices of the net's wiring
abbrev pub SpelledAreWired : Type 0
SpelledAreWired = (net : Net) (a c : ℕ) → spelling.HasChoice net a c → HasChoice (plan_of net) a c

pub choices-of : SpelledAreWired → (i : Input) (net : Net) (text report : List ℕ) (es fs : List Entry) → net ≡ i.net → IsClaim net text report es → fs ≡ es
    → All (λ e. HasChoice (plan_of i.net) e.0 e.1) fs
choices-of law i net text report es fs is claim same = subst (All (λ e. HasChoice (plan_of i.net) e.0 e.1)) (sym same)
    (subst (λ (n : Net). All (λ e. HasChoice (plan_of n) e.0 e.1) es) is (λ k d h. law net _ _ (claim.trace.choices k d h)))

pub no-other : {P : Type 0} (b : Bool) → Decides b P → b ≡ false → P → ⊥
no-other b d e p = let z : true ≡ false = sym (d.1 p) ∙ e in cc

-- Streams.

module _ (bytes front claim : List ℕ) (few : length bytes ≤ 4194304) (parts : PartsAt (codes "---") bytes front claim) where
  pub stream-checked : (i : Input) (a : Checked) → input_of front ≡ Ok i → IsAnswer i claim a → IsChecked bytes (Ok a)
  stream-checked i a read answer = (i, claim, record { few = few; input = front; parts = parts; read = read }, answer)

  pub stream-refused : (e : InputFault) → (e ≢ input.Memory → input_of front ≡ Err e) → IsChecked bytes (Err (fault_of e))
  stream-refused input.Memory read = tt
  stream-refused e read = (claim, record { few = few; input = front; parts = parts; read = read (λ q. cc) })
