-- A stream has at most one answer or refusal.
use Rattle.std.proofs.Common.{◌≡◌, ℕ, ◌<◌, ◌≤◌, List, length, refl, sym, ap, subst, ◌∙◌, arith}
use Rattle.std.specs.Prelude.{Result, Ok, Err, codes}
use Rattle.sl_net.specs.Input.{Input}
use Rattle.sl_read.specs.declared.fault.InputFault.{InputFault}
use Rattle.sl_read.specs.Inputs.{input_of}
use Rattle.sl_check.specs.declared.answer.Checked.{Checked}
use Rattle.sl_check.specs.declared.answer.CheckFault.{CheckFault}
use Rattle.sl_check.specs.declared.answer.CheckFault.TheVariants.{TooLong, NoMark, Input as Refused, Memory}
use Rattle.sl_check.specs.Lines.{IsLine, PartsAt}
use Rattle.sl_check.specs.Answer.{IsAnswer, IsStream, IsChecked, IsGiven, ReadsNoOther}
use Rattle.sl_check.proofs.LineLemmas.{one_part}

mark-is-line : IsLine (codes "---")
mark-is-line = ((λ e. absurd (omega (arith, e))), ((λ e. absurd (omega (arith, e))), ((λ e. absurd (omega (arith, e))), tt)))

-- what stands at the front of a stream is read in one way, and one claim follows it
one-stream : (bytes : List ℕ) (r t : Result Input InputFault) (c d : List ℕ) → IsStream bytes r c → IsStream bytes t d → (r ≡ t) × (c ≡ d)
one-stream bytes r t c d x y = let p = one_part (codes "---") bytes x.input y.input c d mark-is-line x.parts y.parts in (sym x.read ∙ ap input_of p.0 ∙ y.read, p.1)

abbrev read_as : Input → Result Input InputFault
read_as i = Ok i

abbrev refused_as : InputFault → Result Input InputFault
refused_as e = Err e

same-fault : (e f : InputFault) → refused_as e ≡ refused_as f → e ≡ f
same-fault e f q = cc

no-input : {A : Type 0} (i : Input) (f : InputFault) → read_as i ≡ refused_as f → A
no-input i f q = cc

abbrev answer_as : Checked → Result Checked CheckFault
answer_as a = Ok a

abbrev fault_as : InputFault → Result Checked CheckFault
fault_as e = Err (Refused e)

-- each claim of a run of this input has one answer at most
abbrev OneAnswer : Input → Type 0
OneAnswer i = (claim : List ℕ) (a b : Checked) → IsAnswer i claim a → IsAnswer i claim b → a ≡ b

module _ (i : Input) (once : OneAnswer i) (bytes : List ℕ) (alone : ReadsNoOther bytes i) where
  too-long : {A : Type 0} → 4194304 < length bytes → length bytes ≤ 4194304 → A
  too-long h k = absurd (omega (arith, h, k))

  no-mark : {A : Type 0} (r : Result Input InputFault) (c : List ℕ) → ((input claim : List ℕ) → PartsAt (codes "---") bytes input claim → ⊥) → IsStream bytes r c → A
  no-mark r c none x = absurd (none x.input c x.parts)

  answered : (a b : Checked) → IsChecked bytes (Ok a) → IsChecked bytes (Ok b) → a ≡ b
  answered a b x y =
      let s = one-stream bytes (read_as x.0) (read_as y.0) x.1 y.1 x.2 y.2 in
      once x.1 a b (subst (λ (j : Input). IsAnswer j x.1 a) (alone x.0 x.1 x.2) x.3) (subst (λ (c : List ℕ). IsAnswer i c b) (sym s.1) (subst (λ (j : Input). IsAnswer j y.1 b) (alone y.0 y.1 y.2) y.3))

  pub one-checked : (a b : Result Checked CheckFault) → IsChecked bytes a → IsChecked bytes b → IsGiven a → IsGiven b → a ≡ b
  one-checked (Err Memory) b x y g h = absurd g
  one-checked (Ok a) (Err Memory) x y g h = absurd h
  one-checked (Err TooLong) (Err Memory) x y g h = absurd h
  one-checked (Err NoMark) (Err Memory) x y g h = absurd h
  one-checked (Err (Refused e)) (Err Memory) x y g h = absurd h
  one-checked (Ok a) (Ok b) x y g h = ap answer_as (answered a b x y)
  one-checked (Ok a) (Err TooLong) x y g h = too-long y x.2.few
  one-checked (Ok a) (Err NoMark) x y g h = no-mark (Ok x.0) x.1 y.1 x.2
  one-checked (Ok a) (Err (Refused f)) x y g h = no-input x.0 f (one-stream bytes (read_as x.0) (refused_as f) x.1 y.0 x.2 y.1).0
  one-checked (Err TooLong) (Ok b) x y g h = too-long x y.2.few
  one-checked (Err TooLong) (Err TooLong) x y g h = refl
  one-checked (Err TooLong) (Err NoMark) x y g h = too-long x y.0
  one-checked (Err TooLong) (Err (Refused f)) x y g h = too-long x y.1.few
  one-checked (Err NoMark) (Ok b) x y g h = no-mark (Ok y.0) y.1 x.1 y.2
  one-checked (Err NoMark) (Err TooLong) x y g h = too-long y x.0
  one-checked (Err NoMark) (Err NoMark) x y g h = refl
  one-checked (Err NoMark) (Err (Refused f)) x y g h = no-mark (Err f) y.0 x.1 y.1
  one-checked (Err (Refused e)) (Ok b) x y g h = no-input y.0 e (sym (one-stream bytes (refused_as e) (read_as y.0) x.0 y.1 x.1 y.2).0)
  one-checked (Err (Refused e)) (Err TooLong) x y g h = too-long y x.1.few
  one-checked (Err (Refused e)) (Err NoMark) x y g h = no-mark (Err e) x.0 y.1 x.1
  one-checked (Err (Refused e)) (Err (Refused f)) x y g h = ap fault_as (same-fault e f (one-stream bytes (refused_as e) (refused_as f) x.0 y.0 x.1 y.1).0)
