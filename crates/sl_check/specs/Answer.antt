-- Trusted text, but for IsGiven, ReadsNoOther, IsInputText, stream_of.
-- What a check of a claim answers, and of a stream: an input, a line `---`, and a claim.
--     IsAnswer i claim a      the answer for a claim of a run of the input i
--     IsChecked bytes r       the answer for a stream, or why there is none
--     IsGiven r               r is an answer or a refusal, and not want of memory
--     ReadsNoOther bytes i    where an input stands before the first line `---` of the stream, it is i
--     stream_of bytes i book  an input, and after it what a run with this book prints with its trace
use Rattle.std.specs.Prelude.{◌≡◌, ℕ, ◌<◌, ◌≤◌, List, ◌++◌, length, Result, Ok, Err, codes}
use Rattle.sl_machine.specs.declared.wiring.Entry.{Entry as BookEntry}
use Rattle.sl_parts.specs.Lists.{Each}
use Rattle.sl_net.specs.Input.{Input}
use Rattle.sl_read.specs.declared.fault.InputFault.{InputFault}
use Rattle.sl_read.specs.Inputs.{input_of}
use Rattle.sl_model.specs.Losses.{losses}
use Rattle.sl_model.specs.Setup.{setup_of}
use Rattle.sl_model.specs.World.{Entry}
use Rattle.sl_model.specs.Books.{schedule_of}
use Rattle.sl_model.specs.Findings.{findings}
use Rattle.sl_report.specs.Report.{report_text}
use Rattle.sl_report.specs.TraceText.{trace_text}
use Rattle.sl_model.specs.Ending.{HasEnding}
use Rattle.sl_model.specs.declared.ending.Ending.{Ending}
use Rattle.sl_model.specs.declared.ending.Ending.TheVariants as ending
use Rattle.sl_check.specs.declared.answer.Checked.{Checked}
use Rattle.sl_check.specs.declared.answer.Checked.TheVariants.{Yes, NoTrace, NoLegal, NoFinished, NoReport}
use Rattle.sl_check.specs.declared.answer.CheckFault.{CheckFault}
use Rattle.sl_check.specs.declared.answer.CheckFault.TheVariants.{TooLong, NoMark, Input as Refused, Memory}
use Rattle.sl_check.specs.Lines.{IsLine, lines_text, PartsAt}
use Rattle.sl_check.specs.Claim.{IsClaim}

-- Claims.

-- the report of the run with this schedule
abbrev pub report_of : Input → List Entry → List ℕ
report_of i es = report_text i.net i.snapshot.count (findings (setup_of i) (losses i) es)

-- the claim has a trace, whose schedule ends so
pub record Claims (i : Input) (claim : List ℕ) (report : List ℕ) (es : List Entry) (e : Ending) : Type 0 where
  pub claim_is : IsClaim i.net claim report es
  pub ends : HasEnding (setup_of i) (losses i) es e

-- the first that applies
abbrev pub IsAnswer : Input → List ℕ → Checked → Type 0
IsAnswer i claim NoTrace = (report : List ℕ) (es : List Entry) → IsClaim i.net claim report es → ⊥
IsAnswer i claim (NoLegal n) = (report : List ℕ) × (es : List Entry) × Claims i claim report es (ending.Idle n)
IsAnswer i claim NoFinished = (report : List ℕ) × (es : List Entry) × Claims i claim report es ending.Unfinished
IsAnswer i claim NoReport = (report : List ℕ) × (es : List Entry) × Claims i claim report es ending.Finished × (report ≡ report_of i es → ⊥)
IsAnswer i claim Yes = (report : List ℕ) × (es : List Entry) × Claims i claim report es ending.Finished × (report ≡ report_of i es)

-- Streams. The input is what stands before the first line `---`, and the claim what follows it.

pub record IsStream (bytes : List ℕ) (r : Result Input InputFault) (claim : List ℕ) : Type 0 where
  pub few : length bytes ≤ 4194304
  pub input : List ℕ
  pub parts : PartsAt (codes "---") bytes input claim
  pub read : input_of input ≡ r

-- want of memory has no cause
abbrev pub IsChecked : List ℕ → Result Checked CheckFault → Type 0
IsChecked bytes (Err TooLong) = 4194304 < length bytes
IsChecked bytes (Err NoMark) = (length bytes ≤ 4194304) × ((input claim : List ℕ) → PartsAt (codes "---") bytes input claim → ⊥)
IsChecked bytes (Err (Refused fault)) = (claim : List ℕ) × IsStream bytes (Err fault) claim
IsChecked bytes (Err Memory) = Unit {0}
IsChecked bytes (Ok a) = (i : Input) × (claim : List ℕ) × IsStream bytes (Ok i) claim × IsAnswer i claim a

abbrev pub IsGiven : Result Checked CheckFault → Type 0
IsGiven (Err Memory) = ⊥
IsGiven _ = Unit {0}

abbrev pub ReadsNoOther : List ℕ → Input → Type 0
ReadsNoOther bytes i = (j : Input) (claim : List ℕ) → IsStream bytes (Ok j) claim → j ≡ i

-- What a run prints, after its input and the line between them.

-- each line of the input ends, and none is the mark
pub record IsInputText (bytes : List ℕ) : Type 0 where
  pub lines : List (List ℕ)
  pub each : Each IsLine lines
  pub none : Each (λ line. line ≡ codes "---" → ⊥) lines
  pub whole : bytes ≡ lines_text lines

abbrev pub stream_of : List ℕ → Input → List BookEntry → List ℕ
stream_of bytes i book = bytes ++ (codes "---\n" ++ (report_of i (schedule_of book) ++ trace_text i.net book))
