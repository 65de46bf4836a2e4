-- What is printed of a run, by the contract of the top call.
use Rattle.std.proofs.Common.{◌≡◌, ℕ, ◌<◌, ◌^◌, List, [], ◌++◌, length, length-append, take, refl, sym, ap, subst, ◌∙◌, arith}
use Rattle.std.specs.Prelude.{Bool, if◌then◌else◌, Ok}
use Rattle.std.proofs.Math.Seq.{take-append_seam}
use Rattle.std.proofs.lemmas.List.{length-map}
use Rattle.sl_machine.specs.declared.wiring.Entry.{Entry}
use Rattle.sl_layout.specs.Net.{Net}
use Rattle.sl_net.specs.Input.{Input}
use Rattle.sl_read.specs.Accepted.{IsAccepted}
use Rattle.sl_read.specs.Inputs.{input_of}
use Rattle.sl_model.specs.declared.findings.Findings.{Findings}
use Rattle.sl_model.specs.Books.{schedule_of}
use Rattle.sl_model.specs.Findings.{findings}
use Rattle.sl_model.specs.History.{Losses}
use Rattle.sl_model.specs.Losses.{losses}
use Rattle.sl_model.specs.Setup.{Setup, setup_of}
use Rattle.sl_model.specs.World.{Entry as Turn}
use Rattle.sl_proto.specs.RunBook.{CanRun}
use Rattle.sl_report.specs.Report.{report_text}
use Rattle.sl_report.specs.TraceText.{trace_text}
use Rattle.sl_app.specs.Ends.{SourceChange, WasRead}
use Rattle.sl_app.specs.Served.{run_text}
use Rattle.sl_app.specs.PrintedFindings.{printed_of, TellsFindings}
use Rattle.sl_report.specs.Sayable.{IsSayable}
use Rattle.sl_report.specs.ShortRun.{IsShortRun}

-- what stands before the same end
same-front : (xs ys zs : List ℕ) → xs ++ zs ≡ ys ++ zs → xs ≡ ys
same-front xs ys zs e =
    let n : length xs ≡ length ys = (let a = ap length e in let b = length-append xs zs in let c = length-append ys zs in omega (arith, a, b, c)) in
    sym (take-append_seam xs zs) ∙ ap (take (length xs)) e ∙ ap (λ k. take k (ys ++ zs)) n ∙ take-append_seam ys zs

-- a run of an accepted input is short
short-run : (i : Input) (book : List Entry) → IsAccepted i → CanRun i → length book < 2 ^ 40 → IsShortRun i.net i.snapshot.count (setup_of i) (schedule_of book)
short-run i book a can few = let count = a.snapshot.count in let same : length (schedule_of book) ≡ length book = simp length-map in record {
  net_is = refl;
  count_is = refl;
  few = omega (arith, count);
  sends = can.short;
  short = omega (arith, same, few);
}

-- what laws say of a net
abbrev pub SayableOn : Net → Type 0
SayableOn net = (count : ℕ) (s : Setup) (lost : Losses) (es : List Turn) → IsShortRun net count s es → IsSayable net count (findings s lost es)

abbrev pub TellsOn : Net → Type 0
TellsOn net = (count : ℕ) (f g : Findings) → IsSayable net count f → IsSayable net count g → report_text net count f ≡ report_text net count g → f ≡ g

pub record Facts (net : Net) : Type 0 where
  pub sayable : SayableOn net
  pub tells : TellsOn net

-- the same of an input that goes by two names
pub facts-of : (i j : Input) → j ≡ i → SayableOn j.net → TellsOn j.net → Facts i.net
facts-of i j is sayable tells = record { sayable = subst (λ (k : Input). SayableOn k.net) is sayable; tells = subst (λ (k : Input). TellsOn k.net) is tells }

printed-tells : (i : Input) (book : List Entry) (trace : Bool) (found : Findings) → Facts i.net → IsAccepted i → CanRun i → length book < 2 ^ 40 → IsSayable i.net i.snapshot.count found
    → printed_of i book trace (findings (setup_of i) (losses i) (schedule_of book)) ≡ printed_of i book trace found → found ≡ findings (setup_of i) (losses i) (schedule_of book)
printed-tells i book trace found facts a can few said same =
    let real = findings (setup_of i) (losses i) (schedule_of book) in
    facts.tells i.snapshot.count found real said (facts.sayable i.snapshot.count (setup_of i) (losses i) (schedule_of book) (short-run i book a can few))
    (sym (same-front (report_text i.net i.snapshot.count real) (report_text i.net i.snapshot.count found) (if trace then trace_text i.net book else []) same))

-- what laws say of inputs that were read
abbrev pub Accepts : Type 0
Accepts = (bytes : List ℕ) (i : Input) → input_of bytes ≡ Ok i → IsAccepted i

abbrev pub Runs : Type 0
Runs = (i : Input) → IsAccepted i → CanRun i

-- a text that was printed of a run of an input that was read
pub run-tells : (r : SourceChange) (i j : Input) (book : List Entry) (trace : Bool) (text : List ℕ) → Facts i.net → Accepts → Runs → WasRead r j → j ≡ i → length book < 2 ^ 40
    → text ≡ run_text j (losses j) book trace → TellsFindings i book trace text
run-tells r i j book trace text facts accepts runs read same few is = let a : IsAccepted i = subst IsAccepted same (accepts read.bytes j read.input) in
    λ found said printed. printed-tells i book trace found facts a (runs i a) few said
    (ap (λ (k : Input). run_text k (losses k) book trace) (sym same) ∙ sym is ∙ printed)
