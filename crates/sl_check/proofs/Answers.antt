-- A claim has one answer, and what is printed of a finished run is right.
use Rattle.std.proofs.Common.{◌≡◌, ℕ, ◌≤◌, List, [], ◌∷◌, ◌++◌, map, length, refl, sym, ap, subst, ◌∙◌}
use Rattle.std.specs.Prelude.{Ok, flat_map}
use Rattle.std.specs.List.{All}
use Rattle.std.proofs.lemmas.List.{length-map}
use Rattle.std.proofs.lemmas.List.Elements.{All-nil, All-cons, All-head, All-tail}
use Rattle.sl_machine.specs.declared.wiring.Entry.{Entry as BookEntry}
use Rattle.sl_layout.specs.Net.{Net}
use Rattle.sl_net.specs.Input.{Input}
use Rattle.sl_net.specs.Spelled.{HasOneSpelling}
use Rattle.sl_net.specs.Spelling.{HasChoice}
use Rattle.sl_read.specs.Inputs.{input_of}
use Rattle.sl_model.specs.History.{Losses}
use Rattle.sl_model.specs.Losses.{losses}
use Rattle.sl_model.specs.Setup.{Setup, setup_of}
use Rattle.sl_model.specs.World.{Entry}
use Rattle.sl_model.specs.Books.{schedule_of}
use Rattle.sl_model.specs.Findings.{findings}
use Rattle.sl_net.specs.Names.{HasNames}
use Rattle.sl_report.specs.TraceText.{IsEntryOf, count_line, entry_line, trace_text}
use Rattle.sl_model.specs.declared.ending.Ending.{Ending}
use Rattle.sl_model.specs.declared.ending.Ending.TheVariants as ending
use Rattle.sl_model.specs.Ending.{HasEnding}
use Rattle.sl_check.specs.declared.answer.Checked.{Checked}
use Rattle.sl_check.specs.declared.answer.Checked.TheVariants.{Yes, NoTrace, NoLegal, NoFinished, NoReport}
use Rattle.sl_check.specs.Spellings.{SpellsLines}
use Rattle.sl_check.specs.Claim.{unnumbered, schedule_text}
use Rattle.sl_check.specs.Answer.{report_of, Claims, IsAnswer, IsChecked, IsInputText, stream_of}
use Rattle.sl_check.proofs.ClaimLemmas.{one_claim}
use Rattle.sl_check.proofs.ReportLines.{report_parts}

abbrev pub OneEnding : Type 0
OneEnding = (s : Setup) (lost : Losses) (es : List Entry) (a b : Ending) → HasEnding s lost es a → HasEnding s lost es b → a ≡ b

module _ (i : Input) (one : HasOneSpelling i.net) (lines : SpellsLines i.net) (endings : OneEnding) where
  -- two readings of a claim are one, and end alike
  record AreOne (r q : List ℕ) (es fs : List Entry) (e f : Ending) : Type 0 where
    pub report : r ≡ q
    pub schedule : es ≡ fs
    pub ending : e ≡ f

  are-one : (claim r q : List ℕ) (es fs : List Entry) (e f : Ending) → Claims i claim r es e → Claims i claim q fs f → AreOne r q es fs e f
  are-one claim r q es fs e f c d = let t = one_claim i.net claim r q es fs one lines c.claim_is d.claim_is in record {
    report = t.0;
    schedule = t.1;
    ending = endings (setup_of i) (losses i) fs e f (subst (λ (x : List Entry). HasEnding (setup_of i) (losses i) x e) t.1 c.ends) d.ends;
  }

  ends-alike : (claim r q : List ℕ) (es fs : List Entry) (e f : Ending) → Claims i claim r es e → Claims i claim q fs f → e ≡ f
  ends-alike claim r q es fs e f c d = (are-one claim r q es fs e f c d).ending

  wrong-report : (claim r q : List ℕ) (es fs : List Entry) → Claims i claim r es ending.Finished → (r ≡ report_of i es → ⊥) → Claims i claim q fs ending.Finished → q ≡ report_of i fs → ⊥
  wrong-report claim r q es fs c n d y = let t = are-one claim r q es fs ending.Finished ending.Finished c d in n (t.report ∙ y ∙ ap (report_of i) (sym t.schedule))

  pub one_answer : (claim : List ℕ) (a b : Checked) → IsAnswer i claim a → IsAnswer i claim b → a ≡ b
  one_answer claim NoTrace NoTrace x y = refl
  one_answer claim NoTrace (NoLegal n) x y = absurd (x y.0 y.1 y.2.claim_is)
  one_answer claim NoTrace NoFinished x y = absurd (x y.0 y.1 y.2.claim_is)
  one_answer claim NoTrace NoReport x y = absurd (x y.0 y.1 y.2.claim_is)
  one_answer claim NoTrace Yes x y = absurd (x y.0 y.1 y.2.claim_is)
  one_answer claim (NoLegal n) NoTrace x y = absurd (y x.0 x.1 x.2.claim_is)
  one_answer claim NoFinished NoTrace x y = absurd (y x.0 x.1 x.2.claim_is)
  one_answer claim NoReport NoTrace x y = absurd (y x.0 x.1 x.2.claim_is)
  one_answer claim Yes NoTrace x y = absurd (y x.0 x.1 x.2.claim_is)
  one_answer claim (NoLegal n) (NoLegal m) x y = let e = ends-alike claim x.0 y.0 x.1 y.1 (ending.Idle n) (ending.Idle m) x.2 y.2 in let k : n ≡ m = cc in ap NoLegal k
  one_answer claim (NoLegal n) NoFinished x y = let e = ends-alike claim x.0 y.0 x.1 y.1 (ending.Idle n) ending.Unfinished x.2 y.2 in absurd cc
  one_answer claim (NoLegal n) NoReport x y = let e = ends-alike claim x.0 y.0 x.1 y.1 (ending.Idle n) ending.Finished x.2 y.2 in absurd cc
  one_answer claim (NoLegal n) Yes x y = let e = ends-alike claim x.0 y.0 x.1 y.1 (ending.Idle n) ending.Finished x.2 y.2 in absurd cc
  one_answer claim NoFinished (NoLegal m) x y = let e = ends-alike claim x.0 y.0 x.1 y.1 ending.Unfinished (ending.Idle m) x.2 y.2 in absurd cc
  one_answer claim NoReport (NoLegal m) x y = let e = ends-alike claim x.0 y.0 x.1 y.1 ending.Finished (ending.Idle m) x.2 y.2 in absurd cc
  one_answer claim Yes (NoLegal m) x y = let e = ends-alike claim x.0 y.0 x.1 y.1 ending.Finished (ending.Idle m) x.2 y.2 in absurd cc
  one_answer claim NoFinished NoFinished x y = refl
  one_answer claim NoFinished NoReport x y = let e = ends-alike claim x.0 y.0 x.1 y.1 ending.Unfinished ending.Finished x.2 y.2 in absurd cc
  one_answer claim NoFinished Yes x y = let e = ends-alike claim x.0 y.0 x.1 y.1 ending.Unfinished ending.Finished x.2 y.2 in absurd cc
  one_answer claim NoReport NoFinished x y = let e = ends-alike claim x.0 y.0 x.1 y.1 ending.Finished ending.Unfinished x.2 y.2 in absurd cc
  one_answer claim Yes NoFinished x y = let e = ends-alike claim x.0 y.0 x.1 y.1 ending.Finished ending.Unfinished x.2 y.2 in absurd cc
  one_answer claim NoReport NoReport x y = refl
  one_answer claim NoReport Yes x y = absurd (wrong-report claim x.0 y.0 x.1 y.1 x.2 x.3 y.2 y.3)
  one_answer claim Yes NoReport x y = absurd (wrong-report claim y.0 x.0 y.1 x.1 y.2 y.3 x.2 x.3)
  one_answer claim Yes Yes x y = refl

-- What is printed of a run.

turns-are : (net : Net) (book : List BookEntry) → All (IsEntryOf net) book → All (λ e. HasChoice net e.0 e.1) (schedule_of book)
turns-are net [] all = All-nil (λ (e : Entry). HasChoice net e.0 e.1)
turns-are net (b ∷ book) all = All-cons (λ (e : Entry). HasChoice net e.0 e.1) (b.actor, b.choice) (schedule_of book)
    (All-head (IsEntryOf net) b book all) (turns-are net book (All-tail (IsEntryOf net) b book all))

lines-are : (net : Net) (book : List BookEntry) → flat_map (entry_line net) book ≡ flat_map (entry_line net) (map unnumbered (schedule_of book))
unfolding entry_line
lines-are net [] = refl
lines-are net (b ∷ book) = ap (λ (r : List ℕ). entry_line net b ++ r) (lines-are net book)

-- the trace of a book is that of its schedule
trace-is : (net : Net) (book : List BookEntry) → trace_text net book ≡ schedule_text net (schedule_of book)
trace-is net book =
    let n : length book ≡ length (map unnumbered (schedule_of book)) =
    sym (length-map (schedule_of book) unnumbered ∙ length-map book (λ (e : BookEntry). (e.actor, e.choice))) in
    ap (λ n. count_line n ++ flat_map (entry_line net) book) n ∙ ap (λ (r : List ℕ). count_line (length (map unnumbered (schedule_of book))) ++ r) (lines-are net book)

pub printed-right : (i : Input) → HasNames i.net.parts → (bytes : List ℕ) (book : List BookEntry) → IsInputText bytes → input_of bytes ≡ Ok i → All (IsEntryOf i.net) book
    → HasEnding (setup_of i) (losses i) (schedule_of book) ending.Finished → length (stream_of bytes i book) ≤ 4194304 → IsChecked (stream_of bytes i book) (Ok Yes)
printed-right i names bytes book text read choices ends few =
    let trace = trace_text i.net book in
    let report = report_of i (schedule_of book) in
    let p = report_parts i.net names i.snapshot.count (findings (setup_of i) (losses i) (schedule_of book)) trace in (
      i,
      report ++ trace,
      record {
        few = few;
        input = bytes;
        parts = record { lines = text.lines; each = text.each; none = text.none; front_is = text.whole; whole = refl };
        read = read;
      },
      (
        report,
        schedule_of book,
        record {
          claim_is = record {
            front = p.0;
            back = trace;
            parts = p.1;
            report_is = p.2;
            trace = record { choices = turns-are i.net book choices; text_is = trace-is i.net book };
          };
          ends = ends;
        },
        refl,
      ),
    )
