-- Counts that rise, and prefixes that are appended.
use Rattle.std.proofs.Common.{◌≡◌, ℕ, ◌<◌, ◌≤◌, ◌⊎◌, inl, inr, List, Option, Some, None, ap, length, take, sym, subst, arith, ◌∙◌}
use Rattle.std.proofs.Math.Seq.{take-length}
use Rattle.std.proofs.lemmas.Bool.{cases_order}
use Rattle.std.specs.Prelude.{Bool, Result, Ok, Err, IsErr, IsErrAnd}
use Rattle.std.specs.Io.KnownBytes.{Appends}
use Rattle.sl_io.specs.Faults.{Rose}
use Rattle.sl_io.specs.Pieces.{AppendsPart}
use Rattle.sl_words.specs.declared.command.Command.{Command}
use Rattle.sl_words.specs.declared.command.Command.TheVariants.{Step, Run, Routes, Sample, Check, Balance, Poll, Values}
use Rattle.sl_words.specs.Words.{words_of}
use Rattle.sl_check.specs.declared.answer.CheckFault.{CheckFault}
use Rattle.sl_check.specs.Answer.{IsChecked}
use Rattle.sl_net.specs.Input.{Input}
use Rattle.sl_read.specs.declared.fault.InputFault.{InputFault}
use Rattle.sl_read.specs.Inputs.{input_of}
use Rattle.sl_app.specs.Texts.{write_fault_text, refusal_text, many_text}
use Rattle.sl_app.specs.declared.ended.Refusal.{Refusal}
use Rattle.sl_app.specs.declared.ended.Refusal.TheVariants.{Usage, Input as InputRefused, Stream as StreamRefused, ReadFault, TooMany, Memory}
use Rattle.sl_app.specs.declared.ended.Ended.{Ended}
use Rattle.sl_machine.specs.Book.{Book}
use Rattle.sl_proto.specs.Nodes.{NodeState}
use Rattle.sl_app.specs.declared.run.Served.{Served}
use Rattle.sl_app.specs.Served.{states_of}
use Rattle.sl_app.specs.Ends.{SourceChange, SinkChange, TellsWriteFault, Refuses, HasRead, HasReadStream, TellsFault, TellsStreamFault, TellsTooMany, WasRead, HasCause, asks_for_run, reads_input, reads, IsUnread, IsServed, Serves, ServesSample}

-- a stream that is refused for a fault
pub stream_refused : (r : SourceChange) (bytes : List ℕ) (fault : CheckFault) (e : Refusal) → words_of r.words ≡ Some Check → HasReadStream r bytes → IsChecked bytes (Err fault)
    → TellsStreamFault fault e → HasCause r e
stream_refused r bytes fault (StreamRefused line) words read checked told =
    record { words = words; bytes = bytes; fault = fault; refusal = told.0; read = read; refused = checked; line_is = told.1 }
stream_refused r bytes fault Memory words read checked told = λ none. absurd (none (subst reads (sym words) tt))
stream_refused r bytes fault Usage words read checked told = absurd told
stream_refused r bytes fault (InputRefused line) words read checked told = absurd told
stream_refused r bytes fault ReadFault words read checked told = absurd told
stream_refused r bytes fault (TooMany line) words read checked told = absurd told

-- an input that is refused for a fault
pub input_refused : (r : SourceChange) (bytes : List ℕ) (fault : InputFault) (e : Refusal) → reads_input (words_of r.words) → reads (words_of r.words) → HasRead r bytes
    → input_of bytes ≡ Err fault → TellsFault fault e → HasCause r e
input_refused r bytes fault (InputRefused line) asks words read refused told = (asks, record { bytes = bytes; fault = fault; read = read; refused = refused; line_is = told })
input_refused r bytes fault Memory asks words read refused told = λ none. absurd (none words)
input_refused r bytes fault Usage asks words read refused told = absurd told
input_refused r bytes fault (StreamRefused line) asks words read refused told = absurd told
input_refused r bytes fault ReadFault asks words read refused told = absurd told
input_refused r bytes fault (TooMany line) asks words read refused told = absurd told

-- an input whose net has too many actors for threads
pub too_many_told : (r : SourceChange) (i : Input) (actors : ℕ) (e : Refusal) → asks_for_run (words_of r.words) → WasRead r i → 256 < length i.net.actors → actors ≡ length i.net.actors
    → TellsTooMany actors e → HasCause r e
too_many_told r i actors (TooMany line) words read many is told =
    record { words = words; input = i; accepted = read; many = many; line_is = told ∙ ap many_text is }
too_many_told r i actors Memory words read many is told = λ none. absurd (none (reads-run (words_of r.words) words))
  where
    reads-run : (c : Option Command) → asks_for_run c → reads c
    reads-run (Some (Run trace)) h = tt
    reads-run (Some (Step trace)) h = absurd h
    reads-run (Some Routes) h = absurd h
    reads-run (Some (Sample n i)) h = absurd h
    reads-run (Some Check) h = absurd h
    reads-run (Some Balance) h = absurd h
    reads-run (Some (Poll s g)) h = absurd h
    reads-run (Some Values) h = absurd h
    reads-run None h = absurd h
too_many_told r i actors Usage words read many is told = absurd told
too_many_told r i actors (InputRefused line) words read many is told = absurd told
too_many_told r i actors (StreamRefused line) words read many is told = absurd told
too_many_told r i actors ReadFault words read many is told = absurd told

-- want of memory, where an input is read
pub memory_told : (r : SourceChange) (c : Command) (x : Result Served Refusal) → words_of r.words ≡ Some c → reads (Some c) → IsErr x × IsErrAnd x (λ e. e ≡ Memory) → Serves r x
memory_told r c (Ok s) words read h = let k = h.0 in absurd (cc)
memory_told r c (Err e) words read h = subst (λ (x : Refusal). HasCause r x) (sym h.1) (λ none. absurd (none (subst reads (sym words) read)))

-- a sample is served without reading
pub sample_served : (r : SourceChange) (number : ℕ) (input : Bool) (x : Result Served Refusal) → words_of r.words ≡ Some (Sample number input) → IsUnread r
    → ServesSample number input x → Serves r x
sample_served r number input (Ok s) words unread h =
    subst (λ (b : Option Book). IsServed r b s.front (states_of s.nodes) s.status s.text.items) (sym h.1)
    (subst (λ (m : Option (List NodeState)). IsServed r None s.front m s.status s.text.items) (sym h.3)
    (inl (inr (record { number = number; input = input; words = words; unread = unread; sample = h.0 }), h.4), h.2))
sample_served r number input (Err e) words unread h = subst (HasCause r) (sym h) (λ none. unread)

-- a count that rose has risen wherever it goes on from there
pub rose_on : (a b c : ℕ) → a ≤ b → Rose a b → b ≤ c → Rose a c
rose_on a b c k (inl h) l = inl (omega arith)
rose_on a b c k (inr h) l = go (cases_order b c)
  where
    go : (b ≡ c) ⊎ ((b < c) ⊎ (c < b)) → Rose a c
    go (inl e) = inr (sym e ∙ h)
    go (inr (inl e)) = inl (omega arith)
    go (inr (inr e)) = absurd (omega arith)

pub told_prefix : (w : SinkChange) → TellsWriteFault w → (n : ℕ) × Appends w.before w.after (take n write_fault_text)
told_prefix w (inl h) = (length write_fault_text, subst (λ (t : List ℕ). Appends w.before w.after t) (sym (take-length write_fault_text)) h)
told_prefix w (inr h) = (h.0.0, h.0.2)

-- where the line for a refusal failed, and then the line for status 5 was tried
pub err_fault : (before mid after : Option (List ℕ)) (old now end : ℕ) (refusal : Refusal) (text : List ℕ) (e : Ended) → text ≡ refusal_text refusal → AppendsPart before mid text → old ≤ now → Rose old now
    → TellsWriteFault (record { before = mid; after = after; faults_before = now; faults_after = end }) → now ≤ end → e ≡ record { status = 5; book = None; front = 0; nodes = None }
    → Refuses (record { before = before; after = after; faults_before = old; faults_after = end }) refusal e
err_fault before mid after old now end refusal text e is part k rose told l ended = record {
  no_book = ap (λ (x : Ended). x.book) ended;
  no_nodes = ap (λ (x : Ended). states_of x.nodes) ended;
  no_front = ap (λ (x : Ended). x.front) ended;
  ending = inr (record {
    status = ap (λ (x : Ended). x.status) ended;
    rose = rose_on old now end k rose l;
    between = mid;
    part = subst (λ (t : List ℕ). AppendsPart before mid t) is part;
    told = told_prefix (record { before = mid; after = after; faults_before = now; faults_after = end }) told;
  });
}
