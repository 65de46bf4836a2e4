-- Trusted text, in part.
-- How a call of the program ends, and the cause of each ending.
use Rattle.std.specs.Prelude.{◌≡◌, ℕ, ◌<◌, ◌≤◌, ◌^◌, Bool, ◌⊎◌, List, length, map, take, Option, Some, None, Result, Ok, Err, string_bytes}
use Rattle.std.specs.declared.string.String.{String}
use Rattle.std.specs.Global.{Global}
use Rattle.std.specs.Io.KnownBytes.{Appends, Keeps}
use Rattle.sl_io.specs.declared.streams.Source.{Ghosts as Source}
use Rattle.sl_io.specs.declared.streams.Sink.{Ghosts as Sink}
use Rattle.sl_io.specs.Faults.{Rose}
use Rattle.sl_io.specs.Pieces.{IsReadUpTo, AppendsPart}
use Rattle.sl_machine.specs.declared.wiring.Entry.{Entry}
use Rattle.sl_machine.specs.Book.{Book}
use Rattle.sl_words.specs.declared.command.Command.{Command}
use Rattle.sl_words.specs.declared.command.Command.TheVariants as command
use Rattle.sl_words.specs.Words.{words_of}
use Rattle.sl_app.specs.declared.ended.Refusal.{Refusal}
use Rattle.sl_app.specs.declared.ended.Refusal.TheVariants.{Usage, Input as InputRefused, Stream as StreamRefused, ReadFault, TooMany, Memory}
use Rattle.sl_app.specs.declared.ended.Ended.{Ended}
use Rattle.sl_app.specs.declared.run.Served.{Served}
use Rattle.sl_app.specs.Texts.{status_of, refusal_text, write_fault_text, many_text, stream_fault_text, answer_status}
use Rattle.sl_net.specs.Input.{Input}
use Rattle.sl_read.specs.declared.fault.InputFault.{InputFault}
use Rattle.sl_read.specs.Inputs.{input_of}
use Rattle.sl_read.specs.Accepted.{IsAccepted}
use Rattle.sl_model.specs.Bound.{bound_of, input_bound}
use Rattle.sl_model.specs.Losses.{losses}
use Rattle.sl_model.specs.Setup.{setup_of}
use Rattle.sl_model.specs.World.{world}
use Rattle.sl_model.specs.Books.{schedule_of}
use Rattle.sl_report.specs.FaultText.{fault_text}
use Rattle.sl_report.specs.RoutesText.{routes_text}
use Rattle.sl_check.specs.declared.answer.Checked.{Checked}
use Rattle.sl_check.specs.declared.answer.CheckFault.{CheckFault}
use Rattle.sl_check.specs.declared.answer.CheckFault.TheVariants as check
use Rattle.sl_check.specs.Answer.{IsChecked}
use Rattle.sl_check.specs.AnswerText.{answer_text}
use Rattle.sl_proto.specs.Nodes.{NodeState}
use Rattle.sl_proto.specs.RunBook.{IsRunBook}
use Rattle.sl_emul.specs.Threaded.{HasRested, IsThreadedBook}
use Rattle.sl_app.specs.Served.{IsPrinted, IsTabledRun, IsPolledRun, IsValuedRun, IsSampleText, AllPassed, states_of}

-- the words, and the source before and after: the bytes left, where it tells them, and its count of faults
pub record SourceChange : Type 0 where
  pub words : List (List ℕ)
  pub before : Option (List ℕ)
  pub after : Option (List ℕ)
  pub faults_before : ℕ
  pub faults_after : ℕ

-- a sink before and after: the bytes written, where it tells them, and its count of faults
pub record SinkChange : Type 0 where
  pub before : Option (List ℕ)
  pub after : Option (List ℕ)
  pub faults_before : ℕ
  pub faults_after : ℕ

-- these words and what a source, or a sink, went through, by the members of its trait
abbrev pub source_change : {S : Type 0} → Source S → List (List ℕ) → S → S → SourceChange
source_change source words old new = record {
  words = words;
  before = source.left old;
  after = source.left new;
  faults_before = source.faults old;
  faults_after = source.faults new;
}

abbrev pub sink_change : {S : Type 0} → Sink S → S → S → SinkChange
sink_change sink old new = record { before = sink.written old; after = sink.written new; faults_before = sink.faults old; faults_after = sink.faults new }

-- words as lists of bytes
abbrev pub texts_of : List (String Global) → List (List ℕ)
texts_of words = map (λ w. string_bytes w) words

pub record IsUnread (r : SourceChange) : Type 0 where
  pub bytes : Keeps r.before r.after
  pub faults : r.faults_after ≡ r.faults_before

pub record IsUntouched (w : SinkChange) : Type 0 where
  pub bytes : Keeps w.before w.after
  pub faults : w.faults_after ≡ w.faults_before

-- all bytes were read, or as many as an input may have and one more
abbrev pub HasRead : SourceChange → List ℕ → Type 0
HasRead r bytes = IsReadUpTo 1048577 r.before r.after bytes

-- all bytes were read, or as many as a stream may have and one more
abbrev pub HasReadStream : SourceChange → List ℕ → Type 0
HasReadStream r bytes = IsReadUpTo 4194305 r.before r.after bytes

-- this input was read
pub record WasRead (r : SourceChange) (i : Input) : Type 0 where
  pub bytes : List ℕ
  pub read : HasRead r bytes
  pub input : input_of bytes ≡ Ok i

-- the bytes that were read are refused with this line
pub record IsRefusedInput (r : SourceChange) (line : List ℕ) : Type 0 where
  pub bytes : List ℕ
  pub fault : InputFault
  pub read : HasRead r bytes
  pub refused : input_of bytes ≡ Err fault
  pub line_is : line ≡ fault_text fault

-- the refusal of an input with this fault, or want of memory
abbrev pub TellsFault : InputFault → Refusal → Type 0
TellsFault fault (InputRefused line) = line.items ≡ fault_text fault
TellsFault fault Memory = Unit {0}
TellsFault fault _ = ⊥

-- a fault of a stream; want of memory is none
abbrev pub IsStreamFault : CheckFault → Type 0
IsStreamFault check.Memory = ⊥
IsStreamFault _ = Unit {0}

-- the bytes that were read are no stream that is checked, for this fault, and this is its line
pub record IsRefusedStream (r : SourceChange) (line : List ℕ) : Type 0 where
  pub words : words_of r.words ≡ Some command.Check
  pub bytes : List ℕ
  pub fault : CheckFault
  pub refusal : IsStreamFault fault
  pub read : HasReadStream r bytes
  pub refused : IsChecked bytes (Err fault)
  pub line_is : line ≡ stream_fault_text fault

-- the refusal of a stream for this fault, or want of memory
abbrev pub TellsStreamFault : CheckFault → Refusal → Type 0
TellsStreamFault fault (StreamRefused line) = IsStreamFault fault × (line.items ≡ stream_fault_text fault)
TellsStreamFault fault Memory = Unit {0}
TellsStreamFault fault _ = ⊥

-- the words are such that an input is read
abbrev pub reads_input : Option Command → Type 0
reads_input (Some (command.Step trace)) = Unit {0}
reads_input (Some (command.Run trace)) = Unit {0}
reads_input (Some command.Routes) = Unit {0}
reads_input (Some command.Balance) = Unit {0}
reads_input (Some (command.Poll start gap)) = Unit {0}
reads_input (Some command.Values) = Unit {0}
reads_input _ = ⊥

-- the same, or a stream
abbrev pub reads : Option Command → Type 0
reads (Some command.Check) = Unit {0}
reads c = reads_input c

-- the words ask for a run in threads
abbrev pub asks_for_run : Option Command → Type 0
asks_for_run (Some (command.Run trace)) = Unit {0}
asks_for_run _ = ⊥

-- an input was read whose net has more actors than run in threads, and this line says how many
pub record IsTooMany (r : SourceChange) (line : List ℕ) : Type 0 where
  pub words : asks_for_run (words_of r.words)
  pub input : Input
  pub accepted : WasRead r input
  pub many : 256 < length input.net.actors
  pub line_is : line ≡ many_text (length input.net.actors)

-- the refusal of a net of so many actors, or want of memory
abbrev pub TellsTooMany : ℕ → Refusal → Type 0
TellsTooMany actors (TooMany line) = line.items ≡ many_text actors
TellsTooMany actors Memory = Unit {0}
TellsTooMany actors _ = ⊥

-- the cause of a refusal; want of memory has none, but where the words ask for no input and no stream, nothing was read then either
abbrev pub HasCause : SourceChange → Refusal → Type 0
HasCause r Usage = (words_of r.words ≡ None) × IsUnread r
HasCause r (InputRefused line) = reads_input (words_of r.words) × IsRefusedInput r line.items
HasCause r (StreamRefused line) = IsRefusedStream r line.items
HasCause r ReadFault = reads (words_of r.words) × Rose r.faults_before r.faults_after
HasCause r (TooMany line) = IsTooMany r line.items
HasCause r Memory = ¬ reads (words_of r.words) → IsUnread r

-- an input was run, with this book, these nodes and this text: its report, and where it was asked for, the trace of the book; no input has a bound on
-- the turns of its run of 2^27 or more
pub record IsStepped (r : SourceChange) (book : List Entry) (front : ℕ) (nodes : List NodeState) (text : List ℕ) : Type 0 where
  pub trace : Bool
  pub words : words_of r.words ≡ Some (command.Step trace)
  pub input : Input
  pub accepted : WasRead r input
  pub small : input_bound input < 2 ^ 27
  pub run : IsPrinted IsRunBook input (losses input) book front nodes trace text

-- an input was run with a thread for each actor, with this book, these nodes and this text: its report, and where it was asked for, the trace; the net
-- has few actors, no input has a bound on the turns of such a run of 2^27 or more, and when the threads ended nothing was left to send or to issue
pub record IsThreaded (r : SourceChange) (book : List Entry) (front : ℕ) (nodes : List NodeState) (text : List ℕ) : Type 0 where
  pub trace : Bool
  pub words : words_of r.words ≡ Some (command.Run trace)
  pub input : Input
  pub accepted : WasRead r input
  pub few : length input.net.actors ≤ 256
  pub small : bound_of (setup_of input) 0 < 2 ^ 27
  pub rested : HasRested (setup_of input) (world (setup_of input) (losses input) (take front (schedule_of book)))
  pub run : IsPrinted IsThreadedBook input (losses input) book front nodes trace text

-- an input was run, with this book, and the text is the table of balance of its findings
pub record IsBalanced (r : SourceChange) (book : List Entry) (front : ℕ) (text : List ℕ) : Type 0 where
  pub words : words_of r.words ≡ Some command.Balance
  pub input : Input
  pub accepted : WasRead r input
  pub small : input_bound input < 2 ^ 27
  pub run : IsTabledRun input (losses input) book front text

-- an input was run, with this book, and the text is that of the reading of its units
pub record IsPolled (r : SourceChange) (book : List Entry) (front : ℕ) (text : List ℕ) : Type 0 where
  pub start : ℕ
  pub gap : ℕ
  pub words : words_of r.words ≡ Some (command.Poll start gap)
  pub input : Input
  pub accepted : WasRead r input
  pub small : input_bound input < 2 ^ 27
  pub run : IsPolledRun input (losses input) book front start gap text

-- an input was run, with this book, and the text is that of its values
pub record IsValued (r : SourceChange) (book : List Entry) (front : ℕ) (text : List ℕ) : Type 0 where
  pub words : words_of r.words ≡ Some command.Values
  pub input : Input
  pub accepted : WasRead r input
  pub small : input_bound input < 2 ^ 27
  pub run : IsValuedRun input (losses input) book front text

-- the text of the routes of an input's net
pub record IsRouted (r : SourceChange) (text : List ℕ) : Type 0 where
  pub words : words_of r.words ≡ Some command.Routes
  pub input : Input
  pub accepted : WasRead r input
  pub routes : text ≡ routes_text input.net

-- the summary of a run of a sample's input, or its text; nothing was read
pub record IsSampled (r : SourceChange) (text : List ℕ) : Type 0 where
  pub number : ℕ
  pub input : Bool
  pub words : words_of r.words ≡ Some (command.Sample number input)
  pub unread : IsUnread r
  pub sample : IsSampleText number input text

-- a stream was checked, and this is the text of the answer, with the status that it has
pub record IsAnswered (r : SourceChange) (status : ℕ) (text : List ℕ) : Type 0 where
  pub words : words_of r.words ≡ Some command.Check
  pub bytes : List ℕ
  pub answer : Checked
  pub read : HasReadStream r bytes
  pub checked : IsChecked bytes (Ok answer)
  pub text_is : text ≡ answer_text answer
  pub status_is : status ≡ answer_status answer

-- what is served, with the status that it has once it is written: a run; the table, the reading or the values of one of the script, for which there is
-- no node; or a text for which there is no book either
abbrev pub IsServed : SourceChange → Option Book → ℕ → Option (List NodeState) → ℕ → List ℕ → Type 0
IsServed r (Some book) front (Some nodes) status text = (IsStepped r book.entries front nodes text ⊎ IsThreaded r book.entries front nodes text) × (status ≡ 0)
IsServed r (Some book) front None status text =
    (IsBalanced r book.entries front text ⊎ (IsPolled r book.entries front text ⊎ IsValued r book.entries front text)) × (status ≡ 0)
IsServed r None front None status text = (((IsRouted r text ⊎ IsSampled r text) × (status ≡ 0)) ⊎ IsAnswered r status text) × (front ≡ 0)
IsServed r _ front _ status text = ⊥

-- what a command comes to: what is served, or a refusal with its cause
abbrev pub Serves : SourceChange → Result Served Refusal → Type 0
Serves r (Ok s) = IsServed r s.book s.front (states_of s.nodes) s.status s.text.items
Serves r (Err refusal) = HasCause r refusal

-- the same of an input that is read, and of a sample
abbrev pub Accepts : SourceChange → Result Input Refusal → Type 0
Accepts r (Ok i) = WasRead r i × IsAccepted i
Accepts r (Err refusal) = HasCause r refusal

abbrev pub ServesSample : ℕ → Bool → Result Served Refusal → Type 0
ServesSample number text (Ok s) = IsSampleText number text s.text.items × (s.book ≡ None) × (s.front ≡ 0) × (states_of s.nodes ≡ None) × (s.status ≡ 0)
ServesSample number text (Err refusal) = refusal ≡ Memory

-- the whole line for status 5 was appended, or a part of it where the sink's count rose
abbrev pub TellsWriteFault : SinkChange → Type 0
TellsWriteFault err = Appends err.before err.after write_fault_text ⊎ (AppendsPart err.before err.after write_fault_text × Rose err.faults_before err.faults_after)

-- The ways in which writing ends.

-- the text was written whole, and the status is its own: nothing was appended to `err`
pub record IsWhole (out err : SinkChange) (status : ℕ) (text : List ℕ) (e : Ended) : Type 0 where
  pub status_is : e.status ≡ status
  pub written : Appends out.before out.after text
  pub silent : IsUntouched err

-- `out` failed: a part of the text was appended to it, and the line for status 5 to `err`
pub record IsOutFault (out err : SinkChange) (text : List ℕ) (e : Ended) : Type 0 where
  pub status : e.status ≡ 5
  pub rose : Rose out.faults_before out.faults_after
  pub part : AppendsPart out.before out.after text
  pub told : TellsWriteFault err

-- what writing a text leaves: the book and the nodes, where there are any, are returned either way
pub record Reports (out err : SinkChange) (book : Option Book) (front : ℕ) (nodes : Option (List NodeState)) (status : ℕ) (text : List ℕ) (e : Ended) : Type 0 where
  pub kept : e.book ≡ book
  pub front_kept : e.front ≡ front
  pub nodes_kept : states_of e.nodes ≡ nodes
  pub ending : IsWhole out err status text e ⊎ IsOutFault out err text e

abbrev pub ReportsServed : SinkChange → SinkChange → Served → Ended → Type 0
ReportsServed out err s e = Reports out err s.book s.front (states_of s.nodes) s.status s.text.items e

-- the line for a refusal was written whole
pub record IsTold (err : SinkChange) (refusal : Refusal) (e : Ended) : Type 0 where
  pub status : e.status ≡ status_of refusal
  pub told : Appends err.before err.after (refusal_text refusal)

-- `err` failed: a part of the line was appended to it, then the line for status 5 or a part of that
pub record IsErrFault (err : SinkChange) (refusal : Refusal) (e : Ended) : Type 0 where
  pub status : e.status ≡ 5
  pub rose : Rose err.faults_before err.faults_after
  pub between : Option (List ℕ)
  pub part : AppendsPart err.before between (refusal_text refusal)
  pub told : (n : ℕ) × Appends between err.after (take n write_fault_text)

-- what writing a refusal leaves: there is no book, and no node
pub record Refuses (err : SinkChange) (refusal : Refusal) (e : Ended) : Type 0 where
  pub no_book : e.book ≡ None
  pub no_nodes : states_of e.nodes ≡ None
  pub no_front : e.front ≡ 0
  pub ending : IsTold err refusal e ⊎ IsErrFault err refusal e

-- The ending of a call.

-- what was asked for was served, and the text written, or a part of it
pub record IsReported (r : SourceChange) (out err : SinkChange) (e : Ended) : Type 0 where
  pub book : Option Book
  pub front : ℕ
  pub nodes : Option (List NodeState)
  pub status : ℕ
  pub text : List ℕ
  pub served : IsServed r book front nodes status text
  pub reports : Reports out err book front nodes status text e

-- a refusal had its cause, and nothing was appended to `out`
pub record IsRefused (r : SourceChange) (out err : SinkChange) (e : Ended) : Type 0 where
  pub refusal : Refusal
  pub cause : HasCause r refusal
  pub silent : IsUntouched out
  pub refuses : Refuses err refusal e

abbrev pub Ends : SourceChange → SinkChange → SinkChange → Ended → Type 0
Ends r out err e = IsReported r out err e ⊎ IsRefused r out err e

-- the actors of the nodes that a run in threads left passed the gate
abbrev pub NodesPassed : {G : Type 0} → (G → ℕ → ℕ → Type 0) → G → Option (List NodeState) → Type 0
NodesPassed passed gate (Some nodes) = AllPassed passed gate (length nodes)
NodesPassed passed gate None = Unit {0}
