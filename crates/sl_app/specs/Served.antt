-- Trusted text, but for IsReport, ServesThreads, IsTable, IsReading, AreValues.
-- What is served: for an input the book and the nodes of its run, and the text; for a sample the text.
use Rattle.std.specs.Prelude.{◌≡◌, ℕ, ◌<◌, ◌≤◌, ◌^◌, Bool, true, false, if◌then◌else◌, List, [], ◌++◌, length, map, Option, Some, None, option_map, Result, Ok, Err, Vec}
use Rattle.std.specs.Global.{Global}
use Rattle.sl_machine.specs.Book.{Book}
use Rattle.sl_machine.specs.declared.wiring.Entry.{Entry}
use Rattle.sl_net.specs.Input.{Input}
use Rattle.sl_flow.specs.Sample.{sample_parts}
use Rattle.sl_flow.specs.InputText.{sample_text}
use Rattle.sl_model.specs.History.{Losses}
use Rattle.sl_model.specs.Bound.{input_bound}
use Rattle.sl_model.specs.Losses.{losses}
use Rattle.sl_model.specs.Setup.{setup_of}
use Rattle.sl_model.specs.World.{world}
use Rattle.sl_model.specs.Books.{schedule_of}
use Rattle.sl_model.specs.Findings.{findings}
use Rattle.sl_proto.specs.Nodes.{NodeState, NodeView, node_state}
use Rattle.sl_emul.specs.declared.fault.EmulFault.{EmulFault}
use Rattle.sl_emul.specs.declared.fault.EmulFault.TheVariants.{TooMany, Memory as OutOfMemory}
use Rattle.sl_proto.specs.RunBook.{IsRunBook}
use Rattle.sl_emul.specs.Run.{AreNodesOf}
use Rattle.sl_emul.specs.Threaded.{IsThreadedBook}
use Rattle.sl_app.specs.declared.run.Served.{Served}
use Rattle.sl_balance.specs.Balance.{balance}
use Rattle.sl_balance.specs.BalanceText.{balance_text}
use Rattle.sl_poll.specs.Reading.{reads, broken_by}
use Rattle.sl_poll.specs.PollText.{poll_text}
use Rattle.sl_report.specs.Report.{report_text}
use Rattle.sl_report.specs.TraceText.{trace_text}
use Rattle.sl_report.specs.SummaryText.{summary_text}
use Rattle.sl_value.specs.Verdicts.{value_list}
use Rattle.sl_value.specs.ValuesText.{values_text}

-- the report of a run, and where it is asked for, the trace of its book
abbrev pub run_text : Input → Losses → List Entry → Bool → List ℕ
run_text i lost book trace = report_text i.net i.snapshot.count (findings (setup_of i) lost (schedule_of book)) ++ (if trace then trace_text i.net book else [])

-- a run with such a book: the book, the nodes that it leads to under a loss table, and the text
pub record IsPrinted (IsBook : Input → Losses → List Entry → ℕ → Type 0) (i : Input) (lost : Losses)
    (book : List Entry) (front : ℕ) (nodes : List NodeState) (trace : Bool) (text : List ℕ) : Type 0 where
  pub run : IsBook i lost book front
  pub stand : AreNodesOf i (world (setup_of i) lost (schedule_of book)) nodes
  pub text_is : text ≡ run_text i lost book trace

-- what nodes that are kept stand for
abbrev pub states_of : Option (Vec NodeView Global) → Option (List NodeState)
states_of nodes = option_map (λ ns. map node_state ns.items) nodes

-- such a run, with its book and its nodes
abbrev pub IsReport : (Input → Losses → List Entry → ℕ → Type 0) → Input → Losses → Option Book → ℕ → Option (List NodeState) → Bool → List ℕ → Type 0
IsReport IsBook i lost (Some book) front (Some nodes) trace text = IsPrinted IsBook i lost book.entries front nodes trace text
IsReport IsBook i lost _ front _ trace text = ⊥

-- a run with a thread for each actor, or how many actors there are, where they are too many for it
abbrev pub ServesThreads : Input → Bool → Result Served EmulFault → Type 0
ServesThreads i trace (Ok s) = (length i.net.actors ≤ 256) × (IsReport IsThreadedBook i (losses i) s.book s.front (states_of s.nodes) trace s.text.items × (s.status ≡ 0))
ServesThreads i trace (Err (TooMany actors)) = (256 < length i.net.actors) × (actors ≡ length i.net.actors)
ServesThreads i trace (Err OutOfMemory) = Unit {0}

-- each of the first n actors passed the gate before each of its first 200 rounds
abbrev pub AllPassed : {G : Type 0} → (G → ℕ → ℕ → Type 0) → G → ℕ → Type 0
AllPassed passed gate n = (actor : ℕ) → actor < n → (round : ℕ) → round < 200 → passed gate actor round

-- the table of balance of a run
abbrev pub table_text : Input → Losses → List Entry → List ℕ
table_text i lost book = balance_text i.net (balance i.net (findings (setup_of i) lost (schedule_of book)).list)

-- the book of a run under a loss table, and the text of its table
pub record IsTabledRun (i : Input) (lost : Losses) (book : List Entry) (front : ℕ) (text : List ℕ) : Type 0 where
  pub run : IsRunBook i lost book front
  pub text_is : text ≡ table_text i lost book

-- a table, with the book of its run
abbrev pub IsTable : Input → Losses → Option Book → ℕ → Option (List NodeState) → List ℕ → Type 0
IsTable i lost (Some book) front None text = IsTabledRun i lost book.entries front text
IsTable i lost _ front _ text = ⊥

-- what reading the units of a run one after the other shows, the first after `start` entries and each further one after `gap` more
abbrev pub reading_text : Input → Losses → List Entry → ℕ → ℕ → List ℕ
reading_text i lost book start gap = poll_text i.net (reads (setup_of i) lost (schedule_of book) start gap) (broken_by (setup_of i) lost (schedule_of book) start gap)

-- the book of a run under a loss table, and the text of its reading
pub record IsPolledRun (i : Input) (lost : Losses) (book : List Entry) (front start gap : ℕ) (text : List ℕ) : Type 0 where
  pub run : IsRunBook i lost book front
  pub text_is : text ≡ reading_text i lost book start gap

-- a reading, with the book of its run
abbrev pub IsReading : Input → Losses → Option Book → ℕ → Option (List NodeState) → ℕ → ℕ → List ℕ → Type 0
IsReading i lost (Some book) front None start gap text = IsPolledRun i lost book.entries front start gap text
IsReading i lost _ front _ start gap text = ⊥

-- the values of a run: of each snapshot the verdict, and where it is whole what each unit counted before its id reached it
abbrev pub valued_text : Input → Losses → List Entry → List ℕ
valued_text i lost book = values_text i.net (value_list i lost book)
    (findings (setup_of i) lost (schedule_of book)).sent (findings (setup_of i) lost (schedule_of book)).delivered

-- the book of a run under a loss table, and the text of its values
pub record IsValuedRun (i : Input) (lost : Losses) (book : List Entry) (front : ℕ) (text : List ℕ) : Type 0 where
  pub run : IsRunBook i lost book front
  pub text_is : text ≡ valued_text i lost book

-- values, with the book of their run
abbrev pub AreValues : Input → Losses → Option Book → ℕ → Option (List NodeState) → List ℕ → Type 0
AreValues i lost (Some book) front None text = IsValuedRun i lost book.entries front text
AreValues i lost _ front _ text = ⊥

-- the summary of the findings of a run of a sample's input, whose bound is below that of any input
pub record IsSummary (number : ℕ) (i : Input) (text : List ℕ) : Type 0 where
  pub book : List Entry
  pub front : ℕ
  pub small : input_bound i < 2 ^ 27
  pub run : IsRunBook i (losses i) book front
  pub text_is : text ≡ summary_text number i.net (findings (setup_of i) (losses i) (schedule_of book))

-- that, or the text of the sample's input
abbrev pub IsSampleText : ℕ → Bool → List ℕ → Type 0
IsSampleText number false text = IsSummary number (sample_parts number) text
IsSampleText number true text = text ≡ sample_text number
