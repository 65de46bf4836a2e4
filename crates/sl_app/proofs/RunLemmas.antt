-- An accepted input can be run within the bound, and so can a sample's; what is served for a run.
use Rattle.std.proofs.Common.{◌≡◌, ℕ, ◌+◌, ◌*◌, ◌<◌, ◌≤◌, ◌^◌, Bool, List, [], ◌∷◌, length, map, Option, Some, None, inl, inr, arith, ap, sym, subst}
use Rattle.std.specs.Prelude.{sum}
use Rattle.std.specs.List.{All}
use Rattle.sl_net.specs.declared.input.Flow.{Flow}
use Rattle.sl_machine.specs.Book.{Book}
use Rattle.sl_machine.specs.declared.wiring.Entry.{Entry}
use Rattle.sl_net.specs.Wired.{IsNet, IsWired}
use Rattle.sl_layout.specs.Net.{Net, actor_of, is_unit, units}
use Rattle.sl_parts.specs.Parts.{below}
use Rattle.sl_net.specs.Input.{Input}
use Rattle.sl_check.proofs.Runnable.{carries-is}
use Rattle.sl_read.specs.Accepted.{IsAccepted}
use Rattle.sl_flow.specs.Sample.{IsSample, flow, host_count, sample_parts}
use Rattle.sl_parts.specs.Lists.{Each}
use Rattle.sl_parts.proofs.Lists.{length_filter_le}
use Rattle.std.proofs.lemmas.List.{length-map}
use Rattle.std.proofs.lemmas.List.FromFn.{length-range_with_len}
use Rattle.std.proofs.lemmas.List.Sums.{sum-map}
use Rattle.sl_model.specs.declared.findings.Findings.{Findings}
use Rattle.sl_model.specs.History.{Losses}
use Rattle.sl_model.specs.Setup.{Setup, setup_of}
use Rattle.sl_model.specs.Short.{SendsShort}
use Rattle.sl_model.specs.World.{Entry as Turn, world}
use Rattle.sl_model.specs.Books.{schedule_of}
use Rattle.sl_model.specs.Findings.{findings}
use Rattle.sl_model.specs.Losses.{losses}
use Rattle.sl_model.specs.Bound.{bound_of, input_bound}
use Rattle.sl_proto.specs.Nodes.{NodeState}
use Rattle.sl_proto.specs.RunBook.{CanRun, IsRunBook}
use Rattle.sl_emul.specs.Run.{AreNodesOf}
use Rattle.sl_emul.specs.Threaded.{IsThreadedBook}
use Rattle.sl_balance.specs.Balance.{AreFew}
use Rattle.sl_words.specs.declared.command.Command.TheVariants.{Step, Run, Balance, Poll, Values}
use Rattle.sl_words.specs.Words.{words_of}
use Rattle.sl_app.specs.Served.{run_text, IsPrinted, IsReport, AllPassed, IsTable, IsReading, AreValues}
use Rattle.sl_app.specs.Ends.{SourceChange, WasRead, IsServed, NodesPassed}

each-map : {A B : Type 0} (P : B → Type 0) (f : A → B) (xs : List A) → ((x : A) → P (f x)) → Each P (map f xs)
each-map P f [] all = tt
each-map P f (x ∷ xs) all = (all x, each-map P f xs all)

-- an input of a sample's sizes can be run
sized_runs : (i : Input) → IsSample i → SendsShort (setup_of i) → CanRun i
sized_runs i s short = record {
  net = record { made = s.net; right = s.right };
  snapshot = record { some_bits = omega (arith, s.bits); few_bits = omega (arith, s.bits); some_window = s.some_window; few_window = subst (λ bits. i.snapshot.window < 2 ^ bits) (sym s.bits) s.few_window; some_ring = omega (arith, s.ring); some_credits = omega (arith, s.credits); few_credits = omega (arith, s.credits) };
  carried = record {
    snapshot = carries-is i.snapshot.width i.snapshot.version (inl (s.version, omega (arith, s.bits)));
    cables = λ k d h. carries-is i.snapshot.width _ (inl (s.cables k d h, omega (arith, s.bits)));
  };
  addresses = λ k d h. let f = s.flows k d h in record { from = omega (arith, f.from, s.hosts); to = omega (arith, f.to, s.hosts) };
  short = short;
  script = λ k d h. absurd (omega (arith, h, ap length s.script));
}

pub sample_runs : (n : ℕ) → IsSample (sample_parts n) → CanRun (sample_parts n)
sample_runs n s = sized_runs (sample_parts n) s (record { flows = each-map (λ (f : Flow). f.bytes < 2 ^ 16) (flow n) (below (host_count n)) (λ h. omega arith); raws = tt })

-- the bound of an input within its limits is small
abbrev pub Small : Type 0
Small = (i : Input) → IsNet i.net → i.snapshot.count ≤ 100000 → i.snapshot.count * length (units i.net) ≤ 1024000 → i.snapshot.retries ≤ 100 → sum (map (λ (f : Flow). f.count) i.flows) + length i.raws ≤ 200000
    → length i.script ≤ 2 ^ 20 → input_bound i < 2 ^ 27

pub small : Small → (i : Input) → CanRun i → IsAccepted i → input_bound i < 2 ^ 27
small law i can a = law i can.net a.snapshot.count a.few_values a.snapshot.retries a.few_packets a.few_entries

-- a net has no more units than actors
few-units : (net : Net) → IsWired net → length (units net) ≤ 1217
few-units net w = omega (arith, w.few_actors, length_filter_le (λ a. is_unit (actor_of net a)) (below (length net.actors)), length-range_with_len 0 (length net.actors))

-- so is that of a sample
pub small_sample : Small → ((net : Net) → IsNet net → IsWired net) → (i : Input) → CanRun i → IsSample i → input_bound i < 2 ^ 27
small_sample law wired i can s = law i can.net (omega (arith, s.count)) (subst (λ n. n * length (units i.net) ≤ 1024000) (sym s.count) (omega (arith, few-units i.net (wired i.net can.net)))) (omega (arith, s.retries))
    (omega (arith, s.few_packets, sum-map (λ (f : Flow). f.count) i.flows, ap length s.raws)) (omega (arith, ap length s.script))

-- a run in threads sweeps as little as a run with no script
pub small_threads : Small → (i : Input) → CanRun i → IsAccepted i → bound_of (setup_of i) 0 < 2 ^ 27
small_threads law i can a = law (record i { script = [] }) can.net a.snapshot.count a.few_values a.snapshot.retries a.few_packets (omega arith)

-- what is printed of a run with this book, which left such states
pub report-of : (IsBook : Input → Losses → List Entry → ℕ → Type 0) (i : Input) (lost : Losses) (trace : Bool) (kept : List Entry) (front : ℕ) (states : List NodeState) (book : List Entry) (nodes : List NodeState) (text : List ℕ)
    → IsBook i lost kept front → AreNodesOf i (world (setup_of i) lost (schedule_of kept)) states → book ≡ kept → nodes ≡ states → text ≡ run_text i lost kept trace → IsPrinted IsBook i lost book front nodes trace text
report-of IsBook i lost trace kept front states book nodes text run stand same left told =
    subst (λ b. IsPrinted IsBook i lost b front nodes trace text) (sym same) (record { run = run; stand = subst (AreNodesOf i (world (setup_of i) lost (schedule_of kept))) (sym left) stand; text_is = told })

-- a report that was made of an input that was read, of a run of the script and of one in threads
pub stepped : (r : SourceChange) (i : Input) (trace : Bool) → words_of r.words ≡ Some (Step trace) → WasRead r i → input_bound i < 2 ^ 27
    → (book : Option Book) (front : ℕ) (nodes : Option (List NodeState)) (status : ℕ) (text : List ℕ)
    → IsReport IsRunBook i (losses i) book front nodes trace text → status ≡ 0 → IsServed r book front nodes status text
stepped r i trace words read few (Some book) front (Some nodes) status text told is = (inl (record { trace = trace; words = words; input = i; accepted = read; small = few; run = told }), is)
stepped r i trace words read few (Some book) front None status text told is = absurd told
stepped r i trace words read few None front nodes status text told is = absurd told

pub threaded : (r : SourceChange) (i : Input) (trace : Bool) → words_of r.words ≡ Some (Run trace) → WasRead r i → bound_of (setup_of i) 0 < 2 ^ 27 → length i.net.actors ≤ 256
    → (book : Option Book) (front : ℕ) (nodes : Option (List NodeState)) (status : ℕ) (text : List ℕ)
    → IsReport IsThreadedBook i (losses i) book front nodes trace text → status ≡ 0 → IsServed r book front nodes status text
threaded r i trace words read small few (Some book) front (Some nodes) status text told is =
    (inr (record { trace = trace; words = words; input = i; accepted = read; few = few; small = small; rested = told.run.rested small; run = told }), is)
threaded r i trace words read small few (Some book) front None status text told is = absurd told
threaded r i trace words read small few None front nodes status text told is = absurd told

-- in a run in threads that was reported each actor passed the gate
pub nodes-passed : {G : Type 0} (passed : G → ℕ → ℕ → Type 0) (gate : G) (i : Input) (trace : Bool) (front : ℕ) (text : List ℕ) → bound_of (setup_of i) 0 < 2 ^ 27 → (front < 2 ^ 27 → AllPassed passed gate (length i.net.actors))
    → (book : Option Book) (nodes : Option (List NodeState)) → IsReport IsThreadedBook i (losses i) book front nodes trace text → NodesPassed passed gate nodes
nodes-passed passed gate i trace front text small all (Some book) (Some nodes) told = λ actor low. all (omega (arith, told.run.within_book, told.run.within, small)) actor (subst (λ n. actor < n) told.stand.each low)
nodes-passed passed gate i trace front text small all book None told = tt
nodes-passed passed gate i trace front text small all None (Some nodes) told = absurd told

-- a table that was made of an input that was read
pub tabled : (r : SourceChange) (i : Input) → words_of r.words ≡ Some Balance → WasRead r i → input_bound i < 2 ^ 27
    → (book : Option Book) (front : ℕ) (nodes : Option (List NodeState)) (status : ℕ) (text : List ℕ)
    → IsTable i (losses i) book front nodes text → status ≡ 0 → IsServed r book front nodes status text
tabled r i words read few (Some book) front None status text told is = (inl (record { words = words; input = i; accepted = read; small = few; run = told }), is)
tabled r i words read few (Some book) front (Some nodes) status text told is = absurd told
tabled r i words read few None front nodes status text told is = absurd told

-- a reading that was made of an input that was read
pub polled : (r : SourceChange) (i : Input) (start gap : ℕ) → words_of r.words ≡ Some (Poll start gap) → WasRead r i → input_bound i < 2 ^ 27
    → (book : Option Book) (front : ℕ) (nodes : Option (List NodeState)) (status : ℕ) (text : List ℕ)
    → IsReading i (losses i) book front nodes start gap text → status ≡ 0 → IsServed r book front nodes status text
polled r i start gap words read few (Some book) front None status text told is = (inr (inl (record { start = start; gap = gap; words = words; input = i; accepted = read; small = few; run = told })), is)
polled r i start gap words read few (Some book) front (Some nodes) status text told is = absurd told
polled r i start gap words read few None front nodes status text told is = absurd told

-- values that were kept of an input that was read
pub valued : (r : SourceChange) (i : Input) → words_of r.words ≡ Some Values → WasRead r i → input_bound i < 2 ^ 27
    → (book : Option Book) (front : ℕ) (nodes : Option (List NodeState)) (status : ℕ) (text : List ℕ)
    → AreValues i (losses i) book front nodes text → status ≡ 0 → IsServed r book front nodes status text
valued r i words read few (Some book) front None status text told is = (inr (inr (record { words = words; input = i; accepted = read; small = few; run = told })), is)
valued r i words read few (Some book) front (Some nodes) status text told is = absurd told
valued r i words read few None front nodes status text told is = absurd told

-- the counts of a run within its bound are few
abbrev pub FewCounts : Type 0
FewCounts = (s : Setup) (lost : Losses) (es : List Turn) → length es < 2 ^ 40 → All (λ f. AreFew f.rows) (findings s lost es).list

pub few_counts : FewCounts → (i : Input) (book : List Entry) (f : Findings) → input_bound i < 2 ^ 27 → length book ≤ input_bound i → f ≡ findings (setup_of i) (losses i) (schedule_of book)
    → All (λ x. AreFew x.rows) f.list
few_counts law i book f small within is = let same : length (schedule_of book) ≡ length book = simp length-map in
    subst (λ (g : Findings). All (λ x. AreFew x.rows) g.list) (sym is) (law (setup_of i) (losses i) (schedule_of book) (omega (arith, same, within, small)))
