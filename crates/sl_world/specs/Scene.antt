-- Trusted text, in part.
-- The world of any machines, as data: what a turn does, and what a schedule does. The processes, channels and events
-- are those of Chandy and Lamport, "Distributed Snapshots: Determining Global States of Distributed Systems", 1985.
use Rattle.std.specs.Prelude.{◌≡◌, ◌+◌, ◌-◌, ◌<◌, ◌≤◌, take, map, nat_lt, ℕ, List, [], ◌∷◌, ◌++◌, length, Option, Some, None, if◌then◌else◌, slice_get, slice_set, slice_index_or, option_map, unwrap_or, is_some}
use Rattle.std.specs.Option.{option_and_then}
use Rattle.sl_machine.specs.Machine.{After, Rules}
use Rattle.sl_machine.specs.Plan.{Plan, link_in, link_out}
use Rattle.sl_machine.specs.declared.wiring.Link.{Link}
use Rattle.sl_machine.specs.declared.wiring.Entry.{Entry}
use Rattle.sl_machine.specs.Counting.{one_more}
use Rattle.sl_loss.specs.Loss.{Loss, loses_next, after_put}

-- a link: the messages on it, its loss where it has one, and how many puts it lost
pub record Line (M : Type 0) : Type 0 where
  pub queue : List M
  pub loss : Option Loss
  pub lost : ℕ

-- how they are joined, the states of the machines, the links in order, and the turns that did something
pub record Scene (S M : Type 0) : Type 0 where
  pub plan : Plan
  pub states : List S
  pub lines : List (Line M)
  pub book : List Entry

-- a link on which nothing was put
abbrev pub new_line : {M : Type 0} → Option Loss → Line M
new_line loss = record { queue = []; loss = loss; lost = 0 }

abbrev pub empty_line : {M : Type 0} → Line M
empty_line = new_line None

abbrev pub line_at : {M : Type 0} → List (Line M) → ℕ → Line M
line_at lines k = slice_index_or lines k empty_line

-- a world where nothing has happened
abbrev pub first_scene : {S M : Type 0} → Plan → List S → List (Option Loss) → Scene S M
first_scene plan states losses = record { plan = plan; states = states; lines = map new_line losses; book = [] }

-- the links that have these losses, these numbers of lost puts and these messages, link by link
abbrev pub lines_with : {M : Type 0} → List (Option Loss) → List ℕ → List (List M) → List (Line M)
lines_with (loss ∷ losses) (n ∷ ns) (queue ∷ queues) = record { queue = queue; loss = loss; lost = n } ∷ lines_with losses ns queues
lines_with (loss ∷ losses) (n ∷ ns) [] = []
lines_with (loss ∷ losses) [] queues = []
lines_with [] ns queues = []

-- a link after a put: its loss answers once, and a put that is not lost goes to the end
abbrev pub line_put : {M : Type 0} → Line M → M → Line M
line_put line m =
    record {
      queue = if loses_next line.loss then line.queue else line.queue ++ m ∷ [];
      loss = after_put line.loss;
      lost = if loses_next line.loss then one_more line.lost else line.lost;
    }

abbrev pub put_at : {M : Type 0} → List (Line M) → ℕ → M → List (Line M)
put_at lines k m = slice_set lines k (line_put (line_at lines k) m)

-- the links after puts, whose numbers stand for these places
abbrev pub put_each : {M : Type 0} → (ℕ → ℕ) → List (ℕ × M) → List (Line M) → List (Line M)
put_each place [] lines = lines
put_each place (p ∷ ps) lines = put_each place ps (put_at lines (place p.0) p.1)

-- the links after an actor's puts
abbrev pub put_all : {M : Type 0} → List Link → ℕ → List (ℕ × M) → List (Line M) → List (Line M)
put_all links actor puts lines = put_each (link_out links actor) puts lines

-- the last number of a book, 0 in an empty one
abbrev pub last_number : List Entry → ℕ
last_number book = (slice_index_or book (length book - 1) (record { number = 0; actor = 0; choice = 0 })).number

abbrev pub entry_after : List Entry → ℕ → ℕ → Entry
entry_after book actor choice = record { number = last_number book + 1; actor = actor; choice = choice }

-- after a turn that did something, before whose puts the links were these
abbrev pub done : {S M : Type 0} → Scene S M → ℕ → ℕ → List (Line M) → After S M → Scene S M
done w actor choice lines a =
    record {
      plan = w.plan;
      states = slice_set w.states actor a.state;
      lines = put_all w.plan.links actor a.puts lines;
      book = w.book ++ entry_after w.book actor choice ∷ [];
    }

abbrev pub without_first : {M : Type 0} → Line M → List M → Line M
without_first line rest = record { queue = rest; loss = line.loss; lost = line.lost }

abbrev pub take_first : {S M : Type 0} → Rules S M → Scene S M → ℕ → ℕ → ℕ → S → Line M → List M → Option (Scene S M)
take_first rules w actor choice link s line [] = None
take_first rules w actor choice link s line (m ∷ rest) =
    Some (done w actor choice (slice_set w.lines link (without_first line rest)) (rules.take s choice m))

abbrev pub take_turn : {S M : Type 0} → Rules S M → Scene S M → ℕ → ℕ → ℕ → Option S → Option (Line M) → Option (Scene S M)
take_turn rules w actor choice link (Some s) (Some line) = take_first rules w actor choice link s line line.queue
take_turn rules w actor choice link (Some s) None = None
take_turn rules w actor choice link None line = None

abbrev pub act_turn : {S M : Type 0} → Rules S M → Scene S M → ℕ → ℕ → Option S → Option (Scene S M)
act_turn rules w actor choice (Some s) = option_map (done w actor choice w.lines) (rules.act s choice)
act_turn rules w actor choice None = None

-- one turn; None where the chosen link is empty or the action's guard is false
abbrev pub turn_of : {S M : Type 0} → Rules S M → Scene S M → ℕ → ℕ → Option (Scene S M)
turn_of rules w actor choice =
    if nat_lt (link_in w.plan.links actor choice) (length w.plan.links)
    then take_turn rules w actor choice (link_in w.plan.links actor choice) (slice_get w.states actor) (slice_get w.lines (link_in w.plan.links actor choice))
    else act_turn rules w actor choice (slice_get w.states actor)

-- this choice of the actor is a link, and nothing is on it
pub record FindsNothing {S M : Type 0} (w : Scene S M) (actor choice : ℕ) : Type 0 where
  pub linked : link_in w.plan.links actor choice < length w.plan.links
  pub empty : (line_at w.lines (link_in w.plan.links actor choice)).queue ≡ []

-- an entry of a schedule, which may be idle
abbrev pub after_turn : {S M : Type 0} → Rules S M → Scene S M → ℕ × ℕ → Scene S M
after_turn rules w e = unwrap_or (turn_of rules w e.0 e.1) w

-- each entry of a schedule with the place of its link among all; past the end where it is an action
abbrev pub links_of : Plan → List (ℕ × ℕ) → List ((ℕ × ℕ) × ℕ)
links_of plan schedule = map (λ e. (e, link_in plan.links e.0 e.1)) schedule

-- a whole schedule
abbrev pub after_all : {S M : Type 0} → Rules S M → Scene S M → List (ℕ × ℕ) → Scene S M
after_all rules w [] = w
after_all rules w (e ∷ es) = after_all rules (after_turn rules w e) es

-- a legal schedule, of which no entry is idle; None for any other
abbrev pub run_of : {S M : Type 0} → Rules S M → Scene S M → List (ℕ × ℕ) → Option (Scene S M)
run_of rules w [] = Some w
run_of rules w (e ∷ es) = option_and_then (λ v. run_of rules v es) (turn_of rules w e.0 e.1)

-- the schedule without its idle entries
abbrev pub kept : {S M : Type 0} → Rules S M → Scene S M → List (ℕ × ℕ) → List (ℕ × ℕ)
kept rules w [] = []
kept rules w (e ∷ es) =
    if is_some (turn_of rules w e.0 e.1)
    then e ∷ kept rules (after_turn rules w e) es
    else kept rules (after_turn rules w e) es

-- the choices of a book
abbrev pub schedule_of : List Entry → List (ℕ × ℕ)
schedule_of book = map (λ e. (e.actor, e.choice)) book

-- after the first entries of a schedule
pub record IsFront {S M : Type 0} (rules : Rules S M) (old : Scene S M) (schedule : List (ℕ × ℕ)) (new : Scene S M) : Type 0 where
  pub entries : ℕ
  pub within : entries ≤ length schedule
  pub is : new ≡ after_all rules old (take entries schedule)
