-- Trusted text, but for tried_actions, tried_by, plans_of, IsThreadedOutcome.
-- The run of an input with a thread for each actor.
--     plans_of net           what the actors try in each round
--     HasRested s w          what no actor has left to try
--     IsThreadedFront ..     the book of what the threads did
--     IsThreadedBook ..      the book of a run: that, and then what finishing takes
--     IsThreadedOutcome ..   the book, the findings and the nodes of a run
use Rattle.std.specs.Prelude.{◌≡◌, ℕ, ◌^◌, ◌<◌, ◌≤◌, List, [], ◌∷◌, ◌++◌, length, map, take, drop, false}
use Rattle.std.specs.List.{All}
use Rattle.sl_machine.specs.declared.wiring.Entry.{Entry as BookEntry}
use Rattle.sl_parts.specs.Parts.{below}
use Rattle.sl_layout.specs.declared.actor.ActorId.{ActorId}
use Rattle.sl_layout.specs.declared.actor.ActorId.TheVariants.{Observer, Host as OfHost}
use Rattle.sl_layout.specs.Net.{Net, actor_of, links_into, action_choice}
use Rattle.sl_net.specs.Input.{Input}
use Rattle.sl_model.specs.declared.findings.Findings.{Findings}
use Rattle.sl_model.specs.History.{World, Losses}
use Rattle.sl_model.specs.Setup.{Setup, setup_of}
use Rattle.sl_model.specs.Knowledge.{observer, floor, can_issue}
use Rattle.sl_model.specs.World.{world, IsLegal}
use Rattle.sl_model.specs.Lamport.{lamport_numbers}
use Rattle.sl_model.specs.Schedule.{resend_entry}
use Rattle.sl_model.specs.Sweeps.{sweeps_in}
use Rattle.sl_model.specs.End.{AllSent, IsFin}
use Rattle.sl_model.specs.Books.{schedule_of, numbers_of}
use Rattle.sl_model.specs.Bound.{bound_of}
use Rattle.sl_merge.specs.Merging.{IsAscending}
use Rattle.sl_proto.specs.Nodes.{NodeState}
use Rattle.sl_proto.specs.Runs.{grown}
use Rattle.sl_proto.specs.RunBook.{IsEndedBook}
use Rattle.sl_emul.specs.Run.{IsOutcomeOf}

-- of its own actions an actor tries the first: the observer to issue, and a host to inject
abbrev pub tried_actions : Net → ℕ → ActorId → List ℕ
tried_actions net a Observer = action_choice net a ∷ []
tried_actions net a (OfHost h) = action_choice net a ∷ []
tried_actions net a _ = []

-- each of its links in order, and then these
abbrev pub tried_by : Net → ℕ → List ℕ
tried_by net a = below (length (links_into net a)) ++ tried_actions net a (actor_of net a)

abbrev pub plans_of : Net → List (List ℕ)
plans_of net = map (tried_by net) (below (length net.actors))

-- each host has put all its messages, and there is nothing to issue
pub record HasRested (s : Setup) (w : World) : Type 0 where
  pub sent_all : AllSent s w
  pub none_to_issue : can_issue s (floor s.net w) (observer w) ≡ false

-- no entry is a sweep or a resend; they stand in ascending order of number and actor; and their numbers are the Lamport numbers
pub record IsThreadedFront (i : Input) (lost : Losses) (book : List BookEntry) : Type 0 where
  pub no_sweep : sweeps_in i.net (schedule_of book) ≡ 0
  pub no_resend : All (λ e. e ≡ resend_entry i.net → ⊥) (schedule_of book)
  pub order : IsAscending book
  pub numbers : numbers_of book ≡ lamport_numbers (setup_of i) lost (schedule_of book)

-- The first entries, so many as front says, are what the threads did; the others are what finishing takes from the world that they reach, each with
-- a number one above the entry before it. None of all is idle, and there are at most as many as the bound says where no script sweeps. Where
-- this is below 2^27, nothing is left to send or to issue before finishing.
pub record IsThreadedBook (i : Input) (lost : Losses) (book : List BookEntry) (front : ℕ) : Type 0 where
  pub within_book : front ≤ length book
  pub threads : IsThreadedFront i lost (take front book)
  pub rested : bound_of (setup_of i) 0 < 2 ^ 27 → HasRested (setup_of i) (world (setup_of i) lost (take front (schedule_of book)))
  pub finishing : IsFin (setup_of i) lost (world (setup_of i) lost (take front (schedule_of book))) (drop front (schedule_of book))
  pub goes_on : book ≡ grown (take front book) (drop front (schedule_of book))
  pub legal : IsLegal (setup_of i) lost (schedule_of book)
  pub within : length book ≤ bound_of (setup_of i) 0
  pub ended : IsEndedBook i lost book

-- of a run in threads
abbrev pub IsThreadedOutcome : Input → Losses → List BookEntry → ℕ → Findings → List NodeState → Type 0
IsThreadedOutcome i lost book front found nodes = IsOutcomeOf IsThreadedBook i lost book front found nodes
