-- Trusted text; dump_of for nodes, but for begin_of, takes, steps_in.
-- Histories: what an actor took and put (Chandy and Lamport 1985: the events of a process). A history is a list of steps, the newest first.
--     id h             the id of a unit: the greatest stamp that it took
--     last c h         the stamp of the last stamped message that it took by the choice c
--     first n h        its first n steps
--     takes c h        the messages that it took by the choice c, in order
--     put l h          the messages that it put on the link l, in order
use Rattle.std.specs.Prelude.{ℕ, suc, max, Bool, List, [], ◌∷◌, ◌++◌, length, nat_lt, ◌==◌, cond, if◌then◌else◌, Option, Some, None, slice_index_or, unwrap_or, option_and_then}
use Rattle.sl_model.specs.declared.message.Message.{Message}
use Rattle.sl_model.specs.declared.message.Message.TheVariants.{Data, Probe as ProbeMsg, Init as InitMsg, Dump as DumpMsg, Begin as BeginMsg, Done as DoneMsg}
use Rattle.sl_model.specs.declared.message.Put.{Put}
use Rattle.sl_model.specs.declared.message.Step.{Step}
use Rattle.sl_model.specs.Words.{listed, weigh}

abbrev pub History : Type 0
History = List Step

-- one history per actor
abbrev pub World : Type 0
World = List History

abbrev pub history : World → ℕ → History
history w a = slice_index_or w a []

-- The numbers of messages.

abbrev pub stamp_of : Message → Option ℕ
stamp_of (Data s p) = Some s
stamp_of (ProbeMsg s) = Some s
stamp_of (InitMsg s) = Some s
stamp_of _ = None

abbrev pub begin_of : Message → Option ℕ
begin_of (BeginMsg k) = Some k
begin_of _ = None

abbrev pub dump_of : Message → Option ℕ
dump_of (DumpMsg n) = Some n
dump_of _ = None

-- what a Done says of the unit at a place
abbrev pub done_of : ℕ → Message → Option ℕ
done_of place (DoneMsg unit n) = if place == unit then Some n else None
done_of place _ = None

-- Stamps taken.

abbrev pub stamp_taken : Step → Option ℕ
stamp_taken s = option_and_then stamp_of s.taken

abbrev pub id : History → ℕ
id [] = 0
id (s ∷ h) = max (unwrap_or (stamp_taken s) 0) (id h)

-- the number of the last message with a number that it took by the choice c, 0 where there is none
abbrev pub heard : (Message → Option ℕ) → ℕ → History → ℕ
heard f c [] = 0
heard f c (s ∷ h) = if s.choice == c then unwrap_or (option_and_then f s.taken) (heard f c h) else heard f c h

-- each message on a stamped link has a stamp, so there this is the stamp of the last message taken
abbrev pub last : ℕ → History → ℕ
last c h = heard stamp_of c h

-- Steps.

abbrev pub first : ℕ → History → History
first n [] = []
first n (s ∷ h) = if nat_lt (length h) n then s ∷ h else first n h

-- how many steps have the choice c: how many messages it took by a link's choice, how often it did an action
abbrev pub taken : ℕ → History → ℕ
taken c [] = 0
taken c (s ∷ h) = if s.choice == c then suc (taken c h) else taken c h

abbrev pub takes : ℕ → History → List Message
takes c [] = []
takes c (s ∷ h) = takes c h ++ (if s.choice == c then listed s.taken else [])

-- Messages put.

abbrev pub on_link : ℕ → List Put → List Message
on_link l [] = []
on_link l (p ∷ ps) = cond (p.link == l) (p.message ∷ on_link l ps) (on_link l ps)

abbrev pub put : ℕ → History → List Message
put l [] = []
put l (s ∷ h) = put l h ++ on_link l s.puts

-- whether the n-th put on a link is lost, n from 1
abbrev pub Losses : Type 0
Losses = ℕ → ℕ → Bool

-- what is left of messages, the first of which is the put after the n-th, without the lost ones
abbrev pub without_lost : (ℕ → Bool) → ℕ → List Message → List Message
without_lost lost n [] = []
without_lost lost n (m ∷ ms) = if lost (suc n) then without_lost lost (suc n) ms else m ∷ without_lost lost (suc n) ms

-- the messages of a link that its sender, with this history, put and that are not lost
abbrev pub carried_by : Losses → ℕ → History → List Message
carried_by lost l h = without_lost (lost l) 0 (put l h)

-- the steps of all actors
abbrev pub steps_in : World → ℕ
steps_in w = weigh length w
