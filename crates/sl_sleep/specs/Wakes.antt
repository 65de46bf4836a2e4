-- How actors wake one another, as a machine of its own: any number of actors and links, and the acts of all in any order.
-- Each act is one atomic step on the roster (`roster.rt`) or on a link. What an actor does besides leaves all this alone.
use Rattle.std.specs.Prelude.{◌≡◌, ◌+◌, ◌-◌, ◌<◌, ◌==◌, ◌⊎◌, ℕ, Bool, true, false, List, [], ◌∷◌, if◌then◌else◌, ⊤}

-- who puts on a link, and who takes from it
pub record Ends : Type 0 where
  pub from : ℕ → ℕ
  pub to : ℕ → ℕ

-- Of each actor: whether its word says that it sleeps; whether it is about to sleep, or sleeps; whether it sleeps; and
-- whether its run has ended. Of each link: how many messages it holds; whether its receiver found it empty since it lay
-- down; and whether something was put on it since its sender last saw to it that the receiver is awake. And for room:
-- whether something waits for room on it; whether it is marked; whether its sender marked it since it lay down, and met it
-- full since then; and whether its receiver, having found it empty, is to look at the mark, or has taken the mark away and is
-- to wake the sender.
pub record Beds : Type 0 where
  pub word : ℕ → Bool
  pub lies : ℕ → Bool
  pub sleeps : ℕ → Bool
  pub ended : ℕ → Bool
  pub held : ℕ → ℕ
  pub seen : ℕ → Bool
  pub owed : ℕ → Bool
  pub waits : ℕ → Bool
  pub marked : ℕ → Bool
  pub fresh : ℕ → Bool
  pub met : ℕ → Bool
  pub due : ℕ → Bool
  pub calls : ℕ → Bool

-- The acts. A sender puts on a link, reads that its receiver is awake, or wakes it. An actor tells that it is about to
-- sleep, sleeps, gets up (of itself, woken, or as its time is over), ends its run, or begins another; or it is roused for
-- whatever else. A receiver finds a link empty, or takes from it. For room: a sender holds something back, has it all put, marks a link, or meets it full. A receiver that
-- found a link empty sees no mark, or takes it away, and then reads that the sender is awake, or wakes it.
pub data Act : Type 0 where
  Put : ℕ → Act
  Ask : ℕ → Act
  Wake : ℕ → Act
  LieDown : ℕ → Act
  Sleep : ℕ → Act
  GetUp : ℕ → Act
  End : ℕ → Act
  Begin : ℕ → Act
  Rouse : ℕ → Act
  FindEmpty : ℕ → Act
  Take : ℕ → Act
  HoldBack : ℕ → Act
  PutAll : ℕ → Act
  Mark : ℕ → Act
  MeetFull : ℕ → Act
  SeeNoMark : ℕ → Act
  TakeMark : ℕ → Act
  AskSender : ℕ → Act
  WakeSender : ℕ → Act

-- a function with another value at one place
abbrev pub at : {X : Type 0} → ℕ → X → (ℕ → X) → ℕ → X
at i x f j = if j == i then x else f j

-- it has told of all that it put, and done what it owes for links that it found empty
pub record OwesNothing (e : Ends) (s : Beds) (a : ℕ) : Type 0 where
  pub told : (l : ℕ) → e.from l ≡ a → s.owed l ≡ false
  pub looked : (l : ℕ) → e.to l ≡ a → s.due l ≡ false
  pub called : (l : ℕ) → e.to l ≡ a → s.calls l ≡ false

-- when an actor does it: one that sleeps or has ended puts nothing, takes nothing and looks at nothing, and it does neither
-- before it has told of what it put, and done what it owes for a link that it found empty; it sleeps only once it found each
-- of its links empty after it lay down, and met each full on which something waits
abbrev pub IsAllowed : Ends → Beds → Act → Type 0
IsAllowed e s (Put l) = (s.sleeps (e.from l) ≡ false) × (s.ended (e.from l) ≡ false)
IsAllowed e s (Ask l) = s.word (e.to l) ≡ false
IsAllowed e s (Wake l) = ⊤
IsAllowed e s (LieDown a) = s.sleeps a ≡ false
IsAllowed e s (Sleep a) = (s.lies a ≡ true) × ((l : ℕ) → e.to l ≡ a → s.seen l ≡ true) × OwesNothing e s a × ((l : ℕ) → e.from l ≡ a → s.waits l ≡ true → s.met l ≡ true)
IsAllowed e s (GetUp a) = ⊤
IsAllowed e s (End a) = OwesNothing e s a
IsAllowed e s (Begin a) = ⊤
IsAllowed e s (Rouse a) = ⊤
IsAllowed e s (FindEmpty l) = (s.held l ≡ 0) × (s.sleeps (e.to l) ≡ false) × (s.ended (e.to l) ≡ false)
IsAllowed e s (Take l) = (0 < s.held l) × (s.sleeps (e.to l) ≡ false)
IsAllowed e s (HoldBack l) = s.sleeps (e.from l) ≡ false
IsAllowed e s (PutAll l) = s.sleeps (e.from l) ≡ false
IsAllowed e s (Mark l) = s.sleeps (e.from l) ≡ false
IsAllowed e s (MeetFull l) = (0 < s.held l) × (s.fresh l ≡ true)
IsAllowed e s (SeeNoMark l) = (s.due l ≡ true) × (s.marked l ≡ false)
IsAllowed e s (TakeMark l) = s.due l ≡ true
IsAllowed e s (AskSender l) = (s.calls l ≡ true) × (s.word (e.from l) ≡ false)
IsAllowed e s (WakeSender l) = s.calls l ≡ true

abbrev pub after : Ends → Beds → Act → Beds
after e s (Put l) = record s { held = at l (s.held l + 1) s.held; owed = at l true s.owed }
after e s (Ask l) = record s { owed = at l false s.owed }
after e s (Wake l) = record s { word = at (e.to l) false s.word; owed = at l false s.owed }
after e s (LieDown a) =
    record s {
      word = at a true s.word;
      lies = at a true s.lies;
      seen = λ l. if e.to l == a then false else s.seen l;
      fresh = λ l. if e.from l == a then false else s.fresh l;
      met = λ l. if e.from l == a then false else s.met l;
    }
after e s (Sleep a) = record s { sleeps = at a true s.sleeps }
after e s (GetUp a) = record s { word = at a false s.word; lies = at a false s.lies; sleeps = at a false s.sleeps }
after e s (End a) = record s { ended = at a true s.ended }
after e s (Begin a) = record s { ended = at a false s.ended }
after e s (Rouse a) = record s { word = at a false s.word }
after e s (FindEmpty l) = record s { seen = at l true s.seen; due = at l true s.due }
after e s (Take l) = record s { held = at l (s.held l - 1) s.held; lies = at (e.to l) false s.lies }
after e s (HoldBack l) = record s { waits = at l true s.waits }
after e s (PutAll l) = record s { waits = at l false s.waits }
after e s (Mark l) = record s { marked = at l true s.marked; fresh = at l true s.fresh }
after e s (MeetFull l) = record s { met = at l true s.met }
after e s (SeeNoMark l) = record s { due = at l false s.due }
after e s (TakeMark l) = record s { due = at l false s.due; marked = at l false s.marked; calls = at l true s.calls }
after e s (AskSender l) = record s { calls = at l false s.calls }
after e s (WakeSender l) = record s { word = at (e.from l) false s.word; calls = at l false s.calls }

abbrev pub after_all : Ends → Beds → List Act → Beds
after_all e s [] = s
after_all e s (a ∷ acts) = after_all e (after e s a) acts

abbrev pub AreAllowed : Ends → Beds → List Act → Type 0
AreAllowed e s [] = ⊤
AreAllowed e s (a ∷ acts) = IsAllowed e s a × AreAllowed e (after e s a) acts

-- all are awake, and nothing was put
abbrev pub begun : Beds
begun =
    record {
      word = λ a. false;
      lies = λ a. false;
      sleeps = λ a. false;
      ended = λ a. false;
      held = λ l. 0;
      seen = λ l. false;
      owed = λ l. false;
      waits = λ l. false;
      marked = λ l. false;
      fresh = λ l. false;
      met = λ l. false;
      due = λ l. false;
      calls = λ l. false;
    }

-- it sleeps, and nobody has woken it
abbrev pub SleepsOn : Beds → ℕ → Type 0
SleepsOn s a = (s.sleeps a ≡ true) × (s.word a ≡ true)

-- it sleeps, or its run has ended
abbrev pub IsStill : Beds → ℕ → Type 0
IsStill s a = (s.sleeps a ≡ true) ⊎ (s.ended a ≡ true)

-- where the sender of a link is still and nobody has woken its receiver, which sleeps, the link holds no message
abbrev pub LosesNoWakeUp : Ends → Beds → Type 0
LosesNoWakeUp e s = (l : ℕ) → IsStill s (e.from l) → SleepsOn s (e.to l) → s.held l ≡ 0

-- where something waits for room on a link and nobody has woken its sender, which sleeps, its receiver does not sleep on
abbrev pub HoldsNothingBack : Ends → Beds → Type 0
HoldsNothingBack e s = (l : ℕ) → SleepsOn s (e.from l) → s.waits l ≡ true → SleepsOn s (e.to l) → ⊥
