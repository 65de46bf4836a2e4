-- How the roster counts who is awake, as a machine of its own: n actors, and the acts of all in any order.
-- Each act is one atomic step on the roster (`roster.rt`); who takes off the last one sees that, and tells all to end.
use Rattle.std.specs.Prelude.{◌≡◌, ◌+◌, ◌-◌, ◌<◌, ◌==◌, ◌⊎◌, ℕ, Bool, true, false, List, [], ◌∷◌, if◌then◌else◌, ⊤}

-- Where an actor is. One that lies is about to sleep, and one that is called lies and was woken since. One that sleeps took
-- itself off the count, and one that is woken took itself off and was woken.
pub data Seat : Type 0 where
  Up : Seat
  Lies : Seat
  Called : Seat
  Sleeps : Seat
  Woken : Seat
  Gone : Seat

-- Who is awake by the count; how many of these are counted by somebody who is about to wake an actor; whether somebody who
-- took off the last one has to tell all; whether all were told to end; and where each actor is.
pub record Count : Type 0 where
  pub awake : ℕ
  pub calls : ℕ
  pub last : Bool
  pub over : Bool
  pub seat : ℕ → Seat

-- The acts. An actor tells that it is about to sleep, stays awake (and where it was woken has one to give back), takes itself
-- off, goes on once it was woken, ends its run, or begins another. Somebody counts one that is to be woken, wakes it (while it
-- lies, or sleeps), or gives back the one that it counted, as another was faster. Somebody tells all, and rouses each then.
pub data Act : Type 0 where
  LieDown : ℕ → Act
  GetUp : ℕ → Act
  GetUpCalled : ℕ → Act
  Leave : ℕ → Act
  LeaveCalled : ℕ → Act
  Rise : ℕ → Act
  End : ℕ → Act
  Begin : ℕ → Act
  CountIn : Act
  WakeLying : ℕ → Act
  WakeSleeping : ℕ → Act
  GiveBack : Act
  TellAll : Act
  Rouse : ℕ → Act

-- a function with another value at one place
abbrev pub put : ℕ → Seat → (ℕ → Seat) → ℕ → Seat
put a x f b = if b == a then x else f b

-- the actor a, one of n, is there
abbrev pub Is : ℕ → Count → ℕ → Seat → Type 0
Is n s a x = (a < n) × (s.seat a ≡ x)

abbrev pub IsAllowed : ℕ → Count → Act → Type 0
IsAllowed n s (LieDown a) = Is n s a Up
IsAllowed n s (GetUp a) = Is n s a Lies
IsAllowed n s (GetUpCalled a) = Is n s a Called
IsAllowed n s (Leave a) = Is n s a Lies
IsAllowed n s (LeaveCalled a) = Is n s a Called
IsAllowed n s (Rise a) = Is n s a Woken
IsAllowed n s (End a) = Is n s a Up
IsAllowed n s (Begin a) = Is n s a Gone
IsAllowed n s CountIn = ⊤
IsAllowed n s (WakeLying a) = Is n s a Lies × (0 < s.calls)
IsAllowed n s (WakeSleeping a) = Is n s a Sleeps × (0 < s.calls)
IsAllowed n s GiveBack = 0 < s.calls
IsAllowed n s TellAll = ⊤
IsAllowed n s (Rouse a) = s.over ≡ true

-- one is taken off; whoever took off the last one has to tell all
abbrev pub less : Count → Count
less s = record s { awake = s.awake - 1; last = if s.awake == 1 then true else s.last }

abbrev pub roused : Seat → Seat
roused Lies = Called
roused Sleeps = Woken
roused x = x

abbrev pub after : Count → Act → Count
after s (LieDown a) = record s { seat = put a Lies s.seat }
after s (GetUp a) = record s { seat = put a Up s.seat }
after s (GetUpCalled a) = record s { seat = put a Up s.seat; calls = s.calls + 1 }
after s (Leave a) = record (less s) { seat = put a Sleeps s.seat }
after s (LeaveCalled a) = record (less s) { seat = put a Woken s.seat }
after s (Rise a) = record s { seat = put a Up s.seat }
after s (End a) = record (less s) { seat = put a Gone s.seat }
after s (Begin a) = record s { seat = put a Up s.seat; awake = s.awake + 1 }
after s CountIn = record s { calls = s.calls + 1; awake = s.awake + 1 }
after s (WakeLying a) = record s { seat = put a Called s.seat; calls = s.calls - 1 }
after s (WakeSleeping a) = record s { seat = put a Woken s.seat; calls = s.calls - 1 }
after s GiveBack = record (less s) { calls = s.calls - 1 }
after s TellAll = record s { last = false; over = true }
after s (Rouse a) = record s { seat = put a (roused (s.seat a)) s.seat }

abbrev pub after_all : Count → List Act → Count
after_all s [] = s
after_all s (a ∷ acts) = after_all (after s a) acts

abbrev pub AreAllowed : ℕ → Count → List Act → Type 0
AreAllowed n s [] = ⊤
AreAllowed n s (a ∷ acts) = IsAllowed n s a × AreAllowed n (after s a) acts

-- all are counted, those too whose run has not begun
abbrev pub begun : ℕ → Count
begun n = record { awake = n; calls = 0; last = false; over = false; seat = λ a. Up }

-- each actor sleeps and nobody has woken it, or its run has ended; and nobody has anything left to do
pub record AreAtRest (n : ℕ) (s : Count) : Type 0 where
  pub out : (a : ℕ) → a < n → (s.seat a ≡ Sleeps) ⊎ (s.seat a ≡ Gone)
  pub no_calls : s.calls ≡ 0
  pub all_told : s.last ≡ false
