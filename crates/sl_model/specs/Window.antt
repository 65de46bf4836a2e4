-- The window: what lies between F, up to which the observer knows all units, and K, which it issued last.
--     on_way net lost w l      the messages of a link that are on their way
--     IsInWindow s lost w      what holds in every world that a schedule reaches
use Rattle.std.specs.Prelude.{◌≡◌, ℕ, ◌+◌, ◌<◌, ◌≤◌, List, ◌∷◌, ◌++◌, length, map, drop, unwrap_or, IsTrue}
use Rattle.sl_layout.specs.declared.actor.UnitId.{UnitId}
use Rattle.sl_layout.specs.declared.actor.ActorId.TheVariants.{Unit as OfUnit}
use Rattle.sl_layout.specs.declared.actor.Sort.TheVariants.{Init, Begin}
use Rattle.sl_layout.specs.Net.{Net, actor_of, link_of, choice_of, unit_place}
use Rattle.sl_net.specs.Wired.{Reports}
use Rattle.sl_model.specs.declared.message.Message.{Message}
use Rattle.sl_parts.specs.Lists.{Each}
use Rattle.sl_model.specs.Words.{Rises, numbers}
use Rattle.sl_model.specs.History.{History, World, Losses, history, stamp_of, begin_of, dump_of, done_of, id, heard, last, first, put}
use Rattle.sl_model.specs.Setup.{Setup}
use Rattle.sl_model.specs.Knowledge.{observer, dumped, known, issued, floor}
use Rattle.sl_model.specs.World.{sender, receiver, carried, taken_by}
use Rattle.sl_model.specs.Matching.{IsDataChannel}
use Rattle.sl_model.specs.Fit.{is_stamped, stamp}

-- carried, and not yet taken
abbrev pub on_way : Net → Losses → World → ℕ → List Message
on_way net lost w l = drop (taken_by net l (receiver net w l)) (carried net lost w l)

-- the last Begin number that a control plane took, 0 at first; Begins come by its first choice
abbrev pub begun : History → ℕ
begun h = heard begin_of 0 h

-- Knowledge.

-- how many of a unit's steps are known: at the observer, in the Dones on their way, at its control plane, in the dumps on their way
abbrev pub known_counts : (net : Net) → Losses → World → (u : ℕ) → Reports net u → List ℕ
known_counts net lost w u r = known (unit_place net u) (observer w) ∷ numbers (done_of (unit_place net u)) (on_way net lost w r.done)
    ++ dumped (choice_of net r.dump) (history w r.control) ∷ numbers dump_of (on_way net lost w r.dump)

-- a number of a unit after so many of its steps
abbrev pub after_steps : (History → ℕ) → World → ℕ → ℕ → ℕ
after_steps g w u n = g (first n (history w u))

-- F, then this number of the unit where it is known, then the number now, never fall
abbrev pub IsFollowed : (net : Net) → Losses → World → (u : ℕ) → Reports net u → (History → ℕ) → Type 0
IsFollowed net lost w u r g = Rises (floor net w) (map (after_steps g w u) (known_counts net lost w u r)) (g (history w u))

pub record KnowsInOrder (net : Net) (lost : Losses) (w : World) (u : ℕ) (r : Reports net u) : Type 0 where
  pub counts : Rises 0 (known_counts net lost w u r) (length (history w u))
  pub ids : IsFollowed net lost w u r id
  pub lasts : (l : ℕ) → l < length net.links → IsTrue (is_stamped (link_of net l).sort) → (link_of net l).to ≡ u → IsFollowed net lost w u r (last (choice_of net l))

-- Links.

-- the last-seen number of the receiver, then the stamps on their way, never fall, and end at most at this number
abbrev pub StampsRise : Net → Losses → World → ℕ → ℕ → Type 0
StampsRise net lost w l bound = Rises (last (choice_of net l) (receiver net w l)) (numbers stamp_of (on_way net lost w l)) bound

-- the stamp and the Begin number of a message, where it has one, are at most k
pub record IsBelow (k : ℕ) (m : Message) : Type 0 where
  pub stamp : unwrap_or (stamp_of m) 0 ≤ k
  pub begin : unwrap_or (begin_of m) 0 ≤ k

-- The window.

pub record IsInWindow (s : Setup) (lost : Losses) (w : World) : Type 0 where
  -- what is known of units
  pub knowledge : (u : ℕ) (i : UnitId) → actor_of s.net u ≡ OfUnit i → (r : Reports s.net u) → KnowsInOrder s.net lost w u r
  -- on a data channel the stamps end at most at the sender's id, on a link of initiations at most at the last Begin number that the sender took
  pub data_stamps : (l : ℕ) → IsDataChannel s.net l → StampsRise s.net lost w l (id (sender s.net w l))
  pub init_stamps : (l : ℕ) → l < length s.net.links → (link_of s.net l).sort ≡ Init → StampsRise s.net lost w l (begun (sender s.net w l))
  -- the last Begin number that a control plane took, then those on their way to it, never fall
  pub begins : (l : ℕ) → l < length s.net.links → (link_of s.net l).sort ≡ Begin → Rises (begun (receiver s.net w l)) (numbers begin_of (on_way s.net lost w l)) (issued s.net (observer w))
  -- each id, stamp and Begin number is at most K
  pub ids : (a : ℕ) → id (history w a) ≤ issued s.net (observer w)
  pub numbers : (l : ℕ) → Each (IsBelow (issued s.net (observer w))) (put l (sender s.net w l))
  pub within : issued s.net (observer w) ≤ floor s.net w + s.window

-- What follows for a unit u and a stamped link l that leads to it.
pub record IsNear (s : Setup) (lost : Losses) (w : World) (u l : ℕ) : Type 0 where
  -- the unit's id lies at most W above the last-seen number of the link
  pub id_near : id (history w u) ≤ last (choice_of s.net l) (history w u) + s.window
  -- and so does each stamp that is on its way there
  pub stamps_near : Each (λ m. stamp m ≤ last (choice_of s.net l) (history w u) + s.window) (on_way s.net lost w l)
