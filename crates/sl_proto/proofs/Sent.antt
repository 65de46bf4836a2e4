-- What machines send, by what was told: two ways to say it, and what control planes and the observer know.
use Rattle.std.proofs.Common.{◌≡◌, ℕ, List, [], ◌∷◌, ◌++◌, refl, sym, ap, ◌∙◌, Option, Some, None}
use Rattle.std.specs.Prelude.{unwrap_or}
use Rattle.sl_layout.specs.declared.actor.UnitId.{UnitId}
use Rattle.sl_layout.specs.declared.actor.ActorId.TheVariants.{Unit as OfUnit}
use Rattle.sl_layout.specs.Net.{Net, actor_of, choice_of, unit_place}
use Rattle.sl_net.specs.Wired.{Reports}
use Rattle.sl_wire.specs.declared.message.Msg.{Msg}
use Rattle.sl_wire.specs.Sizes.{Sizes}
use Rattle.sl_model.specs.declared.message.Message.{Message}
use Rattle.sl_model.specs.declared.message.Message.TheVariants.{Done as DoneMsg}
use Rattle.sl_model.specs.declared.message.Put.{Put}
use Rattle.sl_parts.specs.Lists.{Each}
use Rattle.sl_model.specs.Words.{listed, numbers, last_of}
use Rattle.sl_model.specs.History.{History, World, Losses, history, dump_of, done_of, takes, put}
use Rattle.sl_model.specs.Setup.{Setup}
use Rattle.sl_model.specs.Knowledge.{observer, dumped, known}
use Rattle.sl_model.specs.Made.{IsFifoRun}
use Rattle.sl_model.specs.Passing.{PassesMessages}
use Rattle.sl_model.specs.Reported.{AreReported}
use Rattle.sl_simulation.specs.Messages.{AreSent}
use Rattle.sl_proto.specs.Image.{tell, tell_all, told_on, told_by, ArePut}
use Rattle.sl_proto.proofs.Queues.{retold, untold}

-- what is told on each link is what is told of all Dones that are sent
pub put-by-told : (net : Net) (sizes : Sizes) (us : ℕ → History) (a : ℕ) (told : ℕ → ℕ) (h : History) (ps : List Put) (xs : List (ℕ × Msg))
    → Each (λ p. (place n : ℕ) → p.message ≡ DoneMsg place n → told place ≡ told_on p.link h place) ps → AreSent net sizes us a told ps xs → ArePut net sizes us a h ps xs
put-by-told net sizes us a told h [] [] e s = tt
put-by-told net sizes us a told h [] (x ∷ xs) e s = s
put-by-told net sizes us a told h (p ∷ ps) [] e s = s
put-by-told net sizes us a told h (p ∷ ps) (x ∷ xs) e s = ((s.0.0, retold net sizes us a told (told_on p.link h) p.message x.1 e.0 s.0.1), put-by-told net sizes us a told h ps xs e.1 s.1)

pub put-by-any : (net : Net) (sizes : Sizes) (us : ℕ → History) (a : ℕ) (h : History) (ps : List Put) (xs : List (ℕ × Msg)) → ((told : ℕ → ℕ) → AreSent net sizes us a told ps xs) → ArePut net sizes us a h ps xs
put-by-any net sizes us a h [] [] s = tt
put-by-any net sizes us a h [] (x ∷ xs) s = s untold
put-by-any net sizes us a h (p ∷ ps) [] s = s untold
put-by-any net sizes us a h (p ∷ ps) (x ∷ xs) s = (((s untold).0.0, (s (told_on p.link h)).0.1), put-by-any net sizes us a h ps xs (λ told. (s told).1))

-- What is told last.

told-last : (told : ℕ → ℕ) (place : ℕ) (ms : List Message) → tell_all told ms place ≡ last_of (told place) (numbers (done_of place) ms)
told-last told place [] = refl
told-last told place (m ∷ ms) = told-last (tell told m) place ms ∙ by_number (done_of place m)
  where
    by_number : (o : Option ℕ) → last_of (unwrap_or o (told place)) (numbers (done_of place) ms) ≡ last_of (told place) (listed o ++ numbers (done_of place) ms)
    by_number None = refl
    by_number (Some n) = refl

pub told-is-dumped : PassesMessages → (s : Setup) (w : World) (u : ℕ) (r : Reports s.net u)
    → numbers (done_of (unit_place s.net u)) (put r.done (history w r.control)) ≡ numbers dump_of (takes (choice_of s.net r.dump) (history w r.control))
    → told_on r.done (history w r.control) (unit_place s.net u) ≡ dumped (choice_of s.net r.dump) (history w r.control)
told-is-dumped passing s w u r dones = told-last untold (unit_place s.net u) (put r.done (history w r.control)) ∙ ap (last_of 0) dones
    ∙ passing.last_heard dump_of (choice_of s.net r.dump) (history w r.control)

pub told-is-known : (s : Setup) (lost : Losses) (w : World) (u : ℕ) (i : UnitId) (r : Reports s.net u) → AreReported s → IsFifoRun s lost w → actor_of s.net u ≡ OfUnit i
    → told_by (choice_of s.net r.done) (observer w) (unit_place s.net u) ≡ known (unit_place s.net u) (observer w)
told-is-known s lost w u i r reported x q = sym (reported lost w u i r x q).told
