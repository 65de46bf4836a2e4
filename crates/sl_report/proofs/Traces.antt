-- Traces read back as scripts, and the entries of legal books.
use Rattle.std.proofs.Common.{◌≡◌, ℕ, zero, suc, ◌+◌, ◌-◌, ◌<◌, List, [], ◌∷◌, ◌++◌, map, refl, sym, ap, subst, ◌∙◌, arith, codes, decimal}
use Rattle.std.specs.Prelude.{Option, None, Some, Ok, slice_get, option_map, option_and_then}
use Rattle.std.specs.Option.{IsSome}
use Rattle.std.specs.List.{All}
use Rattle.std.proofs.lemmas.List.Elements.{All-nil, All-cons, All-head, All-tail}
use Rattle.std.proofs.lemmas.Option.{slice_get_within, get_or_from_slice_get}
use Rattle.sl_machine.specs.declared.wiring.Entry.{Entry}
use Rattle.sl_layout.specs.declared.actor.Side.{Side}
use Rattle.sl_layout.specs.declared.actor.Side.TheVariants.{Ingress, Egress}
use Rattle.sl_layout.specs.declared.actor.ActorId.{ActorId}
use Rattle.sl_layout.specs.declared.actor.ActorId.TheVariants.{Observer, Control, Unit as OfUnit, Host as OfHost}
use Rattle.sl_net.specs.declared.input.Script1.TheVariants.{Choice}
use Rattle.sl_layout.specs.Net.{Net, nobody, actor_of, links_into, action_choice}
use Rattle.sl_layout.specs.Wiring.{actions_of}
use Rattle.sl_net.specs.Spelling.{side_text, device_name, actor_text, choice_word, choice_text, choice_count, HasChoice}
use Rattle.sl_form.specs.Forms.{pass_of}
use Rattle.sl_read.specs.Choices.{NamesChoices, choice_named, pass_or, passes, as_choice, entry_of, fits, fitting, entries_of}
use Rattle.sl_form.specs.Refusals.{◌>>=◌}
use Rattle.sl_model.specs.History.{History, World, Losses, history}
use Rattle.sl_model.specs.Setup.{Setup}
use Rattle.sl_model.specs.Puts.{action}
use Rattle.sl_model.specs.Books.{schedule_of}
use Rattle.sl_model.specs.World.{acting, floor_for, step_by, next_step, turn, start, IsLegalFrom, IsLegal}
use Rattle.sl_report.specs.TraceText.{IsEntryOf, entry_text, in_script, ReadsBack}

of_side : (side : Side) (rest word : List ℕ) → pass_of ((side_text side ++ (codes " " ++ rest)) ++ word) ≡ None
of_side Ingress rest word = refl
of_side Egress rest word = refl

-- a spelling does not begin with the word pass
no_pass : (net : Net) (a c : ℕ) → pass_of (choice_text net a c) ≡ None
no_pass net a c = go (actor_of net a)
  where
    go : (actor : ActorId) → pass_of (actor_text net.parts actor ++ (codes " " ++ choice_word net a c)) ≡ None
    go Observer = refl
    go (Control d) = refl
    go (OfUnit u) = of_side u.side (device_name net.parts u.device ++ (codes "." ++ decimal u.port)) (codes " " ++ choice_word net a c)
    go (OfHost h) = refl

-- a spelling as an entry of a script
read_back : (net : Net) (a c : ℕ) → NamesChoices net → HasChoice net a c → entry_of net (choice_text net a c) ≡ Some (Choice a c)
unfolding entry_of
read_back net a c named h =
    ap (λ o. pass_or o (choice_named net (choice_text net a c))) (no_pass net a c) ∙ ap (option_map as_choice) (named a c h)

read_at : (net : Net) (i : ℕ) (e : Entry) → NamesChoices net → IsEntryOf net e → fitting net i 0 (entry_text net e) ≡ Ok (in_script e)
unfolding fitting
read_at net i e named h = ap (fits i 0) (read_back net e.actor e.choice named h)

all_read : (net : Net) (i : ℕ) (entries : List Entry) → NamesChoices net → All (IsEntryOf net) entries → entries_of net i 0 (map (entry_text net) entries) ≡ Ok (map in_script entries)
all_read net i [] named h = refl
all_read net i (e ∷ es) named h =
    ap (λ r. r >>= (λ x. entries_of net (i + 1) (0 + passes x) (map (entry_text net) es) >>= (λ xs. Ok (x ∷ xs)))) (read_at net i e named (All-head (IsEntryOf net) e es h))
    ∙ ap (λ r. r >>= (λ xs. Ok (in_script e ∷ xs))) (all_read net (i + 1) es named (All-tail (IsEntryOf net) e es h))

pub reads_back : (net : Net) → NamesChoices net → (entries : List Entry) → All (IsEntryOf net) entries → ReadsBack net entries
reads_back net named entries h = all_read net 0 entries named h

-- an action with a step is one of the actor's own
own_action : (s : Setup) (f a : ℕ) (actor : ActorId) (h : History) (n : ℕ) → IsSome (action s f a actor h n) → n < actions_of actor
own_action s f a Observer h zero k = omega arith
own_action s f a Observer h (suc zero) k = omega arith
own_action s f a Observer h (suc (suc n)) k = absurd (cc)
own_action s f a (Control d) h zero k = omega arith
own_action s f a (Control d) h (suc n) k = absurd (cc)
own_action s f a (OfUnit u) h zero k = absurd (cc)
own_action s f a (OfUnit u) h (suc n) k = absurd (cc)
own_action s f a (OfHost i) h zero k = omega arith
own_action s f a (OfHost i) h (suc n) k = absurd (cc)

some_mapped : {A B : Type 0} (f : A → B) (o : Option A) → IsSome (option_map f o) → IsSome o
some_mapped f None k = k
some_mapped f (Some x) k = refl

-- an entry with a step is a choice of the net
not_idle : (s : Setup) (lost : Losses) (w : World) (a c : ℕ) → IsSome (next_step s lost w (a, c)) → HasChoice s.net a c
not_idle s lost w a c k = by_actor (slice_get s.net.actors a) refl k
  where
    by_choice : (o : Option ℕ) → slice_get (links_into s.net a) c ≡ o → (actor : ActorId) → actor ≡ actor_of s.net a → IsSome (step_by s lost w a c o actor) → c < choice_count s.net a
    by_choice (Some l) q actor e k = let within = slice_get_within (links_into s.net a) c l q in omega (arith, within)
    by_choice None q actor e k =
        let n = own_action s (floor_for s.net w actor) a actor (history w a) (c - action_choice s.net a) (some_mapped (acting c) (action s (floor_for s.net w actor) a actor (history w a) (c - action_choice s.net a)) k) in
        let own : c - action_choice s.net a < actions_of (actor_of s.net a) = subst (λ (x : ActorId). c - action_choice s.net a < actions_of x) e n in
        omega (arith, own)

    by_actor : (o : Option ActorId) → slice_get s.net.actors a ≡ o → IsSome (option_and_then (step_by s lost w a c (slice_get (links_into s.net a) c)) o) → HasChoice s.net a c
    by_actor None q k = absurd (cc)
    by_actor (Some actor) q k = record {
      actor = slice_get_within s.net.actors a actor q;
      choice = by_choice (slice_get (links_into s.net a) c) refl actor (sym (get_or_from_slice_get s.net.actors a actor nobody q)) k;
    }

legal_from : (s : Setup) (lost : Losses) (w : World) (book : List Entry) → IsLegalFrom s lost w (schedule_of book) → All (IsEntryOf s.net) book
legal_from s lost w [] h = All-nil (IsEntryOf s.net)
legal_from s lost w (e ∷ es) h = All-cons (IsEntryOf s.net) e es (not_idle s lost w e.actor e.choice h.0) (legal_from s lost (turn s lost w (e.actor, e.choice)) es h.1)

pub legal_entries : (s : Setup) (lost : Losses) (book : List Entry) → IsLegal s lost (schedule_of book) → All (IsEntryOf s.net) book
legal_entries s lost book h = legal_from s lost (start s.net) book h
