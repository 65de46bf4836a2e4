-- What a control plane knows of one unit, in a step.
use Rattle.std.proofs.Common.{◌≡◌, ℕ, zero, suc, ◌+◌, ◌<◌, ◌≤◌, List, [], ◌∷◌, ◌++◌, length, refl, sym, ap, ◌∙◌, Option, Some, None, arith, inl, inr, length-append, append-nil, eq-eqb, map}
use Rattle.std.specs.Prelude.{min, cond, true, false, Bool, nat_lt, ◌==◌, ◌||◌, ◌⊎◌, if◌then◌else◌, replicate, take, option_map, unwrap_or, option_and_then, slice_get}
use Rattle.std.specs.List.{fold}
use Rattle.std.proofs.lemmas.Bool.{lt-ltb, le-ltb, ltb-true, cases_Bool, ne_eqb}
use Rattle.sl_layout.specs.declared.actor.Sort.TheVariants.{Init}
use Rattle.sl_layout.specs.Net.{Net, choices_of, data_channels}
use Rattle.sl_layout.specs.Serving.{ServedUnit}
use Rattle.sl_control.specs.declared.known.Known.{Known}
use Rattle.sl_control.specs.Control.{asked}
use Rattle.sl_control.specs.Wires.{unit_wires, unheard}
use Rattle.sl_model.specs.declared.message.Message.{Message}
use Rattle.sl_model.specs.declared.message.Message.TheVariants.{Poll as PollMsg, Dump as DumpMsg}
use Rattle.sl_model.specs.declared.message.Put.{Put}
use Rattle.sl_model.specs.declared.message.Step.{Step}
use Rattle.sl_model.specs.History.{History, last, first, dump_of, taken, on_link, put}
use Rattle.sl_model.specs.Knowledge.{dumped, is_outstanding, puts_on, asks, is_again}
use Rattle.sl_model.specs.Puts.{send, poll_puts}
use Rattle.sl_model.specs.LastSeen.{lasts}
use Rattle.sl_simulation.specs.Messages.{eight}
use Rattle.sl_model.specs.Polls.{IsAsked}
use Rattle.sl_simulation.specs.ControlImage.{known_by}

-- what is known of a unit with the history g after the history h of its control plane
abbrev pub seen : Net → ℕ → ServedUnit → History → History → Known
seen net sweep v h g = known_by net v (first (dumped v.dump h) g) (is_outstanding v h) (is_again sweep v h)

-- At first nothing is known.

zeros : (cs : List ℕ) → map (λ c. last c []) cs ≡ replicate (length cs) 0
zeros [] = refl
zeros (c ∷ cs) = ap (λ xs. 0 ∷ xs) (zeros cs)

abbrev nulls : ℕ → List ℕ
nulls n = replicate n 0

more-zeros : (n m i : ℕ) → n ≤ i → take n (nulls m ++ nulls i) ≡ nulls n
more-zeros zero m i p = refl
more-zeros (suc n) zero zero p = absurd (omega (arith, p))
more-zeros (suc n) zero (suc i) p = ap (λ xs. 0 ∷ xs) (more-zeros n zero i (omega (arith, p)))
more-zeros (suc n) (suc m) i p = ap (λ xs. 0 ∷ xs) (more-zeros n m i (omega (arith, p)))

no-last : (net : Net) (u : ℕ) → eight (lasts net u []) ≡ nulls 8
no-last net u = ap eight (zeros (data_channels net u)) ∙ more-zeros 8 (length (data_channels net u)) 8 (omega arith)

pub least-zero : (cs : List ℕ) → fold min 0 (map (λ c. last c []) cs) ≡ 0
least-zero [] = refl
least-zero (c ∷ cs) = least-zero cs

no-cpu : (o : Option ℕ) → unwrap_or (option_map (λ c. last c []) o) 0 ≡ 0
no-cpu None = refl
no-cpu (Some c) = refl

pub unheard-is : (net : Net) (sweep : ℕ) (v : ServedUnit) → seen net sweep v [] [] ≡ unheard (unit_wires net v)
unheard-is net sweep v = λ i. record {
  wires = unit_wires net v;
  id = 0;
  last = no-last net v.unit i;
  cpu = no-cpu (slice_get (choices_of net v.unit Init) 0) i;
  upto = least-zero (data_channels net v.unit) i;
  waits = false;
  again = false;
}

-- What is put on the link of its polls.

-- whether there is one
abbrev some : List Message → Bool
some [] = false
some (m ∷ ms) = true

on-some : (l : ℕ) (ps : List Put) → puts_on l ps ≡ some (on_link l ps)
on-some l [] = refl
on-some l (p ∷ ps) = by_bool (p.link == l) (on-some l ps)
  where
    by_bool : (b : Bool) → puts_on l ps ≡ some (on_link l ps) → (b || puts_on l ps) ≡ some (cond b (p.message ∷ on_link l ps) (on_link l ps))
    by_bool true ih = refl
    by_bool false ih = ih

polls : (l : ℕ) (s : Step) (h : History) (ms : List Message) → on_link l s.puts ≡ ms → length (put l (s ∷ h)) ≡ length (put l h) + length ms
polls l s h ms q = ap (λ ns. length (put l h ++ ns)) q ∙ length-append (put l h) ms

again-by : (sweep : ℕ) (v : ServedUnit) (s : Step) (h : History) (ms : List Message) → on_link v.poll s.puts ≡ ms
    → is_again sweep v (s ∷ h) ≡ (if some ms then false else asks sweep v s.choice s.taken || is_again sweep v h)
again-by sweep v s h ms q = ap (λ b. if b then false else asks sweep v s.choice s.taken || is_again sweep v h) (on-some v.poll s.puts ∙ ap some q)

taken-same : (c : ℕ) (s : Step) (h : History) → (s.choice ≡ c → ⊥) → taken c (s ∷ h) ≡ taken c h
taken-same c s h ne = ap (λ b. if b then suc (taken c h) else taken c h) (ne_eqb s.choice c ne)

dumped-same : (c : ℕ) (s : Step) (h : History) → (s.choice ≡ c → ⊥) → dumped c (s ∷ h) ≡ dumped c h
dumped-same c s h ne = ap (λ b. if b then unwrap_or (option_and_then dump_of s.taken) (dumped c h) else dumped c h) (ne_eqb s.choice c ne)

-- Nothing of this unit.

pub still : (net : Net) (sweep : ℕ) (v : ServedUnit) (s : Step) (h g : History) → (s.choice ≡ v.dump → ⊥) → asks sweep v s.choice s.taken ≡ false → on_link v.poll s.puts ≡ [] → seen net sweep v (s ∷ h) g ≡ seen net sweep v h g
still net sweep v s h g d n p =
    let t : taken v.dump (s ∷ h) ≡ taken v.dump h = taken-same v.dump s h d in
    let l : length (put v.poll (s ∷ h)) ≡ length (put v.poll h) = ap (λ ms. length (put v.poll h ++ ms)) p ∙ ap length (append-nil (put v.poll h)) in
    let x : dumped v.dump (s ∷ h) ≡ dumped v.dump h = dumped-same v.dump s h d in
    let a : is_again sweep v (s ∷ h) ≡ is_again sweep v h = again-by sweep v s h [] p ∙ ap (λ b. b || is_again sweep v h) n in
    λ i. known_by net v (first (x i) g) (nat_lt (t i) (l i)) (a i)

-- A notice of this unit, or a sweep.

poll-there : (l : ℕ) → on_link l (send PollMsg l ∷ []) ≡ PollMsg ∷ []
poll-there l = ap (λ b. cond b (PollMsg ∷ []) []) (eq-eqb l l refl)

pub asked-is : (net : Net) (sweep : ℕ) (v : ServedUnit) (s : Step) (h g : History) → (s.choice ≡ v.dump → ⊥) → asks sweep v s.choice s.taken ≡ true → on_link v.poll s.puts ≡ on_link v.poll (poll_puts v h) → IsAsked v h
    → seen net sweep v (s ∷ h) g ≡ asked (seen net sweep v h g)
asked-is net sweep v s h g d n p b = by_waits (cases_Bool (is_outstanding v h))
  where
    t : taken v.dump (s ∷ h) ≡ taken v.dump h
    t = taken-same v.dump s h d

    x : dumped v.dump (s ∷ h) ≡ dumped v.dump h
    x = dumped-same v.dump s h d

    by_waits : ((is_outstanding v h ≡ true) ⊎ (is_outstanding v h ≡ false)) → seen net sweep v (s ∷ h) g ≡ asked (seen net sweep v h g)
    by_waits (inl w) =
        let q : on_link v.poll s.puts ≡ [] = p ∙ ap (λ x. on_link v.poll (if x then [] else send PollMsg v.poll ∷ [])) w in
        let l : length (put v.poll (s ∷ h)) ≡ length (put v.poll h) + 0 = polls v.poll s h [] q in
        let lt : taken v.dump h < length (put v.poll h) = ltb-true (taken v.dump h) (length (put v.poll h)) w in
        let o : is_outstanding v (s ∷ h) ≡ true = lt-ltb (taken v.dump (s ∷ h)) (length (put v.poll (s ∷ h))) (omega (arith, lt, t, l)) in
        let a : is_again sweep v (s ∷ h) ≡ is_outstanding v h = again-by sweep v s h [] q ∙ ap (λ x. x || is_again sweep v h) n ∙ sym w in
        λ i. known_by net v (first (x i) g) (o i) (a i)
    by_waits (inr w) =
        let q : on_link v.poll s.puts ≡ PollMsg ∷ [] = p ∙ ap (λ x. on_link v.poll (if x then [] else send PollMsg v.poll ∷ [])) w ∙ poll-there v.poll in
        let l : length (put v.poll (s ∷ h)) ≡ length (put v.poll h) + 1 = polls v.poll s h (PollMsg ∷ []) q in
        let ge : taken v.dump h ≤ length (put v.poll h) = b.answered in
        let o : is_outstanding v (s ∷ h) ≡ true = lt-ltb (taken v.dump (s ∷ h)) (length (put v.poll (s ∷ h))) (omega (arith, ge, t, l)) in
        let a : is_again sweep v (s ∷ h) ≡ is_outstanding v h = again-by sweep v s h (PollMsg ∷ []) q ∙ sym w in
        λ i. known_by net v (first (x i) g) (o i) (a i)

-- A dump of this unit.

abbrev pub polled : Bool → ServedUnit → List Put
polled b v = if b then send PollMsg v.poll ∷ [] else []

pub dumped-is : (net : Net) (sweep : ℕ) (v : ServedUnit) (s : Step) (h g : History) (n : ℕ) → s.choice ≡ v.dump → s.taken ≡ Some (DumpMsg n) → on_link v.poll s.puts ≡ on_link v.poll (polled (is_again sweep v h) v) → is_outstanding v h ≡ true → IsAsked v h
    → seen net sweep v (s ∷ h) g ≡ known_by net v (first n g) (is_again sweep v h) false
dumped-is net sweep v s h g n d m p o b = by_again (cases_Bool (is_again sweep v h))
  where
    t : taken v.dump (s ∷ h) ≡ suc (taken v.dump h)
    t = ap (λ b. if b then suc (taken v.dump h) else taken v.dump h) (eq-eqb s.choice v.dump d)

    x : dumped v.dump (s ∷ h) ≡ n
    x = ap (λ b. if b then unwrap_or (option_and_then dump_of s.taken) (dumped v.dump h) else dumped v.dump h) (eq-eqb s.choice v.dump d) ∙ ap (λ o. unwrap_or (option_and_then dump_of o) (dumped v.dump h)) m

    lt : taken v.dump h < length (put v.poll h)
    lt = ltb-true (taken v.dump h) (length (put v.poll h)) o

    by_again : ((is_again sweep v h ≡ true) ⊎ (is_again sweep v h ≡ false)) → seen net sweep v (s ∷ h) g ≡ known_by net v (first n g) (is_again sweep v h) false
    by_again (inl c) =
        let q : on_link v.poll s.puts ≡ PollMsg ∷ [] = p ∙ ap (λ x. on_link v.poll (if x then send PollMsg v.poll ∷ [] else [])) c ∙ poll-there v.poll in
        let l : length (put v.poll (s ∷ h)) ≡ length (put v.poll h) + 1 = polls v.poll s h (PollMsg ∷ []) q in
        let z : is_outstanding v (s ∷ h) ≡ is_again sweep v h = lt-ltb (taken v.dump (s ∷ h)) (length (put v.poll (s ∷ h))) (omega (arith, lt, t, l)) ∙ sym c in
        let a : is_again sweep v (s ∷ h) ≡ false = again-by sweep v s h (PollMsg ∷ []) q in
        λ i. known_by net v (first (x i) g) (z i) (a i)
    by_again (inr c) =
        let q : on_link v.poll s.puts ≡ [] = p ∙ ap (λ x. on_link v.poll (if x then send PollMsg v.poll ∷ [] else [])) c in
        let l : length (put v.poll (s ∷ h)) ≡ length (put v.poll h) + 0 = polls v.poll s h [] q in
        let le : length (put v.poll h) ≤ suc (taken v.dump h) = b.one in
        let z : is_outstanding v (s ∷ h) ≡ is_again sweep v h = le-ltb (taken v.dump (s ∷ h)) (length (put v.poll (s ∷ h))) (omega (arith, le, t, l)) ∙ sym c in
        let a : is_again sweep v (s ∷ h) ≡ false = again-by sweep v s h [] q ∙ ap (λ x. asks sweep v s.choice x || is_again sweep v h) m ∙ c in
        λ i. known_by net v (first (x i) g) (z i) (a i)
