-- Last-seen numbers of a unit as its machine holds them: eight places, and that of initiations; and what a step makes of its registers.
--     regs net bits u h bad expired noroute saved     the registers that stand for the history h, with these drops and saved entries
--     Moves ..                                        registers are such, and their saved entries keep the calls of h
use Rattle.std.proofs.Common.{◌≡◌, ℕ, zero, suc, ◌<◌, ◌≤◌, List, [], ◌∷◌, ◌++◌, length, refl, sym, ap, subst, ◌∙◌, Some, None, arith, inl, inr, get_or, length-append, ◌+◌, ◌-◌, ◌^◌}
use Rattle.std.specs.Prelude.{◌⊎◌, true, false, Bool, nat_eq, ◌==◌, if◌then◌else◌, map, take, replicate, set, slice_get, unwrap_or, option_map, option_and_then, max}
use Rattle.std.proofs.lemmas.Bool.{eq-eqb, ne_eqb, lt-ltb, le-ltb, cases_lt}
use Rattle.std.proofs.lemmas.Bool.Decides.{eqb_tells}
use Rattle.std.proofs.lemmas.List.{set-append_left, get_or_append_left, get_or-take, length-map, length-take, map-set, get_or-map, length-set}
use Rattle.sl_ids.specs.Wids.{wid}
use Rattle.sl_wire.specs.Wids.{no_wid}
use Rattle.sl_layout.specs.Net.{place_in, Net, data_channels, choices_of}
use Rattle.sl_parts.specs.Lists.{Member}
use Rattle.sl_parts.proofs.Lists.{each-of, Distinct}
use Rattle.sl_model.specs.declared.message.Message.{Message}
use Rattle.sl_model.specs.declared.message.Step.{Step}
use Rattle.sl_model.specs.History.{History, stamp_of, last, id}
use Rattle.sl_simulation.specs.Messages.{eight}
use Rattle.sl_model.proofs.Saved.Entries.{map-each, calls-rise, calls-stay}
use Rattle.sl_model.proofs.Saved.Settled.{place-here, place-past, place-lt}
use Rattle.sl_layout.specs.declared.actor.Sort.TheVariants.{Init}
use Rattle.sl_layout.specs.declared.actor.UnitId.{UnitId}
use Rattle.sl_net.specs.declared.input.Packet.{Packet}
use Rattle.sl_saves.specs.Calls.{Adopt, Credited}
use Rattle.sl_saves.specs.declared.entry.View.{View}
use Rattle.sl_saves.specs.Views.{IsShown}
use Rattle.sl_saves.specs.Keeping.{new_slot, place_above, view_adopted, view_credited}
use Rattle.sl_saves.proofs.Rings.{length-credited, ring-adopt, ring-credit}
use Rattle.sl_ids.specs.declared.wid.Wid.{Wid}
use Rattle.sl_wire.specs.Sizes.{Sizes}
use Rattle.sl_unit.specs.declared.registers.Channel.TheVariants.{Cpu, Upstream}
use Rattle.sl_unit.specs.declared.registers.RelativeStamp.{RelativeStamp}
use Rattle.sl_unit.specs.Registers.{Registers, rise, age, more, adopted, credited, seen, counted, after_stamp, after_data}
use Rattle.sl_model.specs.declared.message.Message.TheVariants.{Data, Probe as ProbeMsg, Init as InitMsg}
use Rattle.sl_model.specs.declared.message.Put.{Put}
use Rattle.sl_model.specs.World.{taking}
use Rattle.sl_model.specs.Counting.{packets, bytes, bad, expired, noroute, counted_in}
use Rattle.sl_model.specs.Calls.{calls, credit, credits_in}
use Rattle.sl_model.specs.LastSeen.{lasts, cpu_last}
use Rattle.sl_simulation.specs.UnitImage.{Keeps, HasRegisters, dropped}
use Rattle.sl_simulation.proofs.UnitFrames.{reading, rise-is, age-is}

-- Places.

place-suc : (n x : ℕ) (xs : List ℕ) → place_in (suc n) x xs ≡ suc (place_in n x xs)
place-suc n x [] = refl
place-suc n x (y ∷ ys) = by_bool (y == x) (place-suc (suc n) x ys)
  where
    by_bool : (b : Bool) → place_in (suc (suc n)) x ys ≡ suc (place_in (suc n) x ys) → (if b then suc n else place_in (suc (suc n)) x ys) ≡ suc (if b then n else place_in (suc n) x ys)
    by_bool true h = refl
    by_bool false h = h

-- the number at a place of numbers by places
map-at : (f : ℕ → ℕ) (c : ℕ) (xs : List ℕ) → Member c xs → get_or (map f xs) (place_in 0 c xs) 0 ≡ f c
map-at f c [] m = absurd m
map-at f c (x ∷ xs) m = by_tells (eqb_tells x c) m (map-at f c xs)
  where
    by_tells : ((nat_eq x c ≡ true) × (x ≡ c)) ⊎ ((nat_eq x c ≡ false) × (x ≡ c → ⊥)) → Member c (x ∷ xs) → (Member c xs → get_or (map f xs) (place_in 0 c xs) 0 ≡ f c)
        → get_or (map f (x ∷ xs)) (place_in 0 c (x ∷ xs)) 0 ≡ f c
    by_tells (inl q) m ih = ap (λ i. get_or (map f (x ∷ xs)) i 0) (place-here 0 c x xs q.1) ∙ ap f q.1
    by_tells (inr q) (inl r) ih = absurd (q.1 (sym r))
    by_tells (inr q) (inr r) ih = ap (λ i. get_or (map f (x ∷ xs)) i 0) (place-past 0 c x xs q.1 ∙ place-suc 0 c xs) ∙ ih r

-- a function that changes at c alone, by places
map-set-at : (f g : ℕ → ℕ) (c k : ℕ) (xs : List ℕ) → Distinct xs → Member c xs → g c ≡ k → ((d : ℕ) → (d ≡ c → ⊥) → g d ≡ f d) → map g xs ≡ set (map f xs) (place_in 0 c xs) k
map-set-at f g c k [] d m e o = absurd m
map-set-at f g c k (x ∷ xs) d m e o = by_tells (eqb_tells x c) m (λ r. map-set-at f g c k xs d.1 r e o)
  where
    by_tells : ((nat_eq x c ≡ true) × (x ≡ c)) ⊎ ((nat_eq x c ≡ false) × (x ≡ c → ⊥)) → Member c (x ∷ xs) → (Member c xs → map g xs ≡ set (map f xs) (place_in 0 c xs) k)
        → map g (x ∷ xs) ≡ set (map f (x ∷ xs)) (place_in 0 c (x ∷ xs)) k
    by_tells (inl q) m ih = let head : g x ≡ k = ap g q.1 ∙ e in
        let rest = map-each g f xs (each-of (λ y. g y ≡ f y) xs (λ y n. o y (λ z. d.0 (subst (λ v. Member v xs) (z ∙ sym q.1) n)))) in
        (λ i. head i ∷ rest i) ∙ ap (λ i. set (map f (x ∷ xs)) i k) (sym (place-here 0 c x xs q.1))
    by_tells (inr q) (inl r) ih = absurd (q.1 (sym r))
    by_tells (inr q) (inr r) ih = let head = o x q.1 in let rest = ih r in
        (λ i. head i ∷ rest i) ∙ ap (λ i. set (map f (x ∷ xs)) i k) (sym (place-past 0 c x xs q.1 ∙ place-suc 0 c xs))

-- Eight places.

take-set : (n : ℕ) (xs : List ℕ) (i k : ℕ) → take n (set xs i k) ≡ set (take n xs) i k
take-set zero xs i k = refl
take-set (suc n) [] i k = refl
take-set (suc n) (x ∷ xs) zero k = refl
take-set (suc n) (x ∷ xs) (suc i) k = ap (λ r. x ∷ r) (take-set n xs i k)

eight-set : (xs : List ℕ) (i k : ℕ) → i < length xs → eight (set xs i k) ≡ set (eight xs) i k
eight-set xs i k p = ap (take 8) (sym (set-append_left xs (replicate 8 0) i k p)) ∙ take-set 8 (xs ++ replicate 8 0) i k

eight-at : (xs : List ℕ) (i : ℕ) → i < length xs → i < 8 → get_or (eight xs) i 0 ≡ get_or xs i 0
eight-at xs i p q = get_or-take 8 (xs ++ replicate 8 0) i 0 q ∙ get_or_append_left xs (replicate 8 0) 0 i p

eight-long : (xs : List ℕ) → length (eight xs) ≡ 8
eight-long xs = omega (arith, length-take 8 (xs ++ replicate 8 0), length-append xs (replicate 8 0))

-- Last-seen numbers after a step.

pub last-here : (c k : ℕ) (step : Step) (h : History) (m : Message) → step.choice ≡ c → step.taken ≡ Some m → stamp_of m ≡ Some k → last c (step ∷ h) ≡ k
last-here c k step h m q t e = ap (λ b. if b then unwrap_or (option_and_then stamp_of step.taken) (last c h) else last c h) (eq-eqb step.choice c q)
    ∙ ap (λ o. unwrap_or (option_and_then stamp_of o) (last c h)) t ∙ ap (λ o. unwrap_or o (last c h)) e

pub last-there : (c : ℕ) (step : Step) (h : History) → (c ≡ step.choice → ⊥) → last c (step ∷ h) ≡ last c h
last-there c step h n = ap (λ b. if b then unwrap_or (option_and_then stamp_of step.taken) (last c h) else last c h) (ne_eqb step.choice c (λ e. n (sym e)))

-- a message without a stamp changes none
pub last-same : (c : ℕ) (step : Step) (h : History) (m : Message) → step.taken ≡ Some m → stamp_of m ≡ None → last c (step ∷ h) ≡ last c h
last-same c step h m t e = by_bool (step.choice == c)
  where
    by_bool : (b : Bool) → (if b then unwrap_or (option_and_then stamp_of step.taken) (last c h) else last c h) ≡ last c h
    by_bool true = ap (λ o. unwrap_or (option_and_then stamp_of o) (last c h)) t ∙ ap (λ o. unwrap_or o (last c h)) e
    by_bool false = refl

-- the numbers of some choices
abbrev pub lasts_of : List ℕ → History → List ℕ
lasts_of xs h = map (λ c. last c h) xs

-- a stamp on one of at most eight choices is written at its place
pub lasts-set : (xs : List ℕ) (c k : ℕ) (step : Step) (h : History) → Distinct xs → Member c xs → step.choice ≡ c → last c (step ∷ h) ≡ k
    → eight (lasts_of xs (step ∷ h)) ≡ set (eight (lasts_of xs h)) (place_in 0 c xs) k
lasts-set xs c k step h d m q e = ap eight (map-set-at (λ c. last c h) (λ c. last c (step ∷ h)) c k xs d m e (λ b n. last-there b step h (λ z. n (z ∙ q))))
    ∙ eight-set (lasts_of xs h) (place_in 0 c xs) k (let p = place-lt 0 c xs m in omega (arith, p, length-map xs (λ c. last c h)))

pub lasts-at : (xs : List ℕ) (c : ℕ) (h : History) → Member c xs → length xs ≤ 8 → get_or (eight (lasts_of xs h)) (place_in 0 c xs) 0 ≡ last c h
lasts-at xs c h m few = let p = place-lt 0 c xs m in eight-at (lasts_of xs h) (place_in 0 c xs) (omega (arith, p, length-map xs (λ c. last c h))) (omega (arith, p, few)) ∙ map-at (λ c. last c h) c xs m

-- as the machine holds them, wrapped
pub wids-at : (bits : ℕ) (xs : List ℕ) (c : ℕ) (h : History) → Member c xs → length xs ≤ 8 → get_or (map (wid bits) (eight (lasts_of xs h))) (place_in 0 c xs) no_wid ≡ wid bits (last c h)
wids-at bits xs c h m few = get_or-map (wid bits) (eight (lasts_of xs h)) (place_in 0 c xs) 0 no_wid (let p = place-lt 0 c xs m in let n = eight-long (lasts_of xs h) in omega (arith, p, few, n)) ∙ ap (wid bits) (lasts-at xs c h m few)

pub wids-set : (bits : ℕ) (xs : List ℕ) (c k : ℕ) (step : Step) (h : History) → Distinct xs → Member c xs → step.choice ≡ c → last c (step ∷ h) ≡ k
    → map (wid bits) (eight (lasts_of xs (step ∷ h))) ≡ set (map (wid bits) (eight (lasts_of xs h))) (place_in 0 c xs) (wid bits k)
wids-set bits xs c k step h d m q e = ap (map (wid bits)) (lasts-set xs c k step h d m q e) ∙ map-set (wid bits) (eight (lasts_of xs h)) (place_in 0 c xs) k

-- a step by another choice, or without a stamp, changes none of them
pub lasts-there : (xs : List ℕ) (step : Step) (h : History) → (Member step.choice xs → ⊥) → lasts_of xs (step ∷ h) ≡ lasts_of xs h
lasts-there xs step h n = map-each (λ c. last c (step ∷ h)) (λ c. last c h) xs (each-of (λ c. last c (step ∷ h) ≡ last c h) xs (λ c m. last-there c step h (λ e. n (subst (λ v. Member v xs) e m))))

pub lasts-same : (xs : List ℕ) (step : Step) (h : History) (m : Message) → step.taken ≡ Some m → stamp_of m ≡ None → lasts_of xs (step ∷ h) ≡ lasts_of xs h
lasts-same xs step h m t e = map-each (λ c. last c (step ∷ h)) (λ c. last c h) xs (each-of (λ c. last c (step ∷ h) ≡ last c h) xs (λ c n. last-same c step h m t e))

-- The first of some choices.

abbrev pub first_of_choices : List ℕ → History → ℕ
first_of_choices xs h = unwrap_or (option_map (λ c. last c h) (slice_get xs 0)) 0

pub first-there : (xs : List ℕ) (step : Step) (h : History) → (Member step.choice xs → ⊥) → first_of_choices xs (step ∷ h) ≡ first_of_choices xs h
first-there [] step h n = refl
first-there (x ∷ xs) step h n = last-there x step h (λ e. n (inl (sym e)))

pub first-same : (xs : List ℕ) (step : Step) (h : History) (m : Message) → step.taken ≡ Some m → stamp_of m ≡ None → first_of_choices xs (step ∷ h) ≡ first_of_choices xs h
first-same [] step h m t e = refl
first-same (x ∷ xs) step h m t e = last-same x step h m t e

-- the only one
pub first-only : (xs : List ℕ) (c : ℕ) (h : History) → Member c xs → length xs ≤ 1 → first_of_choices xs h ≡ last c h
first-only [] c h m p = absurd m
first-only (x ∷ []) c h (inl e) p = ap (λ v. last v h) (sym e)
first-only (x ∷ []) c h (inr m) p = absurd m
first-only (x ∷ y ∷ ys) c h m p = absurd (omega (arith, p))

abbrev pub regs : Net → ℕ → ℕ → History → ℕ → ℕ → ℕ → View → Registers
regs net bits u h b e n saved = record {
  id = wid bits (id h);
  cpu = wid bits (cpu_last net u h);
  last = map (wid bits) (eight (lasts net u h));
  packets = packets h;
  bytes = bytes h;
  bad = b;
  expired = e;
  noroute = n;
  saved = saved;
}

pub record Moves (net : Net) (sizes : Sizes) (u : ℕ) (h : History) (b e n : ℕ) (r : Registers) : Type 0 where
  pub saved : View
  pub is : r ≡ regs net sizes.bits u h b e n saved
  pub keeps : Keeps sizes saved (calls (data_channels net u) h)

-- registers whose fields are those that stand for a history
same-registers : (net : Net) (bits u : ℕ) (h : History) (b e n : ℕ) (saved : View) (r : Registers) → r.id ≡ wid bits (id h) → r.cpu ≡ wid bits (cpu_last net u h) → r.last ≡ map (wid bits) (eight (lasts net u h))
    → r.packets ≡ packets h → r.bytes ≡ bytes h → r.bad ≡ b → r.expired ≡ e → r.noroute ≡ n → r.saved ≡ saved → r ≡ regs net bits u h b e n saved
same-registers net bits u h b e n saved r i c l p q x y z v = λ j. record { id = i j; cpu = c j; last = l j; packets = p j; bytes = q j; bad = x j; expired = y j; noroute = z j; saved = v j }

-- from registers with a history, and back

pub regs-is : (net : Net) (sizes : Sizes) (u : ℕ) (i : UnitId) (h : History) (r : Registers) → HasRegisters net sizes u i h r
    → r ≡ regs net sizes.bits u h (dropped i.side (bad h)) (dropped i.side (expired h)) (dropped i.side (noroute net.parts i.device h)) r.saved
regs-is net sizes u i h r x =
    same-registers net sizes.bits u h (dropped i.side (bad h)) (dropped i.side (expired h)) (dropped i.side (noroute net.parts i.device h)) r.saved r x.id x.cpu x.last x.packets x.bytes x.bad x.expired x.noroute refl

pub has-registers : (net : Net) (sizes : Sizes) (u : ℕ) (i : UnitId) (h : History) (b e n : ℕ) (r : Registers) → Moves net sizes u h b e n r
    → b ≡ dropped i.side (bad h) → e ≡ dropped i.side (expired h) → n ≡ dropped i.side (noroute net.parts i.device h) → HasRegisters net sizes u i h r
has-registers net sizes u i h b e n r m x y z = subst (HasRegisters net sizes u i h) (sym m.is) (record {
  id = refl;
  cpu = refl;
  last = refl;
  packets = refl;
  bytes = refl;
  bad = x;
  expired = y;
  noroute = z;
  saved = m.keeps;
})

-- The id and the saved entries after a stamp.

-- the registers r with the id w and these entries
abbrev pub at_id : Registers → Wid → View → Registers
at_id r w saved = record r { id = w; saved = saved }

record Adopts (net : Net) (sizes : Sizes) (u : ℕ) (step : Step) (h : History) (r q : Registers) : Type 0 where
  pub saved : View
  pub is : q ≡ at_id r (wid sizes.bits (id (step ∷ h))) saved
  pub keeps : Keeps sizes saved (calls (data_channels net u) (step ∷ h))

-- the stamp k, where l was last seen
module _ (net : Net) (sizes : Sizes) (u l k : ℕ) (h : History) (b e n : ℕ) (saved : View) (low : l ≤ k) (behind : l ≤ id h) (keeps : Keeps sizes saved (calls (data_channels net u) h)) (near : k - id h ≤ sizes.ring) (back : id h - k ≤ sizes.ring) where
  abbrev now : Registers
  now = regs net sizes.bits u h b e n saved

  abbrev read : RelativeStamp
  read = reading sizes.bits l (id h) k

  abbrev adopting : Registers
  adopting = record now { id = wid sizes.bits k; saved = view_adopted (rise read) (packets h) (bytes h) saved }

  adopts : (step : Step) → id (step ∷ h) ≡ max k (id h) → (k ≤ id h → calls (data_channels net u) (step ∷ h) ≡ calls (data_channels net u) h) → Adopts net sizes u step h now (adopted read now)
  adopts step i s = by_cases (cases_lt (id h) k)
    where
      by_cases : (id h < k) ⊎ (k ≤ id h) → Adopts net sizes u step h now (adopted read now)
      by_cases (inl p) =
          let z : k ≡ id (step ∷ h) = omega (arith, i, p) in
          let x : rise read ≡ k - id h = rise-is sizes.bits l (id h) k behind in
          let y : rise read ≡ id (step ∷ h) - id h = x ∙ ap (λ j. j - id h) z in record {
            saved = view_adopted (rise read) (packets h) (bytes h) saved;
            is = ap (λ t. if t then adopting else now) (lt-ltb 0 (rise read) (omega (arith, x, p)))
                ∙ ap (λ j. at_id now (wid sizes.bits j) (view_adopted (rise read) (packets h) (bytes h) saved)) z;
            keeps = record {
              shown = subst (IsShown sizes.credits (view_adopted (rise read) (packets h) (bytes h) saved))
                  (ap (λ j. Adopt j (packets h) (bytes h) ∷ calls (data_channels net u) h) y ∙ sym (calls-rise (data_channels net u) step h (omega (arith, i, p))))
                  (ring-adopt sizes.credits saved (rise read) (packets h) (bytes h) (calls (data_channels net u) h) (omega (arith, x, p)) (subst (λ m. rise read ≤ m) (sym keeps.size) (omega (arith, x, near))) keeps.shown);
              size = length-set saved.slots (place_above (length saved.slots) saved.at (rise read)) (new_slot (rise read) (packets h) (bytes h)) ∙ keeps.size;
            };
          }
      by_cases (inr p) = let z : id h ≡ id (step ∷ h) = omega (arith, i, p) in record {
        saved = saved;
        is = ap (λ t. if t then adopting else now) (le-ltb 0 (rise read) (omega (arith, rise-is sizes.bits l (id h) k behind, p)))
            ∙ ap (λ j. at_id now (wid sizes.bits j) saved) z;
        keeps = subst (Keeps sizes saved) (sym (s p)) keeps;
      }

  -- a data packet, which is credited where its stamp lies below the id
  credits : (c : ℕ) (p : Packet) (ps : List Put) → place_in 0 c (data_channels net u) < 8
      → Adopts net sizes u (taking c (Data k p) ps) h now (credited sizes.credits (place_in 0 c (data_channels net u)) read p.len (adopted read now))
  credits c p ps few = by_cases (cases_lt k (id h))
    where
      ch : ℕ
      ch = place_in 0 c (data_channels net u)

      stays : id h ≤ k → k ≤ id h → calls (data_channels net u) (taking c (Data k p) ps ∷ h) ≡ calls (data_channels net u) h
      stays q r = calls-stay (data_channels net u) (taking c (Data k p) ps) h (omega (arith, r))
          ∙ ap (λ t. map Credited (if t then credit (data_channels net u) (id h) c k p ∷ [] else []) ++ calls (data_channels net u) h) (le-ltb k (id h) q)

      no_credit : (r : Registers) → id h ≤ k → credited sizes.credits (place_in 0 c (data_channels net u)) read p.len r ≡ r
      no_credit r q = ap (λ t. if t then record r { saved = view_credited sizes.credits (record { channel = place_in 0 c (data_channels net u); age = age read; bytes = p.len }) r.saved } else r)
          (le-ltb 0 (age read) (omega (arith, age-is sizes.bits l (id h) k low, q)))

      of_adopted : id h ≤ k → Adopts net sizes u (taking c (Data k p) ps) h now (adopted read now)
          → Adopts net sizes u (taking c (Data k p) ps) h now (credited sizes.credits (place_in 0 c (data_channels net u)) read p.len (adopted read now))
      of_adopted q a = record { saved = a.saved; is = no_credit (adopted read now) q ∙ a.is; keeps = a.keeps }

      by_cases : (k < id h) ⊎ (id h ≤ k) → Adopts net sizes u (taking c (Data k p) ps) h now (credited sizes.credits (place_in 0 c (data_channels net u)) read p.len (adopted read now))
      by_cases (inl q) =
          let z : id h ≡ id (taking c (Data k p) ps ∷ h) = omega (arith, q) in
          let x : age read ≡ id h - k = age-is sizes.bits l (id h) k low in record {
            saved = view_credited sizes.credits (credit (data_channels net u) (id h) c k p) saved;
            is = ap (λ t. credited sizes.credits (place_in 0 c (data_channels net u)) read p.len (if t then adopting else now)) (le-ltb 0 (rise read) (omega (arith, rise-is sizes.bits l (id h) k behind, q)))
                ∙ ap (λ t. if t then record now { saved = view_credited sizes.credits (record { channel = place_in 0 c (data_channels net u); age = age read; bytes = p.len }) saved } else now) (lt-ltb 0 (age read) (omega (arith, x, q)))
                ∙ ap (λ j. record now { saved = view_credited sizes.credits (record { channel = place_in 0 c (data_channels net u); age = j; bytes = p.len }) saved }) x
                ∙ ap (λ j. at_id now (wid sizes.bits j) (view_credited sizes.credits (credit (data_channels net u) (id h) c k p) saved)) z;
            keeps = record {
              shown = subst (IsShown sizes.credits (view_credited sizes.credits (credit (data_channels net u) (id h) c k p) saved))
                  (sym (calls-stay (data_channels net u) (taking c (Data k p) ps) h (omega (arith, q)) ∙ ap (λ t. map Credited (if t then credit (data_channels net u) (id h) c k p ∷ [] else []) ++ calls (data_channels net u) h) (lt-ltb k (id h) q)))
                  (ring-credit sizes.credits saved (credit (data_channels net u) (id h) c k p) (calls (data_channels net u) h) few (subst (λ m. id h - k ≤ m) (sym keeps.size) back) keeps.shown);
              size = length-credited sizes.credits (credit (data_channels net u) (id h) c k p) saved.at saved.slots ∙ keeps.size;
            };
          }
      by_cases (inr q) = of_adopted q (adopts (taking c (Data k p) ps) refl (stays q))

-- All registers.

-- a unit's channels: few and distinct, with one choice for initiations
pub record HasChannels (net : Net) (u : ℕ) : Type 0 where
  pub distinct : Distinct (data_channels net u)
  pub few : length (data_channels net u) ≤ 8
  pub inits : length (choices_of net u Init) ≤ 1

-- counters that have room for a step
pub record HasRoom (h : History) (m : Message) : Type 0 where
  pub packets : packets h + 1 < 2 ^ 64
  pub bytes : bytes h + unwrap_or (option_map (λ p. p.len) (counted_in m)) 0 < 2 ^ 64

packed : (n by : ℕ) → n + by < 2 ^ 64 → more n by ≡ n + by
packed n by l = omega (arith, l)

-- a stamp on the choice c that lies within the window, which is no larger than the ring
pub record IsRead (sizes : Sizes) (c k : ℕ) (h : History) : Type 0 where
  pub low : last c h ≤ k
  pub behind : last c h ≤ id h
  pub near : k - id h ≤ sizes.ring
  pub back : id h - k ≤ sizes.ring

pub data-moves : (net : Net) (sizes : Sizes) (u c k : ℕ) (p : Packet) (ps : List Put) (h : History) (b e n : ℕ) (saved : View) → HasChannels net u → HasRoom h (Data k p)
    → Member c (data_channels net u) → (Member c (choices_of net u Init) → ⊥) → Keeps sizes saved (calls (data_channels net u) h) → IsRead sizes c k h
    → Moves net sizes u (taking c (Data k p) ps ∷ h) b e n (after_data sizes.credits (place_in 0 c (data_channels net u)) (reading sizes.bits (last c h) (id h) k) p (regs net sizes.bits u h b e n saved))
data-moves net sizes u c k p ps h b e n saved chans room m out keeps d = of_adopted (credits net sizes u (last c h) k h b e n saved d.low d.behind keeps d.near d.back c p ps (omega (arith, place-lt 0 c (data_channels net u) m, chans.few)))
  where
    of_adopted : Adopts net sizes u (taking c (Data k p) ps) h (regs net sizes.bits u h b e n saved)
        (credited sizes.credits (place_in 0 c (data_channels net u)) (reading sizes.bits (last c h) (id h) k) p.len (adopted (reading sizes.bits (last c h) (id h) k) (regs net sizes.bits u h b e n saved)))
        → Moves net sizes u (taking c (Data k p) ps ∷ h) b e n (after_data sizes.credits (place_in 0 c (data_channels net u)) (reading sizes.bits (last c h) (id h) k) p (regs net sizes.bits u h b e n saved))
    of_adopted a = let x = ap (wid sizes.bits) (first-there (choices_of net u Init) (taking c (Data k p) ps) h out) in
        let y = wids-set sizes.bits (data_channels net u) c k (taking c (Data k p) ps) h chans.distinct m refl (last-here c k (taking c (Data k p) ps) h (Data k p) refl refl refl) in
        let f = packed (packets h) 1 room.packets in let g = packed (bytes h) p.len room.bytes in record {
          saved = a.saved;
          is = ap (λ r. counted p.len (seen (Upstream (place_in 0 c (data_channels net u))) (wid sizes.bits k) r)) a.is ∙ same-registers net sizes.bits u (taking c (Data k p) ps ∷ h) b e n a.saved
              (counted p.len (seen (Upstream (place_in 0 c (data_channels net u))) (wid sizes.bits k) (at_id (regs net sizes.bits u h b e n saved) (wid sizes.bits (id (taking c (Data k p) ps ∷ h))) a.saved))) refl (sym x) (sym y) f g refl refl refl refl;
          keeps = a.keeps;
        }

pub probe-moves : (net : Net) (sizes : Sizes) (u c k : ℕ) (ps : List Put) (h : History) (b e n : ℕ) (saved : View) → HasChannels net u
    → Member c (data_channels net u) → (Member c (choices_of net u Init) → ⊥) → Keeps sizes saved (calls (data_channels net u) h) → IsRead sizes c k h
    → Moves net sizes u (taking c (ProbeMsg k) ps ∷ h) b e n (after_stamp (Upstream (place_in 0 c (data_channels net u))) (reading sizes.bits (last c h) (id h) k) (regs net sizes.bits u h b e n saved))
probe-moves net sizes u c k ps h b e n saved chans m out keeps d =
    of_adopted (adopts net sizes u (last c h) k h b e n saved d.low d.behind keeps d.near d.back (taking c (ProbeMsg k) ps) refl (λ q. calls-stay (data_channels net u) (taking c (ProbeMsg k) ps) h (omega (arith, q))))
  where
    of_adopted : Adopts net sizes u (taking c (ProbeMsg k) ps) h (regs net sizes.bits u h b e n saved) (adopted (reading sizes.bits (last c h) (id h) k) (regs net sizes.bits u h b e n saved))
        → Moves net sizes u (taking c (ProbeMsg k) ps ∷ h) b e n (after_stamp (Upstream (place_in 0 c (data_channels net u))) (reading sizes.bits (last c h) (id h) k) (regs net sizes.bits u h b e n saved))
    of_adopted a = let x = ap (wid sizes.bits) (first-there (choices_of net u Init) (taking c (ProbeMsg k) ps) h out) in
        let y = wids-set sizes.bits (data_channels net u) c k (taking c (ProbeMsg k) ps) h chans.distinct m refl (last-here c k (taking c (ProbeMsg k) ps) h (ProbeMsg k) refl refl refl) in
        let f : packets h ≡ packets h + 0 = omega arith in let g : bytes h ≡ bytes h + 0 = omega arith in record {
          saved = a.saved;
          is = ap (λ r. seen (Upstream (place_in 0 c (data_channels net u))) (wid sizes.bits k) r) a.is ∙ same-registers net sizes.bits u (taking c (ProbeMsg k) ps ∷ h) b e n a.saved
              (seen (Upstream (place_in 0 c (data_channels net u))) (wid sizes.bits k) (at_id (regs net sizes.bits u h b e n saved) (wid sizes.bits (id (taking c (ProbeMsg k) ps ∷ h))) a.saved)) refl (sym x) (sym y) f g refl refl refl refl;
          keeps = a.keeps;
        }

pub init-moves : (net : Net) (sizes : Sizes) (u c k : ℕ) (ps : List Put) (h : History) (b e n : ℕ) (saved : View) → HasChannels net u
    → Member c (choices_of net u Init) → (Member c (data_channels net u) → ⊥) → Keeps sizes saved (calls (data_channels net u) h) → IsRead sizes c k h
    → Moves net sizes u (taking c (InitMsg k) ps ∷ h) b e n (after_stamp Cpu (reading sizes.bits (last c h) (id h) k) (regs net sizes.bits u h b e n saved))
init-moves net sizes u c k ps h b e n saved chans m out keeps d =
    of_adopted (adopts net sizes u (last c h) k h b e n saved d.low d.behind keeps d.near d.back (taking c (InitMsg k) ps) refl (λ q. calls-stay (data_channels net u) (taking c (InitMsg k) ps) h (omega (arith, q))))
  where
    of_adopted : Adopts net sizes u (taking c (InitMsg k) ps) h (regs net sizes.bits u h b e n saved) (adopted (reading sizes.bits (last c h) (id h) k) (regs net sizes.bits u h b e n saved))
        → Moves net sizes u (taking c (InitMsg k) ps ∷ h) b e n (after_stamp Cpu (reading sizes.bits (last c h) (id h) k) (regs net sizes.bits u h b e n saved))
    of_adopted a = let x = ap (wid sizes.bits) (first-only (choices_of net u Init) c (taking c (InitMsg k) ps ∷ h) m chans.inits ∙ last-here c k (taking c (InitMsg k) ps) h (InitMsg k) refl refl refl) in
        let y = ap (λ ls. map (wid sizes.bits) (eight ls)) (lasts-there (data_channels net u) (taking c (InitMsg k) ps) h out) in
        let f : packets h ≡ packets h + 0 = omega arith in let g : bytes h ≡ bytes h + 0 = omega arith in record {
          saved = a.saved;
          is = ap (λ r. seen Cpu (wid sizes.bits k) r) a.is ∙ same-registers net sizes.bits u (taking c (InitMsg k) ps ∷ h) b e n a.saved
              (seen Cpu (wid sizes.bits k) (at_id (regs net sizes.bits u h b e n saved) (wid sizes.bits (id (taking c (InitMsg k) ps ∷ h))) a.saved)) refl (sym x) (sym y) f g refl refl refl refl;
          keeps = a.keeps;
        }

-- a message without a stamp, and without data on a channel, changes counters alone
pub quiet-moves : (net : Net) (sizes : Sizes) (u c : ℕ) (m : Message) (ps : List Put) (h : History) (b e n x y : ℕ) (saved : View) → stamp_of m ≡ None → credits_in (data_channels net u) (id h) c (Some m) ≡ []
    → x ≡ packets (taking c m ps ∷ h) → y ≡ bytes (taking c m ps ∷ h) → Keeps sizes saved (calls (data_channels net u) h)
    → Moves net sizes u (taking c m ps ∷ h) b e n (record (regs net sizes.bits u h b e n saved) { packets = x; bytes = y })
quiet-moves net sizes u c m ps h b e n x y saved s z f g keeps = let i : id h ≡ id (taking c m ps ∷ h) = (let v : 0 ≡ unwrap_or (stamp_of m) 0 = sym (ap (λ o. unwrap_or o 0) s) in omega (arith, v)) in
    let w = ap (wid sizes.bits) i in
    let a = ap (wid sizes.bits) (first-same (choices_of net u Init) (taking c m ps) h m refl s) in
    let l = ap (λ ls. map (wid sizes.bits) (eight ls)) (lasts-same (data_channels net u) (taking c m ps) h m refl s) in record {
      saved = saved;
      is = same-registers net sizes.bits u (taking c m ps ∷ h) b e n saved (record (regs net sizes.bits u h b e n saved) { packets = x; bytes = y }) w (sym a) (sym l) f g refl refl refl refl;
      keeps = subst (Keeps sizes saved) (sym (calls-stay (data_channels net u) (taking c m ps) h (omega (arith, i)) ∙ ap (λ cs. map Credited cs ++ calls (data_channels net u) h) z)) keeps;
    }
