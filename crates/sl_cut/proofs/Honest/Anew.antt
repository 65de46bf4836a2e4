-- Steps whose dumps and Dones tell other numbers of steps.
--     tell place n        the number that is told in place of n, of the unit at a place among the units
--     anew tell net l m   the message m of the link l
use Rattle.std.proofs.Common.{◌≡◌, ℕ, List, [], ◌∷◌, length, refl, sym, ap, ◌∙◌, Option, Some, None, inl, inr}
use Rattle.std.specs.Prelude.{true, false, ◌⊎◌, ◌||◌, ◌==◌, cond, if◌then◌else◌, map, nat_eq, unwrap_or, option_map, option_and_then}
use Rattle.std.proofs.lemmas.Bool.Decides.{eqb_tells}
use Rattle.std.proofs.lemmas.List.{length-map}
use Rattle.sl_layout.specs.Net.{Net, link_of, link_at, unit_place}
use Rattle.sl_layout.specs.Serving.{ServedUnit}
use Rattle.sl_model.specs.declared.message.Message.{Message}
use Rattle.sl_model.specs.declared.message.Message.TheVariants.{Dump as DumpMsg, Done as DoneMsg}
use Rattle.sl_model.specs.declared.message.Put.{Put}
use Rattle.sl_model.specs.declared.message.Step.{Step}
use Rattle.sl_model.specs.History.{History, stamp_of, done_of, on_link}
use Rattle.sl_model.specs.Counting.{counted_in, is_bad}
use Rattle.sl_model.specs.Knowledge.{puts_on, asks, known}
use Rattle.sl_model.specs.Verdict.{is_old_data}
use Rattle.sl_cut.proofs.Hostile.Kept.{Keeps}

abbrev pub Telling : Type 0
Telling = ℕ → ℕ → ℕ

abbrev pub anew : Telling → Net → ℕ → Message → Message
anew tell net l (DumpMsg n) = DumpMsg (tell (unit_place net (link_of net l).from) n)
anew tell net l (DoneMsg place n) = DoneMsg place (tell place n)
anew tell net l m = m

abbrev pub anew_put : Telling → Net → Put → Put
anew_put tell net p = record { link = p.link; message = anew tell net p.link p.message }

abbrev pub anew_step : Telling → Net → ℕ → Step → Step
anew_step tell net a s = record { choice = s.choice; taken = option_map (anew tell net (link_at net a s.choice)) s.taken; puts = map (anew_put tell net) s.puts }

-- What looks at no dump and no Done sees no difference.

pub through : {A : Type 0} (f : Message → Option A) (g : Message → Message) → ((m : Message) → f (g m) ≡ f m) → (o : Option Message) → option_and_then f (option_map g o) ≡ option_and_then f o
through f g e None = refl
through f g e (Some m) = e m

-- what does not look at these numbers
pub unmoved : {A : Type 0} (f : Message → A) → ((m n : ℕ) → f (DumpMsg m) ≡ f (DumpMsg n)) → ((place m n : ℕ) → f (DoneMsg place m) ≡ f (DoneMsg place n))
    → (tell : Telling) (net : Net) (l : ℕ) (m : Message) → f (anew tell net l m) ≡ f m
unmoved f dump done tell net l (DumpMsg n) = dump (tell (unit_place net (link_of net l).from) n) n
unmoved f dump done tell net l (DoneMsg place n) = done place (tell place n) n
unmoved f dump done tell net l _ = refl

pub stamp-anew : (tell : Telling) (net : Net) (l : ℕ) (m : Message) → stamp_of (anew tell net l m) ≡ stamp_of m
stamp-anew = unmoved stamp_of (λ m n. refl) (λ place m n. refl)

counted-anew : (tell : Telling) (net : Net) (l : ℕ) (m : Message) → counted_in (anew tell net l m) ≡ counted_in m
counted-anew = unmoved counted_in (λ m n. refl) (λ place m n. refl)

pub bad-anew : (tell : Telling) (net : Net) (l : ℕ) (o : Option Message) → is_bad (option_map (anew tell net l) o) ≡ is_bad o
bad-anew tell net l None = refl
bad-anew tell net l (Some (DumpMsg n)) = refl
bad-anew tell net l (Some (DoneMsg place n)) = refl
bad-anew tell net l (Some _) = refl

old-anew : (tell : Telling) (net : Net) (l k : ℕ) (o : Option Message) → is_old_data k (option_map (anew tell net l) o) ≡ is_old_data k o
old-anew tell net l k None = refl
old-anew tell net l k (Some (DumpMsg n)) = refl
old-anew tell net l k (Some (DoneMsg place n)) = refl
old-anew tell net l k (Some _) = refl

asks-anew : (tell : Telling) (net : Net) (l sweep : ℕ) (v : ServedUnit) (c : ℕ) (o : Option Message) → asks sweep v c (option_map (anew tell net l) o) ≡ asks sweep v c o
asks-anew tell net l sweep v c None = refl
asks-anew tell net l sweep v c (Some (DumpMsg n)) = refl
asks-anew tell net l sweep v c (Some (DoneMsg place n)) = refl
asks-anew tell net l sweep v c (Some _) = refl

pub on_link-anew : (tell : Telling) (net : Net) (l : ℕ) (ps : List Put) → on_link l (map (anew_put tell net) ps) ≡ map (anew tell net l) (on_link l ps)
on_link-anew tell net l [] = refl
on_link-anew tell net l (p ∷ ps) = by_tells (eqb_tells p.link l) (on_link-anew tell net l ps)
  where
    rest : List Message
    rest = on_link l (map (anew_put tell net) ps)

    by_tells : ((nat_eq p.link l ≡ true) × (p.link ≡ l)) ⊎ ((nat_eq p.link l ≡ false) × (p.link ≡ l → ⊥)) → rest ≡ map (anew tell net l) (on_link l ps)
        → cond (p.link == l) (anew tell net p.link p.message ∷ rest) rest ≡ map (anew tell net l) (cond (p.link == l) (p.message ∷ on_link l ps) (on_link l ps))
    by_tells (inl q) e = ap (λ b. cond b (anew tell net p.link p.message ∷ rest) rest) q.0 ∙ (λ i. anew tell net (q.1 i) p.message ∷ e i)
        ∙ sym (ap (λ b. map (anew tell net l) (cond b (p.message ∷ on_link l ps) (on_link l ps))) q.0)
    by_tells (inr q) e = ap (λ b. cond b (anew tell net p.link p.message ∷ rest) rest) q.0 ∙ e
        ∙ sym (ap (λ b. map (anew tell net l) (cond b (p.message ∷ on_link l ps) (on_link l ps))) q.0)

puts_on-anew : (tell : Telling) (net : Net) (l : ℕ) (ps : List Put) → puts_on l (map (anew_put tell net) ps) ≡ puts_on l ps
puts_on-anew tell net l [] = refl
puts_on-anew tell net l (p ∷ ps) = ap (λ b. (p.link == l) || b) (puts_on-anew tell net l ps)

pub keeps-anew : (tell : Telling) (net : Net) (a : ℕ) → Keeps (anew_step tell net a)
keeps-anew tell net a = record {
  choice = λ s. refl;
  stamp = λ s. through stamp_of (anew tell net (link_at net a s.choice)) (stamp-anew tell net (link_at net a s.choice)) s.taken;
  counted = λ s. through counted_in (anew tell net (link_at net a s.choice)) (counted-anew tell net (link_at net a s.choice)) s.taken;
  bad = λ s. bad-anew tell net (link_at net a s.choice) s.taken;
  old = λ k s. old-anew tell net (link_at net a s.choice) k s.taken;
  asks = λ sweep v c s. asks-anew tell net (link_at net a s.choice) sweep v c s.taken;
  count = λ l s. ap length (on_link-anew tell net l s.puts) ∙ length-map (on_link l s.puts) (anew tell net l);
  puts_on = λ l s. puts_on-anew tell net l s.puts;
}

-- What the observer knows is told anew.
pub known-anew : (tell : Telling) (net : Net) (a place : ℕ) → tell place 0 ≡ 0 → (h : History) → known place (map (anew_step tell net a) h) ≡ tell place (known place h)
known-anew tell net a place z [] = sym z
known-anew tell net a place z (s ∷ h) = by_taken s.taken (known-anew tell net a place z h)
  where
    l : ℕ
    l = link_at net a s.choice

    rest : ℕ
    rest = known place (map (anew_step tell net a) h)

    by_tells : (unit n : ℕ) → ((nat_eq place unit ≡ true) × (place ≡ unit)) ⊎ ((nat_eq place unit ≡ false) × (place ≡ unit → ⊥)) → rest ≡ tell place (known place h)
        → unwrap_or (if place == unit then Some (tell unit n) else None) rest ≡ tell place (unwrap_or (if place == unit then Some n else None) (known place h))
    by_tells unit n (inl q) e = ap (λ b. unwrap_or (if b then Some (tell unit n) else None) rest) q.0 ∙ ap (λ p. tell p n) (sym q.1)
        ∙ sym (ap (λ b. tell place (unwrap_or (if b then Some n else None) (known place h))) q.0)
    by_tells unit n (inr q) e = ap (λ b. unwrap_or (if b then Some (tell unit n) else None) rest) q.0 ∙ e
        ∙ sym (ap (λ b. tell place (unwrap_or (if b then Some n else None) (known place h))) q.0)

    by_taken : (o : Option Message) → rest ≡ tell place (known place h)
        → unwrap_or (option_and_then (done_of place) (option_map (anew tell net l) o)) rest ≡ tell place (unwrap_or (option_and_then (done_of place) o) (known place h))
    by_taken None e = e
    by_taken (Some (DumpMsg n)) e = e
    by_taken (Some (DoneMsg unit n)) e = by_tells unit n (eqb_tells place unit) e
    by_taken (Some _) e = e
