-- The control planes of a net are joined as their machines ask.
use Rattle.std.proofs.Common.{◌≡◌, ℕ, ◌<◌, ◌≤◌, List, [], ◌∷◌, length, map, refl, sym, ap, subst, ◌∙◌, ◌⊎◌, inl, inr, arith, Some}
use Rattle.std.specs.Prelude.{slice_index_or, slice_get, ◌==◌}
use Rattle.std.specs.List.{AllByRecursion}
use Rattle.std.proofs.lemmas.Bool.{cases_lt}
use Rattle.sl_layout.specs.declared.actor.Sort.{Sort}
use Rattle.sl_layout.specs.declared.actor.Sort.TheVariants.{Init, Poll, Notice, Dump, Done}
use Rattle.sl_layout.specs.declared.actor.ActorId.TheVariants.{Control}
use Rattle.sl_layout.specs.Net.{Net, actor_of, link_of, links_into, links_from, links_out, choice_of, same_sort, link_numbers}
use Rattle.sl_layout.specs.Serving.{choice_from, serving, served}
use Rattle.sl_net.specs.Wired.{IsWired, Reports}
use Rattle.sl_layout.specs.Wires.{out_of}
use Rattle.sl_parts.specs.Lists.{Each, Member}
use Rattle.sl_parts.proofs.Lists.{each-map, each-imp, each-at, each-of, distinct-filter, distinct-from, distinct-map, length_filter_le, Distinct}
use Rattle.std.proofs.lemmas.List.{length-map}
use Rattle.sl_net.specs.Ways.{IsOut, HasWays}
use Rattle.std.proofs.lemmas.Simd.{map-map}
use Rattle.sl_control.specs.declared.known.Known.{Known}
use Rattle.sl_control.specs.Wires.{control_of, outs_of, unit_wires, unheard}
use Rattle.sl_control.specs.Joined.{AreApart, AreOuts, IsJoined}

-- each device has a control plane
pub control-low : (net : Net) (d : ℕ) → IsWired net → d < length net.parts.devices → control_of net d < length net.actors
control-low net d w h = w.place_low (Control d) h

pub control-is : (net : Net) (d : ℕ) → IsWired net → d < length net.parts.devices → actor_of net (control_of net d) ≡ Control d
control-is net d w h = w.actor_at (Control d) h

-- Links of an actor.

all-each : {A : Type 0} (P : A → Type 0) (xs : List A) → Each P xs → AllByRecursion P xs
all-each P [] h = tt
all-each P (x ∷ xs) h = (h.0, all-each P xs h.1)

apart : (xs : List ℕ) → Distinct xs → AreApart xs
apart [] d = tt
apart (x ∷ xs) d = (all-each (λ y. y ≡ x → ⊥) xs (each-of (λ y. y ≡ x → ⊥) xs (λ y m q. d.0 (subst (λ z. Member z xs) q m))), apart xs d.1)

outs-distinct : (net : Net) (a : ℕ) (s : Sort) → Distinct (links_out net a s)
outs-distinct net a s = distinct-filter (λ l. same_sort (link_of net l).sort s) (links_from net a) (distinct-filter (λ l. (link_of net l).from == a) (link_numbers net) (distinct-from 0 (length net.links)))

is-out : (net : Net) → HasWays net → (a : ℕ) (s : Sort) (l : ℕ) → Member l (links_out net a s) → IsOut net a s l
is-out net ways a s l m = each-at (IsOut net a s) l (links_out net a s) (ways.outs a s) m

pub outs-apart : (net : Net) → HasWays net → (a : ℕ) (s : Sort) → AreOuts (length (links_from net a)) (outs_of net a s)
outs-apart net ways a s = record {
  below = all-each (λ x. x < length (links_from net a)) (outs_of net a s)
      (each-map (λ x. x < length (links_from net a)) (out_of net) (links_out net a s) (each-imp (IsOut net a s) (λ l. out_of net l < length (links_from net a)) (links_out net a s) (λ l o. ways.out_low a s l o) (ways.outs a s)));
  apart = apart (outs_of net a s) (distinct-map (out_of net) (links_out net a s) (λ l k m n q. ways.one_out a s s l k (is-out net ways a s l m) (is-out net ways a s k n) q) (outs-distinct net a s));
  few = subst (λ n. n ≤ length (links_from net a)) (sym (length-map (links_out net a s) (out_of net))) (length_filter_le (λ l. same_sort (link_of net l).sort s) (links_from net a));
}

-- Units.

record IsServed (net : Net) (a l : ℕ) : Type 0 where
  pub out : IsOut net a Poll l
  pub reports : Reports net (link_of net l).to
  pub control : reports.control ≡ a

is-served : (net : Net) (a l : ℕ) → IsWired net → IsOut net a Poll l → IsServed net a l
is-served net a l w o =
    let u = w.poll_to l o.is_link o.sort in
    let r = w.reports (link_of net l).to u.0 u.1 in
    record { out = o; reports = r; control = sym r.poll_from ∙ ap (λ k. (link_of net k).from) (sym (r.polled l refl o.sort)) ∙ o.from }

-- what the unit of a link of polls sends by one link of a sort, its control plane takes by one choice
record Taken (net : Net) (a l : ℕ) (s : Sort) : Type 0 where
  pub link : ℕ
  pub from : (link_of net link).from ≡ (link_of net l).to
  pub choice : choice_from net a (link_of net l).to s ≡ choice_of net link
  pub taken : slice_get (links_into net a) (choice_of net link) ≡ Some link

dump-taken : (net : Net) (a l : ℕ) → IsServed net a l → Taken net a l Dump
dump-taken net a l v = let r = v.reports in subst (λ b. Taken net b l Dump) v.control
    (record { link = r.dump; from = r.dump_out.from; choice = r.dump_choice; taken = r.dump_taken })

notice-taken : (net : Net) (a l : ℕ) → IsServed net a l → Taken net a l Notice
notice-taken net a l v = let r = v.reports in subst (λ b. Taken net b l Notice) v.control
    (record { link = r.notice; from = r.notice_out.from; choice = r.notice_choice; taken = r.notice_taken })

-- two units from which messages are taken by one choice are one
one-unit : (net : Net) (a l k : ℕ) (s : Sort) → Taken net a l s → Taken net a k s
    → choice_from net a (link_of net l).to s ≡ choice_from net a (link_of net k).to s → (link_of net k).to ≡ (link_of net l).to
one-unit net a l k s t u q =
    let c : choice_of net t.link ≡ choice_of net u.link = sym t.choice ∙ q ∙ u.choice in
    let x : Some t.link ≡ Some u.link = sym t.taken ∙ ap (slice_get (links_into net a)) c ∙ u.taken in
    let d : t.link ≡ u.link = cc in
    sym u.from ∙ ap (λ d. (link_of net d).from) (sym d) ∙ t.from

choices-apart : (net : Net) (a : ℕ) (s : Sort) → ((l : ℕ) → IsServed net a l → Taken net a l s) → IsWired net
    → AreApart (map (λ l. choice_from net a (link_of net l).to s) (links_out net a Poll))
choices-apart net a s taken w =
    apart (map choice (links_out net a Poll)) (distinct-map choice (links_out net a Poll) one (outs-distinct net a Poll))
  where
    choice : ℕ → ℕ
    choice l = choice_from net a (link_of net l).to s

    one : (l k : ℕ) → Member l (links_out net a Poll) → Member k (links_out net a Poll) → choice l ≡ choice k → l ≡ k
    one l k m n q =
        let v = is-served net a l w (is-out net w.ways a Poll l m) in
        let u = is-served net a k w (is-out net w.ways a Poll k n) in
        v.reports.polled l refl v.out.sort ∙ sym (v.reports.polled k (one-unit net a l k s (taken l v) (taken k u) q) u.out.sort)

two : (a b n : ℕ) → a < n → b < n → (b ≡ a → ⊥) → 2 ≤ n
two a b n p q ne = by_cases (cases_lt 1 n)
  where
    by_cases : (1 < n) ⊎ (n ≤ 1) → 2 ≤ n
    by_cases (inl h) = h
    by_cases (inr h) = absurd (ne (omega arith))

done-apart : (net : Net) → HasWays net → (a l : ℕ) → IsServed net a l → AreOuts (length (links_from net a)) (slice_index_or (outs_of net a Done) 0 0 ∷ out_of net l ∷ [])
done-apart net ways a l v =
    let only : links_out net a Done ≡ v.reports.done ∷ [] = subst (λ b. links_out net b Done ≡ v.reports.done ∷ []) v.control v.reports.dones in
    let o = subst (λ b. IsOut net b Done v.reports.done) v.control v.reports.done_out in
    let is : out_of net v.reports.done ≡ slice_index_or (outs_of net a Done) 0 0 = sym (ap (λ ls. slice_index_or (map (out_of net) ls) 0 0) only) in
    let ne : (out_of net l ≡ out_of net v.reports.done → ⊥) = (λ q. let same = ways.one_out a Poll Done l v.reports.done v.out o q in
    let sorts : Poll ≡ Done = sym v.out.sort ∙ ap (λ k. (link_of net k).sort) same ∙ o.sort in cc) in
    subst (λ d. AreOuts (length (links_from net a)) (d ∷ out_of net l ∷ [])) is (record {
      below = (ways.out_low a Done v.reports.done o, (ways.out_low a Poll l v.out, tt));
      apart = ((ne, tt), (tt, tt));
      few = two (out_of net v.reports.done) (out_of net l) (length (links_from net a)) (ways.out_low a Done v.reports.done o) (ways.out_low a Poll l v.out) ne;
    })

known-of : (net : Net) (a : ℕ) {B : Type 0} (f : Known → B) → map (λ l. f (unheard (unit_wires net (serving net a l)))) (links_out net a Poll) ≡ map f (map (λ v. unheard (unit_wires net v)) (served net a))
known-of net a f = sym (ap (map f) (map-map (λ v. unheard (unit_wires net v)) (serving net a) (links_out net a Poll)) ∙ map-map f (λ l. unheard (unit_wires net (serving net a l))) (links_out net a Poll))

-- the control plane of an actor's number, with its units as they are at first
pub joined : (net : Net) (a : ℕ) → IsWired net → IsJoined (length (links_from net a)) (outs_of net a Init) (slice_index_or (outs_of net a Done) 0 0) (map (λ v. unheard (unit_wires net v)) (served net a))
joined net a w = record {
  inits_apart = outs-apart net w.ways a Init;
  polls_apart = subst (AreOuts (length (links_from net a))) (known-of net a (λ r. r.wires.poll)) (outs-apart net w.ways a Poll);
  dones_apart = all-each (λ r. AreOuts (length (links_from net a)) (slice_index_or (outs_of net a Done) 0 0 ∷ r.wires.poll ∷ [])) (map (λ v. unheard (unit_wires net v)) (served net a))
      (each-map (λ r. AreOuts (length (links_from net a)) (slice_index_or (outs_of net a Done) 0 0 ∷ r.wires.poll ∷ [])) (λ v. unheard (unit_wires net v)) (served net a)
      (each-map (λ v. AreOuts (length (links_from net a)) (slice_index_or (outs_of net a Done) 0 0 ∷ out_of net v.poll ∷ [])) (serving net a) (links_out net a Poll)
      (each-imp (IsOut net a Poll) (λ l. AreOuts (length (links_from net a)) (slice_index_or (outs_of net a Done) 0 0 ∷ out_of net l ∷ [])) (links_out net a Poll)
      (λ l o. done-apart net w.ways a l (is-served net a l w o)) (w.ways.outs a Poll))));
  notices_apart = subst AreApart (known-of net a (λ r. r.wires.notice)) (choices-apart net a Notice (notice-taken net a) w);
  dumps_apart = subst AreApart (known-of net a (λ r. r.wires.dump)) (choices-apart net a Dump (dump-taken net a) w);
}
