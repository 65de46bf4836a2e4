-- All links of a scene through an actor's puts.
--     LinesAre .. base lines       each link k stands for one on which the messages base k were put
--     AreToSend .. base ps xs      the puts of a machine stand for these of a step, after those
use Rattle.std.proofs.Common.{◌≡◌, ℕ, suc, ◌+◌, ◌^◌, ◌<◌, List, [], ◌∷◌, ◌++◌, length, refl, sym, ap, subst, ◌∙◌, arith, inl, inr, length-append, append-nil, append_assoc, length-set, get_or-set_same, get_or-set_other, drop}
use Rattle.std.specs.Prelude.{◌⊎◌, true, false, Bool, ◌==◌, cond, nat_eq, map}
use Rattle.std.proofs.lemmas.Bool.Decides.{eqb_tells}
use Rattle.sl_layout.specs.Net.{Net, link_of}
use Rattle.sl_layout.specs.Wires.{out_of}
use Rattle.sl_wire.specs.declared.message.Msg.{Msg}
use Rattle.sl_wire.specs.Sizes.{Sizes}
use Rattle.sl_model.specs.declared.message.Message.{Message}
use Rattle.sl_model.specs.declared.message.Message.TheVariants.{Done as DoneMsg}
use Rattle.sl_model.specs.declared.message.Put.{Put}
use Rattle.sl_parts.specs.Lists.{Each, Member}
use Rattle.sl_model.specs.History.{History, Losses, put, on_link, without_lost}
use Rattle.sl_simulation.specs.Messages.{IsMessage}
use Rattle.sl_world.specs.Scene.{Line, line_at, empty_line, line_put, put_at, put_each}
use Rattle.sl_proto.specs.Image.{tell_all, told_on, ArePut}
use Rattle.sl_proto.specs.Spread.{ArePutFrom}
use Rattle.sl_proto.proofs.Spread.{link_in_put, AreApart}
use Rattle.sl_proto.proofs.Queues.{retold}
use Rattle.sl_proto.proofs.Lines.{IsLine, line-put}

abbrev pub LinesAre : Net → Sizes → (ℕ → History) → Losses → (ℕ → ℕ → ℕ) → (ℕ → ℕ) → (ℕ → List Message) → List (Line Msg) → Type 0
LinesAre net sizes us lost told n base lines = (k : ℕ) → k < length net.links → IsLine net sizes us (link_of net k).from (lost k) (told k) (n k) (base k) (line_at lines k)

abbrev pub with_put : (ℕ → List Message) → Put → ℕ → List Message
with_put base p k = base k ++ on_link k (p ∷ [])

-- what was told at the end of the link
abbrev pub told_last : Losses → (ℕ → ℕ → ℕ) → (ℕ → ℕ) → (ℕ → List Message) → ℕ → ℕ → ℕ
told_last lost told n base k = tell_all (told k) (drop (n k) (without_lost (lost k) 0 (base k)))

abbrev pub AreToSend : Net → Sizes → (ℕ → History) → ℕ → Losses → (ℕ → ℕ → ℕ) → (ℕ → ℕ) → (ℕ → List Message) → List Put → List (ℕ × Msg) → Type 0
AreToSend net sizes us a lost told n base [] [] = Unit {0}
AreToSend net sizes us a lost told n base (p ∷ ps) (x ∷ xs) = ((x.0 ≡ out_of net p.link) × IsMessage net sizes us a (told_last lost told n base p.link) p.message x.1) × AreToSend net sizes us a lost told n (with_put base p) ps xs
AreToSend net sizes us a lost told n base _ _ = ⊥

-- Puts on a link.

on-first : (k : ℕ) (p : Put) (ps : List Put) → on_link k (p ∷ []) ++ on_link k ps ≡ on_link k (p ∷ ps)
on-first k p ps = by_bool (p.link == k)
  where
    by_bool : (b : Bool) → cond b (p.message ∷ []) [] ++ on_link k ps ≡ cond b (p.message ∷ on_link k ps) (on_link k ps)
    by_bool true = refl
    by_bool false = refl

on-this : (k : ℕ) (p : Put) → p.link ≡ k → on_link k (p ∷ []) ≡ p.message ∷ []
on-this k p q = by_tells (eqb_tells p.link k)
  where
    by_tells : ((nat_eq p.link k ≡ true) × (p.link ≡ k)) ⊎ ((nat_eq p.link k ≡ false) × (p.link ≡ k → ⊥)) → cond (p.link == k) (p.message ∷ []) [] ≡ p.message ∷ []
    by_tells (inl e) = ap (λ b. cond b (p.message ∷ []) []) e.0
    by_tells (inr e) = absurd (e.1 q)

on-other : (k : ℕ) (p : Put) → (p.link ≡ k → ⊥) → on_link k (p ∷ []) ≡ []
on-other k p ne = by_tells (eqb_tells p.link k)
  where
    by_tells : ((nat_eq p.link k ≡ true) × (p.link ≡ k)) ⊎ ((nat_eq p.link k ≡ false) × (p.link ≡ k → ⊥)) → cond (p.link == k) (p.message ∷ []) [] ≡ []
    by_tells (inl e) = absurd (ne e.1)
    by_tells (inr e) = ap (λ b. cond b (p.message ∷ []) []) e.0

-- One put.

module _ (net : Net) (sizes : Sizes) (us : ℕ → History) (a : ℕ) (lost : Losses) (told : ℕ → ℕ → ℕ) (n : ℕ → ℕ) where
  one-put : (base : ℕ → List Message) (lines : List (Line Msg)) (p : Put) (x : Msg) → length lines ≡ length net.links → p.link < length net.links → (link_of net p.link).from ≡ a → suc (length (base p.link)) < 2 ^ 64
      → IsMessage net sizes us a (told_last lost told n base p.link) p.message x → LinesAre net sizes us lost told n base lines → LinesAre net sizes us lost told n (with_put base p) (put_at lines p.link x)
  one-put base lines p x long low from few i all k below = by_tells (eqb_tells k p.link)
    where
      here : IsLine net sizes us (link_of net p.link).from (lost p.link) (told p.link) (n p.link) (base p.link ++ p.message ∷ []) (line_put (line_at lines p.link) x)
      here = line-put net sizes us (link_of net p.link).from (lost p.link) (told p.link) (n p.link) (base p.link) (line_at lines p.link) p.message x few (all p.link low)
          (subst (λ b. IsMessage net sizes us b (told_last lost told n base p.link) p.message x) (sym from) i)

      at-this : line_at (put_at lines p.link x) p.link ≡ line_put (line_at lines p.link) x
      at-this = get_or-set_same lines p.link (line_put (line_at lines p.link) x) empty_line (omega (arith, low, long))

      by_tells : ((nat_eq k p.link ≡ true) × (k ≡ p.link)) ⊎ ((nat_eq k p.link ≡ false) × (k ≡ p.link → ⊥)) → IsLine net sizes us (link_of net k).from (lost k) (told k) (n k) (base k ++ on_link k (p ∷ [])) (line_at (put_at lines p.link x) k)
      by_tells (inl e) = subst (λ j. IsLine net sizes us (link_of net j).from (lost j) (told j) (n j) (base j ++ on_link j (p ∷ [])) (line_at (put_at lines p.link x) j)) (sym e.1)
          (subst (λ ms. IsLine net sizes us (link_of net p.link).from (lost p.link) (told p.link) (n p.link) (base p.link ++ ms) (line_at (put_at lines p.link x) p.link)) (sym (on-this p.link p refl))
          (subst (λ l. IsLine net sizes us (link_of net p.link).from (lost p.link) (told p.link) (n p.link) (base p.link ++ p.message ∷ []) l) (sym at-this) here))
      by_tells (inr e) = subst (λ ms. IsLine net sizes us (link_of net k).from (lost k) (told k) (n k) ms (line_at (put_at lines p.link x) k)) (sym (ap (λ ms. base k ++ ms) (on-other k p (λ q. e.1 (sym q))) ∙ append-nil (base k)))
          (subst (λ l. IsLine net sizes us (link_of net k).from (lost k) (told k) (n k) (base k) l) (sym (get_or-set_other lines p.link k (line_put (line_at lines p.link) x) empty_line e.1)) (all k below))

  -- All puts.

  pub all-put : (place : ℕ → ℕ) (base : ℕ → List Message) (lines : List (Line Msg)) (ps : List Put) (xs : List (ℕ × Msg)) → ((l : ℕ) → l < length net.links → (link_of net l).from ≡ a → place (out_of net l) ≡ l)
      → ((k : ℕ) → length (base k) + length (on_link k ps) < 2 ^ 64) → length lines ≡ length net.links → ArePutFrom net a ps → AreToSend net sizes us a lost told n base ps xs
      → LinesAre net sizes us lost told n base lines → LinesAre net sizes us lost told n (λ k. base k ++ on_link k ps) (put_each place xs lines)
  all-put place base lines [] [] placed few long from send all k below = subst (λ ms. IsLine net sizes us (link_of net k).from (lost k) (told k) (n k) ms (line_at lines k)) (sym (append-nil (base k))) (all k below)
  all-put place base lines [] (x ∷ xs) placed few long from send all k below = absurd send
  all-put place base lines (p ∷ ps) [] placed few long from send all k below = absurd send
  all-put place base lines (p ∷ ps) (x ∷ xs) placed few long from send all k below =
      let at : place x.0 ≡ p.link = ap place send.0.0 ∙ placed p.link from.0.0 from.0.1 in
      let first : LinesAre net sizes us lost told n (with_put base p) (put_at lines (place x.0) x.1) =
      subst (λ l. LinesAre net sizes us lost told n (with_put base p) (put_at lines l x.1)) (sym at) (one-put base lines p x.1 long from.0.0 from.0.1 (room (few p.link)) send.0.1 all) in
      subst (λ ms. IsLine net sizes us (link_of net k).from (lost k) (told k) (n k) ms (line_at (put_each place xs (put_at lines (place x.0) x.1)) k)) (append_assoc (base k) (on_link k (p ∷ [])) (on_link k ps) ∙ ap (λ ms. base k ++ ms) (on-first k p ps))
      (all-put place (with_put base p) (put_at lines (place x.0) x.1) ps xs placed (λ j. fewer j (few j)) (length-set lines (place x.0) (line_put (line_at lines (place x.0)) x.1) ∙ long) from.1 send.1 first k below)
    where
      room : length (base p.link) + length (on_link p.link (p ∷ ps)) < 2 ^ 64 → suc (length (base p.link)) < 2 ^ 64
      room f = let e : length (on_link p.link (p ∷ ps)) ≡ suc (length (on_link p.link ps)) = ap length (sym (on-first p.link p ps) ∙ ap (λ ms. ms ++ on_link p.link ps) (on-this p.link p refl)) in omega (arith, e, f)

      fewer : (j : ℕ) → length (base j) + length (on_link j (p ∷ ps)) < 2 ^ 64 → length (base j ++ on_link j (p ∷ [])) + length (on_link j ps) < 2 ^ 64
      fewer j f = let e : length (on_link j (p ∷ ps)) ≡ length (on_link j (p ∷ [])) + length (on_link j ps) = ap length (sym (on-first j p ps)) ∙ length-append (on_link j (p ∷ [])) (on_link j ps) in
          omega (arith, e, f, length-append (base j) (on_link j (p ∷ [])))

-- Puts of a step, told by the history before it.

pub to-send : (net : Net) (sizes : Sizes) (us : ℕ → History) (a : ℕ) (lost : Losses) (told : ℕ → ℕ → ℕ) (n : ℕ → ℕ) (h : History) (base : ℕ → List Message) (ps : List Put) (xs : List (ℕ × Msg)) → AreApart ps
    → Each (λ p. base p.link ≡ put p.link h) ps → Each (λ p. (place k : ℕ) → p.message ≡ DoneMsg place k → told_on p.link h place ≡ told_last lost told n (λ l. put l h) p.link place) ps
    → ArePut net sizes us a h ps xs → AreToSend net sizes us a lost told n base ps xs
to-send net sizes us a lost told n h base [] [] apart same last send = tt
to-send net sizes us a lost told n h base [] (x ∷ xs) apart same last send = send
to-send net sizes us a lost told n h base (p ∷ ps) [] apart same last send = send
to-send net sizes us a lost told n h base (p ∷ ps) (x ∷ xs) apart same last send = (
  (
    send.0.0,
    subst (λ ms. IsMessage net sizes us a (tell_all (told p.link) (drop (n p.link) (without_lost (lost p.link) 0 ms))) p.message x.1) (sym same.0)
        (retold net sizes us a (told_on p.link h) (told_last lost told n (λ l. put l h) p.link) p.message x.1 last.0 send.0.1),
  ),
  to-send net sizes us a lost told n h (with_put base p) ps xs apart.1 (untouched base p ps apart.0 same.1) last.1 send.1,
)
  where
    untouched : (base : ℕ → List Message) (p : Put) (ps : List Put) → (Member p.link (map link_in_put ps) → ⊥) → Each (λ q. base q.link ≡ put q.link h) ps → Each (λ q. with_put base p q.link ≡ put q.link h) ps
    untouched base p [] ne e = tt
    untouched base p (q ∷ qs) ne e = (ap (λ ms. base q.link ++ ms) (on-other q.link p (λ k. ne (inl k))) ∙ append-nil (base q.link) ∙ e.0, untouched base p qs (λ m. ne (inr m)) e.1)
