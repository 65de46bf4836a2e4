-- Links of a scene and of a world, through puts.
--     IsLine net sizes us a lost told n ms line     the link stands for one on which these were put, and n of those that are not lost were taken
use Rattle.std.proofs.Common.{◌≡◌, ℕ, zero, suc, ◌+◌, ◌^◌, ◌<◌, ◌≤◌, List, [], ◌∷◌, ◌++◌, length, refl, sym, ap, subst, ◌∙◌, Option, Some, None, arith, length-append, append-nil, drop}
use Rattle.std.specs.Prelude.{true, false, Bool, if◌then◌else◌}
use Rattle.std.specs.List.{range_with_len}
use Rattle.sl_machine.specs.Counting.{one_more}
use Rattle.sl_loss.specs.Loss.{Loss, is_lost, loses_next, after_put}
use Rattle.sl_layout.specs.Net.{Net}
use Rattle.sl_wire.specs.declared.message.Msg.{Msg}
use Rattle.sl_wire.specs.Sizes.{Sizes}
use Rattle.sl_model.specs.declared.message.Message.{Message}
use Rattle.sl_model.specs.Words.{tally}
use Rattle.sl_model.specs.History.{History, without_lost}
use Rattle.sl_simulation.specs.Messages.{IsMessage}
use Rattle.sl_world.specs.Scene.{Line, line_put}
use Rattle.sl_proto.specs.Image.{tell_all, AreQueued, GoesOn}
use Rattle.sl_proto.proofs.Queues.{queue-push}

abbrev pub counted : (ℕ → Bool) → List Message → ℕ
counted lost ms = tally lost (range_with_len 1 (length ms))

pub record IsLine (net : Net) (sizes : Sizes) (us : ℕ → History) (a : ℕ) (lost : ℕ → Bool) (told : ℕ → ℕ) (n : ℕ) (ms : List Message) (line : Line Msg) : Type 0 where
  pub within : n ≤ length (without_lost lost 0 ms)
  pub queue : AreQueued net sizes us a told (drop n (without_lost lost 0 ms)) line.queue
  pub loss : GoesOn lost (length ms) line.loss
  pub count : line.lost ≡ counted lost ms

-- Lists.

without-push : (lost : ℕ → Bool) (n : ℕ) (ms : List Message) (m : Message) → without_lost lost n (ms ++ m ∷ []) ≡ without_lost lost n ms ++ (if lost (suc (n + length ms)) then [] else m ∷ [])
without-push lost n [] m = let e : suc n ≡ suc (n + 0) = omega arith in ap (λ k. if lost k then [] else m ∷ []) e
without-push lost n (y ∷ ms) m = by_bool (lost (suc n)) (without-push lost (suc n) ms m)
  where
    by_bool : (b : Bool) → without_lost lost (suc n) (ms ++ m ∷ []) ≡ without_lost lost (suc n) ms ++ (if lost (suc (suc n + length ms)) then [] else m ∷ [])
        → (if b then without_lost lost (suc n) (ms ++ m ∷ []) else y ∷ without_lost lost (suc n) (ms ++ m ∷ [])) ≡ (if b then without_lost lost (suc n) ms else y ∷ without_lost lost (suc n) ms) ++ (if lost (suc (n + suc (length ms))) then [] else m ∷ [])
    by_bool true ih = ih ∙ ap (λ k. without_lost lost (suc n) ms ++ (if lost (suc k) then [] else m ∷ [])) (omega arith)
    by_bool false ih = ap (λ r. y ∷ r) ih ∙ ap (λ k. y ∷ (without_lost lost (suc n) ms ++ (if lost (suc k) then [] else m ∷ []))) (omega arith)

pub drop-front : {A : Type 0} (n : ℕ) (xs ys : List A) → n ≤ length xs → drop n (xs ++ ys) ≡ drop n xs ++ ys
drop-front zero xs ys p = refl
drop-front (suc n) [] ys p = absurd (omega (arith, p))
drop-front (suc n) (x ∷ xs) ys p = drop-front n xs ys (omega (arith, p))

numbers-push : (s n : ℕ) → range_with_len s (suc n) ≡ range_with_len s n ++ (s + n) ∷ []
numbers-push s zero = let e : s ≡ s + 0 = omega arith in ap (λ k. k ∷ []) e
numbers-push s (suc n) = ap (λ r. s ∷ r) (numbers-push (s + 1) n ∙ ap (λ k. range_with_len (s + 1) n ++ k ∷ []) (omega arith))

tally-push : (lost : ℕ → Bool) (xs : List ℕ) (k : ℕ) → tally lost (xs ++ k ∷ []) ≡ tally lost xs + (if lost k then 1 else 0)
tally-push lost [] k = omega arith
tally-push lost (x ∷ xs) k = let ih = tally-push lost xs k in omega (arith, ih)

tally-small : (lost : ℕ → Bool) (s n : ℕ) → tally lost (range_with_len s n) ≤ n
tally-small lost s zero = omega arith
tally-small lost s (suc n) = by_bool (lost s) (tally-small lost (s + 1) n)
  where
    by_bool : (b : Bool) → tally lost (range_with_len (s + 1) n) ≤ n → (if b then 1 else 0) + tally lost (range_with_len (s + 1) n) ≤ suc n
    by_bool true ih = omega (arith, ih)
    by_bool false ih = omega (arith, ih)

-- One put.

next-lost : (lost : ℕ → Bool) (n : ℕ) (o : Option Loss) → GoesOn lost n o → loses_next o ≡ lost (suc n)
next-lost lost n None g = sym (g (suc n))
next-lost lost n (Some loss) g = let e : loss.answered + 1 ≡ suc n = omega (arith, g.0) in ap (is_lost loss) e ∙ g.1 (suc n)

goes-on : (lost : ℕ → Bool) (n : ℕ) (o : Option Loss) → suc n < 2 ^ 64 → GoesOn lost n o → GoesOn lost (suc n) (after_put o)
goes-on lost n None p g = g
goes-on lost n (Some loss) p g = (omega (arith, p, g.0), g.1)

pub line-put : (net : Net) (sizes : Sizes) (us : ℕ → History) (a : ℕ) (lost : ℕ → Bool) (told : ℕ → ℕ) (n : ℕ) (ms : List Message) (line : Line Msg) (m : Message) (x : Msg) → suc (length ms) < 2 ^ 64
    → IsLine net sizes us a lost told n ms line → IsMessage net sizes us a (tell_all told (drop n (without_lost lost 0 ms))) m x → IsLine net sizes us a lost told n (ms ++ m ∷ []) (line_put line x)
line-put net sizes us a lost told n ms line m x few i s = record {
  within = omega (arith, i.within, ap length pushed, length-append (without_lost lost 0 ms) (if lost (suc (length ms)) then [] else m ∷ []));
  queue = subst (λ b. AreQueued net sizes us a told (drop n (without_lost lost 0 (ms ++ m ∷ []))) (if b then line.queue else line.queue ++ x ∷ [])) (sym next)
      (subst (λ ks. AreQueued net sizes us a told ks (if lost (suc (length ms)) then line.queue else line.queue ++ x ∷ [])) (sym (ap (drop n) pushed ∙ drop-front n (without_lost lost 0 ms) (if lost (suc (length ms)) then [] else m ∷ []) i.within))
      (by_bool (lost (suc (length ms)))));
  loss = subst (λ k. GoesOn lost k (after_put line.loss)) (sym long) (goes-on lost (length ms) line.loss few i.loss);
  count = ap (λ b. if b then one_more line.lost else line.lost) next ∙ more (lost (suc (length ms))) ∙ sym (ap (λ k. tally lost (range_with_len 1 k)) long ∙ ap (tally lost) (numbers-push 1 (length ms))
      ∙ tally-push lost (range_with_len 1 (length ms)) (1 + length ms) ∙ ap (λ k. counted lost ms + (if lost k then 1 else 0)) (omega arith));
}
  where
    long : length (ms ++ m ∷ []) ≡ suc (length ms)
    long = omega (arith, length-append ms (m ∷ []))

    next : loses_next line.loss ≡ lost (suc (length ms))
    next = next-lost lost (length ms) line.loss i.loss

    pushed : without_lost lost 0 (ms ++ m ∷ []) ≡ without_lost lost 0 ms ++ (if lost (suc (length ms)) then [] else m ∷ [])
    pushed = let e : 0 + length ms ≡ length ms = omega arith in without-push lost 0 ms m ∙ ap (λ k. without_lost lost 0 ms ++ (if lost (suc k) then [] else m ∷ [])) e

    by_bool : (b : Bool) → AreQueued net sizes us a told (drop n (without_lost lost 0 ms) ++ (if b then [] else m ∷ [])) (if b then line.queue else line.queue ++ x ∷ [])
    by_bool true = subst (λ ks. AreQueued net sizes us a told ks line.queue) (sym (append-nil (drop n (without_lost lost 0 ms)))) i.queue
    by_bool false = queue-push net sizes us a told (drop n (without_lost lost 0 ms)) line.queue m x i.queue s

    few-lost : line.lost ≤ length ms
    few-lost = omega (arith, i.count, tally-small lost 1 (length ms))

    more : (b : Bool) → (if b then one_more line.lost else line.lost) ≡ counted lost ms + (if b then 1 else 0)
    more true = let c = i.count in let f = few-lost in omega (arith, c, f, few)
    more false = let c = i.count in omega (arith, c)
