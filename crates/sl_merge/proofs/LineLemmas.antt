-- What puts leave on the links.
use Rattle.std.proofs.Common.{◌≡◌, ℕ, ◌<◌, ◌==◌, Bool, true, false, if◌then◌else◌, List, [], ◌∷◌, ◌++◌, length, Option, sym, refl, ap, ◌∙◌, subst, append_assoc, length-set, get_or-set_same, get_or-set_other, eqb-true}
use Rattle.std.proofs.lemmas.Bool.{eqb-false}
use Rattle.sl_machine.specs.Plan.{link_out}
use Rattle.sl_machine.specs.declared.wiring.Link.{Link}
use Rattle.sl_loss.specs.Loss.{Loss, loses_next, after_put}
use Rattle.sl_actor.specs.Losses.{kept, loss_after, lost_more, lost_after}
use Rattle.sl_world.specs.Scene.{Line, empty_line, line_at, line_put, put_at, put_all}

module _ {M : Type 0} where
  -- of an actor's puts, those on the link at this place
  abbrev pub puts_at : List Link → ℕ → ℕ → List (ℕ × M) → List M
  puts_at links actor l [] = []
  puts_at links actor l (p ∷ ps) = if link_out links actor p.0 == l then p.1 ∷ puts_at links actor l ps else puts_at links actor l ps

  -- a link after all these puts on it
  abbrev pub line_all : Line M → List M → Line M
  line_all line [] = line
  line_all line (m ∷ ms) = line_all (line_put line m) ms

  -- puts done now or later come to the same
  pub puts_go_on : (line : Line M) (now later : List M) → (line_all line now).queue ++ kept (line_all line now).loss later ≡ line.queue ++ kept line.loss (now ++ later)
  puts_go_on line [] later = refl
  puts_go_on line (m ∷ now) later =
      puts_go_on (line_put line m) now later
      ∙ elim (loses_next line.loss) as (λ (b : Bool). (if b then line.queue else line.queue ++ m ∷ []) ++ kept (after_put line.loss) (now ++ later) ≡ line.queue ++ (if b then kept (after_put line.loss) (now ++ later) else m ∷ kept (after_put line.loss) (now ++ later))) [
        | true ↦ refl
        | false ↦ append_assoc line.queue (m ∷ []) (kept (after_put line.loss) (now ++ later))
      ]

  -- the loss of a link and how many it lost, and both after these puts
  abbrev pub tally : Line M → Option Loss × ℕ
  tally line = (line.loss, line.lost)

  abbrev pub tally_after : Option Loss × ℕ → List M → Option Loss × ℕ
  tally_after x [] = x
  tally_after x (m ∷ ms) = tally_after (after_put x.0, lost_more (loses_next x.0) x.1) ms

  pub tally-line_all : (line : Line M) (ms : List M) → tally (line_all line ms) ≡ tally_after (tally line) ms
  tally-line_all line [] = refl
  tally-line_all line (m ∷ ms) = tally-line_all (line_put line m) ms

  pub tally_after-append : (x : Option Loss × ℕ) (ms ns : List M) → tally_after x (ms ++ ns) ≡ tally_after (tally_after x ms) ns
  tally_after-append x [] ns = refl
  tally_after-append x (m ∷ ms) ns = tally_after-append (after_put x.0, lost_more (loses_next x.0) x.1) ms ns

  pub tally_is : (x : Option Loss × ℕ) (ms : List M) → tally_after x ms ≡ (loss_after x.0 ms, lost_after x.0 x.1 ms)
  tally_is x [] = refl
  tally_is x (m ∷ ms) = tally_is (after_put x.0, lost_more (loses_next x.0) x.1) ms

  put_at_at : (lines : List (Line M)) (k l : ℕ) (m : M) (b : Bool) → (k == l) ≡ b → l < length lines
      → line_at (put_at lines k m) l ≡ (if b then line_put (line_at lines l) m else line_at lines l)
  put_at_at lines k l m true e low =
      subst (λ (j : ℕ). line_at (put_at lines j m) l ≡ line_put (line_at lines l) m) (sym (eqb-true k l e)) (get_or-set_same lines l (line_put (line_at lines l) m) empty_line low)
  put_at_at lines k l m false e low = get_or-set_other lines k l (line_put (line_at lines k) m) empty_line (λ s. eqb-false k l e (sym s))

  -- each link after an actor's puts
  pub put_all_at : (links : List Link) (actor : ℕ) (ps : List (ℕ × M)) (lines : List (Line M)) (l : ℕ) → l < length lines
      → line_at (put_all links actor ps lines) l ≡ line_all (line_at lines l) (puts_at links actor l ps)
  put_all_at links actor [] lines l low = refl
  put_all_at links actor (p ∷ ps) lines l low =
      let k = link_out links actor p.0 in
      let next : List (Line M) = put_at lines k p.1 in
      let low' : l < length next = subst (λ (n : ℕ). l < n) (sym (length-set lines k _)) low in
      put_all_at links actor ps next l low'
      ∙ ap (λ (x : Line M). line_all x (puts_at links actor l ps)) (put_at_at lines k l p.1 (k == l) refl low)
      ∙ elim (k == l) as (λ (b : Bool). line_all (if b then line_put (line_at lines l) p.1 else line_at lines l) (puts_at links actor l ps) ≡ line_all (line_at lines l) (if b then p.1 ∷ puts_at links actor l ps else puts_at links actor l ps)) [
        | true ↦ refl
        | false ↦ refl
      ]
