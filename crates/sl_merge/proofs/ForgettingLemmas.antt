-- What does as another machine does, once states and messages are seen through functions, runs as it does.
use Rattle.std.proofs.Common.{◌≡◌, ℕ, Bool, true, false, if◌then◌else◌, List, [], ◌∷◌, ◌++◌, length, map, set, slice_get, Option, Some, None, sym, refl, ap, ◌∙◌, nat_lt}
use Rattle.std.specs.Option.{option_map, option_and_then}
use Rattle.std.proofs.Math.ListN.{get_or-map}
use Rattle.std.proofs.lemmas.List.{map-append, map-set}
use Rattle.std.proofs.lemmas.Option.{slice_get-map}
use Rattle.sl_machine.specs.Machine.{After, Rules}
use Rattle.sl_machine.specs.Plan.{link_in, link_out}
use Rattle.sl_machine.specs.declared.wiring.Link.{Link}
use Rattle.sl_loss.specs.Loss.{loses_next, after_put}
use Rattle.sl_actor.specs.Losses.{lost_more}
use Rattle.sl_world.specs.Scene.{Scene, Line, empty_line, line_at, line_put, put_at, put_all, without_first, done, take_first, take_turn, act_turn, turn_of, run_of}

abbrev pub seen_line : {M' M : Type 0} → (M' → M) → Line M' → Line M
seen_line g line = record { queue = map g line.queue; loss = line.loss; lost = line.lost }

module _ {S' M' S M : Type 0} (f : S' → S) (g : M' → M) where
  abbrev pub seen_after : After S' M' → After S M
  seen_after a = record { state = f a.state; puts = map (λ p. (p.0, g p.1)) a.puts }

  pub record IsSeen (rules' : Rules S' M') (rules : Rules S M) : Type 0 where
    pub take : (s : S') (choice : ℕ) (m : M') → rules.take (f s) choice (g m) ≡ seen_after (rules'.take s choice m)
    pub act : (s : S') (choice : ℕ) → rules.act (f s) choice ≡ option_map seen_after (rules'.act s choice)

  abbrev pub seen : Scene S' M' → Scene S M
  seen w = record { plan = w.plan; states = map f w.states; lines = map (seen_line g) w.lines; book = w.book }

  put-seen : (line : Line M') (m : M') → line_put (seen_line g line) (g m) ≡ seen_line g (line_put line m)
  put-seen line m =
      elim (loses_next line.loss) as (λ (b : Bool). record { queue = if b then map g line.queue else map g line.queue ++ g m ∷ []; loss = after_put line.loss; lost = lost_more b line.lost } ≡ seen_line g (record { queue = if b then line.queue else line.queue ++ m ∷ []; loss = after_put line.loss; lost = lost_more b line.lost })) [
        | true ↦ refl
        | false ↦ ap (λ (q : List M). record { queue = q; loss = after_put line.loss; lost = line.lost }) (sym (map-append g line.queue (m ∷ [])))
      ]

  put_at-seen : (lines : List (Line M')) (k : ℕ) (m : M') → put_at (map (seen_line g) lines) k (g m) ≡ map (seen_line g) (put_at lines k m)
  put_at-seen lines k m =
      ap (λ (x : Line M). set (map (seen_line g) lines) k (line_put x (g m))) (get_or-map (seen_line g) lines k empty_line)
      ∙ ap (λ (x : Line M). set (map (seen_line g) lines) k x) (put-seen (line_at lines k) m)
      ∙ sym (map-set (seen_line g) lines k (line_put (line_at lines k) m))

  put_all-seen : (links : List Link) (actor : ℕ) (ps : List (ℕ × M')) (lines : List (Line M')) → put_all links actor (map (λ p. (p.0, g p.1)) ps) (map (seen_line g) lines) ≡ map (seen_line g) (put_all links actor ps lines)
  put_all-seen links actor [] lines = refl
  put_all-seen links actor (p ∷ ps) lines =
      ap (λ (ls : List (Line M)). put_all links actor (map (λ p. (p.0, g p.1)) ps) ls) (put_at-seen lines (link_out links actor p.0) p.1)
      ∙ put_all-seen links actor ps (put_at lines (link_out links actor p.0) p.1)

  done-seen : (w : Scene S' M') (actor choice : ℕ) (lines : List (Line M')) (a : After S' M')
      → done (seen w) actor choice (map (seen_line g) lines) (seen_after a) ≡ seen (done w actor choice lines a)
  done-seen w actor choice lines a = rw (map-set f w.states actor a.state, put_all-seen w.plan.links actor a.puts lines) refl

  module _ (rules' : Rules S' M') (rules : Rules S M) (is : IsSeen rules' rules) where
    first-seen : (w : Scene S' M') (actor choice link : ℕ) (s : S') (line : Line M') (queue : List M')
        → take_first rules (seen w) actor choice link (f s) (seen_line g line) (map g queue) ≡ option_map seen (take_first rules' w actor choice link s line queue)
    first-seen w actor choice link s line [] = refl
    first-seen w actor choice link s line (m ∷ rest) =
        let lines : List (Line M') = set w.lines link (without_first line rest) in
        ap (λ (ls : List (Line M)). Some (done (seen w) actor choice ls (rules.take (f s) choice (g m)))) (sym (map-set (seen_line g) w.lines link (without_first line rest)))
        ∙ ap (λ (a : After S M). Some (done (seen w) actor choice (map (seen_line g) lines) a)) (is.take s choice m)
        ∙ ap (λ (v : Scene S M). Some v) (done-seen w actor choice lines (rules'.take s choice m))

    take-seen : (w : Scene S' M') (actor choice link : ℕ) (s : Option S') (line : Option (Line M'))
        → take_turn rules (seen w) actor choice link (option_map f s) (option_map (seen_line g) line) ≡ option_map seen (take_turn rules' w actor choice link s line)
    take-seen w actor choice link None line = refl
    take-seen w actor choice link (Some s) None = refl
    take-seen w actor choice link (Some s) (Some line) = first-seen w actor choice link s line line.queue

    made-seen : (w : Scene S' M') (actor choice : ℕ) (a : Option (After S' M')) → option_map (done (seen w) actor choice (seen w).lines) (option_map seen_after a) ≡ option_map seen (option_map (done w actor choice w.lines) a)
    made-seen w actor choice None = refl
    made-seen w actor choice (Some a) = ap (λ (v : Scene S M). Some v) (done-seen w actor choice w.lines a)

    act-seen : (w : Scene S' M') (actor choice : ℕ) (s : Option S') → act_turn rules (seen w) actor choice (option_map f s) ≡ option_map seen (act_turn rules' w actor choice s)
    act-seen w actor choice None = refl
    act-seen w actor choice (Some s) = ap (option_map (done (seen w) actor choice (seen w).lines)) (is.act s choice) ∙ made-seen w actor choice (rules'.act s choice)

    pub turn-seen : (w : Scene S' M') (actor choice : ℕ) → turn_of rules (seen w) actor choice ≡ option_map seen (turn_of rules' w actor choice)
    turn-seen w actor choice =
        let k = link_in w.plan.links actor choice in
        let taking : take_turn rules (seen w) actor choice k (slice_get (map f w.states) actor) (slice_get (map (seen_line g) w.lines) k) ≡ option_map seen (take_turn rules' w actor choice k (slice_get w.states actor) (slice_get w.lines k)) =
        ap (λ (o : Option S). take_turn rules (seen w) actor choice k o (slice_get (map (seen_line g) w.lines) k)) (slice_get-map f w.states actor)
        ∙ ap (λ (x : Option (Line M)). take_turn rules (seen w) actor choice k (option_map f (slice_get w.states actor)) x) (slice_get-map (seen_line g) w.lines k)
        ∙ take-seen w actor choice k (slice_get w.states actor) (slice_get w.lines k) in
        let acting : act_turn rules (seen w) actor choice (slice_get (map f w.states) actor) ≡ option_map seen (act_turn rules' w actor choice (slice_get w.states actor)) =
        ap (act_turn rules (seen w) actor choice) (slice_get-map f w.states actor) ∙ act-seen w actor choice (slice_get w.states actor) in
        elim (nat_lt k (length w.plan.links)) as (λ (b : Bool). (if b then take_turn rules (seen w) actor choice k (slice_get (map f w.states) actor) (slice_get (map (seen_line g) w.lines) k) else act_turn rules (seen w) actor choice (slice_get (map f w.states) actor))
        ≡ option_map seen (if b then take_turn rules' w actor choice k (slice_get w.states actor) (slice_get w.lines k) else act_turn rules' w actor choice (slice_get w.states actor))) [
          | true ↦ taking
          | false ↦ acting
        ]

    pub run-seen : (w : Scene S' M') (es : List (ℕ × ℕ)) → run_of rules (seen w) es ≡ option_map seen (run_of rules' w es)
    run-seen w [] = refl
    run-seen w (e ∷ es) =
        ap (option_and_then (λ v. run_of rules v es)) (turn-seen w e.0 e.1)
        ∙ elim (turn_of rules' w e.0 e.1) as (λ (o : Option (Scene S' M')). option_and_then (λ v. run_of rules v es) (option_map seen o) ≡ option_map seen (option_and_then (λ v. run_of rules' v es) o)) [
          | None ↦ refl
          | Some v ↦ run-seen v es
        ]
