-- What the methods of the links keep.
use Rattle.std.proofs.Common.{◌≡◌, ℕ, ◌+◌, ◌<◌, ◌≤◌, List, ◌∷◌, length, get_or, set, drop, ap, sym, ◌∙◌, subst, arith, Bool, true, false, None}
use Rattle.std.specs.Prelude.{slice_index}
use Rattle.std.proofs.lemmas.List.{map-set, length-set, get_or_read}
use Rattle.sl_machine.specs.Machine.{is_fitting}
use Rattle.sl_machine.specs.Plan.{Plan, IsSound, link_out, link_at}
use Rattle.sl_world.specs.Scene.{Line, line_at, put_each, put_all, without_first}
use Rattle.sl_world.specs.LineView.{LineView}
use Rattle.sl_world.specs.Mesh.{lines_of, room_at, KeepsSomeRoom, HasRoomFor, IsElsewhere, IsIncoming, IsMesh}
use Rattle.sl_world.specs.Places.{place_of}
use Rattle.sl_world.specs.declared.places.Places.{Places}
use Rattle.sl_world.proofs.LinkLemmas.{link_out_is, no_link_in}
use Rattle.sl_world.proofs.PlaceLemmas.{position_within}
use Rattle.sl_world.proofs.RoomLemmas.{line_is, length_put, room_from, room_for, all_elsewhere, put_each_same, roomy_more, roomy_after}

-- a number that was read is the actor's
pub count_is : (counts wanted : List ℕ) (a n : ℕ) → counts ≡ wanted → a < length wanted → n ≡ get_or counts a n → n ≡ slice_index wanted a
count_is counts wanted a n same low read =
    let long : a < length counts = omega (arith, ap length same) in
    get_or_read counts a n long read 0 ∙ ap (λ (xs : List ℕ). slice_index xs a) same

-- a choice past the incoming links has no link
pub none_in : (plan now : Plan) (counts : List ℕ) (n a c : ℕ) → plan ≡ now → counts ≡ plan.ins → IsSound plan → n ≡ get_or counts a n → a < length now.ins → n ≤ c → IsIncoming now a c None
none_in plan now counts n a c same is sound read low high =
    let ins : counts ≡ now.ins = is ∙ ap (λ (p : Plan). p.ins) same in
    let count : n ≡ slice_index now.ins a = count_is counts now.ins a n ins low read in
    record { link = tt; found = tt; below = tt; none = no_link_in now a c (subst IsSound same sound) (omega arith); action = omega arith }

-- the links once the first message of one is taken
pub taken_from : {M : Type 0} (views : List (LineView M)) (now : List (Line M)) (k : ℕ) (e new : LineView M) (m : M) → lines_of views ≡ now → k < length views → e ≡ get_or views k e → e.line.queue ≡ m ∷ new.line.queue → new.line ≡ without_first e.line new.line.queue → lines_of (set views k new) ≡ set now k (without_first (line_at now k) (drop 1 (line_at now k).queue))
taken_from views now k e new m same low read queue line =
    let is : e.line ≡ line_at now k = sym (line_is views k e low read) ∙ ap (λ ls. line_at ls k) same in
    let rest : new.line.queue ≡ drop 1 e.line.queue = ap (drop 1) (sym queue) in
    map-set (λ v. v.line) views k new
    ∙ (ap (λ ls. set ls k new.line) same ∙ ap (set now k) (line ∙ (ap (without_first e.line) rest ∙ ap (λ l. without_first l (drop 1 l.queue)) is)))

-- as many links, and each that had room has room
pub mesh_kept : {M : Type 0} (plan : Plan) (ins outs : Places) (old new : List (LineView M)) (roomy : List Bool) → IsMesh plan ins outs old roomy → length new ≡ length old → KeepsSomeRoom old new → IsMesh plan ins outs new roomy
mesh_kept plan ins outs old new roomy mesh same kept =
    record {
      sound = mesh.sound;
      in_places = mesh.in_places;
      out_places = mesh.out_places;
      lines_each = same ∙ mesh.lines_each;
      roomy_each = mesh.roomy_each;
      room = λ a h k low from. kept k (mesh.room a h k low from);
    }

-- an actor more is known to have room
pub mesh_roomy : {M : Type 0} (plan : Plan) (ins outs : Places) (views : List (LineView M)) (roomy : List Bool) (actor count : ℕ) → IsMesh plan ins outs views roomy → actor < length plan.ins → count ≡ slice_index plan.outs actor → ((o : ℕ) → o < count → 0 < room_at views (place_of outs actor o)) → IsMesh plan ins outs views (set roomy actor true)
mesh_roomy plan ins outs views roomy actor count mesh low is room =
    record {
      sound = mesh.sound;
      in_places = mesh.in_places;
      out_places = mesh.out_places;
      lines_each = mesh.lines_each;
      roomy_each = length-set roomy actor true ∙ mesh.roomy_each;
      room = roomy_more plan.links views roomy actor (omega (arith, mesh.roomy_each))
          (room_from plan outs views actor mesh.sound mesh.out_places low (λ o h. room o (omega arith))) mesh.room;
    }

-- the table has a place for each number of an actor
pub out_within : {M : Type 0} (plan : Plan) (ins outs : Places) (views : List (LineView M)) (roomy : List Bool) (actor o : ℕ) → IsMesh plan ins outs views roomy → actor < length plan.ins → o < slice_index plan.outs actor → slice_index outs.starts.items actor + o < length outs.places.items
out_within plan ins outs views roomy actor o mesh low here =
    position_within outs plan.outs actor o mesh.out_places.laid_out (omega (arith, mesh.sound.outs_each)) here

pub out_place_is : {M : Type 0} (plan : Plan) (ins outs : Places) (views : List (LineView M)) (roomy : List Bool) (actor o : ℕ) → IsMesh plan ins outs views roomy → actor < length plan.ins → o < slice_index plan.outs actor → place_of outs actor o ≡ link_out plan.links actor o
out_place_is plan ins outs views roomy actor o mesh low here = mesh.out_places.is actor o (omega (arith, mesh.sound.outs_each)) here

pub out_place_low : {M : Type 0} (plan : Plan) (ins outs : Places) (views : List (LineView M)) (roomy : List Bool) (actor o : ℕ) → IsMesh plan ins outs views roomy → actor < length plan.ins → o < slice_index plan.outs actor → place_of outs actor o < length views
out_place_low plan ins outs views roomy actor o mesh low here =
    omega (arith, out_place_is plan ins outs views roomy actor o mesh low here, mesh.sound.each_out actor o low here, mesh.lines_each)

-- the puts of a machine that fits have room where its actor is known to have room
pub room_for_puts : {M : Type 0} (plan : Plan) (ins outs : Places) (views : List (LineView M)) (roomy : List Bool) (actor : ℕ) (ps : List (ℕ × M)) → IsMesh plan ins outs views roomy → actor < length plan.ins → get_or roomy actor false ≡ true → is_fitting (slice_index plan.outs actor) ps ≡ true → HasRoomFor (place_of outs actor) views ps
room_for_puts plan ins outs views roomy actor ps mesh low known fits =
    let place = λ (o : ℕ) (h : o < slice_index plan.outs actor). out_place_is plan ins outs views roomy actor o mesh low h in
    let is = λ (o : ℕ) (h : o < slice_index plan.outs actor). link_out_is plan.links actor o (mesh.sound.each_out actor o low h) in
    room_for (place_of outs actor) (slice_index plan.outs actor) views ps
    (λ o h. out_place_low plan ins outs views roomy actor o mesh low h)
    (λ o h. subst (λ (k : ℕ). 0 < room_at views k) (sym (place o h)) (mesh.room actor known (link_out plan.links actor o) (mesh.sound.each_out actor o low h) (is o h).0))
    (λ o n h i e. sym (is o h).1 ∙ (ap (λ (k : ℕ). (link_at plan.links k).out) (sym (place o h) ∙ (e ∙ place n i)) ∙ (is n i).1))
    fits

-- the puts go to the actor's links
pub lines_delivered : {M : Type 0} (plan : Plan) (ins outs : Places) (old : List (LineView M)) (roomy : List Bool) (actor : ℕ) (ps : List (ℕ × M)) (new : List (Line M)) → IsMesh plan ins outs old roomy → actor < length plan.ins → is_fitting (slice_index plan.outs actor) ps ≡ true → new ≡ put_each (place_of outs actor) ps (lines_of old) → new ≡ put_all plan.links actor ps (lines_of old)
lines_delivered plan ins outs old roomy actor ps new mesh low fits put =
    put ∙ put_each_same (place_of outs actor) (link_out plan.links actor) (slice_index plan.outs actor) ps (lines_of old) fits (λ o h. out_place_is plan ins outs old roomy actor o mesh low h)

pub mesh_delivered : {M : Type 0} (plan : Plan) (ins outs : Places) (old new : List (LineView M)) (roomy : List Bool) (actor : ℕ) (ps : List (ℕ × M)) (b : Bool) → IsMesh plan ins outs old roomy → actor < length plan.ins → get_or roomy actor false ≡ true → is_fitting (slice_index plan.outs actor) ps ≡ true → lines_of new ≡ put_each (place_of outs actor) ps (lines_of old) → ((k : ℕ) → IsElsewhere (place_of outs actor) ps k → room_at new k ≡ room_at old k) → (b ≡ true → KeepsSomeRoom old new) → IsMesh plan ins outs new (set roomy actor b)
mesh_delivered plan ins outs old new roomy actor ps b mesh low known fits put others some =
    let is = λ (o : ℕ) (h : o < slice_index plan.outs actor). link_out_is plan.links actor o (mesh.sound.each_out actor o low h) in
    let from_is = λ (o : ℕ) (h : o < slice_index plan.outs actor). ap (λ (k : ℕ). (link_at plan.links k).from) (out_place_is plan ins outs old roomy actor o mesh low h) ∙ (is o h).0 in
    record {
      sound = mesh.sound;
      in_places = mesh.in_places;
      out_places = mesh.out_places;
      lines_each = length_put (place_of outs actor) ps old new put ∙ mesh.lines_each;
      roomy_each = length-set roomy actor b ∙ mesh.roomy_each;
      room = roomy_after plan.links old new roomy actor b (omega (arith, mesh.roomy_each))
          (λ e k below from. some e k (mesh.room actor known k below from))
          (λ k below other. others k (all_elsewhere (place_of outs actor) (slice_index plan.outs actor) k ps fits (λ o h e. other (ap (λ (i : ℕ). (link_at plan.links i).from) (sym e) ∙ from_is o h))))
          mesh.room;
    }
