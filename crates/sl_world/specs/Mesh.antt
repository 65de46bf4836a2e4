-- The links of a net, and the room on them.
use Rattle.std.specs.Prelude.{◌≡◌, ◌≢◌, ◌<◌, ◌≤◌, ℕ, List, [], ◌∷◌, length, map, Bool, true, false, ⊤, Option, IfSome, IfNone, slice_index, slice_index_or}
use Rattle.sl_machine.specs.Plan.{Plan, IsSound, link_in, link_out, link_at}
use Rattle.sl_machine.specs.declared.wiring.Link.{Link}
use Rattle.sl_world.specs.Scene.{Line, empty_line}
use Rattle.sl_world.specs.LineView.{LineView}
use Rattle.sl_world.specs.Places.{Leads}
use Rattle.sl_world.specs.declared.places.Places.{Places}

-- how the links join the actors, what is on each, and the actors that have room for a message on each outgoing link
pub record Mesh (M : Type 0) : Type 0 where
  pub plan : Plan
  pub lines : List (Line M)
  pub roomy : List Bool

-- the links without their room
abbrev pub lines_of : {M : Type 0} → List (LineView M) → List (Line M)
lines_of views = map (λ v. v.line) views

abbrev pub no_view : {M : Type 0} → LineView M
no_view = record { line = empty_line; room = 0 }

abbrev pub room_at : {M : Type 0} → List (LineView M) → ℕ → ℕ
room_at views k = (slice_index_or views k no_view).room

-- each link from this actor has room for a message
abbrev pub HasRoom : {M : Type 0} → List Link → List (LineView M) → ℕ → Type 0
HasRoom links views actor = (k : ℕ) → k < length links → (link_at links k).from ≡ actor → 0 < room_at views k

-- each link that had room has room
abbrev pub KeepsSomeRoom : {M : Type 0} → List (LineView M) → List (LineView M) → Type 0
KeepsSomeRoom old new = (k : ℕ) → 0 < room_at old k → 0 < room_at new k

-- what a look-up of the link that a choice takes from answers: None where the choice is an action
pub record IsIncoming (plan : Plan) (actor choice : ℕ) (answer : Option ℕ) : Type 0 where
  pub link : IfSome answer (λ l. l ≡ link_in plan.links actor choice)
  pub found : IfSome answer (λ l. l < length plan.links)
  pub below : IfSome answer (λ _. choice < slice_index plan.ins actor)
  pub none : IfNone answer (length plan.links ≤ link_in plan.links actor choice)
  pub action : IfNone answer (slice_index plan.ins actor ≤ choice)

-- none of the puts goes to this place
abbrev pub IsElsewhere : {M : Type 0} → (ℕ → ℕ) → List (ℕ × M) → ℕ → Type 0
IsElsewhere place [] k = ⊤
IsElsewhere place (p ∷ ps) k = (place p.0 ≢ k) × IsElsewhere place ps k

-- each of the puts has a link of its own, and room there
abbrev pub HasRoomFor : {M : Type 0} → (ℕ → ℕ) → List (LineView M) → List (ℕ × M) → Type 0
HasRoomFor place views [] = ⊤
HasRoomFor place views (p ∷ ps) =
    (place p.0 < length views) × (0 < room_at views (place p.0)) × IsElsewhere place ps (place p.0) × HasRoomFor place views ps

-- what the fields of the links keep
pub record IsMesh {M : Type 0} (plan : Plan) (ins outs : Places) (views : List (LineView M)) (roomy : List Bool) : Type 0 where
  pub sound : IsSound plan
  pub in_places : Leads ins plan.ins (link_in plan.links)
  pub out_places : Leads outs plan.outs (link_out plan.links)
  pub lines_each : length views ≡ length plan.links
  pub roomy_each : length roomy ≡ length plan.ins
  pub room : (a : ℕ) → slice_index_or roomy a false ≡ true → HasRoom plan.links views a
