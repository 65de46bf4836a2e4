-- Links with given messages and losses.
use Rattle.std.proofs.Common.{◌≡◌, ◌≢◌, ℕ, ◌+◌, ◌<◌, ◌≤◌, List, [], ◌∷◌, ◌++◌, length, get_or, set, take, refl, ap, sym, ◌∙◌, arith, Option, None}
use Rattle.std.proofs.lemmas.List.{length-take, length-map, take_more, map-append, get_or-set_other}
use Rattle.sl_loss.specs.Loss.{Loss}
use Rattle.sl_world.specs.Scene.{lines_with}
use Rattle.sl_world.specs.LineView.{LineView}
use Rattle.sl_world.specs.Mesh.{lines_of}

-- as many links as losses
pub length-lines_with : {M : Type 0} (losses : List (Option Loss)) (lost : List ℕ) (rests : List (List M)) → length lost ≡ length losses → length rests ≡ length losses → length (lines_with losses lost rests) ≡ length losses
length-lines_with [] lost rests e f = refl
length-lines_with (x ∷ xs) [] rests e f = absurd (omega arith)
length-lines_with (x ∷ xs) (n ∷ ns) [] e f = absurd (omega arith)
length-lines_with (x ∷ xs) (n ∷ ns) (q ∷ qs) e f = omega (arith, length-lines_with xs ns qs (omega arith) (omega arith))

-- one link more
pub lines_with-push : {M : Type 0} (losses : List (Option Loss)) (lost : List ℕ) (rests : List (List M)) (loss : Option Loss) (n : ℕ) (rest : List M) → length lost ≡ length losses → length rests ≡ length losses → lines_with (losses ++ loss ∷ []) (lost ++ n ∷ []) (rests ++ rest ∷ []) ≡ lines_with losses lost rests ++ record { queue = rest; loss = loss; lost = n } ∷ []
lines_with-push [] [] [] loss n rest e f = refl
lines_with-push [] (m ∷ ms) rests loss n rest e f = absurd (omega arith)
lines_with-push [] [] (q ∷ qs) loss n rest e f = absurd (omega arith)
lines_with-push (x ∷ xs) [] rests loss n rest e f = absurd (omega arith)
lines_with-push (x ∷ xs) (m ∷ ms) [] loss n rest e f = absurd (omega arith)
lines_with-push (x ∷ xs) (m ∷ ms) (q ∷ qs) loss n rest e f =
    ap (λ ls. record { queue = q; loss = x; lost = m } ∷ ls) (lines_with-push xs ms qs loss n rest (omega arith) (omega arith))

pub line_more : {M : Type 0} (losses : List (Option Loss)) (lost : List ℕ) (rests : List (List M)) (i : ℕ) → i < length losses → length lost ≡ length losses → length rests ≡ length losses → lines_with (take (i + 1) losses) (take (i + 1) lost) (take (i + 1) rests) ≡ lines_with (take i losses) (take i lost) (take i rests) ++ record { queue = get_or rests i []; loss = get_or losses i None; lost = get_or lost i 0 } ∷ []
line_more losses lost rests i low e f =
    let long = length-take i losses in
    let long_lost = length-take i lost in
    let long_rests = length-take i rests in
    rw (take_more losses i None low, take_more lost i 0 (omega arith), take_more rests i [] (omega arith))
    (lines_with-push (take i losses) (take i lost) (take i rests) (get_or losses i None) (get_or lost i 0) (get_or rests i []) (omega arith) (omega arith))

-- a link is pushed
pub line_pushed : {M : Type 0} (views new : List (LineView M)) (line : LineView M) (losses : List (Option Loss)) (lost : List ℕ) (rests : List (List M)) (i : ℕ) (loss : Option Loss) (n : ℕ) (rest : List M) → new ≡ views ++ line ∷ [] → line.line ≡ record { queue = rest; loss = loss; lost = n } → lines_of views ≡ lines_with (take i losses) (take i lost) (take i rests) → i < length losses → length lost ≡ length losses → length rests ≡ length losses → rest ≡ get_or rests i [] → loss ≡ get_or losses i None → n ≡ get_or lost i 0 → lines_of new ≡ lines_with (take (i + 1) losses) (take (i + 1) lost) (take (i + 1) rests)
line_pushed views new line losses lost rests i loss n rest pushed is made low e f rest_is loss_is n_is =
    rw (line_more losses lost rests i low e f, ← rest_is, ← loss_is, ← n_is, ← is, ← made, pushed) (map-append (λ v. v.line) views (line ∷ []))

-- what is left after a place is as it was
pub left_more : {X : Type 0} (now first : List X) (i : ℕ) (new d : X) → ((j : ℕ) → i ≤ j → get_or now j d ≡ get_or first j d) → (j : ℕ) → i + 1 ≤ j → get_or (set now i new) j d ≡ get_or first j d
left_more now first i new d left j h =
    let other : j ≢ i = omega arith in
    get_or-set_other now i j new d other ∙ left j (omega arith)

pub lines_counted : {M : Type 0} (views : List (LineView M)) (losses : List (Option Loss)) (lost : List ℕ) (rests : List (List M)) → lines_of views ≡ lines_with losses lost rests → length lost ≡ length losses → length rests ≡ length losses → length views ≡ length losses
lines_counted views losses lost rests made e f =
    sym (length-map views (λ v. v.line)) ∙ (ap length made ∙ length-lines_with losses lost rests e f)
