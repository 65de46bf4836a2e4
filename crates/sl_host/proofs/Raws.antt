-- The raw frames of a host, one by one.
use Rattle.std.proofs.Common.{◌≡◌, ℕ, ◌+◌, ◌<◌, List, [], ◌∷◌, ◌++◌, length, refl, ap, ◌∙◌, take, get_or, map}
use Rattle.std.specs.Prelude.{filter, ◌==◌, true, false, cond}
use Rattle.std.proofs.lemmas.List.{map-append, take_more}
use Rattle.sl_net.specs.declared.input.RawPart.{RawPart}
use Rattle.std.proofs.lemmas.List.Elements.{filter-append}
use Rattle.sl_host.specs.Host.{raws_of}

-- what a host sends of one raw frame
abbrev pub share : RawPart → ℕ → List (List ℕ)
share r h = cond (r.from == h) (r.bytes ∷ []) []

pub raws-snoc : (rs : List RawPart) (r : RawPart) (h : ℕ) → raws_of (rs ++ r ∷ []) h ≡ raws_of rs h ++ share r h
raws-snoc rs r h = ap (map (λ r. r.bytes)) (filter-append (λ g. g.from == h) rs (r ∷ [])) ∙ map-append (λ (r : RawPart). r.bytes) (filter (λ g. g.from == h) rs) (cond (r.from == h) (r ∷ []) [])
    ∙ ap (λ t. raws_of rs h ++ t) (elim (r.from == h) as (λ b. map (λ (r : RawPart). r.bytes) (cond b (r ∷ []) []) ≡ cond b (r.bytes ∷ []) []) [ true ↦ refl | false ↦ refl ])

pub raws_more : (rs : List RawPart) (h i : ℕ) (none : RawPart) → i < length rs → raws_of (take (i + 1) rs) h ≡ raws_of (take i rs) h ++ share (get_or rs i none) h
raws_more rs h i none l = ap (λ gs. raws_of gs h) (take_more rs i none l) ∙ raws-snoc (take i rs) (get_or rs i none) h
