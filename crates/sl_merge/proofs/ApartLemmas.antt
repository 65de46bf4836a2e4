-- Actors taken apart one by one.
use Rattle.std.proofs.Common.{◌≡◌, List, [], ◌∷◌, map, Some, refl, ap}
use Rattle.std.specs.Option.{option_map}
use Rattle.sl_actor.specs.declared.part.OutPart.{OutPart}
use Rattle.sl_actor.specs.Outs.{out_view}

pub seen_parts : {M : Type 0} (parts : List (OutPart M)) → map (option_map out_view) (map Some parts) ≡ map Some (map out_view parts)
seen_parts [] = refl
seen_parts (p ∷ ps) = ap (λ t. Some (out_view p) ∷ t) (seen_parts ps)
