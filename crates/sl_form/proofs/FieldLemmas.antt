-- Tables as the code holds them, and as their definitions see them.
use Rattle.std.proofs.Common.{◌≡◌, ◌&&◌, List, [], ◌∷◌, String, Global, string_bytes, refl, ap}
use Rattle.std.specs.List.{list_all}
use Rattle.std.specs.Map.{keys_of}
use Rattle.toml.specs.View.{members_view}
use Rattle.toml.specs.declared.value.Value.{Value}
use Rattle.sl_form.specs.declared.path.Key.{Key}
use Rattle.sl_form.specs.Fields.{is_listed, has_only}

pub has_only_keys : (keys : List Key) (es : List (String Global × Value)) → has_only keys (members_view es) ≡ list_all (λ k. is_listed keys (string_bytes k)) (keys_of es)
has_only_keys keys [] = refl
has_only_keys keys (e ∷ es) = ap (λ b. is_listed keys (string_bytes e.0) && b) (has_only_keys keys es)
