use Rattle.std.proofs.Common.{◌≡◌, [], take, drop}
use Rattle.std.specs.List.{list_any}
use Rattle.std.specs.Prelude.{bytes_eq}
use Rattle.sl_parts.specs.Fault.{first_clash}
use Rattle.sl_parts.proofs.checking.first_namesake.Given as goal

abbrev pub invariant-loop-i : goal.invariant-loop-i
invariant-loop-i g l =
    first_clash (λ earlier part. list_any (λ e. bytes_eq (g.P.Named.name_of e) (g.P.Named.name_of part)) earlier) (take l.i l.parts) (drop l.i l.parts)
    ≡ first_clash (λ earlier part. list_any (λ e. bytes_eq (g.P.Named.name_of e) (g.P.Named.name_of part)) earlier) [] l.parts
