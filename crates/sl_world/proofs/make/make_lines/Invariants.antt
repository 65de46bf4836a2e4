use Rattle.std.proofs.Common.{◌≡◌, map}
use Rattle.sl_world.specs.Scene.{new_line}
use Rattle.sl_world.specs.Mesh.{lines_of}
use Rattle.sl_world.proofs.make.make_lines.Given as goal

abbrev pub invariant-loop-loss : goal.invariant-loop-loss
invariant-loop-loss g l = lines_of l.lines.items ≡ map new_line l.yielded
