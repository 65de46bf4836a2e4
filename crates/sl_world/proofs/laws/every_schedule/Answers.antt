use Rattle.sl_world.proofs.BookLaws.{after_all-run_of, run_of-kept, book-after_all}
use Rattle.sl_world.proofs.ShapeLaws.{same_shape}
use Rattle.sl_world.proofs.laws.every_schedule.Goals as goal

pub returns : goal.returns
returns g c =
    record {
      legal = λ w es. run_of-kept g.A.Machine.rules w es;
      book = λ w es. book-after_all g.A.Machine.rules w es;
      only = λ w v es run. after_all-run_of g.A.Machine.rules w v es run;
      shape = λ w es. same_shape g.A.Machine.rules w es;
    }
