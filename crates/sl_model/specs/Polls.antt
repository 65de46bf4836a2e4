-- Polls and the dumps that answer them, at a control plane with the history h.
use Rattle.std.specs.Prelude.{suc, ◌≤◌, length}
use Rattle.sl_layout.specs.Serving.{ServedUnit}
use Rattle.sl_model.specs.History.{History, taken, put}

-- no more dumps came from the unit than polls went to it, and at most one poll more went
pub record IsAsked (v : ServedUnit) (h : History) : Type 0 where
  pub answered : taken v.dump h ≤ length (put v.poll h)
  pub one : length (put v.poll h) ≤ suc (taken v.dump h)
