use Rattle.std.proofs.Common.{◌∙◌}
use Rattle.sl_model.specs.Books.{schedule_of}
use Rattle.sl_proto.proofs.Reached.{stands-first}
use Rattle.sl_proto.proofs.finishing.tell.Goals as goal

pub returns : goal.returns
returns g c net x h =
    let v = g.T.Taker.scene c.args.taker.now in
    let o = c.observer-observer.result.now.state in
    let is = stands-first net x v o (c.nets_are_wired.ensures x.setup.net h.runnable.net).observer h c.observer-observer.ensures in
    record {
      floor = c.floor.ensures ∙ c.observers_tell.ensures.floor x.setup x.lost x.table (schedule_of v.book) o is;
      issued = c.issued.ensures ∙ c.observers_tell.ensures.issued x.setup x.lost x.table (schedule_of v.book) o is;
    }
