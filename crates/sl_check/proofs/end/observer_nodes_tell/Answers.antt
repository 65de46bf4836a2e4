use Rattle.sl_model.specs.Losses.{losses}
use Rattle.sl_model.specs.Books.{schedule_of}
use Rattle.sl_proto.specs.Standing.{case_of}
use Rattle.sl_check.proofs.end.observer_nodes_tell.Goals as goal

pub returns : goal.returns
returns c i v o stands first =
    let x = case_of i (losses i) in
    let is = c.nodes_tell_findings.ensures.observed i (losses i) v o stands first in
    record {
      floor = c.observers_tell.ensures.floor x.setup x.lost x.table (schedule_of v.book) o is;
      issued = c.observers_tell.ensures.issued x.setup x.lost x.table (schedule_of v.book) o is;
      resent = c.observers_tell.ensures.resent x.setup x.lost x.table (schedule_of v.book) o is;
    }
