use Rattle.std.specs.Prelude.{slice_index}
use Rattle.sl_layout.specs.Net.{units}
use Rattle.machine_tests.proofs.Links.{ingress_links, egress_links}
use Rattle.machine_tests.proofs.tests.unit.unit_of.Goals as goal

pub returns-in_ok-routes-in-Ingress : goal.returns-in_ok-routes-in-Ingress
returns-in_ok-routes-in-Ingress c = ingress_links c.ingress.result c.args.net.now (slice_index (units c.args.net.now) c.args.place) c.snapshot.result c.ingress.ensures.state

pub returns-in-Egress : goal.returns-in-Egress
returns-in-Egress c = egress_links c.egress.result c.args.net.now (slice_index (units c.args.net.now) c.args.place) c.snapshot-in-Egress.result c.egress.ensures.state
