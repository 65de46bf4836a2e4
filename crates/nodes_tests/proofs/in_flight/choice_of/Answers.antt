use Rattle.nodes_tests.proofs.in_flight.choice_of.Goals as goal

pub returns-in-Some : goal.returns-in-Some
returns-in-Some c = c.passes_are_choices.ensures.spelled c.args.net.now c.in-Some.entry.0 c.in-Some.entry.1 c.in-Some.ensures.found
