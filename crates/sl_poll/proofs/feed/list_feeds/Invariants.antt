use Rattle.std.proofs.Common.{◌≡◌, map}
use Rattle.sl_parts.specs.Parts.{below}
use Rattle.sl_model.specs.Setup.{setup_of}
use Rattle.sl_poll.specs.Ways.{first_feed}
use Rattle.sl_poll.proofs.feed.list_feeds.Given as goal

abbrev pub invariant-loop-actor : goal.invariant-loop-actor
invariant-loop-actor l = l.feeds.items ≡ map (first_feed (setup_of l.input)) (below l.actor)
