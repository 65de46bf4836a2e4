use Rattle.sl_simulation.proofs.UnitSteps.{steps-anywhere}
use Rattle.sl_simulation.proofs.units.units_step_from_any_state.Goals as goal

pub returns : goal.returns
returns c net table u k l a i h m x state us vs was told n wide holds carried q can y stands now =
    steps-anywhere (record {
      below = c.last_seen_numbers_are_below.ensures;
      few_packets = c.counts_fit.ensures.packets;
      few_bytes = c.counts_fit.ensures.bytes;
      distances = c.distances_are_differences.ensures;
      frames = c.one_frame.ensures.read;
      links = record { sorts = c.ways_are_links.ensures.sorts; toward = c.ways_are_links.ensures.toward; entrances = c.ways_are_links.ensures.entrances };
    }) net table u k l a i h m x state us vs was told (c.nets_are_wired.ensures net n) wide holds carried q can y stands now
