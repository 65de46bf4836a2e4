-- Trusted text, but for count_of, count_by, counted_from, all_counted.
-- What a schedule does with data packets, by the numbers of its entries from 1.
--     pairs s lost es      the data packets taken on data channels, in the order of the taking entries, each with the entries that put and took it
--     counted s lost es    the steps of units that count a data packet, each with its entry and the bytes
use Rattle.std.specs.Prelude.{ℕ, suc, List, [], ◌∷◌, ◌++◌, cond, Option, Some, None, slice_index, slice_get, option_and_then}
use Rattle.sl_layout.specs.Net.{Net, is_unit, actor_of, link_of, links_into, unit_place}
use Rattle.sl_net.specs.declared.input.Packet.{Packet}
use Rattle.sl_model.specs.declared.message.Message.{Message}
use Rattle.sl_model.specs.declared.message.Step.{Step}
use Rattle.sl_model.specs.Matching.{is_data}
use Rattle.sl_model.specs.History.{World, Losses, history, taken}
use Rattle.sl_model.specs.Counting.{counted_in, counted}
use Rattle.sl_model.specs.Putting.{Putters, no_putters, putters_after}
use Rattle.sl_model.specs.Setup.{Setup}
use Rattle.sl_model.specs.World.{Entry, start, next_step, turn}
use Rattle.sl_poll.specs.declared.trail.Pair.{Pair}
use Rattle.sl_poll.specs.declared.trail.Counted.{Counted}

-- the data packet of a message that may be there
abbrev pub packet_in : Option Message → Option Packet
packet_in m = option_and_then counted_in m

-- what the entry n took from the link l, whose messages so far were put by these entries
abbrev pub pair_from : Net → ℕ → List ℕ → ℕ → ℕ → Option Packet → List Pair
pair_from net n putters l place (Some p) = cond (is_data (link_of net l).sort) (record { link = l; put = slice_index putters place; take = n } ∷ []) []
pair_from net n putters l place None = []

abbrev pub pair_by : Net → World → ℕ → Putters → Entry → Option ℕ → Option Step → List Pair
pair_by net w n putters e (Some l) (Some step) = pair_from net n (putters l) l (taken e.1 (history w e.0)) (packet_in step.taken)
pair_by net w n putters e _ _ = []

abbrev pub pairs_from : Setup → Losses → World → ℕ → Putters → List Entry → List Pair
pairs_from s lost w n putters [] = []
pairs_from s lost w n putters (e ∷ es) = pair_by s.net w n putters e (slice_get (links_into s.net e.0) e.1) (next_step s lost w e)
    ++ pairs_from s lost (turn s lost w e) (suc n) (putters_after s.net lost w (turn s lost w e) n putters) es

abbrev pub pairs : Setup → Losses → List Entry → List Pair
pairs s lost es = pairs_from s lost (start s.net) 1 no_putters es

-- Counting.

abbrev pub count_of : ℕ → ℕ → Option Packet → List Counted
count_of place n (Some p) = record { unit = place; entry = n; bytes = p.len } ∷ []
count_of place n None = []

abbrev pub count_by : Net → ℕ → ℕ → Option Step → List Counted
count_by net n a (Some step) = cond (is_unit (actor_of net a)) (count_of (unit_place net a) n (counted step)) []
count_by net n a None = []

abbrev pub counted_from : Setup → Losses → World → ℕ → List Entry → List Counted
counted_from s lost w n [] = []
counted_from s lost w n (e ∷ es) = count_by s.net n e.0 (next_step s lost w e) ++ counted_from s lost (turn s lost w e) (suc n) es

abbrev pub all_counted : Setup → Losses → List Entry → List Counted
all_counted s lost es = counted_from s lost (start s.net) 1 es
