-- Where no limit is passed, the ports have few bits.
use Rattle.std.proofs.Common.{◌≡◌, ℕ, ◌+◌, ◌≤◌, Bool, true, false, cond, length, Option, Some, None, refl, ltb-false}
use Rattle.std.specs.Prelude.{nat_lt}
use Rattle.std.specs.Option.{option_or}
use Rattle.netlist_model.specs.declared.What.{What}
use Rattle.netlist_model.specs.declared.What.TheVariants.{Cells, Nets, Ports}
use Rattle.netlist_model.specs.Lists.{NetlistView, cell_count}
use Rattle.netlist_arena.specs.Arena.{bit_count}
use Rattle.netlist_arena.specs.declared.room.ReserveFault.{ReserveFault}
use Rattle.netlist_arena.specs.declared.room.ReserveFault.TheVariants as reserve
use Rattle.netlist_arena.specs.Room.{excess_of, too_many}

within : (what : What) (count limit : ℕ) → excess_of what count limit ≡ None → count ≤ limit
within what count limit none = by (nat_lt limit count) refl none
  where
    by : (b : Bool) → nat_lt limit count ≡ b → cond b (Some (reserve.TooMany what count limit)) None ≡ None → count ≤ limit
    by true e told = absurd (cc)
    by false e told = ltb-false limit count e

second_none : (a b : Option ReserveFault) → option_or a b ≡ None → b ≡ None
second_none None b e = e
second_none (Some f) b e = absurd (cc)

pub few_bits : (N : NetlistView) (cells nets bits : ℕ) → too_many N cells nets bits ≡ None → bit_count N.ports + bits ≤ 4096
few_bits N cells nets bits none =
    within Ports (bit_count N.ports + bits) 4096
    (second_none (option_or (excess_of Cells (cell_count N + cells) 262144) (excess_of Nets (length N.nets + nets) 524288)) (excess_of Ports (bit_count N.ports + bits) 4096) none)
