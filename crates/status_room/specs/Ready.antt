-- The room that building in registers takes.
-- Own.
use Rattle.std.specs.Prelude.{ℕ, ◌+◌, ◌*◌, ◌^◌, ◌<◌, ◌≤◌, List, length, sum_by}
use Rattle.netlist_arena.specs.Arena.{ArenaView}
use Rattle.plan_fitting.specs.declared.fitted.Fitted.{Fitted}
use Rattle.scan_stitch.specs.written_netlists.Prepared.{room_of}
use Rattle.status_fitting.specs.declared.fitted.FittedRegister.{FittedRegister}

-- Room.

-- own: how many bits the registers have together
abbrev pub bits_of : List FittedRegister → ℕ
bits_of rs = sum_by (λ (r : FittedRegister). length r.nets) rs

-- own: the cells, and the nets, that are reserved for them
abbrev pub status_room : List FittedRegister → ℕ
status_room rs = 64 + 48 * length rs + 4 * bits_of rs

-- own: at most 256 bits
abbrev pub HasFewWires : FittedRegister → Type 0
HasFewWires r = length r.nets ≤ 256

-- own: with those for the test logic
abbrev pub whole_room : Fitted → List FittedRegister → ℕ
whole_room f rs = room_of f + status_room rs

-- own: the room that preparing makes
pub record HasStatusRoom (arena : ArenaView) (f : Fitted) (rs : List FittedRegister) : Type 0 where
  pub nets : whole_room f rs ≤ arena.spare.nets
  pub cells : whole_room f rs ≤ arena.spare.cells
  pub port_bits : 5 ≤ arena.spare.port_bits
  pub fits : length arena.lists.nets + whole_room f rs < 2 ^ 32
