-- Fewer cells and nets pass no limit.
use Rattle.std.proofs.Common.{◌≡◌, ℕ, ◌+◌, ◌≤◌, Bool, true, false, length, Option, Some, None, refl, ◌∙◌, ap, arith, ltb-true, cond, nat_lt}
use Rattle.std.specs.Option.{option_or}
use Rattle.netlist_model.specs.declared.What.{What}
use Rattle.netlist_model.specs.declared.What.TheVariants.{Cells, Nets, Ports}
use Rattle.netlist_model.specs.Lists.{NetlistView, cell_count}
use Rattle.netlist_arena.specs.Arena.{bit_count}
use Rattle.netlist_arena.specs.Room.{excess_of, too_many}
use Rattle.netlist_arena.specs.declared.room.ReserveFault.{ReserveFault}
use Rattle.netlist_arena.specs.declared.room.ReserveFault.TheVariants.{TooMany}
use Rattle.netlist_link.proofs.Rewrites.{few_cells, few_nets}

excess_none : (what : What) (count limit : ℕ) → count ≤ limit → excess_of what count limit ≡ None
excess_none what count limit low = by (nat_lt limit count) refl
  where
    by : (b : Bool) → nat_lt limit count ≡ b → excess_of what count limit ≡ None
    by true is = absurd (let less = ltb-true limit count is in omega (arith, less, low))
    by false is = ap (λ (x : Bool). cond x (Some (TooMany what count limit)) None) is

none_both : (a b : Option ReserveFault) → option_or a b ≡ None → (a ≡ None) × (b ≡ None)
none_both None b e = (refl, e)
none_both (Some f) b e = absurd (let no : ◌≡◌ {A = Option ReserveFault} (Some f) None = e in cc)

none_or : (a b : Option ReserveFault) → a ≡ None → b ≡ None → option_or a b ≡ None
none_or a b e f = ap (λ (x : Option ReserveFault). option_or x b) e ∙ f

pub too_many_less : (N : NetlistView) (less more port_bits : ℕ) → less ≤ more → too_many N more more port_bits ≡ None → too_many N less less port_bits ≡ None
too_many_less N less more port_bits low none =
    let cells = few_cells N more more port_bits none in
    let nets = few_nets N more more port_bits none in
    let front : Option ReserveFault = option_or (excess_of Cells (cell_count N + more) 262144) (excess_of Nets (length N.nets + more) 524288) in
    let ports = (none_both front (excess_of Ports (bit_count N.ports + port_bits) 4096) none).1 in
    none_or (option_or (excess_of Cells (cell_count N + less) 262144) (excess_of Nets (length N.nets + less) 524288)) (excess_of Ports (bit_count N.ports + port_bits) 4096)
    (none_or (excess_of Cells (cell_count N + less) 262144) (excess_of Nets (length N.nets + less) 524288) (excess_none Cells (cell_count N + less) 262144 (omega (arith, cells, low)))
    (excess_none Nets (length N.nets + less) 524288 (omega (arith, nets, low))))
    ports
