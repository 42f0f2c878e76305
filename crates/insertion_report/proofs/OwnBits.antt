-- Where nothing is hidden the bits of all ports are counted.
use Rattle.std.proofs.Common.{◌≡◌, ℕ, ◌-◌, [], drop, take, ap, ◌∙◌, arith}
use Rattle.netlist_arena.specs.Arena.{bit_count}
use Rattle.netlist_link.specs.Linked.{LinkedView, hidden_ports}
use Rattle.insertion_report.specs.Reports.{own_bits}

pub all_bits : (L : LinkedView) → L.straight.count ≡ 0 → own_bits L ≡ bit_count L.arena.lists.ports
all_bits L none =
    let ports : hidden_ports L ≡ [] = ap (λ (n : ℕ). take n (drop L.straight.first L.arena.lists.ports)) none in
    let bits : bit_count (hidden_ports L) ≡ 0 = ap bit_count ports in
    omega (arith, bits)
