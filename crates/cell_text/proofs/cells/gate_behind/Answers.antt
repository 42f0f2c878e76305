use Rattle.std.proofs.Common.{ℕ, ◌+◌, ◌-◌, length, take, drop, refl}
use Rattle.cell_text.proofs.Parts.{gate_parted, rest_all}
use Rattle.cell_text.proofs.cells.gate_behind.Goals as goal

pub returns-in-Some : goal.returns-in-Some
returns-in-Some c =
    let ports = c.args.ports.now in
    let place = c.in-Some.place in
    gate_parted c.args.name.now ports _ _ _ place c.gate_of.result c.in-len1-up.len_at_least c.in-Some.ensures c.gate_of.ensures (rest_all 1 ports) refl
    (rest_all (place + 1) (take (length ports - 1) (drop 1 ports)))
