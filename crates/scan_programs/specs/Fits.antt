-- own: the control cells that rows name are there.
use Rattle.std.specs.Prelude.{ℕ, ◌<◌, List, length, IfSome}
use Rattle.std.specs.List.{AllByRecursion}
use Rattle.bsdl_device.specs.declared.values.Disable.{Disable}
use Rattle.bsdl_device.specs.declared.values.CellRow.{CellRow}

abbrev pub IsInRange : ℕ → CellRow → Type 0
IsInRange count row = IfSome row.disable (λ (d : Disable). d.control < count)

abbrev pub AreInRange : List CellRow → Type 0
AreInRange rows = AllByRecursion (IsInRange (length rows)) rows
