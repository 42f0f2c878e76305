-- What a gate or a flip-flop drives in a well-formed netlist follows no pin.
use Rattle.std.proofs.Common.{◌≡◌, subst, ℕ, suc, true, false, List, [], ◌∷◌, Option, Some, None, refl, sym, ◌∙◌, inl, inr}
use Rattle.cell_library.proofs.list_laws.Tests.{true_or_false}
use Rattle.netlist_model.specs.Lists.{CellView, direction}
use Rattle.netlist_model.specs.Settled.{follows_pin, driver_of}
use Rattle.netlist_model.specs.Drivers.{IsDriverOf, DriverIsFound, DriverDrives, DrivenIsInside}
use Rattle.netlist_model.proofs.Search.{NoneDrives, output_or_not, search_driver, driver_of-driven}
use Rattle.netlist_model.proofs.Pins.{pin_kinds}

pub driver_found : DriverIsFound
driver_found N once i cell net drives = driver_of-driven N i cell net once drives

-- no cell of the places is found where none drives
none_found : (places : List (Option CellView)) (net : ℕ) → NoneDrives places net → driver_of places net ≡ None
none_found [] net none = refl
none_found (None ∷ places) net none = none_found places net (λ i cell at out. none (suc i) cell at out)
none_found (Some c ∷ places) net none =
    elim (output_or_not c.output net) [
      | inl h ↦ absurd (none 0 c refl h.1)
      | inr h ↦ rw h.0 (none_found places net (λ i cell at out. none (suc i) cell at out))
    ]

pub driver_drives : DriverDrives
driver_drives N net =
    elim (search_driver N.cells net) [
      | inl f ↦
          let found : IsDriverOf N net (Some f.cell) = (f.number, record { live = f.live; output = f.output }) in
          let P : Option CellView → Type 0 = IsDriverOf N net in
          subst P (sym f.first) found
      | inr none ↦
          let missing : IsDriverOf N net None = λ i cell at out. none i cell at out in
          let P : Option CellView → Type 0 = IsDriverOf N net in
          subst P (sym (none_found N.cells net none)) missing
    ]

pub driven_is_inside : DrivenIsInside
driven_is_inside N formed i cell net drives two =
    elim (true_or_false (follows_pin (direction N.ports net))) [
      | inr e ↦ e
      | inl e ↦ elim (pin_kinds (direction N.ports net) e) [
        | inl input ↦ absurd (formed.inputs_free i cell net drives input)
        | inr inout ↦ absurd (let h = formed.inout_bufif i cell net drives inout in let clash : true ≡ false = sym h ∙ two in cc)
      ]
    ]
