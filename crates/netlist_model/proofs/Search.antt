-- Finding the driver of a net.
use Rattle.std.proofs.Common.{◌≡◌, ◌≢◌, ℕ, zero, suc, ◌⊎◌, true, false, List, [], ◌∷◌, Option, refl, ap, sym, ◌∙◌, inl, inr}
use Rattle.std.specs.Prelude.{Some, None, slice_get}
use Rattle.std.proofs.lemmas.Bool.Decides.{eqb_tells}
use Rattle.netlist_model.specs.declared.NetId.{NetId}
use Rattle.netlist_model.specs.Lists.{CellView, NetlistView, cell_at, live_cell, Drives}
use Rattle.netlist_model.specs.Settled.{is_output, driver_of}
use Rattle.netlist_model.specs.Settle.{IsDrivenOnce}

pub output_or_not : (output : Option NetId) (net : ℕ)
    → ((is_output output net ≡ true) × (output ≡ Some (record { 0 = net }))) ⊎ ((is_output output net ≡ false) × (output ≢ Some (record { 0 = net })))
output_or_not None net = inr (refl, λ e. cc)
output_or_not (Some other) net =
    let wrap : ℕ → Option NetId = λ k. Some (record { 0 = k }) in
    let number : NetId → ℕ = λ n. n.0 in
    elim (eqb_tells other.0 net) [
      | inl h ↦ inl (h.0, ap wrap h.1)
      | inr h ↦ inr (h.0, λ e. h.1 (let same : other ≡ record { 0 = net } = cc in ap number same))
    ]

-- the first cell of the list that drives the net
pub record Found (places : List (Option CellView)) (net : ℕ) : Type 0 where
  pub number : ℕ
  pub cell : CellView
  pub live : live_cell (slice_get places number) ≡ Some cell
  pub output : cell.output ≡ Some (record { 0 = net })
  pub first : driver_of places net ≡ Some cell

-- no cell of the list drives the net
abbrev pub NoneDrives : List (Option CellView) → ℕ → Type 0
NoneDrives places net = (i : ℕ) (cell : CellView) → live_cell (slice_get places i) ≡ Some cell → cell.output ≢ Some (record { 0 = net })

none_empty : (places : List (Option CellView)) (net : ℕ) → NoneDrives places net → NoneDrives (None ∷ places) net
none_empty places net none zero cell at out = absurd (let e : None ≡ Some cell = at in cc)
none_empty places net none (suc i) cell at out = none i cell at out

none_more : (c : CellView) (places : List (Option CellView)) (net : ℕ) → c.output ≢ Some (record { 0 = net }) → NoneDrives places net → NoneDrives (Some c ∷ places) net
none_more c places net other none zero cell at out = other (let e : c ≡ cell = cc in ap (λ (x : CellView). x.output) e ∙ out)
none_more c places net other none (suc i) cell at out = none i cell at out

-- a cell drives the net, or none does
pub search_driver : (places : List (Option CellView)) (net : ℕ) → Found places net ⊎ NoneDrives places net
search_driver [] net = inr (λ i cell at out. absurd (let e : None ≡ Some cell = at in cc))
search_driver (None ∷ places) net =
    elim (search_driver places net) [
      | inl f ↦ inl (record { number = suc f.number; cell = f.cell; live = f.live; output = f.output; first = f.first })
      | inr none ↦ inr (none_empty places net none)
    ]
search_driver (Some c ∷ places) net =
    elim (output_or_not c.output net) [
      | inl h ↦ inl (record { number = 0; cell = c; live = refl; output = h.1; first = rw h.0 refl })
      | inr h ↦ elim (search_driver places net) [
        | inl f ↦ inl (record { number = suc f.number; cell = f.cell; live = f.live; output = f.output; first = rw h.0 f.first })
        | inr none ↦ inr (none_more c places net h.1 none)
      ]
    ]

-- two live cells with one number are one
pub cell_at_once : (N : NetlistView) (i j : ℕ) (cell other : CellView) → i ≡ j → cell_at N i ≡ Some cell → cell_at N j ≡ Some other → cell ≡ other
cell_at_once N i j cell other e at at' =
    let same : Some cell ≡ Some other = sym at ∙ ap (λ k. cell_at N k) e ∙ at' in cc

-- the one driver of a net is the first that is found
pub driver_of-driven : (N : NetlistView) (i : ℕ) (cell : CellView) (net : ℕ) → IsDrivenOnce N → Drives N i cell net → driver_of N.cells net ≡ Some cell
driver_of-driven N i cell net once drives =
    elim (search_driver N.cells net) [
      | inl f ↦ (let found : Drives N f.number f.cell net = record { live = f.live; output = f.output } in
          let one = cell_at_once N f.number i f.cell cell (once f.number i f.cell cell net found drives) f.live drives.live in
          f.first ∙ ap (λ (c : CellView). Some c) one)
      | inr none ↦ absurd (none i cell drives.live drives.output)
    ]
