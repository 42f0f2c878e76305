-- A netlist with its nets and cells numbered anew.
-- IEEE Std 1364-2001: hierarchical structures; the numbers are own.
use Rattle.std.specs.Prelude.{◌≡◌, ℕ, List, [], ◌∷◌, map, Some, ⊤}
use Rattle.cell_library.specs.signal_values.declared.Sig.{Sig}
use Rattle.netlist_model.specs.Lists.{PortView, CellView, NetlistView, cell_at}
use Rattle.netlist_model.specs.Runs.{Moment, PinEvent, IsRun}
use Rattle.netlist_model.specs.Nested.{renamed_net, IsNested}

-- own: a port with the same direction and range, bit by bit by other nets
pub record IsPortImage (to : ℕ → ℕ) (port image : PortView) : Type 0 where
  pub dir : image.dir ≡ port.dir
  pub range : image.range ≡ port.range
  pub nets : image.nets ≡ map (renamed_net to) port.nets

-- own: as many ports, each of which is so
abbrev pub ArePortImages : (ℕ → ℕ) → List PortView → List PortView → Type 0
ArePortImages to [] [] = ⊤
ArePortImages to [] (image ∷ images) = ⊥
ArePortImages to (port ∷ ports) [] = ⊥
ArePortImages to (port ∷ ports) (image ∷ images) = IsPortImage to port image × ArePortImages to ports images

-- own: N stands in M by other numbers, from which its own come back; the numbers of cells that aren't live don't matter
pub record IsCopied (N M : NetlistView) (to at back from : ℕ → ℕ) : Type 0 where
  pub library : M.library ≡ N.library
  pub nets : (net : ℕ) → back (to net) ≡ net
  pub ports : ArePortImages to N.ports M.ports
  pub cells : (i : ℕ) (cell : CellView) → cell_at N i ≡ Some cell → IsNested M to (at i) cell
  pub numbers : (i : ℕ) (cell : CellView) → cell_at N i ≡ Some cell → from (at i) ≡ i

-- own: M is N with its nets and its cells numbered anew, and nothing else
pub record IsRenumbering (N M : NetlistView) (to at : ℕ → ℕ) : Type 0 where
  pub back : ℕ → ℕ
  pub from : ℕ → ℕ
  pub there : IsCopied N M to at back from
  pub here : IsCopied M N back from to at

-- own: the cell with this number in M is one of N
pub record IsCellImage (N : NetlistView) (at : ℕ → ℕ) (number : ℕ) : Type 0 where
  pub old : ℕ
  pub cell : CellView
  pub live : cell_at N old ≡ Some cell
  pub same : at old ≡ number

-- own: the event by the new number of its net
abbrev pub renamed_event : (ℕ → ℕ) → PinEvent → PinEvent
renamed_event to event = record { net = to event.net; value = event.value }

-- own: a moment of M, seen as one of N
abbrev pub seen_moment : (ℕ → ℕ) → (ℕ → ℕ) → Moment → Moment
seen_moment to at m = record { pins = λ net. m.pins (to net); state = λ i. m.state (at i); value = λ net. m.value (to net) }

-- own: two moments hold the same, each net by its new number and each live cell by its own
pub record SameAcross (N : NetlistView) (to at : ℕ → ℕ) (m image : Moment) : Type 0 where
  pub pins : (net : ℕ) → image.pins (to net) ≡ m.pins net
  pub state : (i : ℕ) (cell : CellView) → cell_at N i ≡ Some cell → image.state (at i) ≡ m.state i
  pub value : (net : ℕ) → image.value (to net) ≡ m.value net

-- own: a run of M by the renamed events, which holds the same at each moment
pub record HasImage (N M : NetlistView) (to at : ℕ → ℕ) (given : ℕ → Sig) (events : List PinEvent) (moment : ℕ → Moment) : Type 0 where
  pub start : ℕ → Sig
  pub image : ℕ → Moment
  pub run : IsRun M start (map (renamed_event to) events) image
  pub starts : (i : ℕ) (cell : CellView) → cell_at N i ≡ Some cell → start (at i) ≡ given i
  pub same : (t : ℕ) → SameAcross N to at (moment t) (image t)
