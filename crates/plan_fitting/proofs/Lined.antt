-- A line of a plan that fits, with what stands at its bit.
use Rattle.std.proofs.Common.{◌≡◌, ℕ, zero, suc, Bool, true, false, List, [], ◌∷◌, slice_get, if◌then◌else◌, Option, Some, None, refl, subst, inl}
use Rattle.cell_library.specs.declared.codes.BoundaryKind.{BoundaryKind}
use Rattle.cell_library.specs.declared.codes.BoundaryKind.TheVariants as kind
use Rattle.cell_library.specs.declared.codes.Function.TheVariants as function
use Rattle.netlist_model.specs.declared.Dir.{Dir}
use Rattle.netlist_model.specs.declared.Dir.TheVariants as dir
use Rattle.bsdl_device.specs.IsDevice.{suits}
use Rattle.netlist_unlink.specs.netlist_link.Linked.{LinkedView}
use Rattle.plan_texts.specs.declared.plan.Plan.{Plan}
use Rattle.plan_texts.specs.declared.plan.PinLine.{PinLine}
use Rattle.plan_texts.specs.Grammar.{IsControl}
use Rattle.plan_fitting.specs.declared.fault.FitFault.{FitFault}
use Rattle.plan_fitting.specs.declared.fault.FitFault.TheVariants as fault
use Rattle.plan_fitting.specs.Pins.{PinSeen, IsSeen, AreSeen}
use Rattle.plan_fitting.specs.Rows.{Driver}
use Rattle.plan_fitting.specs.Fits.{suits_port, cell_fault}
use Rattle.plan_fitting.proofs.Rows.{data_function}

-- the line's word names the bit, this stands at it, and the cell is for that port
pub record IsLined (L : LinkedView) (line : PinLine) (one : PinSeen) : Type 0 where
  pub seen : IsSeen L line.port one
  pub fit : suits_port line.cell one.side one.control ≡ true

fits_here : (b : Bool) (rest : Option FitFault) (f : FitFault) → (if b then rest else Some f) ≡ None → (b ≡ true) × (rest ≡ None)
fits_here true rest f h = (refl, h)
fits_here false rest f h = absurd (cc)

cells_fit : (lines : List PinLine) (seen : List PinSeen) → cell_fault lines seen ≡ None → (place : ℕ) (line : PinLine) (one : PinSeen) → slice_get lines place ≡ Some line → slice_get seen place ≡ Some one
    → suits_port line.cell one.side one.control ≡ true
cells_fit [] seen h place line one a b = absurd (cc)
cells_fit (x ∷ lines) [] h place line one a b = absurd (cc)
cells_fit (x ∷ lines) (y ∷ seen) h zero line one a b =
    let t = fits_here (suits_port x.cell y.side y.control) (cell_fault lines seen) (fault.PlanCell x.port) h in
    let p : x ≡ line = cc in
    let q : y ≡ one = cc in
    subst (λ (l : PinLine). suits_port l.cell one.side one.control ≡ true) p (subst (λ (s : PinSeen). suits_port x.cell s.side s.control ≡ true) q t.0)
cells_fit (x ∷ lines) (y ∷ seen) h (suc place) line one a b =
    cells_fit lines seen (fits_here (suits_port x.cell y.side y.control) (cell_fault lines seen) (fault.PlanCell x.port) h).1 place line one a b

pub are_fit : (L : LinkedView) (p : Plan) (seen : List PinSeen) → AreSeen L p.pins seen → cell_fault p.pins seen ≡ None
    → (place : ℕ) (line : PinLine) (one : PinSeen) → slice_get p.pins place ≡ Some line → slice_get seen place ≡ Some one → IsLined L line one
are_fit L p seen are h place line one a b = record { seen = are.each place line one a b; fit = cells_fit p.pins seen h place line one a b }

-- what clocks is a control port
pub clocks_control : (L : LinkedView) (word : List ℕ) (one : PinSeen) → IsSeen L word one → one.clock ≡ true → one.control ≡ true
clocks_control L word one seen h =
    let clock = seen.clock.0 h in
    seen.control.1 (clock.0, record { root = clock.1.root; operand = inl clock.1.operand; cone = clock.1.cone })

-- the kind of a data cell suits what it does
pub suits_data : (cell : BoundaryKind) (side : Dir) (clock control : Bool) (d : Option Driver) → (clock ≡ true → control ≡ true) → suits_port cell side control ≡ true → suits (data_function side clock d) cell ≡ true
suits_data kind.Bc1 dir.Input true true d h k = absurd (cc)
suits_data kind.Bc1 dir.Input true false d h k = absurd (let e = h refl in cc)
suits_data kind.Bc1 dir.Input false control d h k = refl
suits_data kind.Bc2 dir.Input clock control d h k = absurd (cc)
suits_data kind.Bc4 dir.Input true control d h k = refl
suits_data kind.Bc4 dir.Input false control d h k = refl
suits_data kind.Bc7 dir.Input clock control d h k = absurd (cc)
suits_data kind.Bc1 dir.Output clock control None h k = refl
suits_data kind.Bc1 dir.Output clock control (Some d) h k = refl
suits_data kind.Bc2 dir.Output clock control None h k = refl
suits_data kind.Bc2 dir.Output clock control (Some d) h k = refl
suits_data kind.Bc4 dir.Output clock control d h k = absurd (cc)
suits_data kind.Bc7 dir.Output clock control d h k = absurd (cc)
suits_data kind.Bc1 dir.Inout clock control d h k = absurd (cc)
suits_data kind.Bc2 dir.Inout clock control d h k = absurd (cc)
suits_data kind.Bc4 dir.Inout clock control d h k = absurd (cc)
suits_data kind.Bc7 dir.Inout clock control d h k = refl

pub suits_control : (cell : BoundaryKind) → IsControl cell → suits function.Control cell ≡ true
suits_control kind.Bc1 h = refl
suits_control kind.Bc2 h = refl
suits_control kind.Bc4 h = absurd h
suits_control kind.Bc7 h = absurd h
