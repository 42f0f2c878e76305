-- So they add no control port, and drive nets of their own.
use Rattle.std.proofs.Common.{ℕ, inl, inr, refl, sym, subst}
use Rattle.list_laws.proofs.Lists.{all_at}
use Rattle.netlist_model.specs.declared.NetId.{NetId}
use Rattle.netlist_model.specs.Lists.{CellView, NetlistView}
use Rattle.test_logic.specs.declared.TapInput.TheVariants.{Tck, Trst}
use Rattle.wrapped_chip.specs.Realises.{IsTapNet, tap_place}
use Rattle.status_build.specs.ControlPortsLaws.{IsTapClocked}
use Rattle.status_build.specs.CellsLaws.{added_cells, RegistersAreClocked, RegistersDriveBehind}
use Rattle.status_build.proofs.Added.{IsAdded, all_added}

tap_clocked : (M N : NetlistView) (from : ℕ) (tck trst : NetId) (cell : CellView) → IsTapNet M N (tap_place Tck) tck.0 → IsTapNet M N (tap_place Trst) trst.0 → IsAdded from tck trst cell
    → IsTapClocked M N cell
tap_clocked M N from tck trst cell clock clear is = record {
  controls = λ kind place net flop which at. elim (is.controls M.library kind place net flop which at) [
    | inl e ↦ record { input = Tck; which = inl refl; tap = subst (IsTapNet M N (tap_place Tck)) (sym e) clock }
    | inr e ↦ record { input = Trst; which = inr refl; tap = subst (IsTapNet M N (tap_place Trst)) (sym e) clear }
  ];
}

pub clocked : RegistersAreClocked
clocked M N first number shared bypass bits registers clock clear place cell at =
    tap_clocked M N first shared.tap.tck shared.tap.trst cell clock clear
    (all_at (IsAdded first shared.tap.tck shared.tap.trst) (added_cells first number shared bypass bits registers) place cell (all_added first number shared bypass bits registers) at)

pub behind : RegistersDriveBehind
behind first number shared bypass bits registers place net cell at out =
    (all_at (IsAdded first shared.tap.tck shared.tap.trst) (added_cells first number shared bypass bits registers) place cell (all_added first number shared bypass bits registers) at).behind net out
