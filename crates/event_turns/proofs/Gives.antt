-- What a cell makes of its net, by what it is.
use Rattle.std.proofs.Common.{◌≡◌, true, false, List, Option, Some, None, refl, sym, ap, ◌∙◌, inl, inr}
use Rattle.signal_values.specs.declared.Sig.{Sig}
use Rattle.signal_values.specs.declared.Sig.TheVariants.{Unknown}
use Rattle.signal_values.specs.declared.PinSig.{PinSig}
use Rattle.signal_values.specs.declared.PinSig.TheVariants.{Unknown as PinUnknown}
use Rattle.signal_values.specs.Values.{see, join}
use Rattle.cell_library.specs.declared.Kind.{Kind}
use Rattle.cell_library.specs.declared.listed.ListedCell.{ListedCell}
use Rattle.cell_library.specs.Gates.{is_flop, is_three_state, gate_output}
use Rattle.netlist_model.specs.declared.Dir.{Dir}
use Rattle.netlist_model.specs.declared.Dir.TheVariants.{Input, Output, Inout}
use Rattle.netlist_model.specs.Settled.{cell_drive}
use Rattle.netlist_model.proofs.KindLaws.{flop_or_gate, flop_no_bufif}
use Rattle.netlist_settling.specs.Passes.{driven_value}
use Rattle.netlist_settling.proofs.Looked.{value_of_flop, value_of_gate}
use Rattle.event_laws.proofs.Readings.{two_state_drive}
use Rattle.event_turns.specs.Values.{seen}

-- a flip-flop is no three-state gate
pub flop_plain : (library : List ListedCell) (kind : Kind) → is_flop library kind ≡ true → is_three_state kind ≡ false
flop_plain library kind is = elim (flop_or_gate library kind) [
  | inl k ↦ flop_no_bufif library kind k.0 k.1
  | inr gate ↦ absurd (let clash : true ≡ false = sym is ∙ gate in cc)
]

plain_inout : (kind : Kind) (inputs : List Sig) (outside : PinSig) → is_three_state kind ≡ false → see (join PinUnknown outside) ≡ see (join (cell_drive kind inputs Unknown) outside)
plain_inout kind inputs outside plain = ap (λ (p : PinSig). see (join p outside)) (sym (two_state_drive kind inputs Unknown plain))

pub flop_seen : (library : List ListedCell) (side : Option Dir) (kind : Kind) (inputs : List Sig) (kept : Sig) (outside : PinSig) → is_flop library kind ≡ true
    → seen side kept PinUnknown outside ≡ driven_value library side kind inputs kept outside
flop_seen library (Some Input) kind inputs kept outside is = refl
flop_seen library (Some Inout) kind inputs kept outside is = plain_inout kind inputs outside (flop_plain library kind is)
flop_seen library (Some Output) kind inputs kept outside is = value_of_flop library kind inputs kept is
flop_seen library None kind inputs kept outside is = value_of_flop library kind inputs kept is

pub gate_seen : (library : List ListedCell) (side : Option Dir) (kind : Kind) (inputs : List Sig) (kept : Sig) (outside : PinSig) → is_flop library kind ≡ false → is_three_state kind ≡ false
    → seen side (gate_output library kind inputs) PinUnknown outside ≡ driven_value library side kind inputs kept outside
gate_seen library (Some Input) kind inputs kept outside gate plain = refl
gate_seen library (Some Inout) kind inputs kept outside gate plain = plain_inout kind inputs outside plain
gate_seen library (Some Output) kind inputs kept outside gate plain = value_of_gate library kind inputs kept gate plain
gate_seen library None kind inputs kept outside gate plain = value_of_gate library kind inputs kept gate plain
