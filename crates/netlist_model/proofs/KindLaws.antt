-- What a kind gives, by whether it is that of a flip-flop.
use Rattle.std.proofs.Common.{◌≡◌, ℕ, ◌⊎◌, true, false, List, refl, inl, inr, IsTrue, is_some}
use Rattle.std.specs.Prelude.{Option, Some, None}
use Rattle.cell_library.specs.signal_values.declared.Sig.{Sig}
use Rattle.cell_library.specs.declared.Kind.{Kind}
use Rattle.cell_library.specs.declared.Kind.TheVariants.{Bufif0, Bufif1, Flop, Listed}
use Rattle.cell_library.specs.declared.FlopKind.{FlopKind}
use Rattle.cell_library.specs.declared.listed.Body.{Body}
use Rattle.cell_library.specs.declared.listed.Body.TheVariants as body
use Rattle.cell_library.specs.declared.listed.ListedCell.{ListedCell}
use Rattle.cell_library.specs.Listed.{listed, body_flop, body_output}
use Rattle.cell_library.specs.Gates.{flop_of, is_flop, is_three_state, is_two_state, gate_output}
use Rattle.netlist_model.specs.Settled.{body_value, cell_value}

some_or_none : (o : Option FlopKind) → ((k : FlopKind) × (o ≡ Some k)) ⊎ (is_some o ≡ false)
some_or_none None = inr refl
some_or_none (Some k) = inl (k, refl)

-- a cell is a flip-flop or a gate
pub flop_or_gate : (library : List ListedCell) (kind : Kind) → ((k : FlopKind) × (flop_of library kind ≡ Some k)) ⊎ (is_flop library kind ≡ false)
flop_or_gate library kind = some_or_none (flop_of library kind)

-- a three-state gate is a gate
pub three_state_gate : (library : List ListedCell) (kind : Kind) → is_three_state kind ≡ true → is_flop library kind ≡ false
three_state_gate library Bufif0 h = refl
three_state_gate library Bufif1 h = refl
three_state_gate library kind h = absurd (let e : false ≡ true = h in cc)

body_value-flop : (b : Body) (k : FlopKind) (xs : List Sig) (s : Sig) → body_flop b ≡ Some k → body_value b xs s ≡ s
body_value-flop (body.Gate steps) k xs s e = absurd (cc)
body_value-flop (body.Flop kind) k xs s e = refl

-- a flip-flop gives what it keeps
pub cell_value-flop : (library : List ListedCell) (kind : Kind) (k : FlopKind) (xs : List Sig) (s : Sig) → flop_of library kind ≡ Some k → cell_value library kind xs s ≡ s
cell_value-flop library (Flop kind) k xs s e = refl
cell_value-flop library (Listed number) k xs s e = body_value-flop (listed library number).body k xs s e
cell_value-flop library kind k xs s e = absurd (let h : None ≡ Some k = e in cc)

body_value-gate : (b : Body) (xs : List Sig) (s s' : Sig) → is_some (body_flop b) ≡ false → body_value b xs s ≡ body_value b xs s'
body_value-gate (body.Gate steps) xs s s' gate = refl
body_value-gate (body.Flop kind) xs s s' gate = absurd (let e : true ≡ false = gate in cc)

-- a gate gives the same where its operands have the same values, whatever is kept
pub cell_value-gate : (library : List ListedCell) (kind : Kind) (xs : List Sig) (s s' : Sig) → is_flop library kind ≡ false → cell_value library kind xs s ≡ cell_value library kind xs s'
cell_value-gate library (Flop k) xs s s' gate = absurd (let e : true ≡ false = gate in cc)
cell_value-gate library (Listed number) xs s s' gate = body_value-gate (listed library number).body xs s s' gate
cell_value-gate library kind xs s s' gate = refl

-- a gate that is no three-state gate always drives
pub two_state : (library : List ListedCell) (kind : Kind) → is_flop library kind ≡ false → is_three_state kind ≡ false → IsTrue (is_two_state library kind)
two_state library (Flop k) gate two = absurd (let e : true ≡ false = gate in cc)
two_state library (Listed number) gate two = rw gate refl
two_state library Bufif0 gate two = absurd (let e : true ≡ false = two in cc)
two_state library Bufif1 gate two = absurd (let e : true ≡ false = two in cc)
two_state library kind gate two = refl

body_value-output : (b : Body) (xs : List Sig) (s : Sig) → is_some (body_flop b) ≡ false → body_value b xs s ≡ body_output b xs
body_value-output (body.Gate steps) xs s gate = refl
body_value-output (body.Flop kind) xs s gate = absurd (let e : true ≡ false = gate in cc)

pub cell_value-two_state : (library : List ListedCell) (kind : Kind) (xs : List Sig) (s : Sig) → is_flop library kind ≡ false → is_three_state kind ≡ false
    → cell_value library kind xs s ≡ gate_output library kind xs
cell_value-two_state library (Flop k) xs s gate two = absurd (let e : true ≡ false = gate in cc)
cell_value-two_state library (Listed number) xs s gate two = body_value-output (listed library number).body xs s gate
cell_value-two_state library Bufif0 xs s gate two = absurd (let e : true ≡ false = two in cc)
cell_value-two_state library Bufif1 xs s gate two = absurd (let e : true ≡ false = two in cc)
cell_value-two_state library kind xs s gate two = refl

-- a flip-flop is no three-state gate
pub flop_no_bufif : (library : List ListedCell) (kind : Kind) (k : FlopKind) → flop_of library kind ≡ Some k → is_three_state kind ≡ false
flop_no_bufif library Bufif0 k e = absurd (let h : None ≡ Some k = e in cc)
flop_no_bufif library Bufif1 k e = absurd (let h : None ≡ Some k = e in cc)
flop_no_bufif library kind k e = refl
