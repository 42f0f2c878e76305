-- What the instruction in effect selects, by the gates.
use Rattle.std.proofs.Common.{◌≡◌, ℕ, ◌+◌, Bool, refl, sym, ap, ◌∙◌, arith}
use Rattle.std.specs.Prelude.{◌&&◌, ◌||◌}
use Rattle.signal_values.specs.declared.Sig.{Sig}
use Rattle.signal_values.specs.Values.{bit, sig_and, sig_or, sig_not}
use Rattle.signal_values.proofs.Laws.{or-bit, and-bit, not-bit}
use Rattle.cell_library.specs.declared.codes.Instr.{Instr}
use Rattle.cell_library.specs.declared.codes.Instr.TheVariants.{Extest, Sample, Preload, Idcode, Highz, Clamp, Usercode}
use Rattle.netlist_model.specs.Settled.{feed_value}
use Rattle.gate_parts.specs.PartLaws.{ContainedPartMeets}
use Rattle.bsdl_device.specs.declared.entries.Register.TheVariants as register
use Rattle.bsdl_device.specs.Instructions.{is_register, selected_register}
use Rattle.test_logic.specs.declared.TapState.TheVariants.{CaptureDr, ShiftDr, UpdateDr}
use Rattle.test_logic.specs.Instructions.{opcode_of, is_opcode, instruction_of}
use Rattle.register_gates.specs.tap_gates.Controller.{same_state}
use Rattle.instruction_gates.specs.declared.selections.TheConstants.{SELECTIONS}
use Rattle.instruction_gates.specs.Selections.{selections_given, SelectionsTell}
use Rattle.instruction_gates.proofs.Decoded.{instruction_is}

or_of : (x y : Sig) (a b : Bool) → x ≡ bit a → y ≡ bit b → sig_or x y ≡ bit (a || b)
or_of x y a b e f = ap (λ (z : Sig). sig_or z y) e ∙ ap (λ (z : Sig). sig_or (bit a) z) f ∙ or-bit a b

and_of : (x y : Sig) (a b : Bool) → x ≡ bit a → y ≡ bit b → sig_and x y ≡ bit (a && b)
and_of x y a b e f = ap (λ (z : Sig). sig_and z y) e ∙ ap (λ (z : Sig). sig_and (bit a) z) f ∙ and-bit a b

three_of : (x y z : Sig) (a b c : Bool) → x ≡ bit a → y ≡ bit b → z ≡ bit c → sig_or (sig_or x y) z ≡ bit ((a || b) || c)
three_of x y z a b c e f g = or_of (sig_or x y) z (a || b) c (or_of x y a b e f) g

pub told : ContainedPartMeets → SelectionsTell
told meets = λ first number tap matched last N m w opcodes latched formed has settled tells apart shows.
    let named : Instr → Bool = λ x. is_opcode latched (opcode_of opcodes x) in
    let i : Instr = instruction_of opcodes latched in
    let d = instruction_is opcodes latched apart in
    let eqs = meets N SELECTIONS (selections_given tap matched) first number formed has _ m.state m.value settled in
    let v : ℕ → Sig = m.value in
    let fe : Sig = feed_value v matched.extest in
    let fs : Sig = feed_value v matched.sample in
    let fp : Sig = feed_value v matched.preload in
    let fi : Sig = feed_value v matched.idcode in
    let fh : Sig = feed_value v matched.highz in
    let fc : Sig = feed_value v matched.clamp in
    let fu : Sig = feed_value v matched.usercode in
    let e0 : v (first + 0) ≡ sig_or (sig_or fe fs) fp = (eqs 0 _ refl refl).1 in
    let e1 : v (first + 1) ≡ sig_not (sig_or (v (first + 0)) (v (first + 2))) = (eqs 1 _ refl refl).1 in
    let e2 : v (first + 2) ≡ sig_or fi fu = (eqs 2 _ refl refl).1 in
    let e3 : v (first + 3) ≡ fe = (eqs 3 _ refl refl).1 in
    let e4 : v (first + 4) ≡ sig_or (sig_or fe fc) fh = (eqs 4 _ refl refl).1 in
    let e5 : v (first + 5) ≡ fh = (eqs 5 _ refl refl).1 in
    let e6 : v (first + 6) ≡ sig_and (v (first + 0)) (v tap.capture_dr.0) = (eqs 6 _ refl refl).1 in
    let e7 : v (first + 7) ≡ sig_and (v (first + 0)) (v tap.shift_dr.0) = (eqs 7 _ refl refl).1 in
    let e8 : v (first + 8) ≡ sig_and (v (first + 0)) (v tap.update_dr.0) = (eqs 8 _ refl refl).1 in
    let e9 : v (first + 9) ≡ fu = (eqs 9 _ refl refl).1 in
    let z : first + 0 ≡ first = omega arith in
    let boundary0 : v (first + 0) ≡ bit ((named Extest || named Sample) || named Preload)
    = e0 ∙ three_of fe fs fp (named Extest) (named Sample) (named Preload) tells.extest tells.sample tells.preload in
    let boundary : v (first + 0) ≡ bit (is_register register.Boundary (selected_register i)) = boundary0 ∙ ap bit d.boundary in
    let ident : v (first + 2) ≡ bit (named Idcode || named Usercode) = e2 ∙ or_of fi fu (named Idcode) (named Usercode) tells.idcode tells.usercode in
    let outputs : v (first + 4) ≡ bit ((named Extest || named Clamp) || named Highz)
    = e4 ∙ three_of fe fc fh (named Extest) (named Clamp) (named Highz) tells.extest tells.clamp tells.highz in
    let on : Bool = is_register register.Boundary (selected_register i) in
    record {
      bypass_on = e1 ∙ ap sig_not (or_of (v (first + 0)) (v (first + 2)) ((named Extest || named Sample) || named Preload) (named Idcode || named Usercode) boundary0 ident)
          ∙ not-bit (((named Extest || named Sample) || named Preload) || (named Idcode || named Usercode)) ∙ ap bit d.bypass;
      ident_on = ident ∙ ap bit d.ident;
      user_on = e9 ∙ tells.usercode ∙ ap bit d.user;
      boundary_on = ap v (sym z) ∙ boundary;
      capture = e6 ∙ and_of (v (first + 0)) (v tap.capture_dr.0) on (same_state CaptureDr w) boundary shows.capture_dr;
      shift = e7 ∙ and_of (v (first + 0)) (v tap.shift_dr.0) on (same_state ShiftDr w) boundary shows.shift_dr;
      update = e8 ∙ and_of (v (first + 0)) (v tap.update_dr.0) on (same_state UpdateDr w) boundary shows.update_dr;
      extest = e3 ∙ tells.extest ∙ ap bit d.extest;
      m_out = outputs ∙ ap bit d.m_out;
      m_in = outputs ∙ ap bit d.m_in;
      hiz = e5 ∙ tells.highz ∙ ap bit d.hiz;
    }
