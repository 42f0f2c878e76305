-- There is a run of the chip by a program.
use Rattle.std.proofs.Common.{◌≡◌, ℕ, List, [], ◌∷◌, Option, Some, None, refl, sym, ap, ◌∙◌, subst, inl}
use Rattle.std.specs.Prelude.{All}
use Rattle.std.proofs.lemmas.List.Elements.{All-nil, All-cons}
use Rattle.signal_values.specs.declared.PinSig.{PinSig}
use Rattle.signal_values.specs.declared.PinSig.TheVariants as pin
use Rattle.netlist_model.specs.declared.Dir.{Dir}
use Rattle.netlist_model.specs.declared.Dir.TheVariants.{Input, Inout}
use Rattle.netlist_model.specs.Lists.{NetlistView, direction}
use Rattle.netlist_model.specs.Runs.{IsKnownPin}
use Rattle.bsdl_device.specs.declared.values.Device.{Device}
use Rattle.wrapped_chip.specs.Cells.{Numbered, row_of}
use Rattle.wrapped_chip.specs.ChipRuns.{ChipEvent, at_tap, IsChipLegal}
use Rattle.wrapped_chip.specs.Laws.{ChipRunExists}
use Rattle.scan_vectors.specs.declared.lines.Line.{Line}
use Rattle.scan_vectors.specs.declared.lines.Line.TheVariants.{Start, Set, Expect}
use Rattle.scan_programs.specs.Program.{program_of}
use Rattle.scan_programs.specs.Met.{first_levels}
use Rattle.program_runs.specs.Played.{AreSets}
use Rattle.program_runs.specs.Lines.{NamePins}
use Rattle.program_runs.specs.Laws.{ProgramNamesPins, KnowsControls, ProgramRunExists}

-- The events of lines.

record HasEvents (B : Device) (N : NetlistView) (lines : List Line) : Type 0 where
  events : List ChipEvent
  sets : AreSets B lines events
  legal : All (IsChipLegal N) events

events_of : (B : Device) (N : NetlistView) (lines : List Line) → NamePins B lines → HasEvents B N lines
events_of B N [] are = record { events = []; sets = tt; legal = All-nil (IsChipLegal N) }
events_of B N (Start word value ∷ lines) are = let more = events_of B N lines are.1 in record { events = more.events; sets = more.sets; legal = more.legal }
events_of B N (Expect word value ∷ lines) are = let more = events_of B N lines are in record { events = more.events; sets = more.sets; legal = more.legal }
events_of B N (Set word value ∷ lines) are =
    let more = events_of B N lines are.1 in
    record {
      events = at_tap are.0.input are.0.level ∷ more.events;
      sets = (are.0.set, more.sets);
      legal = All-cons (IsChipLegal N) (at_tap are.0.input are.0.level) more.events tt more.legal;
    }

-- The run.

-- inouts are left alone, inputs without a cell have what is outside them, and all else is at 0
abbrev left_by : Option Numbered → PinSig → PinSig
left_by None outside = outside
left_by (Some r) outside = pin.Zero

abbrev left_at : Option Dir → PinSig → PinSig
left_at (Some Inout) low = pin.HighZ
left_at _ low = low

abbrev pub pins_of : Device → NetlistView → (ℕ → PinSig) → ℕ → PinSig
pins_of B N outside net = left_at (direction N.ports net) (left_by (row_of B N net) (outside net))

pub at_row : (B : Device) (N : NetlistView) (outside : ℕ → PinSig) (net : ℕ) (r : Numbered) → direction N.ports net ≡ Some Input → row_of B N net ≡ Some r → pins_of B N outside net ≡ pin.Zero
at_row B N outside net r side row =
    ap (λ (d : Option Dir). left_at d (left_by (row_of B N net) (outside net))) side ∙ ap (λ (o : Option Numbered). left_by o (outside net)) row

pub at_none : (B : Device) (N : NetlistView) (outside : ℕ → PinSig) (net : ℕ) → direction N.ports net ≡ Some Input → row_of B N net ≡ None → pins_of B N outside net ≡ outside net
at_none B N outside net side none =
    ap (λ (d : Option Dir). left_at d (left_by (row_of B N net) (outside net))) side ∙ ap (λ (o : Option Numbered). left_by o (outside net)) none

pub at_inout : (B : Device) (N : NetlistView) (outside : ℕ → PinSig) (net : ℕ) → direction N.ports net ≡ Some Inout → pins_of B N outside net ≡ pin.HighZ
at_inout B N outside net side = ap (λ (d : Option Dir). left_at d (left_by (row_of B N net) (outside net))) side

pub at_control : (B : Device) (N : NetlistView) (outside : ℕ → PinSig) → KnowsControls N outside → KnowsControls N (pins_of B N outside)
at_control B N outside known net control = by (row_of B N net) refl
  where
    by : (o : Option Numbered) → row_of B N net ≡ o → IsKnownPin (pins_of B N outside net)
    by None none = subst (λ (p : PinSig). IsKnownPin p) (sym (at_none B N outside net control.0 none)) (known net control)
    by (Some r) row = inl (at_row B N outside net r control.0 row)

pub some_program_run : ProgramNamesPins → ChipRunExists → ProgramRunExists
some_program_run names exists B N formed given outside known =
    let has = events_of B N (program_of B) (names B) in
    let run = exists B N formed first_levels (pins_of B N outside) given has.events refl (at_control B N outside known) has.legal in
    record {
      events = has.events;
      chip = run.0;
      plays = record {
        run = run.1;
        start = record {
          levels = run.2;
          inputs = λ net r side row. run.3 net ∙ at_row B N outside net r side row;
          inouts = λ net side. run.3 net ∙ at_inout B N outside net side;
        };
        sets = has.sets;
      };
      straight = λ net side none. run.3 net ∙ at_none B N outside net side none;
    }
