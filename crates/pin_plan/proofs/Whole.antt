-- What is said of the kept bits is said of the plan.
use Rattle.std.proofs.Common.{◌≡◌, ℕ, Bool, true, false, List, [], ◌∷◌, ◌++◌, refl, ap, sym, ◌∙◌, subst, Option, Some, None, if◌then◌else◌, nat_eq}
use Rattle.std.specs.Prelude.{⊤}
use Rattle.std.specs.List.{list_any, starts_with}
use Rattle.list_laws.specs.Options.{or_else, first_in}
use Rattle.netlist_model.specs.Lists.{PortView}
use Rattle.netlist_link.specs.Linked.{LinkedView, own_ports}
use Rattle.netlist_link.specs.Hidden.{AreStraight, EndsHidden}
use Rattle.plan_texts.specs.declared.plan.Plan.{Plan}
use Rattle.plan_texts.specs.declared.plan.PinLine.{PinLine}
use Rattle.plan_fitting.specs.declared.fault.FitFault.{FitFault}
use Rattle.plan_fitting.specs.declared.fault.FitFault.TheVariants as fault
use Rattle.plan_fitting.specs.declared.fitted.Fitted.{Fitted}
use Rattle.plan_fitting.specs.Pins.{PinSeen}
use Rattle.plan_fitting.specs.Names.{NamedBit, port_names, net_names, cell_names, hidden_names}
use Rattle.plan_fitting.specs.Fits.{Taken, same_taken, told, has_line, bit_fault, missing_fault, all_taken, twice_after, twice_fault, cell_fault, suits_port, is_barred, barred_after, unit_names, names_of, tap_lines, name_fault, begun_fault, prefix_fault, fault_with, HasFault, IsFault}
use Rattle.plan_fitting.specs.Devices.{fitted_of, IsFitted}
use Rattle.pin_plan.specs.Names.{inner_names}
use Rattle.pin_plan.specs.Seen.{ArePinsOf}
use Rattle.pin_plan.proofs.Plain.{plain_fault, plain_fitted}

-- none of these faults is that of a line that names no bit
abbrev TellsOther : Option FitFault → Type 0
TellsOther None = ⊤
TellsOther (Some (fault.PlanPort word)) = ⊥
TellsOther (Some (fault.PlanPortMissing word)) = ⊤
TellsOther (Some (fault.PlanTwice word)) = ⊤
TellsOther (Some (fault.PlanCell word)) = ⊤
TellsOther (Some (fault.PlanName word)) = ⊤
TellsOther (Some (fault.PrefixTaken word)) = ⊤
TellsOther (Some fault.OutOfMemory) = ⊤

either_other : (a b : Option FitFault) → TellsOther a → TellsOther b → TellsOther (or_else a b)
either_other None b first second = second
either_other (Some f) b first second = first

first_other : {X : Type 0} (test : X → Option FitFault) → ((x : X) → TellsOther (test x)) → (xs : List X) → TellsOther (first_in test xs)
first_other test each [] = tt
first_other test each (x ∷ xs) = either_other (test x) (first_in test xs) (each x) (first_other test each xs)

bit_other : (seen : List PinSeen) (bit : NamedBit) → TellsOther (bit_fault seen bit)
bit_other seen bit = by (has_line seen bit.pin)
  where
    by : (b : Bool) → TellsOther (if b then None else Some (fault.PlanPortMissing bit.word))
    by true = tt
    by false = tt

missing_other : (L : LinkedView) (seen : List PinSeen) → TellsOther (missing_fault L seen)
missing_other L seen = by (own_ports L) refl
  where
    by : (ports : List PortView) → own_ports L ≡ ports → TellsOther (missing_fault L seen)
    by [] e = rw e tt
    by (port ∷ ports) e = rw e (first_other (bit_fault seen) (bit_other seen) _)

twice_other : (before more : List Taken) → TellsOther (twice_after before more)
twice_other before [] = tt
twice_other before (one ∷ more) = by (list_any (same_taken one) before) (twice_other (before ++ one ∷ []) more)
  where
    by : (b : Bool) → TellsOther (twice_after (before ++ one ∷ []) more) → TellsOther (if b then Some (fault.PlanTwice (told one)) else twice_after (before ++ one ∷ []) more)
    by true rest = tt
    by false rest = rest

cell_other : (lines : List PinLine) (seen : List PinSeen) → TellsOther (cell_fault lines seen)
cell_other [] seen = tt
cell_other (line ∷ lines) [] = tt
cell_other (line ∷ lines) (one ∷ seen) = by (suits_port line.cell one.side one.control) (cell_other lines seen)
  where
    by : (b : Bool) → TellsOther (cell_fault lines seen) → TellsOther (if b then cell_fault lines seen else Some (fault.PlanCell line.port))
    by true rest = rest
    by false rest = tt

barred_other : (others before names : List (List ℕ)) → TellsOther (barred_after others before names)
barred_other others before [] = tt
barred_other others before (name ∷ names) = by (is_barred others before name) (barred_other others (before ++ name ∷ []) names)
  where
    by : (b : Bool) → TellsOther (barred_after others (before ++ name ∷ []) names) → TellsOther (if b then Some (fault.PlanName name) else barred_after others (before ++ name ∷ []) names)
    by true rest = tt
    by false rest = rest

begun_other : (prefix name : List ℕ) → TellsOther (begun_fault prefix name)
begun_other prefix name = by (starts_with nat_eq name prefix)
  where
    by : (b : Bool) → TellsOther (if b then Some (fault.PrefixTaken name) else None)
    by true = tt
    by false = tt

name_other : (L : LinkedView) (p : Plan) → TellsOther (name_fault L p)
name_other L p =
    let unit : Option FitFault = barred_after [] [] (unit_names L p) in
    let tap : Option FitFault = barred_after (inner_names L) (unit_names L p) (names_of (tap_lines p)) in
    let linkage : Option FitFault = barred_after [] (unit_names L p ++ names_of (tap_lines p)) (names_of p.linkage) in
    either_other unit (or_else tap linkage) (barred_other [] [] (unit_names L p))
    (either_other tap linkage (barred_other (inner_names L) (unit_names L p) (names_of (tap_lines p)))
    (barred_other [] (unit_names L p ++ names_of (tap_lines p)) (names_of p.linkage)))

prefix_other : (L : LinkedView) (p : Plan) → TellsOther (prefix_fault L p)
prefix_other L p = first_other (begun_fault p.prefix) (begun_other p.prefix) (port_names L ++ (net_names L ++ (cell_names L ++ (hidden_names L ++ names_of (tap_lines p)))))

other : (L : LinkedView) (p : Plan) (seen : List PinSeen) → TellsOther (fault_with L p seen)
other L p seen =
    let names : Option FitFault = or_else (name_fault L p) (prefix_fault L p) in
    let cells : Option FitFault = or_else (cell_fault p.pins seen) names in
    let twice : Option FitFault = or_else (twice_fault p seen) cells in
    either_other (missing_fault L seen) twice (missing_other L seen)
    (either_other (twice_fault p seen) cells (twice_other [] (all_taken p seen))
    (either_other (cell_fault p.pins seen) names (cell_other p.pins seen)
    (either_other (name_fault L p) (prefix_fault L p) (name_other L p) (prefix_other L p))))

-- The whole.

pub is_fitted : (L : LinkedView) (p : Plan) (kept : List PinSeen) (f : Fitted) → AreStraight L → EndsHidden L → ArePinsOf L p.pins kept → None ≡ fault_with L p kept → f ≡ fitted_of L p kept → IsFitted L p f
is_fitted L p kept f straight ends are none is = record {
  seen = are.0;
  are_seen = are.1;
  faultless = sym (plain_fault L p are.0) ∙ sym (ap (fault_with L p) are.2) ∙ sym none;
  is = is ∙ ap (fitted_of L p) are.2 ∙ plain_fitted L p are.0;
  straight = straight;
  ends = ends;
}

first_of : (L : LinkedView) (p : Plan) (kept : List PinSeen) (f : FitFault) → ArePinsOf L p.pins kept → Some f ≡ fault_with L p kept → HasFault L p f
first_of L p kept f are is = record { seen = are.0; are_seen = are.1; first = sym (plain_fault L p are.0) ∙ sym (ap (fault_with L p) are.2) ∙ sym is }

pub is_fault : (L : LinkedView) (p : Plan) (kept : List PinSeen) (f : FitFault) → ArePinsOf L p.pins kept → Some f ≡ fault_with L p kept → IsFault L p f
is_fault L p kept (fault.PlanPort word) are is = absurd (subst (λ (o : Option FitFault). TellsOther o) (sym is) (other L p kept))
is_fault L p kept (fault.PlanPortMissing word) are is = first_of L p kept (fault.PlanPortMissing word) are is
is_fault L p kept (fault.PlanTwice word) are is = first_of L p kept (fault.PlanTwice word) are is
is_fault L p kept (fault.PlanCell word) are is = first_of L p kept (fault.PlanCell word) are is
is_fault L p kept (fault.PlanName word) are is = first_of L p kept (fault.PlanName word) are is
is_fault L p kept (fault.PrefixTaken word) are is = first_of L p kept (fault.PrefixTaken word) are is
is_fault L p kept fault.OutOfMemory are is = tt
