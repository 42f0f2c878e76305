-- What the parts of reading tell, of all texts.
use Rattle.std.proofs.Common.{◌≡◌, ℕ, List, None, Option, Some, Result, Ok, Err, IfOk, refl, sym, subst}
use Rattle.std.specs.Prelude.{MatchOption, IsOkUnless, IfErr}
use Rattle.netlist_arena.specs.declared.room.ReserveFault.{ReserveFault}
use Rattle.netlist_arena.specs.declared.room.ReserveFault.TheVariants as reserve
use Rattle.netlist_link.specs.Linked.{LinkedView}
use Rattle.plan_texts.specs.declared.plan.Plan.{Plan}
use Rattle.plan_texts.specs.Grammar.{SpellsPlan}
use Rattle.plan_fitting.specs.declared.fitted.Fitted.{Fitted}
use Rattle.plan_fitting.specs.Fits.{Fits}
use Rattle.plan_fitting.specs.Devices.{IsFitted}
use Rattle.insertion_inputs.specs.declared.fault.InsertFault.{InsertFault}
use Rattle.insertion_inputs.specs.declared.fault.InsertFault.TheVariants as insert
use Rattle.status_fitting.specs.declared.register_texts.fault.StatusFault.{StatusFault}
use Rattle.status_fitting.specs.declared.register_texts.fault.StatusFault.TheVariants as status
use Rattle.status_fitting.specs.declared.register_texts.plan.StatusPlan.{StatusPlan}
use Rattle.status_fitting.specs.RegisterTextsFaults as lines
use Rattle.status_fitting.specs.Grammar.{SpellsStatus}
use Rattle.status_fitting.specs.declared.fitted.FittedStatus.{FittedStatus}
use Rattle.status_fitting.specs.Faults as fits
use Rattle.status_fitting.specs.Fitted.{IsFitted as AreFitted}
use Rattle.status_register.specs.Stitch.{AreRegisters, excess}
use Rattle.status_inputs.specs.Inputs.{SpellsRegisters}
use Rattle.status_inputs.specs.Faults.{StandsInRegisters, StandsInRoom, StandsInPlanText, StandsBehindPlan}
use Rattle.status_inputs.specs.Reserves.{reserve_fault}
use Rattle.status_inputs.specs.declared.fault.StatusInsertFault.TheVariants as fault

pub err_weaker : {A E : Type 0} (r : Result A E) (P Q : E → Type 0) → ((f : E) → P f → Q f) → IfErr r P → IfErr r Q
err_weaker (Ok a) P Q more h = tt
err_weaker (Err e) P Q more h = more e h

-- Registers.

pub lines_stand : (L : LinkedView) (p : Plan) (text : List ℕ) (f : StatusFault) → lines.IsFault text f → StandsInRegisters L p text f
lines_stand L p text (status.StatusLine line) is = is
lines_stand L p text (status.StatusName word) is = absurd is
lines_stand L p text (status.StatusNet word) is = absurd is
lines_stand L p text (status.StatusOpcode word) is = absurd is
lines_stand L p text status.OutOfMemory is = tt

pub fits_stand : (L : LinkedView) (p : Plan) (text : List ℕ) (asked : StatusPlan) (f : StatusFault) → SpellsStatus text asked → fits.IsFault L p asked f → StandsInRegisters L p text f
fits_stand L p text asked (status.StatusLine line) spells is = absurd is
fits_stand L p text asked (status.StatusName word) spells is = record { asked = asked; spells = spells; stands = is }
fits_stand L p text asked (status.StatusNet word) spells is = record { asked = asked; spells = spells; stands = is }
fits_stand L p text asked (status.StatusOpcode word) spells is = record { asked = asked; spells = spells; stands = is }
fits_stand L p text asked status.OutOfMemory spells is = tt

pub registers_told : {E : Type 0} (r : Result FittedStatus E) (L : LinkedView) (p : Plan) (text : List ℕ) (asked : StatusPlan) → SpellsStatus text asked → IfOk r (AreFitted L asked)
    → IfOk r (λ (s : FittedStatus). fits.HasNoFault L p asked) → IfOk r (SpellsRegisters text L p)
registers_told (Ok s) L p text asked spells are free = record { asked = asked; spells = spells; faultless = free; fitted = are }
registers_told (Err e) L p text asked spells are free = tt

-- The room.

err_same : {T E : Type 0} (e f : E) → ◌≡◌ {A = Result T E} (Err e) (Err f) → f ≡ e
err_same e f h = cc

-- what it refuses stands
room_fault : (T : Type 0) (L : LinkedView) (f : Fitted) (s : FittedStatus) (e : ReserveFault) (o : Option ReserveFault) → excess L f s ≡ o
    → MatchOption o (IsOkUnless {T = T} (Err e) reserve.OutOfMemory) (λ other. ◌≡◌ {A = Result T ReserveFault} (Err e) (Err other)) → StandsInRoom L f s e
room_fault T L f s e None told answer = subst (StandsInRoom L f s) (sym answer) tt
room_fault T L f s e (Some (reserve.TooMany what count limit)) told answer = subst (StandsInRoom L f s) (err_same e (reserve.TooMany what count limit) answer) told
room_fault T L f s e (Some reserve.OutOfMemory) told answer = subst (StandsInRoom L f s) (err_same e reserve.OutOfMemory answer) tt

pub room_told : {T : Type 0} (r : Result T ReserveFault) (L : LinkedView) (f : Fitted) (s : FittedStatus) → MatchOption (excess L f s) (IsOkUnless r reserve.OutOfMemory) (λ other. r ≡ Err other)
    → IfErr r (StandsInRoom L f s)
room_told (Ok x) L f s answer = tt
room_told {T} (Err e) L f s answer = room_fault T L f s e (excess L f s) refl answer

-- A plan and registers.

pub plan_stands : (L : LinkedView) (text registers : List ℕ) (f : InsertFault) → StandsInPlanText L text f → StandsBehindPlan L text registers (fault.Insert f)
plan_stands L text registers (insert.Plan f) is = is
plan_stands L text registers (insert.Fit f) is = is
plan_stands L text registers insert.OutOfMemory is = tt
plan_stands L text registers (insert.Netlist f) is = absurd is
plan_stands L text registers (insert.Link f) is = absurd is
plan_stands L text registers (insert.TooMany what count limit) is = absurd is

pub registers_stand : (L : LinkedView) (text registers : List ℕ) (p : Plan) (f : StatusFault) → SpellsPlan text p → Fits L p → StandsInRegisters L p registers f
    → StandsBehindPlan L text registers (fault.Registers f)
registers_stand L text registers p f spells fit is = record { plan = p; spells = spells; fits = fit; stands = is }

pub room_stands : (L : LinkedView) (text registers : List ℕ) (p : Plan) (f : Fitted) (s : FittedStatus) (e : ReserveFault) → SpellsPlan text p → IsFitted L p f → SpellsRegisters registers L p s
    → StandsInRoom L f s e → StandsBehindPlan L text registers (reserve_fault e)
room_stands L text registers p f s (reserve.TooMany what count limit) spells is are passes =
    record { plan = p; spells = spells; fitted = f; is = is; status = s; registers_are = are; passes = passes }
room_stands L text registers p f s reserve.OutOfMemory spells is are passes = tt

pub registers_of : (L : LinkedView) (p : Plan) (text : List ℕ) (s : FittedStatus) → SpellsRegisters text L p s → AreRegisters L p s
registers_of L p text s is = record { asked = is.asked; spelled = (text, is.spells); faultless = is.faultless; fitted = is.fitted }

pub fits_of : (L : LinkedView) (p : Plan) (f : Fitted) → IsFitted L p f → Fits L p
fits_of L p f is = record { seen = is.seen; are_seen = is.are_seen; faultless = is.faultless }
