-- The faults of a plan don't depend on the words of its lines.
use Rattle.std.proofs.Common.{◌≡◌, Bool, true, false, List, [], ◌∷◌, ◌++◌, map, refl, sym, ◌∙◌, ap, Option, Some, None, if◌then◌else◌}
use Rattle.std.specs.List.{list_any}
use Rattle.std.proofs.lemmas.List.{map-append}
use Rattle.netlist_link.specs.Linked.{LinkedView}
use Rattle.plan_texts.specs.declared.plan.Plan.{Plan}
use Rattle.plan_texts.specs.declared.plan.PinLine.{PinLine}
use Rattle.plan_fitting.specs.declared.fault.FitFault.{FitFault}
use Rattle.plan_fitting.specs.declared.fault.FitFault.TheVariants as fault
use Rattle.plan_fitting.specs.Pins.{PinSeen}
use Rattle.plan_fitting.specs.Fits.{Taken, PhysicalPin, PortBit, same_taken, told, tap_lines, taken_alone, taken_by, all_taken, twice_after, twice_fault, suits_port, cell_fault, fault_with}
use Rattle.plan_fitting.proofs.DevicesFacts.{NoFault}
use Rattle.strip_model.specs.PlansTold.{told_lines, told_plan}

-- without words
abbrev bare : Taken → Taken
bare (PhysicalPin pin) = PhysicalPin pin
bare (PortBit bit word) = PortBit bit []

bare_same : (a b : Taken) → same_taken a b ≡ same_taken (bare a) (bare b)
bare_same (PhysicalPin a) (PhysicalPin b) = refl
bare_same (PhysicalPin a) (PortBit b word) = refl
bare_same (PortBit a word) (PhysicalPin b) = refl
bare_same (PortBit a word) (PortBit b other) = refl

any_bare : (a : Taken) (xs : List Taken) → list_any (same_taken a) xs ≡ list_any (same_taken (bare a)) (map bare xs)
any_bare a [] = refl
any_bare a (x ∷ xs) = rw (bare_same a x, any_bare a xs) refl

none_if : (b : Bool) (f : FitFault) (rest : Option FitFault) → (if b then Some f else rest) ≡ None → (b ≡ false) × (rest ≡ None)
none_if true f rest h = absurd (let bad : Some f ≡ None = h in cc)
none_if false f rest h = (refl, h)

first_same : (a b : Taken) (xs ys : List Taken) → a ∷ xs ≡ b ∷ ys → a ≡ b
first_same a b xs ys e = cc

rest_same : (a b : Taken) (xs ys : List Taken) → a ∷ xs ≡ b ∷ ys → xs ≡ ys
rest_same a b xs ys e = cc

twice_same : (before front list other : List Taken) → map bare before ≡ map bare front → map bare list ≡ map bare other → twice_after before list ≡ None → twice_after front other ≡ None
twice_same before front [] [] same all h = refl
twice_same before front [] (y ∷ ys) same all h = absurd (let bad : [] ≡ bare y ∷ map bare ys = all in cc)
twice_same before front (x ∷ xs) [] same all h = refl
twice_same before front (x ∷ xs) (y ∷ ys) same all h =
    let one = first_same (bare x) (bare y) (map bare xs) (map bare ys) all in
    let more = rest_same (bare x) (bare y) (map bare xs) (map bare ys) all in
    let t = none_if (list_any (same_taken x) before) (fault.PlanTwice (told x)) (twice_after (before ++ x ∷ []) xs) h in
    let here : list_any (same_taken y) front ≡ false =
    any_bare y front ∙ ap (λ (b : Taken). list_any (same_taken b) (map bare front)) (sym one) ∙ ap (list_any (same_taken (bare x))) (sym same) ∙ sym (any_bare x before) ∙ t.0 in
    let joined : map bare (before ++ x ∷ []) ≡ map bare (front ++ y ∷ []) =
    map-append bare before (x ∷ []) ∙ ap (λ (l : List Taken). l ++ bare x ∷ []) same ∙ ap (λ (b : Taken). map bare front ++ b ∷ []) one ∙ sym (map-append bare front (y ∷ [])) in
    let rest = twice_same (before ++ x ∷ []) (front ++ y ∷ []) xs ys joined more t.1 in
    rw here rest

taken_bare : (L : LinkedView) (lines : List PinLine) (seen : List PinSeen) → map bare (taken_by lines seen) ≡ map bare (taken_by (told_lines L lines seen) seen)
taken_bare L [] seen = refl
taken_bare L (line ∷ lines) [] = refl
taken_bare L (line ∷ lines) (one ∷ seen) = ap (λ (l : List Taken). PortBit one.pin [] ∷ PhysicalPin line.pin ∷ l) (taken_bare L lines seen)

none_twice : (L : LinkedView) (p : Plan) (seen : List PinSeen) → twice_fault p seen ≡ None → twice_fault (told_plan L p seen) seen ≡ None
none_twice L p seen none =
    let taps : List Taken = map taken_alone (tap_lines p) in
    let links : List Taken = map taken_alone p.linkage in
    let same : map bare (all_taken p seen) ≡ map bare (all_taken (told_plan L p seen) seen) =
    map-append bare taps (taken_by p.pins seen ++ links)
    ∙ ap (λ (l : List Taken). map bare taps ++ l) (map-append bare (taken_by p.pins seen) links ∙ ap (λ (l : List Taken). l ++ map bare links) (taken_bare L p.pins seen)
    ∙ sym (map-append bare (taken_by (told_lines L p.pins seen) seen) links))
    ∙ sym (map-append bare taps (taken_by (told_lines L p.pins seen) seen ++ links)) in
    twice_same [] [] (all_taken p seen) (all_taken (told_plan L p seen) seen) refl same none

cells_if : (b : Bool) (f : FitFault) (rest : Option FitFault) → (if b then rest else Some f) ≡ None → (b ≡ true) × (rest ≡ None)
cells_if true f rest h = (refl, h)
cells_if false f rest h = absurd (let bad : Some f ≡ None = h in cc)

none_cells : (L : LinkedView) (lines : List PinLine) (seen : List PinSeen) → cell_fault lines seen ≡ None → cell_fault (told_lines L lines seen) seen ≡ None
none_cells L [] seen none = refl
none_cells L (line ∷ lines) [] none = refl
none_cells L (line ∷ lines) (one ∷ seen) none =
    let t = cells_if (suits_port line.cell one.side one.control) (fault.PlanCell line.port) (cell_fault lines seen) none in
    let here = t.0 in
    let rest = none_cells L lines seen t.1 in rw here rest

pub still_faultless : (L : LinkedView) (p : Plan) (seen : List PinSeen) → NoFault L p seen → fault_with L (told_plan L p seen) seen ≡ None
still_faultless L p seen none =
    let missing = none.missing in
    let twice = none_twice L p seen none.twice in
    let cells = none_cells L p.pins seen none.cells in
    let names = none.names in
    let prefix = none.prefix in
    rw (missing, twice, cells, names, prefix) refl
