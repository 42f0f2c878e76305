-- Nets in a list, each of which hangs on flip-flops and on those behind it: so they can be numbered below all others.
use Rattle.std.proofs.Common.{◌≡◌, ℕ, suc, ◌+◌, ◌<◌, ◌==◌, ◌⊎◌, inl, inr, Bool, true, false, List, [], ◌∷◌, length, Option, Some, None, refl, ap, sym, ◌∙◌, subst, arith, eqb-true, eq-eqb}
use Rattle.std.specs.Prelude.{slice_get, if◌then◌else◌, ⊤}
use Rattle.cell_library.specs.declared.listed.ListedCell.{ListedCell}
use Rattle.cell_library.specs.Gates.{is_flop}
use Rattle.netlist_model.specs.declared.Feed.TheVariants.{Net}
use Rattle.netlist_model.specs.Lists.{CellView, NetlistView, Drives}
use Rattle.netlist_model.specs.Settled.{driver_of}
use Rattle.netlist_model.specs.Formed.{IsWellFormed}
use Rattle.netlist_model.proofs.Search.{driver_of-driven}
use Rattle.status_build.specs.ReconnectedLaws.{HasLowNets}
use Rattle.status_build.specs.OrderLaws.{IsHeld}

-- Nets that no gate drives.

abbrev pub flop_or_free : List ListedCell → Option CellView → Bool
flop_or_free library None = true
flop_or_free library (Some cell) = is_flop library cell.kind

abbrev pub is_base : NetlistView → ℕ → Bool
is_base M net = flop_or_free M.library (driver_of M.cells net)

pub held_is_base : (M : NetlistView) (net : ℕ) → IsWellFormed M → IsHeld M net → is_base M net ≡ true
held_is_base M net formed held = ap (flop_or_free M.library) (driver_of-driven M held.number held.cell net formed.one_driver held.drives) ∙ held.flop

-- Places in a list.

abbrev pub IsIn : List ℕ → ℕ → Type 0
IsIn [] net = ⊥
IsIn (m ∷ rest) net = (net ≡ m) ⊎ IsIn rest net

-- own: how many nets stand behind it, where it stands last
abbrev pub pick : Option ℕ → Bool → ℕ → Option ℕ
pick (Some k) here last = Some k
pick None here last = if here then Some last else None

abbrev pub low_in : List ℕ → ℕ → Option ℕ
low_in [] net = None
low_in (m ∷ rest) net = pick (low_in rest net) (m == net) (length rest)

number : (a b : ℕ) → ◌≡◌ {A = Option ℕ} (Some a) (Some b) → a ≡ b
number a b e = cc

bound_by : (rest : List ℕ) (k : ℕ) (o : Option ℕ) (b : Bool) → ((j : ℕ) → o ≡ Some j → j < length rest) → pick o b (length rest) ≡ Some k → k < suc (length rest)
bound_by rest k (Some j) b before h =
    let small = before j refl in
    let same : j ≡ k = number j k h in
    omega (arith, small, same)
bound_by rest k None true before h = let same : length rest ≡ k = number (length rest) k h in omega (arith, same)
bound_by rest k None false before h = absurd (let no : ◌≡◌ {A = Option ℕ} None (Some k) = h in cc)

low_bound : (xs : List ℕ) (net k : ℕ) → low_in xs net ≡ Some k → k < length xs
low_bound [] net k e = absurd (let no : ◌≡◌ {A = Option ℕ} None (Some k) = e in cc)
low_bound (m ∷ rest) net k e = bound_by rest k (low_in rest net) (m == net) (λ j is. low_bound rest net j is) e

picked : (o : Option ℕ) (b : Bool) (last : ℕ) → b ≡ true → (k : ℕ) × (pick o b last ≡ Some k)
picked (Some j) b last e = (j, refl)
picked None b last e = (last, ap (λ (x : Bool). if x then Some last else None) e)

pub low_there : (xs : List ℕ) (net : ℕ) → IsIn xs net → (k : ℕ) × (low_in xs net ≡ Some k)
low_there [] net is = absurd is
low_there (m ∷ rest) net (inl is) = picked (low_in rest net) (m == net) (length rest) (eq-eqb m net (sym is))
low_there (m ∷ rest) net (inr is) =
    let before = low_there rest net is in
    (before.0, ap (λ (o : Option ℕ). pick o (m == net) (length rest)) before.1)

false_unless : (b : Bool) → (b ≡ true → ⊥) → b ≡ false
false_unless true never = absurd (never refl)
false_unless false never = refl

pub low_none : (xs : List ℕ) (net : ℕ) → (IsIn xs net → ⊥) → low_in xs net ≡ None
low_none [] net out = refl
low_none (m ∷ rest) net out =
    let apart : (m == net) ≡ false = false_unless (m == net) (λ is. out (inl (sym (eqb-true m net is)))) in
    ap (λ (o : Option ℕ). pick o (m == net) (length rest)) (low_none rest net (λ is. out (inr is)))
    ∙ ap (λ (b : Bool). pick None b (length rest)) apart

-- Each hangs on those behind it.

abbrev pub StandsLow : NetlistView → List ℕ → ℕ → Type 0
StandsLow M rest net = (i : ℕ) (cell : CellView) → Drives M i cell net → is_flop M.library cell.kind ≡ false
    → (place read : ℕ) → slice_get cell.feeds place ≡ Some (Net (record { 0 = read })) → (is_base M read ≡ true) ⊎ IsIn rest read

abbrev pub AreLow : NetlistView → List ℕ → Type 0
AreLow M [] = ⊤
AreLow M (net ∷ rest) = StandsLow M rest net × AreLow M rest

abbrev IsLower : NetlistView → List ℕ → ℕ → ℕ → Type 0
IsLower M xs k read = (is_base M read ≡ true) ⊎ ((j : ℕ) × (low_in xs read ≡ Some j) × (j < k))

lifted : (M : NetlistView) (m : ℕ) (rest : List ℕ) (k read : ℕ) → IsLower M rest k read → IsLower M (m ∷ rest) k read
lifted M m rest k read (inl base) = inl base
lifted M m rest k read (inr low) = inr (low.0, ap (λ (o : Option ℕ). pick o (m == read) (length rest)) low.1, low.2)

last_reads : (M : NetlistView) (rest : List ℕ) (k read : ℕ) → length rest ≡ k → (is_base M read ≡ true) ⊎ IsIn rest read → IsLower M rest k read
last_reads M rest k read last (inl base) = inl base
last_reads M rest k read last (inr is) =
    let there = low_there rest read is in
    let small = low_bound rest read there.0 there.1 in
    inr (there.0, there.1, omega (arith, last, small))

gate_by : (M : NetlistView) (m net k read : ℕ) (rest : List ℕ) (o : Option ℕ) (b : Bool) → low_in rest net ≡ o → (m == net) ≡ b → (low_in rest net ≡ Some k → IsLower M rest k read)
    → (net ≡ m → (is_base M read ≡ true) ⊎ IsIn rest read) → pick o b (length rest) ≡ Some k → IsLower M (m ∷ rest) k read
gate_by M m net k read rest (Some j) b is at before here e = lifted M m rest k read (before (is ∙ e))
gate_by M m net k read rest None true is at before here e =
    lifted M m rest k read (last_reads M rest k read (number (length rest) k e) (here (sym (eqb-true m net at))))
gate_by M m net k read rest None false is at before here e = absurd (let no : ◌≡◌ {A = Option ℕ} None (Some k) = e in cc)

low_gates : (M : NetlistView) (xs : List ℕ) → AreLow M xs → (i : ℕ) (cell : CellView) (net k : ℕ) → Drives M i cell net → is_flop M.library cell.kind ≡ false → low_in xs net ≡ Some k
    → (place read : ℕ) → slice_get cell.feeds place ≡ Some (Net (record { 0 = read })) → IsLower M xs k read
low_gates M [] are i cell net k d gate e place read operand = absurd (let no : ◌≡◌ {A = Option ℕ} None (Some k) = e in cc)
low_gates M (m ∷ rest) are i cell net k d gate e place read operand =
    gate_by M m net k read rest (low_in rest net) (m == net) refl refl
    (λ is. low_gates M rest are.1 i cell net k d gate is place read operand)
    (λ is. are.0 i cell (subst (λ (n : ℕ). Drives M i cell n) is d) gate place read operand)
    e

pub has_low : (M : NetlistView) (xs : List ℕ) → IsWellFormed M → AreLow M xs → HasLowNets M (is_base M) (low_in xs) (length xs)
has_low M xs formed are = record {
  base_free = λ i cell net d gate. ap (flop_or_free M.library) (driver_of-driven M i cell net formed.one_driver d) ∙ gate;
  bounded = low_bound xs;
  gates = low_gates M xs are;
}
