-- Nets that flip-flops drive, and copies of them.
use Rattle.std.proofs.Common.{◌≡◌, ℕ, zero, suc, ◌+◌, ◌*◌, ◌<◌, ◌≤◌, ◌⊎◌, inl, inr, Bool, true, false, List, [], ◌∷◌, ◌++◌, length, Option, Some, None, refl, ap, sym, ◌∙◌, subst, arith}
use Rattle.std.specs.Prelude.{slice_get}
use Rattle.std.proofs.lemmas.Bool.{cases_lt}
use Rattle.cell_library.specs.Gates.{is_flop}
use Rattle.netlist_model.specs.declared.NetId.{NetId}
use Rattle.netlist_model.specs.declared.Feed.{Feed}
use Rattle.netlist_model.specs.declared.Feed.TheVariants.{Net}
use Rattle.netlist_model.specs.Lists.{CellView, NetlistView}
use Rattle.netlist_model.specs.Contained.{Has, HasCells}
use Rattle.netlist_model.specs.LawsContained.{ContainedParts}
use Rattle.register_gates.specs.declared.bits.Holding.{Holding}
use Rattle.register_gates.specs.Bits.{held_bit_cells}
use Rattle.instruction_gates.specs.declared.latches.Latching.{Latching}
use Rattle.instruction_gates.specs.Rows.{is_one}
use Rattle.instruction_gates.specs.Latches.{holding_of, latch_cells, latches_cells}
use Rattle.instruction_gates.specs.Copies.{copies_cells}
use Rattle.status_build.specs.OrderLaws.{IsHeld, IsCopy}

pub held_of : (M : NetlistView) (c : CellView) (net : ℕ) → Has M c → is_flop M.library c.kind ≡ true → c.output ≡ Some (record { 0 = net }) → IsHeld M net
held_of M c net has flop out = record {
  number = has.number;
  cell = record c { name = has.name };
  flop = flop;
  drives = record { live = has.live; output = out };
}

-- The latched bits.

held_bit_there : (M : NetlistView) (first number : ℕ) (by : Holding) (preset : Bool) (loaded : Feed) → HasCells M (held_bit_cells first number by preset loaded) → IsHeld M first
held_bit_there M first number by true loaded has = held_of M _ first has.0 refl refl
held_bit_there M first number by false loaded has = held_of M _ first has.0 refl refl

latch_there : (M : NetlistView) (first number : ℕ) (by : Latching) (shift : ℕ) (preset : Feed) → HasCells M (latch_cells by shift first number preset) → IsHeld M (first + 1)
latch_there M first number by shift preset has =
    held_bit_there M (first + 1) (number + 1) (holding_of by) (is_one preset) (Net (record { 0 = first })) has.1

-- each by how many stand behind it
pub latches_there : ContainedParts → (M : NetlistView) (first number : ℕ) (by : Latching) (shifts : ℕ) (presets : List Feed) → HasCells M (latches_cells first number by shifts presets)
    → (j : ℕ) → j < length presets → IsHeld M (first + 3 * j + 1)
latches_there parts M first number by shifts [] has j low = absurd (omega (arith, low))
latches_there parts M first number by shifts (preset ∷ rest) has j low =
    let n : ℕ = length rest in
    let before : List CellView = latches_cells first number by shifts rest in
    let this : List CellView = latch_cells by (shifts + 3 * n) (first + 3 * n) (number + 3 * n) preset in
    let apart = (parts M before this).parts has in
    elim (cases_lt j n) [
      | inl less ↦ latches_there parts M first number by shifts rest apart.0 j less
      | inr past ↦
          (let is : n ≡ j = omega (arith, low, past) in
          subst (λ (k : ℕ). IsHeld M (first + 3 * k + 1)) is (latch_there M (first + 3 * n) (number + 3 * n) by (shifts + 3 * n) preset apart.1))
    ]

-- The copies.

same_id : (a b : NetId) → ◌≡◌ {A = Option Feed} (Some (Net a)) (Some (Net b)) → a ≡ b
same_id a b e = cc

only_net : (a place net : ℕ) → slice_get (Net (record { 0 = a }) ∷ []) place ≡ Some (Net (record { 0 = net })) → a ≡ net
only_net a zero net e = ap (λ (n : NetId). n.0) (same_id (record { 0 = a }) (record { 0 = net }) e)
only_net a (suc place) net e = absurd (let no : ◌≡◌ {A = Option Feed} None (Some (Net (record { 0 = net }))) = e in cc)

copy_of : (M : NetlistView) (c : CellView) (net source : ℕ) → Has M c → c.output ≡ Some (record { 0 = net }) → c.feeds ≡ Net (record { 0 = source }) ∷ [] → IsHeld M source → IsCopy M net
copy_of M c net source has out feeds held = record {
  number = has.number;
  cell = record c { name = has.name };
  drives = record { live = has.live; output = out };
  reads = λ place read e. subst (IsHeld M) (only_net source place read (ap (λ (fs : List Feed). slice_get fs place) (sym feeds) ∙ e)) held;
}

pub copies_there : (M : NetlistView) (first number latches count : ℕ) → HasCells M (copies_cells first number latches count) → ((j : ℕ) → j < count → IsHeld M (latches + 3 * j + 1))
    → (k : ℕ) → k < count → IsCopy M (first + k)
copies_there M first number latches zero has held k low = absurd (omega (arith, low))
copies_there M first number latches (suc behind) has held zero low =
    let e : first ≡ first + 0 = omega arith in
    subst (IsCopy M) e (copy_of M _ first (latches + 3 * behind + 1) has.0 refl refl (held behind (omega arith)))
copies_there M first number latches (suc behind) has held (suc k) low =
    let e : suc first + k ≡ first + suc k = omega arith in
    subst (IsCopy M) e (copies_there M (suc first) (suc number) latches behind has.1 (λ j less. held j (omega (arith, less))) k (omega (arith, low)))
