-- Flags of the nets that cells drive.
use Rattle.std.proofs.Common.{◌≡◌, ◌≢◌, ℕ, ◌+◌, ◌<◌, ◌⊎◌, inl, inr, Bool, true, false, List, length, refl, ap, sym, ◌∙◌, subst, Option, Some, None, IsTrue, arith}
use Rattle.std.specs.Prelude.{slice_set, replicate, IsSome, ◌↔◌}
use Rattle.std.specs.Option.{option_map}
use Rattle.std.proofs.lemmas.Bool.{cases_eq}
use Rattle.std.proofs.lemmas.Option.{same_Some}
use Rattle.netlist_model.specs.declared.NetId.{NetId}
use Rattle.netlist_model.specs.Lists.{CellView, NetlistView, cell_at, Drives}
use Rattle.netlist_model.specs.Formed.{IsDriven}
use Rattle.status_fitting.specs.Tables.{IsDrivenBelow, FlagsDriven, FlagsAllDriven}
use Rattle.status_fitting.proofs.SetFlags.{flag_set, flags_kept, none_flagged}

abbrev pub output_at : NetlistView → ℕ → Option (Option NetId)
output_at N n = option_map (λ (found : CellView). found.output) (cell_at N n)

pub no_driven : (N : NetlistView) (flags : List Bool) → flags ≡ replicate (length N.nets) false → FlagsDriven N 0 flags
no_driven N flags is = none_flagged (IsDrivenBelow N 0) (length N.nets) flags is (λ net so. let low = so.below in omega (arith, low))

-- what was driven before
kept : (N : NetlistView) (n net : ℕ) → IsDrivenBelow N n net → IsDrivenBelow N (n + 1) net
kept N n net so = let low = so.below in record { number = so.number; below = omega (arith, low); cell = so.cell; drives = so.drives }

-- what this cell doesn't drive
only : (N : NetlistView) (n net : ℕ) → ((cell : CellView) → Drives N n cell net → ⊥) → IsDrivenBelow N (n + 1) net → IsDrivenBelow N n net
only N n net other so = by (cases_eq so.number n)
  where
    by : (so.number ≡ n) ⊎ (so.number ≢ n) → IsDrivenBelow N n net
    by (inl same) = let D : ℕ → Type 0 = λ k. Drives N k so.cell net in absurd (other so.cell (subst D same so.drives))
    by (inr apart) = let low = so.below in record { number = so.number; below = omega (arith, low, apart); cell = so.cell; drives = so.drives }

passed : (N : NetlistView) (n : ℕ) (flags : List Bool) → ((net : ℕ) (cell : CellView) → Drives N n cell net → ⊥) → FlagsDriven N n flags → FlagsDriven N (n + 1) flags
passed N n flags none are =
    flags_kept (IsDrivenBelow N n) (IsDrivenBelow N (n + 1)) (length N.nets) flags are (λ net so. kept N n net so) (λ net so. only N n net (none net) so)

pub dead_noted : (N : NetlistView) (n : ℕ) (flags : List Bool) (live : Bool) → (IsTrue live ↔ IsSome (cell_at N n)) → live ≡ false → FlagsDriven N n flags → FlagsDriven N (n + 1) flags
dead_noted N n flags live is dead are =
    passed N n flags (λ net cell d. let some : IsSome (cell_at N n) = rw d.live refl in let yes : live ≡ true = is.1 some in let both : true ≡ false = sym yes ∙ dead in cc) are

pub unconnected_noted : (N : NetlistView) (n : ℕ) (flags : List Bool) → output_at N n ≡ Some None → FlagsDriven N n flags → FlagsDriven N (n + 1) flags
unconnected_noted N n flags at are =
    passed N n flags (λ net cell d.
    let here : Some cell.output ≡ Some None = ap (option_map (λ (found : CellView). found.output)) (sym d.live) ∙ at in
    let both : Some (record { 0 = net }) ≡ None = sym d.output ∙ same_Some cell.output None here in
    cc) are

pub driven_noted : (N : NetlistView) (n : ℕ) (out : NetId) (flags : List Bool) → output_at N n ≡ Some (Some out) → out.0 < length N.nets → FlagsDriven N n flags
    → FlagsDriven N (n + 1) (slice_set flags out.0 true)
driven_noted N n out flags at less are =
    flag_set (IsDrivenBelow N n) (IsDrivenBelow N (n + 1)) (length N.nets) flags out.0 less are (here (cell_at N n) refl at) (λ net so. kept N n net so)
    (λ net apart so. only N n net (λ cell d. apart (same net cell d)) so)
  where
    here : (o : Option CellView) → cell_at N n ≡ o → option_map (λ (found : CellView). found.output) o ≡ Some (Some out) → IsDrivenBelow N (n + 1) out.0
    here None e is = absurd (cc)
    here (Some cell) e is = record { number = n; below = omega arith; cell = cell; drives = record { live = e; output = same_Some cell.output (Some out) is } }

    same : (net : ℕ) (cell : CellView) → Drives N n cell net → net ≡ out.0
    same net cell d =
        let one : Some cell.output ≡ Some (Some out) = ap (option_map (λ (found : CellView). found.output)) (sym d.live) ∙ at in
        let two : Some (record { 0 = net }) ≡ Some out = sym d.output ∙ same_Some cell.output (Some out) one in
        ap (λ (id : NetId). id.0) (same_Some (record { 0 = net }) out two)

-- where no cell stands from the bound on
pub all_driven : (N : NetlistView) (bound : ℕ) (flags : List Bool) → ((i : ℕ) → IsSome (cell_at N i) → i < bound) → FlagsDriven N bound flags → FlagsAllDriven N flags
all_driven N bound flags below are =
    flags_kept (IsDrivenBelow N bound) (IsDriven N) (length N.nets) flags are (λ net so. record { number = so.number; cell = so.cell; drives = so.drives })
    (λ net d. record { number = d.number; below = below d.number (let at = d.drives.live in rw at refl); cell = d.cell; drives = d.drives })
