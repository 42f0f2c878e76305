-- The steps come to the netlist of specs/Stitched.antt.
use Rattle.std.proofs.Common.{◌≡◌, ◌≢◌, ℕ, suc, ◌+◌, ◌-◌, ◌<◌, ◌≤◌, ◌⊎◌, inl, inr, List, [], ◌∷◌, ◌++◌, length, length-append, Option, Some, None, refl, ap, sym, ◌∙◌, subst, arith}
use Rattle.std.specs.Prelude.{slice_get, IsSome}
use Rattle.std.proofs.lemmas.Bool.{cases_lt, cases_order}
use Rattle.list_laws.proofs.Lists.{slice_get-append_left, slice_get-append_right, slice_get_there}
use Rattle.netlist_model.specs.declared.NetId.{NetId}
use Rattle.netlist_model.specs.declared.Feed.TheVariants.{Net}
use Rattle.netlist_model.specs.Lists.{NetView, CellView, NetlistView, cell_at, cell_count}
use Rattle.netlist_model.specs.Contained.{IsDense}
use Rattle.netlist_model.specs.LawsContained.{DenseNumbers}
use Rattle.gate_parts.specs.Parts.{added_nets}
use Rattle.plan_fitting.specs.declared.fitted.Fitted.{Fitted}
use Rattle.stitched_netlist.specs.declared.model.TapNames.{TapNames}
use Rattle.stitched_netlist.specs.Stitched.{stitched_cells_by}
use Rattle.stitched_netlist.proofs.PlacesLaws.{listed_at}
use Rattle.written_netlists.specs.Same.{IsSameNetlist}
use Rattle.open_stitch.proofs.Connected.{opened_length}
use Rattle.open_stitch.specs.Open.{through_number, through_net, through_cell, open_cells, stitched_open, parts_at}
use Rattle.status_fitting.specs.declared.fitted.FittedRegister.{FittedRegister}
use Rattle.status_gates.specs.Opcodes.{inverses_cells}
use Rattle.status_gates.specs.Registers.{shown_of, registers_cells}
use Rattle.status_build.specs.Build.{added_cells, shown_at}
use Rattle.status_build.specs.BuildLaws.{IsBuiltOn}
use Rattle.status_stitch.specs.Stitched.{status_first, status_number, status_size, shared_at, status_cells, status_shown, all_cells, stitched_status}
use Rattle.status_stitch.proofs.Numbers.{opened_nets}
use Rattle.status_stitch.proofs.Opened.{buffer_there}

-- a list ends where it is as long
past_end : (cells : List CellView) → slice_get cells (length cells) ≡ None
past_end [] = refl
past_end (cell ∷ cells) = past_end cells

not_there : (place : Option CellView) → place ≡ None → IsSome place → ⊥
not_there None is some = absurd (cc)
not_there (Some cell) is some = absurd (let no : ◌≡◌ {A = Option CellView} (Some cell) None = is in cc)

-- a netlist without gaps has as many cells as the list that they are by number
as_many : DenseNumbers → (O : NetlistView) (cells : List CellView) → IsDense O → ((k : ℕ) → cell_at O k ≡ slice_get cells k) → cell_count O ≡ length cells
as_many numbers O cells dense at = elim (cases_order (cell_count O) (length cells)) [
  | inl same ↦ same
  | inr (inl less) ↦
      (let there = slice_get_there cells (cell_count O) less in
      let below : cell_count O < cell_count O = numbers O dense (cell_count O) (subst (λ (place : Option CellView). IsSome place) (sym (at (cell_count O) ∙ there.1)) refl) in
      absurd (omega (arith, below)))
  | inr (inr more) ↦ absurd (not_there (cell_at O (length cells)) (at (length cells) ∙ past_end cells) (dense (length cells) more))
]

pub opened_count : DenseNumbers → (N O : NetlistView) (names : TapNames) (f : Fitted) → IsDense O → IsSameNetlist O (stitched_open N names f) → cell_count O ≡ status_number N f
opened_count numbers N O names f dense same =
    let cells : List CellView = stitched_cells_by (through_net N f) N f in
    let plain : CellView = through_cell N f (Net (parts_at N f).bypass) in
    let all : cell_count O ≡ length (open_cells N f) = as_many numbers O (open_cells N f) dense (λ k. same.cells k ∙ listed_at (open_cells N f) k) in
    let both : length (open_cells N f) ≡ length cells + length (plain ∷ []) = length-append cells (plain ∷ []) in
    let one : length (plain ∷ []) ≡ 1 = refl in
    let long : length cells ≡ through_number N f = opened_length N f (through_net N f) in
    omega (arith, all, both, one, long)

-- the cells of the registers, by the numbers of the netlist
cells_are : (N O : NetlistView) (names : TapNames) (f : Fitted) (rs : List FittedRegister) → IsSameNetlist O (stitched_open N names f) → cell_count O ≡ status_number N f
    → added_cells O (shared_at N f) (parts_at N f).bypass f.codes.length rs ≡ status_cells N f rs
cells_are N O names f rs same count =
    let P : ℕ → ℕ → List CellView = λ first number. inverses_cells first number (shared_at N f).opcode.0 f.codes.length
    ++ registers_cells (first + f.codes.length) (number + f.codes.length) (shared_at N f) (parts_at N f).bypass rs in
    ap (λ (first : ℕ). P first (cell_count O)) (opened_nets N O names f same) ∙ ap (λ (number : ℕ). P (status_first N f) number) count

shown_is : (N O : NetlistView) (names : TapNames) (f : Fitted) (rs : List FittedRegister) → IsSameNetlist O (stitched_open N names f) → shown_at O (parts_at N f).bypass f.codes.length rs ≡ status_shown N f rs
shown_is N O names f rs same = ap (λ (first : ℕ). shown_of (first + f.codes.length) (parts_at N f).bypass rs) (opened_nets N O names f same)

pub status_same : (N O M : NetlistView) (names : TapNames) (f : Fitted) (rs : List FittedRegister) → IsSameNetlist O (stitched_open N names f) → cell_count O ≡ status_number N f
    → IsBuiltOn O M (shared_at N f) (parts_at N f).bypass f.codes.length (through_number N f) rs → IsSameNetlist M (stitched_status N names f rs)
status_same N O M names f rs same count b = record {
  library = b.library ∙ same.library;
  ports = b.ports ∙ same.ports;
  nets = b.nets ∙ ap (λ (views : List NetView). views ++ added_nets (length O.nets) (status_size f rs)) same.nets
      ∙ ap (λ (first : ℕ). (stitched_open N names f).nets ++ added_nets first (status_size f rs)) (opened_nets N O names f same);
  cells = λ k. at k ∙ sym (listed_at (all_cells N f rs) k);
}
  where
    at : (k : ℕ) → cell_at M k ≡ slice_get (all_cells N f rs) k
    at k =
        let cells : List CellView = stitched_cells_by (through_net N f) N f in
        let plain : CellView = through_cell N f (Net (parts_at N f).bypass) in
        let own : CellView = through_cell N f (Net (status_shown N f rs)) in
        let n : ℕ = through_number N f in
        let long : length cells ≡ n = opened_length N f (through_net N f) in
        elim (cases_lt k n) [
          | inl low ↦
              (let inside : k < length cells = omega (arith, low, long) in
              let below : k < cell_count O = omega (arith, low, count) in
              let apart : k ≢ n = λ e. absurd (omega (arith, e, low)) in
              b.kept k below apart ∙ same.cells k ∙ listed_at (open_cells N f) k ∙ slice_get-append_left cells (plain ∷ []) k inside
              ∙ sym (slice_get-append_left cells (own ∷ status_cells N f rs) k inside))
          | inr past ↦ elim (cases_lt n k) [
            | inl more ↦
                (let j : ℕ = k - (n + 1) in
                let is : cell_count O + j ≡ k = omega (arith, more, count) in
                let place : k ≡ length cells + suc j = omega (arith, more, long) in
                ap (cell_at M) (sym is) ∙ b.added j ∙ ap (λ (cs : List CellView). slice_get cs j) (cells_are N O names f rs same count)
                ∙ sym (slice_get-append_right cells (own ∷ status_cells N f rs) k (suc j) place))
            | inr less ↦
                (let is : n ≡ k = omega (arith, past, less) in
                let place : n ≡ length cells + 0 = omega (arith, long) in
                ap (cell_at M) (sym is) ∙ b.gate plain (buffer_there N O names f same)
                ∙ ap (λ (net : NetId). Some (through_cell N f (Net net))) (shown_is N O names f rs same)
                ∙ sym (slice_get-append_right cells (own ∷ status_cells N f rs) n 0 place) ∙ ap (slice_get (all_cells N f rs)) is)
          ]
        ]
