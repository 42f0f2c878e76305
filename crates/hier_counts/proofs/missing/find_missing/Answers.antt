use Rattle.std.proofs.Common.{◌≡◌, ◌∙◌, ℕ, ◌<◌, true, false, List, length, Option, Some, None, refl, ap, sym, subst, arith}
use Rattle.std.specs.Prelude.{slice_get}
use Rattle.std.proofs.lemmas.Option.{slice_get_read}
use Rattle.texts.specs.First.{first_in}
use Rattle.list_laws.proofs.Lists.{slice_get_there}
use Rattle.verilog_tree.specs.declared.tree.Module.{Module}
use Rattle.hier_model.specs.Faults.{missing_cell}
use Rattle.hier_counts.specs.Marked.{first_marked}
use Rattle.hier_counts.proofs.Marks.{marked_on}
use Rattle.hier_counts.proofs.missing.find_missing.Goals.{then-reached-place+in-None, else-reached-place}
use Rattle.hier_counts.proofs.missing.find_missing.Goals as goal

pub loop-place-preserved : goal.loop-place-preserved
loop-place-preserved c =
    let table = c.args.table.now in
    let modules = c.as_slice-modules.result.now in
    let marks = c.args.reached.now in
    let k = c.loop-place.place in
    let test : Module → Option (List ℕ) = λ m. first_in (missing_cell c.args.cells.now table) m.items in
    let all : Option (List ℕ) = first_marked test marks table in
    let same = c.as_slice-modules.ensures in
    let inside : k < length table = subst (λ (l : List Module). k < length l) same c.loop-place-test.true in
    let low : k < length marks = omega (arith, inside, c.requires) in
    elim c.if-reached-place.branch [
      | then-reached-place+in-None w ↦
          let m = w.index-modules-place.result in
          let at : slice_get table k ≡ Some m = ap (λ (l : List Module). slice_get l k) (sym same) ∙ slice_get_read modules (length modules) k m refl c.loop-place-test.true w.index-modules-place.is in
          let none : test m ≡ None = ap test w.index-modules-place.is ∙ ap (first_in (missing_cell c.args.cells.now table)) (sym w.as_slice.ensures) ∙ sym w.in-None.ensures in
          marked_on test marks table k m all low at c.loop-place.invariant (λ mark. none)
      | else-reached-place w ↦
          let t = slice_get_there table k inside in
          marked_on test marks table k t.0 all low t.1 c.loop-place.invariant (λ mark. absurd (let no : true ≡ false = sym mark ∙ w.if-reached-place.false in cc))
    ]
