use Rattle.std.proofs.Common.{◌≡◌, ◌∙◌, ℕ, ◌<◌, Bool, true, false, if◌then◌else◌, List, length, Option, Some, None, refl, ap, sym, subst, arith}
use Rattle.std.specs.Prelude.{slice_get}
use Rattle.std.proofs.lemmas.Option.{slice_get_read}
use Rattle.list_laws.proofs.Lists.{slice_get_there}
use Rattle.verilog_tree.specs.declared.tree.Module.{Module}
use Rattle.hier_model.specs.Faults.{holds_itself}
use Rattle.hier_counts.specs.Marked.{first_marked}
use Rattle.hier_counts.proofs.Marks.{marked_on, marked_here}
use Rattle.hier_counts.proofs.Reached.{held_there}
use Rattle.hier_counts.proofs.recursion.find_recursive.Goals.{else-marks-place-via-then-marks-place+in_ok-holds_itself+else-branch, else-marks-place-via-else-marks-place}
use Rattle.hier_counts.proofs.recursion.find_recursive.Goals as goal

pub returns-then-branch : goal.returns-then-branch
returns-then-branch c =
    let table = c.args.table.now in
    let modules = c.as_slice-modules.result.now in
    let marks = c.args.marks.now in
    let k = c.loop-place.place in
    let m = c.index-modules-place.result in
    let test : Module → Option (List ℕ) = λ x. if holds_itself table x then Some x.name else None in
    let same = c.as_slice-modules.ensures in
    let inside : k < length table = subst (λ (l : List Module). k < length l) same c.loop-place-test.true in
    let low : k < length marks = omega (arith, inside, c.requires.marks) in
    let at : slice_get table k ≡ Some m = ap (λ (l : List Module). slice_get l k) (sym same) ∙ slice_get_read modules (length modules) k m refl c.loop-place-test.true c.index-modules-place.is in
    let holds : holds_itself table m ≡ true = held_there table k m c.in_ok-holds_itself.field-0 at c.in_ok-holds_itself.ensures ∙ c.if-branch.true in
    let some : test m ≡ Some m.name = ap (λ (b : Bool). if b then Some m.name else None) holds in
    ap (λ (name : List ℕ). Some name) (c.as_bytes.ensures ∙ ap (λ (x : Module). x.name) (sym c.index-modules-place.is))
    ∙ marked_here test marks table k m m.name (first_marked test marks table) low at c.loop-place.invariant c.if-marks-place.true some

pub loop-place-preserved : goal.loop-place-preserved
loop-place-preserved c =
    let table = c.args.table.now in
    let marks = c.args.marks.now in
    let k = c.loop-place.place in
    let test : Module → Option (List ℕ) = λ x. if holds_itself table x then Some x.name else None in
    let inside : k < length table = subst (λ (l : List Module). k < length l) c.as_slice-modules.ensures c.loop-place-test.true in
    let low : k < length marks = omega (arith, inside, c.requires.marks) in
    let t = slice_get_there table k inside in
    elim c.else-marks-place.branch [
      | else-marks-place-via-then-marks-place+in_ok-holds_itself+else-branch w ↦
          let clear : holds_itself table t.0 ≡ false = held_there table k t.0 w.in_ok-holds_itself.field-0 t.1 w.in_ok-holds_itself.ensures ∙ w.if-branch.false in
          marked_on test marks table k t.0 (first_marked test marks table) low t.1 c.loop-place.invariant (λ mark. ap (λ (b : Bool). if b then Some t.0.name else None) clear)
      | else-marks-place-via-else-marks-place w ↦
          marked_on test marks table k t.0 (first_marked test marks table) low t.1 c.loop-place.invariant (λ mark. absurd (let no : true ≡ false = sym mark ∙ w.if-marks-place.false in cc))
    ]
