-- A plan with other pin lines, another kind of control cells and the version that its usercode wants. Own.
use Rattle.std.specs.Prelude.{◌≡◌, List, [], ◌∷◌}
use Rattle.cell_library.specs.declared.codes.BoundaryKind.{BoundaryKind}
use Rattle.word_cutter.specs.Rows.{IsWord}
use Rattle.plan_texts.specs.declared.plan.PinLine.{PinLine}
use Rattle.plan_texts.specs.declared.plan.Plan.{Plan}
use Rattle.plan_texts.specs.Grammar.{IsControl}
use Rattle.plan_texts.specs.Canonical.{IsPlan}
use Rattle.strip_model.specs.Plans.{version_for}

abbrev pub with_lines : Plan → BoundaryKind → List PinLine → Plan
with_lines p kind lines = record p { version = version_for p.usercode; control = kind; pins = lines }

-- other lines with the pins and the cells of these, whose words can stand in a line
abbrev pub AreLines : List PinLine → List PinLine → Type 0
AreLines [] [] = Unit {0}
AreLines [] (new ∷ lines) = ⊥
AreLines (old ∷ olds) [] = ⊥
AreLines (old ∷ olds) (new ∷ lines) = (new.pin ≡ old.pin) × (new.cell ≡ old.cell) × IsWord new.port × AreLines olds lines

-- the plan with these is spelled too
abbrev pub OtherLinesSpell : Type 0
OtherLinesSpell = (p : Plan) (kind : BoundaryKind) (lines : List PinLine) → IsPlan p → IsControl kind → AreLines p.pins lines → IsPlan (with_lines p kind lines)
