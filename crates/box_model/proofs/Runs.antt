-- The assigns of a port are read back as they were written.
use Rattle.std.proofs.Common.{◌≡◌, ℕ, true, List, [], ◌∷◌, ◌++◌, Option, Some, None, length, refl, eq-eqb}
use Rattle.list_laws.proofs.Bytes.{bytes_eq-same}
use Rattle.verilog_tree.specs.declared.tree.Bit.{Bit}
use Rattle.verilog_tree.specs.declared.tree.Operand.{Operand}
use Rattle.verilog_tree.specs.declared.tree.Operand.TheVariants as operand
use Rattle.verilog_tree.specs.declared.tree.Item.{Item}
use Rattle.box_model.specs.declared.boxes.BoxDir.{BoxDir}
use Rattle.box_model.specs.declared.boxes.BoxDir.TheVariants.{Takes, Gives}
use Rattle.box_model.specs.Opened.{assigns}
use Rattle.box_model.specs.Closed.{same_index, same_bit, run_of}

same_index_self : (index : Option ℕ) → same_index index index ≡ true
same_index_self None = refl
same_index_self (Some k) = eq-eqb k k refl

pub same_bit_self : (b : Bit) → same_bit b b ≡ true
same_bit_self b = rw (bytes_eq-same b.net) (same_index_self b.index)

-- what a box gives goes to bits alone
abbrev pub CanBeLinked : BoxDir → Operand → Type 0
CanBeLinked Gives (operand.Bit b) = Unit {0}
CanBeLinked Gives (operand.Const value) = ⊥
CanBeLinked Takes o = Unit {0}

abbrev pub AllLinked : BoxDir → List Operand → Type 0
AllLinked d [] = Unit {0}
AllLinked d (o ∷ os) = CanBeLinked d o × AllLinked d os

-- the other sides of a port's assigns, whatever stands behind them
pub run_of_assigns : (d : BoxDir) (bs : List Bit) (os : List Operand) (more : List Item) → AllLinked d os → length os ≡ length bs
    → run_of d bs (assigns d bs os ++ more) ≡ Some os
run_of_assigns d [] [] more all same = refl
run_of_assigns d [] (o ∷ os) more all same = absurd (cc)
run_of_assigns d (b ∷ bs) [] more all same = absurd (cc)
run_of_assigns Gives (b ∷ bs) (operand.Bit c ∷ os) more all same =
    rw (same_bit_self b, run_of_assigns Gives bs os more all.1 (cc)) refl
run_of_assigns Gives (b ∷ bs) (operand.Const value ∷ os) more all same = absurd all.0
run_of_assigns Takes (b ∷ bs) (o ∷ os) more all same =
    rw (same_bit_self b, run_of_assigns Takes bs os more all.1 (cc)) refl
