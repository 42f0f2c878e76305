-- What is read as a port's run are its assigns.
use Rattle.std.proofs.Common.{◌≡◌, ℕ, suc, Bool, true, false, List, [], ◌∷◌, ◌++◌, map, drop, length, Option, Some, None, refl, sym, ap, subst, ◌∙◌, eqb-true, if◌then◌else◌, ◌==◌}
use Rattle.std.specs.Prelude.{option_and_then}
use Rattle.std.specs.Str.{bytes_eq}
use Rattle.std.proofs.lemmas.Slice.Eq.{bytes_eq-Decides}
use Rattle.list_laws.proofs.Tests.{and_left, and_right}
use Rattle.verilog_tree.specs.declared.tree.Bit.{Bit}
use Rattle.verilog_tree.specs.declared.tree.Operand.{Operand}
use Rattle.verilog_tree.specs.declared.tree.Operand.TheVariants as operand
use Rattle.verilog_tree.specs.declared.tree.Instance.{Instance}
use Rattle.verilog_tree.specs.declared.tree.Item.{Item}
use Rattle.verilog_tree.specs.declared.tree.Item.TheVariants as item
use Rattle.verilog_tree.specs.declared.tree.Module.{Module}
use Rattle.link_model.specs.Nets.{width}
use Rattle.box_model.specs.declared.boxes.BoxPort.{BoxPort}
use Rattle.box_model.specs.declared.boxes.BoxDir.{BoxDir}
use Rattle.box_model.specs.declared.boxes.BoxDir.TheVariants.{Takes, Gives}
use Rattle.box_model.specs.Ports.{hidden_name, hidden_bits}
use Rattle.box_model.specs.Opened.{assign_by, assigns}
use Rattle.box_model.specs.Closed.{same_index, same_bit, other_side, and_more, run_of, times_named, own_run, are_bits}
use Rattle.box_model.proofs.Runs.{CanBeLinked, AllLinked}

index_is : (a b : Option ℕ) → same_index a b ≡ true → a ≡ b
index_is None None h = refl
index_is None (Some b) h = absurd (cc)
index_is (Some a) None h = absurd (cc)
index_is (Some a) (Some b) h = ap Some (eqb-true a b h)

pub bit_is : (a b : Bit) → same_bit a b ≡ true → a ≡ b
bit_is a b h =
    let net = (bytes_eq-Decides a.net b.net).0 (and_left (bytes_eq a.net b.net) (same_index a.index b.index) h) in
    let index = index_is a.index b.index (and_right (bytes_eq a.net b.net) (same_index a.index b.index) h) in
    let by_net : List ℕ → Bit = λ n. record { net = n; index = a.index } in
    let by_index : Option ℕ → Bit = λ k. record { net = b.net; index = k } in
    ap by_net net ∙ ap by_index index

pub bits_are : (bits : List Bit) (os : List Operand) → are_bits bits os ≡ true → map (λ b. operand.Bit b) bits ≡ os
bits_are [] [] h = refl
bits_are [] (operand.Bit c ∷ os) h = absurd (cc)
bits_are [] (operand.Const value ∷ os) h = absurd (cc)
bits_are (b ∷ bits) [] h = absurd (cc)
bits_are (b ∷ bits) (operand.Const value ∷ os) h = absurd (cc)
bits_are (b ∷ bits) (operand.Bit c ∷ os) h =
    ap (λ (x : Bit). operand.Bit x ∷ map (λ y. operand.Bit y) bits) (bit_is b c (and_left (same_bit b c) (are_bits bits os) h))
    ∙ ap (λ (xs : List Operand). operand.Bit c ∷ xs) (bits_are bits os (and_right (same_bit b c) (are_bits bits os) h))

-- an item with this other side is the bit's assign
record IsSide (d : BoxDir) (b : Bit) (x : Item) (o : Operand) : Type 0 where
  is : assign_by d b o ≡ x ∷ []
  linked : CanBeLinked d o

side_is : (d : BoxDir) (b : Bit) (x : Item) (o : Operand) → other_side d b x ≡ Some o → IsSide d b x o
side_is Takes b (item.Gate g) o h = absurd (cc)
side_is Gives b (item.Gate g) o h = absurd (cc)
side_is Takes b (item.Instance i) o h = absurd (cc)
side_is Gives b (item.Instance i) o h = absurd (cc)
side_is Takes b (item.Assign output input) o h = by (same_bit output b) refl h
  where
    by : (t : Bool) → same_bit output b ≡ t → (if t then Some input else None) ≡ Some o → IsSide Takes b (item.Assign output input) o
    by true e k = let it : o ≡ input = cc in record { is = ap (λ (y : Operand). item.Assign b y ∷ []) it ∙ ap (λ (c : Bit). item.Assign c input ∷ []) (sym (bit_is output b e)); linked = tt }
    by false e k = absurd (cc)
side_is Gives b (item.Assign output (operand.Const value)) o h = absurd (cc)
side_is Gives b (item.Assign output (operand.Bit c)) o h = by (same_bit c b) refl h
  where
    by : (t : Bool) → same_bit c b ≡ t → (if t then Some (operand.Bit output) else None) ≡ Some o → IsSide Gives b (item.Assign output (operand.Bit c)) o
    by true e k =
        let it : operand.Bit output ≡ o = cc in
        subst (IsSide Gives b (item.Assign output (operand.Bit c))) it (record { is = ap (λ (a : Bit). item.Assign output (operand.Bit a) ∷ []) (sym (bit_is c b e)); linked = tt })
    by false e k = absurd (cc)

-- a run's items are the assigns, as many as bits
pub record IsRun (d : BoxDir) (bs : List Bit) (items : List Item) (os : List Operand) : Type 0 where
  pub is : assigns d bs os ++ drop (length os) items ≡ items
  pub linked : AllLinked d os
  pub wide : length os ≡ length bs

run_is : (d : BoxDir) (bs : List Bit) (items : List Item) (os : List Operand) → run_of d bs items ≡ Some os → IsRun d bs items os
run_is d [] items os h = let it : [] ≡ os = cc in subst (IsRun d [] items) it (record { is = refl; linked = tt; wide = refl })
run_is d (b ∷ bs) [] os h = absurd (cc)
run_is d (b ∷ bs) (x ∷ items) os h = by (other_side d b x) refl (run_of d bs items) (λ more e. run_is d bs items more e) refl h
  where
    by : (s : Option Operand) → other_side d b x ≡ s → (r : Option (List Operand)) → ((more : List Operand) → run_of d bs items ≡ Some more → IsRun d bs items more) → run_of d bs items ≡ r
        → option_and_then (λ o. and_more o r) s ≡ Some os → IsRun d (b ∷ bs) (x ∷ items) os
    by None e r rest f k = absurd (cc)
    by (Some o) e None rest f k = absurd (cc)
    by (Some o) e (Some more) rest f k =
        let it : o ∷ more ≡ os = cc in
        let side = side_is d b x o e in
        let tail = rest more f in
        subst (IsRun d (b ∷ bs) (x ∷ items)) it (record {
          is = ap (λ (xs : List Item). (xs ++ assigns d bs more) ++ drop (length more) items) side.is ∙ ap (λ (xs : List Item). x ∷ xs) tail.is;
          linked = (side.linked, tail.linked);
          wide = ap suc tail.wide;
        })

-- the same of a run that is a port's own
pub record IsOwnRun (m : Module) (i : Instance) (p : BoxPort) (items : List Item) (os : List Operand) : Type 0 where
  pub run : IsRun p.dir (hidden_bits i p) items os
  pub alone : times_named m (hidden_name i.name p.name) ≡ width p.range

pub own_run_is : (m : Module) (i : Instance) (p : BoxPort) (items : List Item) (os : List Operand) → own_run m i p items ≡ Some os → IsOwnRun m i p items os
own_run_is m i p items os h = by (times_named m (hidden_name i.name p.name) == width p.range) refl h
  where
    by : (t : Bool) → (times_named m (hidden_name i.name p.name) == width p.range) ≡ t → (if t then run_of p.dir (hidden_bits i p) items else None) ≡ Some os → IsOwnRun m i p items os
    by true e k = record { run = run_is p.dir (hidden_bits i p) items os k; alone = eqb-true (times_named m (hidden_name i.name p.name)) (width p.range) e }
    by false e k = absurd (cc)
