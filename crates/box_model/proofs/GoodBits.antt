-- Operands of a module that denotes a netlist have their bits in the closed module.
use Rattle.std.proofs.Common.{◌≡◌, ℕ, Bool, true, false, not, ◌&&◌, List, [], ◌∷◌, ◌++◌, drop, length, Option, Some, None, refl, sym, ap, subst, ◌∙◌, eq-eqb, if◌then◌else◌, ◌==◌}
use Rattle.std.specs.Prelude.{option_and_then}
use Rattle.std.specs.List.{AllByRecursion}
use Rattle.std.specs.Option.{option_map_or}
use Rattle.std.proofs.lemmas.List.{length-map}
use Rattle.list_laws.proofs.Lists.{all_front}
use Rattle.list_laws.proofs.Options.{or_else-parts}
use Rattle.verilog_tree.specs.declared.tree.Range.{Range}
use Rattle.verilog_tree.specs.declared.tree.Bit.{Bit}
use Rattle.verilog_tree.specs.declared.tree.Operand.{Operand}
use Rattle.verilog_tree.specs.declared.tree.Operand.TheVariants as operand
use Rattle.verilog_tree.specs.declared.tree.Instance.{Instance}
use Rattle.verilog_tree.specs.declared.tree.Item.{Item}
use Rattle.verilog_tree.specs.declared.tree.Item.TheVariants as item
use Rattle.verilog_tree.specs.declared.tree.Module.{Module}
use Rattle.cell_library.specs.declared.listed.ListedCell.{ListedCell}
use Rattle.link_model.specs.Lists.{or_else, first_in}
use Rattle.link_model.specs.Nets.{Declared, declared_names, declared_as, width, is_within}
use Rattle.link_model.specs.Faults.{operand_bits, item_bits, name_unknown, bit_outside, wrong_width, at_bit, first_bit, bit_faults, name_twice, too_many_in, instance_faults, item_width, text_fault}
use Rattle.link_model.specs.declared.fault.LinkFault.TheVariants as fault
use Rattle.box_model.specs.declared.boxes.BoxPort.{BoxPort}
use Rattle.box_model.specs.declared.boxes.BoxDir.{BoxDir}
use Rattle.box_model.specs.declared.boxes.BoxDir.TheVariants.{Takes, Gives}
use Rattle.box_model.specs.Ports.{hidden_bits, bits_of}
use Rattle.box_model.specs.Opened.{assigns}
use Rattle.box_model.specs.Closed.{are_bits, whole_if, joint}
use Rattle.box_model.specs.Faults.{gives, holds_index, fits_net, fits_operand}
use Rattle.box_model.proofs.Runs.{CanBeLinked, AllLinked}
use Rattle.box_model.proofs.LinkFits.{length-bits_of, SameRange, range_there}
use Rattle.box_model.proofs.Reruns.{bits_are}

-- a bit is one of what is declared
abbrev pub fits_bit : Option ℕ → Declared → Bool
fits_bit None d = width d.range == 1
fits_bit (Some k) d = holds_index d.range k

abbrev pub IsGoodBit : Module → Bit → Type 0
IsGoodBit m b = option_map_or (fits_bit b.index) (declared_as (declared_names m) b.net) false ≡ true

abbrev pub IsGoodItem : Module → Item → Type 0
IsGoodItem m (item.Assign output input) = AllByRecursion (IsGoodBit m) (output ∷ operand_bits input)
IsGoodItem m (item.Gate g) = Unit {0}
IsGoodItem m (item.Instance i) = Unit {0}

good_bit : (m : Module) (b : Bit) → at_bit name_unknown (declared_names m) b ≡ None → at_bit bit_outside (declared_names m) b ≡ None → at_bit wrong_width (declared_names m) b ≡ None → IsGoodBit m b
good_bit m b known within wide = by (declared_as (declared_names m) b.net) b.index known within wide
  where
    told : (r : Range) (k : ℕ) → (if is_within r k then None else Some (fault.BitOutside b.net k)) ≡ None → is_within r k ≡ true
    told r k h = pick (is_within r k) h
      where
        pick : (t : Bool) → (if t then None else Some (fault.BitOutside b.net k)) ≡ None → t ≡ true
        pick true e = refl
        pick false e = absurd (cc)

    narrow : (r : Range) → (if width (Some r) == 1 then None else Some (fault.WrongWidth b.net)) ≡ None → (width (Some r) == 1) ≡ true
    narrow r h = pick (width (Some r) == 1) h
      where
        pick : (t : Bool) → (if t then None else Some (fault.WrongWidth b.net)) ≡ None → t ≡ true
        pick true e = refl
        pick false e = absurd (cc)

    by : (o : Option Declared) (k : Option ℕ) → name_unknown (record { net = b.net; index = k }) o ≡ None → bit_outside (record { net = b.net; index = k }) o ≡ None → wrong_width (record { net = b.net; index = k }) o ≡ None
        → option_map_or (fits_bit k) o false ≡ true
    by None k one two three = absurd (cc)
    by (Some d) k one two three = ranged d.first d.range k two three
      where
        ranged : (first : ℕ) (r : Option Range) (j : Option ℕ) → bit_outside (record { net = b.net; index = j }) (Some (record { first = first; range = r })) ≡ None
            → wrong_width (record { net = b.net; index = j }) (Some (record { first = first; range = r })) ≡ None → fits_bit j (record { first = first; range = r }) ≡ true
        ranged first None None inside scalar = refl
        ranged first None (Some j) inside scalar = absurd (cc)
        ranged first (Some r) None inside scalar = narrow r scalar
        ranged first (Some r) (Some j) inside scalar = told r j inside

good_bits : (m : Module) (bits : List Bit) → first_in (at_bit name_unknown (declared_names m)) bits ≡ None → first_in (at_bit bit_outside (declared_names m)) bits ≡ None
    → first_in (at_bit wrong_width (declared_names m)) bits ≡ None → AllByRecursion (IsGoodBit m) bits
good_bits m [] known within wide = tt
good_bits m (b ∷ bits) known within wide =
    let one = or_else-parts (at_bit name_unknown (declared_names m) b) (first_in (at_bit name_unknown (declared_names m)) bits) known in
    let two = or_else-parts (at_bit bit_outside (declared_names m) b) (first_in (at_bit bit_outside (declared_names m)) bits) within in
    let three = or_else-parts (at_bit wrong_width (declared_names m) b) (first_in (at_bit wrong_width (declared_names m)) bits) wide in
    (good_bit m b one.0 two.0 three.0, good_bits m bits one.1 two.1 three.1)

good_items : (library : List ListedCell) (m : Module) (items : List Item) → first_in (λ i. first_in (at_bit name_unknown (declared_names m)) (item_bits i)) items ≡ None
    → first_in (λ i. first_in (at_bit bit_outside (declared_names m)) (item_bits i)) items ≡ None → first_in (item_width library (declared_names m)) items ≡ None → AllByRecursion (IsGoodItem m) items
good_items library m [] known within wide = tt
good_items library m (x ∷ items) known within wide =
    let names = declared_names m in
    let one = or_else-parts (first_in (at_bit name_unknown names) (item_bits x)) (first_in (λ i. first_in (at_bit name_unknown names) (item_bits i)) items) known in
    let two = or_else-parts (first_in (at_bit bit_outside names) (item_bits x)) (first_in (λ i. first_in (at_bit bit_outside names) (item_bits i)) items) within in
    let three = or_else-parts (item_width library names x) (first_in (item_width library names) items) wide in
    (good x one.0 two.0 three.0, good_items library m items one.1 two.1 three.1)
  where
    good : (y : Item) → first_in (at_bit name_unknown (declared_names m)) (item_bits y) ≡ None → first_in (at_bit bit_outside (declared_names m)) (item_bits y) ≡ None → item_width library (declared_names m) y ≡ None → IsGoodItem m y
    good (item.Gate g) one two three = tt
    good (item.Instance i) one two three = tt
    good (item.Assign output input) one two three = good_bits m (output ∷ operand_bits input) one two three

-- a module that denotes a netlist: its names stand once, and its assigns' bits are good
pub record Denotes (library : List ListedCell) (m : Module) : Type 0 where
  pub named : name_twice m ≡ None
  pub good : AllByRecursion (IsGoodItem m) m.items

pub denotes_of : (library : List ListedCell) (m : Module) → text_fault library m ≡ None → Denotes library m
denotes_of library m h =
    let widths = first_in (item_width library (declared_names m)) m.items in
    let one = or_else-parts (too_many_in m) (or_else (name_twice m) (or_else (bit_faults m) (or_else (instance_faults library m) widths))) h in
    let two = or_else-parts (name_twice m) (or_else (bit_faults m) (or_else (instance_faults library m) widths)) one.1 in
    let three = or_else-parts (bit_faults m) (or_else (instance_faults library m) widths) two.1 in
    let bits = or_else-parts (first_bit name_unknown m) (first_bit bit_outside m) three.0 in
    let four = or_else-parts (instance_faults library m) widths three.1 in
    record { named = two.0; good = good_items library m m.items bits.0 bits.1 four.1 }

-- Operands of a run.

abbrev pub IsGoodOperand : Module → Operand → Type 0
IsGoodOperand m (operand.Bit b) = IsGoodBit m b
IsGoodOperand m (operand.Const value) = Unit {0}

sides_good : (m : Module) (d : BoxDir) (bs : List Bit) (os : List Operand) → AllLinked d os → length os ≡ length bs → AllByRecursion (IsGoodItem m) (assigns d bs os) → AllByRecursion (IsGoodOperand m) os
sides_good m d [] [] linked wide all = tt
sides_good m d [] (o ∷ os) linked wide all = absurd (cc)
sides_good m d (b ∷ bs) [] linked wide all = tt
sides_good m Gives (b ∷ bs) (operand.Bit c ∷ os) linked wide all = (all.0.0, sides_good m Gives bs os linked.1 (cc) all.1)
sides_good m Gives (b ∷ bs) (operand.Const value ∷ os) linked wide all = absurd linked.0
sides_good m Takes (b ∷ bs) (operand.Bit c ∷ os) linked wide all = (all.0.1.0, sides_good m Takes bs os linked.1 (cc) all.1)
sides_good m Takes (b ∷ bs) (operand.Const value ∷ os) linked wide all = (tt, sides_good m Takes bs os linked.1 (cc) all.1)

pub run_good : (m : Module) (i : Instance) (p : BoxPort) (os : List Operand) (items : List Item) → AllLinked p.dir os → length os ≡ length (hidden_bits i p)
    → assigns p.dir (hidden_bits i p) os ++ drop (length os) items ≡ items → AllByRecursion (IsGoodItem m) items → AllByRecursion (IsGoodOperand m) os
run_good m i p os items linked wide is all =
    sides_good m p.dir (hidden_bits i p) os linked wide (all_front (IsGoodItem m) (assigns p.dir (hidden_bits i p) os) (drop (length os) items) (subst (AllByRecursion (IsGoodItem m)) (sym is) all))

-- What joins fits.

takes_const : (d : BoxDir) (value : Bool) → CanBeLinked d (operand.Const value) → not (gives d) ≡ true
takes_const Gives value can = absurd can
takes_const Takes value can = refl

holds_fits : (p : BoxPort) (k : Option ℕ) (d d' : Declared) → width p.range ≡ 1 → d'.range ≡ d.range → fits_bit k d ≡ true → fits_net p k d' ≡ true
holds_fits p None d d' one same fits = ap (λ (r : Option Range). width r == width p.range) same ∙ ap (λ (n : ℕ). width d.range == n) one ∙ fits
holds_fits p (Some k) d d' one same fits = ap (λ (b : Bool). b && holds_index d'.range k) (eq-eqb (width p.range) 1 one) ∙ ap (λ (r : Option Range). holds_index r k) same ∙ fits

pub joint_fits : (m c : Module) (p : BoxPort) (os : List Operand) (o : Operand) → AllLinked p.dir os → length os ≡ width p.range → AllByRecursion (IsGoodOperand m) os → (parted : Bool) → joint m parted os ≡ Some o → SameRange m c o
    → fits_operand c p o ≡ true
joint_fits m c p [] o linked wide good parted joins same = absurd (cc)
joint_fits m c p (x ∷ []) o linked wide good parted joins same = let it : x ≡ o = cc in subst (λ (y : Operand). fits_operand c p y ≡ true) it (single x linked.0 good.0 (subst (SameRange m c) (sym it) same))
  where
    single : (y : Operand) → CanBeLinked p.dir y → IsGoodOperand m y → SameRange m c y → fits_operand c p y ≡ true
    single (operand.Const value) can fits range = ap (λ (b : Bool). b && (width p.range == 1)) (takes_const p.dir value can) ∙ eq-eqb (width p.range) 1 (sym wide)
    single (operand.Bit b) can fits range = by (declared_as (declared_names m) b.net) refl fits
      where
        by : (d : Option Declared) → declared_as (declared_names m) b.net ≡ d → option_map_or (fits_bit b.index) d false ≡ true → option_map_or (fits_net p b.index) (declared_as (declared_names c) b.net) false ≡ true
        by None e k = absurd (cc)
        by (Some d) e k =
            let d' = range_there m c b.net d e range in
            ap (λ (q : Option Declared). option_map_or (fits_net p b.index) q false) d'.1 ∙ holds_fits p b.index d d'.0 (sym wide) d'.2 k
joint_fits m c p (x ∷ y ∷ os) o linked wide good true joins same = absurd (cc)
joint_fits m c p (operand.Const value ∷ y ∷ os) o linked wide good false joins same = absurd (cc)
joint_fits m c p (operand.Bit b ∷ y ∷ os) o linked wide good false joins same = by (declared_as (declared_names m) b.net) refl joins
  where
    chosen : (d : Declared) → declared_as (declared_names m) b.net ≡ Some d → (t : Bool) → are_bits (bits_of b.net d.range) (operand.Bit b ∷ y ∷ os) ≡ t
        → (if t then Some (operand.Bit (record { net = b.net; index = None })) else None) ≡ Some o → fits_operand c p o ≡ true
    chosen d there false e k = absurd (cc)
    chosen d there true e k =
        let whole : Bit = record { net = b.net; index = None } in
        let it : operand.Bit whole ≡ o = cc in
        let range = subst (SameRange m c) (sym it) same in
        let d' = range_there m c b.net d there range in
        let long : length (operand.Bit b ∷ y ∷ os) ≡ width d.range =
        ap (λ (xs : List Operand). length xs) (sym (bits_are (bits_of b.net d.range) (operand.Bit b ∷ y ∷ os) e)) ∙ length-map (bits_of b.net d.range) (λ (c2 : Bit). operand.Bit c2) ∙ length-bits_of b.net d.range in
        subst (λ (z : Operand). fits_operand c p z ≡ true) it
        (ap (λ (q : Option Declared). option_map_or (fits_net p None) q false) d'.1
        ∙ ap (λ (r : Option Range). width r == width p.range) d'.2
        ∙ eq-eqb (width d.range) (width p.range) (sym long ∙ wide))

    by : (d : Option Declared) → declared_as (declared_names m) b.net ≡ d → option_and_then (whole_if b.net (operand.Bit b ∷ y ∷ os)) d ≡ Some o → fits_operand c p o ≡ true
    by None e k = absurd (cc)
    by (Some d) e k = chosen d e (are_bits (bits_of b.net d.range) (operand.Bit b ∷ y ∷ os)) refl k
