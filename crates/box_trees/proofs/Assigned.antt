-- Operands of links by their places, and the assigns of bits.
use Rattle.std.proofs.Common.{◌≡◌, ◌⊎◌, inl, inr, ℕ, zero, suc, ◌+◌, ◌<◌, ◌≤◌, min, Bool, true, false, if◌then◌else◌, List, [], ◌∷◌, ◌++◌, length, map, drop, Option, Some, None, refl, sym, ap, ◌∙◌, arith, append_assoc, append-nil}
use Rattle.std.specs.Prelude.{slice_get, ◌==◌}
use Rattle.std.specs.Option.{option_map}
use Rattle.std.proofs.lemmas.List.{length-map}
use Rattle.list_laws.proofs.Options.{none_some}
use Rattle.list_laws.proofs.Lists.{left_at, none_left}
use Rattle.list_laws.proofs.Numbers.{below_or_not}
use Rattle.verilog_tree.specs.declared.tree.Range.{Range}
use Rattle.verilog_tree.specs.declared.tree.Bit.{Bit}
use Rattle.verilog_tree.specs.declared.tree.Operand.{Operand}
use Rattle.verilog_tree.specs.declared.tree.Operand.TheVariants as operand
use Rattle.verilog_tree.specs.declared.tree.Item.{Item}
use Rattle.verilog_tree.specs.declared.tree.Module.{Module}
use Rattle.link_model.specs.Nets.{Declared, width, declared_as, declared_names}
use Rattle.box_model.specs.declared.boxes.BoxPort.{BoxPort}
use Rattle.box_model.specs.declared.boxes.BoxDir.{BoxDir}
use Rattle.box_model.specs.Ports.{bits_of}
use Rattle.box_model.specs.Opened.{whole_bits, link_bits, assign_by, assigns}
use Rattle.box_tables.specs.Nets.{range_named}
use Rattle.box_trees.specs.Opening.{whole_range}
use Rattle.box_tables.proofs.Bits.{length-bits_of}
use Rattle.box_trees.proofs.Ranges.{declared_range}

-- Operands.

-- by the range of the vector that a link is
abbrev spread_by : Operand → Option (Option Range) → List Operand
spread_by (operand.Const value) r = operand.Const value ∷ []
spread_by (operand.Bit b) None = operand.Bit b ∷ []
spread_by (operand.Bit b) (Some r) = map (λ (c : Bit). operand.Bit c) (bits_of b.net r)

spread_declared : (b : Bit) (d : Option Declared) (r : Option (Option Range)) → option_map (λ (x : Declared). x.range) d ≡ r → whole_bits b d ≡ spread_by (operand.Bit b) r
spread_declared b None None e = refl
spread_declared b None (Some r) e = none_some e
spread_declared b (Some d) None e = none_some (sym e)
spread_declared b (Some d) (Some r) e = let same : d.range ≡ r = cc in ap (λ (x : Option Range). map (λ (c : Bit). operand.Bit c) (bits_of b.net x)) same

spread_is : (m : Module) (p : BoxPort) (o : Operand) → link_bits m p o ≡ spread_by o (whole_range m p o)
spread_is m p (operand.Const value) = refl
spread_is m p (operand.Bit b) = by (width p.range == 1)
  where
    by : (narrow : Bool) → (if narrow then operand.Bit b ∷ [] else whole_bits b (declared_as (declared_names m) b.net)) ≡ spread_by (operand.Bit b) (if narrow then None else range_named m b.net)
    by true = refl
    by false = spread_declared b (declared_as (declared_names m) b.net) (range_named m b.net) (declared_range m b.net)

spread_none : (m : Module) (p : BoxPort) (o : Operand) → whole_range m p o ≡ None → link_bits m p o ≡ o ∷ []
spread_none m p o none = spread_is m p o ∙ ap (spread_by o) none ∙ by o
  where
    by : (o : Operand) → spread_by o None ≡ o ∷ []
    by (operand.Const value) = refl
    by (operand.Bit b) = refl

spread_some : (m : Module) (p : BoxPort) (b : Bit) (range : Option Range) → whole_range m p (operand.Bit b) ≡ Some range → link_bits m p (operand.Bit b) ≡ map (λ (c : Bit). operand.Bit c) (bits_of b.net range)
spread_some m p b range some = spread_is m p (operand.Bit b) ∙ ap (spread_by (operand.Bit b)) some

pub length-spread_some : (m : Module) (p : BoxPort) (o : Operand) (range : Option Range) → whole_range m p o ≡ Some range → length (link_bits m p o) ≡ width range
length-spread_some m p (operand.Const value) range some = none_some some
length-spread_some m p (operand.Bit b) range some =
    ap (λ (os : List Operand). length os) (spread_some m p b range some) ∙ length-map (bits_of b.net range) (λ (c : Bit). operand.Bit c) ∙ length-bits_of b.net range

pub length-spread_none : (m : Module) (p : BoxPort) (o : Operand) → whole_range m p o ≡ None → length (link_bits m p o) ≡ 1
length-spread_none m p o none = ap (λ (os : List Operand). length os) (spread_none m p o none)

-- an operand that is one bit, at its only place
pub one_there : (m : Module) (p : BoxPort) (o made : Operand) (k : ℕ) → whole_range m p o ≡ None → k < length (link_bits m p o) → made ≡ o → slice_get (link_bits m p o) k ≡ Some made
one_there m p o made k none low is =
    let one : k ≡ 0 = (let long = length-spread_none m p o none in omega (arith, low, long)) in
    ap (λ (os : List Operand). slice_get os k) (spread_none m p o none)
    ∙ ap (slice_get (o ∷ [])) one
    ∙ ap (λ (x : Operand). Some x) (sym is)

mapped_bits : (bs : List Bit) (k : ℕ) (bit : Bit) → slice_get bs k ≡ Some bit → slice_get (map (λ (c : Bit). operand.Bit c) bs) k ≡ Some (operand.Bit bit)
mapped_bits [] k bit is = none_some is
mapped_bits (b ∷ bs) zero bit is = let same : b ≡ bit = cc in ap (λ (x : Bit). Some (operand.Bit x)) same
mapped_bits (b ∷ bs) (suc k) bit is = mapped_bits bs k bit is

-- one that is a whole vector, at each place
pub whole_there : (m : Module) (p : BoxPort) (b bit : Bit) (range : Option Range) (k : ℕ) → whole_range m p (operand.Bit b) ≡ Some range → slice_get (bits_of b.net range) k ≡ Some bit
    → slice_get (link_bits m p (operand.Bit b)) k ≡ Some (operand.Bit bit)
whole_there m p b bit range k some is = ap (λ (os : List Operand). slice_get os k) (spread_some m p b range some) ∙ mapped_bits (bits_of b.net range) k bit is

-- Assigns, one place after another.

assigns_next : (d : BoxDir) (bs : List Bit) (os : List Operand) (k : ℕ) (b : Bit) (o : Operand) → slice_get bs k ≡ Some b → slice_get os k ≡ Some o
    → assigns d (drop k bs) (drop k os) ≡ assign_by d b o ++ assigns d (drop (suc k) bs) (drop (suc k) os)
assigns_next d bs os k b o out into =
    ap (λ (l : List Bit). assigns d l (drop k os)) (left_at bs k b out) ∙ ap (assigns d (b ∷ drop (suc k) bs)) (left_at os k o into)

assigns_none : (d : BoxDir) (bs : List Bit) → assigns d bs [] ≡ []
assigns_none d [] = refl
assigns_none d (b ∷ bs) = refl

assigns_end : (d : BoxDir) (bs : List Bit) (os : List Operand) (k : ℕ) → min (length bs) (length os) ≤ k → assigns d (drop k bs) (drop k os) ≡ []
assigns_end d bs os k low = by (below_or_not k (length bs))
  where
    by : (k < length bs) ⊎ (length bs ≤ k) → assigns d (drop k bs) (drop k os) ≡ []
    by (inl inside) = ap (assigns d (drop k bs)) (none_left os k (omega (arith, low, inside))) ∙ assigns_none d (drop k bs)
    by (inr past) = ap (λ (l : List Bit). assigns d l (drop k os)) (none_left bs k past)

pub assign_step : (d : BoxDir) (bs : List Bit) (os : List Operand) (k : ℕ) (b : Bit) (o : Operand) (old new all : List Item) → slice_get bs k ≡ Some b → slice_get os k ≡ Some o
    → old ++ assigns d (drop k bs) (drop k os) ≡ all → new ≡ old ++ assign_by d b o → new ++ assigns d (drop (k + 1) bs) (drop (k + 1) os) ≡ all
assign_step d bs os k b o old new all out into was is =
    let rest : List Item = assigns d (drop (suc k) bs) (drop (suc k) os) in
    let more : k + 1 ≡ suc k = omega arith in
    ap (λ (n : ℕ). new ++ assigns d (drop n bs) (drop n os)) more
    ∙ ap (λ (l : List Item). l ++ rest) is
    ∙ append_assoc old (assign_by d b o) rest
    ∙ ap (λ (l : List Item). old ++ l) (sym (assigns_next d bs os k b o out into))
    ∙ was

pub assign_end : (d : BoxDir) (bs : List Bit) (os : List Operand) (k : ℕ) (old all : List Item) → min (length bs) (length os) ≤ k → old ++ assigns d (drop k bs) (drop k os) ≡ all → old ≡ all
assign_end d bs os k old all low was = sym (append-nil old) ∙ ap (λ (l : List Item). old ++ l) (sym (assigns_end d bs os k low)) ∙ was

-- as many places as both sides have
pub count_is : (m : Module) (name : List ℕ) (p : BoxPort) (o : Operand) (w n count : ℕ) → w ≡ width p.range → n ≡ length (link_bits m p o) → count ≡ min w n → min (length (bits_of name p.range)) (length (link_bits m p o)) ≡ count
count_is m name p o w n count wide many is = let bits = length-bits_of name p.range in omega (arith, bits, wide, many, is)
