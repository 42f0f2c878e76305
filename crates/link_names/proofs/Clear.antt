-- Where no test finds anything at the bits, each finds nothing.
use Rattle.std.proofs.Common.{◌≡◌, ℕ, List, [], ◌∷◌, Option, None, Some, is_none, true, refl}
use Rattle.list_laws.proofs.Options.{or_else-parts}
use Rattle.verilog_tree.specs.declared.tree.Bit.{Bit}
use Rattle.verilog_tree.specs.declared.tree.Item.{Item}
use Rattle.link_model.specs.Lists.{first_in}
use Rattle.link_model.specs.Nets.{Declared}
use Rattle.cell_library.specs.declared.listed.ListedCell.{ListedCell}
use Rattle.verilog_tree.specs.declared.tree.Instance.{Instance}
use Rattle.verilog_tree.specs.declared.tree.Item.TheVariants as item
use Rattle.link_model.specs.Faults.{item_bits, item_width, at_bit, name_unknown, bit_outside}
use Rattle.link_names.specs.declared.bits.BitTest.{BitTest}
use Rattle.link_names.specs.declared.bits.BitTest.TheVariants.{NameUnknown, BitOutside, WrongWidth, Any}
use Rattle.link_names.specs.Tests.{bit_test, first_at}

pub is_nothing : {X : Type 0} (o : Option X) → is_none o ≡ true → o ≡ None
is_nothing None h = refl
is_nothing (Some x) h = absurd (cc)

clear_bit : (test : BitTest) (names : List (List ℕ × Declared)) (bit : Bit) → at_bit (bit_test Any) names bit ≡ None → at_bit (bit_test test) names bit ≡ None
clear_bit NameUnknown names bit h = (or_else-parts (at_bit name_unknown names bit) _ h).0
clear_bit BitOutside names bit h = (or_else-parts (at_bit bit_outside names bit) _ (or_else-parts (at_bit name_unknown names bit) _ h).1).0
clear_bit WrongWidth names bit h = (or_else-parts (at_bit bit_outside names bit) _ (or_else-parts (at_bit name_unknown names bit) _ h).1).1
clear_bit Any names bit h = h

pub clear_bits : (test : BitTest) (names : List (List ℕ × Declared)) (bits : List Bit) → first_at Any names bits ≡ None → first_at test names bits ≡ None
clear_bits test names [] h = refl
clear_bits test names (bit ∷ bits) h =
    let both = or_else-parts (at_bit (bit_test Any) names bit) (first_at Any names bits) h in
    rw (clear_bit test names bit both.0) (clear_bits test names bits both.1)

pub clear_items : (test : BitTest) (names : List (List ℕ × Declared)) (items : List Item) → first_in (λ i. first_at Any names (item_bits i)) items ≡ None
    → first_in (λ i. first_at test names (item_bits i)) items ≡ None
clear_items test names [] h = refl
clear_items test names (item ∷ items) h =
    let both = or_else-parts (first_at Any names (item_bits item)) (first_in (λ i. first_at Any names (item_bits i)) items) h in
    rw (clear_bits test names (item_bits item) both.0) (clear_items test names items both.1)

-- of widths only instances are left
pub clear_width : (library : List ListedCell) (names : List (List ℕ × Declared)) (i : Item) → ((x : Instance) → i ≡ item.Instance x → ⊥) → first_at Any names (item_bits i) ≡ None → item_width library names i ≡ None
clear_width library names (item.Gate g) other h = clear_bits WrongWidth names (item_bits (item.Gate g)) h
clear_width library names (item.Instance x) other h = absurd (other x refl)
clear_width library names (item.Assign output input) other h = clear_bits WrongWidth names (item_bits (item.Assign output input)) h
