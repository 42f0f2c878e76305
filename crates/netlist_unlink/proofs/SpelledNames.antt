-- Names that can be written.
use Rattle.std.proofs.Common.{◌≡◌, ℕ, ◌+◌, ◌%◌, ◌^◌, ◌<◌, ◌≤◌, ◌||◌, ◌&&◌, true, false, not, List, [], ◌∷◌, length, sym, ◌∙◌, inl, inr, arith, All, Some, IsTrue, length-append, lit<}
use Rattle.std.specs.Prelude.{slice_get, nat_le, is_some, codes}
use Rattle.std.specs.Str.{bytes_eq}
use Rattle.std.specs.List.{AllByRecursion, list_all}
use Rattle.std.specs.Fmt.{decimal}
use Rattle.std.proofs.lemmas.Fmt.{decimal_by_steps, length-decimal-le}
use Rattle.std.proofs.lemmas.Bool.{and_parts}
use Rattle.std.proofs.lemmas.Bool.Decides.{leb_tells}
use Rattle.std.proofs.lemmas.List.Elements.{All-head, All-tail}
use Rattle.list_laws.proofs.Lists.{all_append, slice_get_there}
use Rattle.verilog_lexicon.specs.Bytes.{is_letter, is_digit, is_name_byte, is_simple_name}
use Rattle.verilog_lexicon.specs.Keywords.{reserved_of}
use Rattle.verilog_tree.specs.IsTree.{IsTreeName, IsVisible}
use Rattle.cell_library.specs.Sound.{is_cell_name, IsPort}
use Rattle.netlist_model.specs.declared.Name.{Name}
use Rattle.netlist_model.specs.declared.Name.TheVariants.{Original, Added}
use Rattle.netlist_link.specs.WellNamed.{IsKnown}
use Rattle.netlist_unlink.specs.Trees.{Naming, added, original, spelled}
use Rattle.netlist_unlink.specs.Prefixes.{IsPrefix}

-- each name of the table can be written
abbrev pub AreSpelled : List (List ℕ) → Type 0
AreSpelled table = (number : ℕ) (name : List ℕ) → slice_get table number ≡ Some name → IsTreeName name

visible_word : (byte : ℕ) → IsTrue (is_letter byte || is_digit byte) → IsVisible byte
visible_word byte h = record { low = grind arith; high = grind arith }

visible_letter : (byte : ℕ) → IsTrue (is_letter byte) → IsVisible byte
visible_letter byte h = record { low = grind arith; high = grind arith }

all_visible : (bytes : List ℕ) → IsTrue (list_all (λ byte. is_letter byte || is_digit byte) bytes) → AllByRecursion IsVisible bytes
all_visible [] h = tt
all_visible (byte ∷ bytes) h =
    let parts = and_parts (is_letter byte || is_digit byte) (list_all (λ (b : ℕ). is_letter b || is_digit b) bytes) h in
    (visible_word byte parts.0, all_visible bytes parts.1)

prefix_visible : (prefix : List ℕ) → IsPrefix prefix → AllByRecursion IsVisible prefix
prefix_visible prefix p = rw p.is (visible_letter p.first p.letter, all_visible p.rest p.word)

visible_digit : (digit : ℕ) → digit < 10 → IsVisible (48 + digit)
visible_digit digit low = record { low = omega arith; high = omega arith }

decimal_visible : (n : ℕ) → n < 2 ^ 64 → AllByRecursion IsVisible (decimal n)
decimal_visible n low =
    decimal_by_steps (λ (number : ℕ) (digits : List ℕ). AllByRecursion IsVisible digits) (λ number small. (visible_digit number small, tt))
    (λ number digits large before. all_append IsVisible digits ((48 + number % 10) ∷ []) before (visible_digit (number % 10) (omega arith), tt)) n low

-- the name of an added net or cell
pub added_name : (prefix : List ℕ) (letter number : ℕ) → IsPrefix prefix → IsVisible letter → number < 2 ^ 32 → IsTreeName (added prefix letter number)
added_name prefix letter number p visible low =
    let wide : number < 2 ^ 64 = omega arith in
    let few : length (decimal number) ≤ 10 = length-decimal-le 10 number (lit< tt) (omega arith) wide in
    let short : length prefix ≤ 32 = p.short in
    let count = length-append prefix (letter ∷ decimal number) in
    record {
      filled = omega arith;
      short = omega arith;
      visible = all_append IsVisible prefix (letter ∷ decimal number) (prefix_visible prefix p) (visible, decimal_visible number wide);
    }

pub original_name : (table : List (List ℕ)) (number : ℕ) → AreSpelled table → number < length table → IsTreeName (original table number)
original_name table number are known = let x = slice_get_there table number (omega arith) in rw x.1 (are number x.0 x.1)

pub spelled_name : (naming : Naming) (letter number : ℕ) (name : Name) → AreSpelled naming.table → IsPrefix naming.prefix → IsVisible letter → number < 2 ^ 32 → IsKnown naming.table name
    → IsTreeName (spelled naming letter number name)
spelled_name naming letter number (Original place) are p visible low known = original_name naming.table place are known
spelled_name naming letter number (Added other) are p visible low known = added_name naming.prefix letter number p visible low

-- Names of listed cells and of their ports.

visible_in_name : (byte : ℕ) → IsTrue (is_name_byte byte) → IsVisible byte
visible_in_name byte h = record { low = grind arith; high = grind arith }

name_visible : (bytes : List ℕ) → IsTrue (list_all is_name_byte bytes) → AllByRecursion IsVisible bytes
name_visible [] h = tt
name_visible (byte ∷ bytes) h = let parts = and_parts (is_name_byte byte) (list_all is_name_byte bytes) h in (visible_in_name byte parts.0, name_visible bytes parts.1)

simple_name : (name : List ℕ) → IsTrue (is_simple_name name) → length name ≤ 255 → IsTreeName name
simple_name [] h short = absurd (let no : false ≡ true = h in cc)
simple_name (byte ∷ bytes) h short =
    let parts = and_parts (is_letter byte) (list_all is_name_byte (byte ∷ bytes)) h in
    record { filled = omega arith; short = short; visible = name_visible (byte ∷ bytes) parts.1 }

at_most : (a b : ℕ) → nat_le a b ≡ true → a ≤ b
at_most a b h = elim (leb_tells a b) [
  | inl e ↦ e.1
  | inr e ↦ absurd (let clash : true ≡ false = sym h ∙ e.0 in cc)
]

pub listed_name : (name : List ℕ) → IsTrue (is_cell_name name) → IsTreeName name
listed_name name h =
    let parts = and_parts (is_simple_name name) (not (is_some (reserved_of name)) && nat_le (length name) 255) h in
    let short = and_parts (not (is_some (reserved_of name))) (nat_le (length name) 255) parts.1 in
    simple_name name parts.0 (at_most (length name) 255 short.1)

pub listed_port : (name : List ℕ) → IsPort name → IsTreeName name
listed_port name h = let parts = and_parts (is_cell_name name) (not (bytes_eq name (codes "mux"))) h in listed_name name parts.0

pub listed_ports : (names : List (List ℕ)) → All IsPort names → AllByRecursion IsTreeName names
listed_ports [] all = tt
listed_ports (name ∷ names) all = (listed_port name (All-head IsPort name names all), listed_ports names (All-tail IsPort name names all))
