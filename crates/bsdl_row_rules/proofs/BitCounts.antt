-- How often a bit stands in rows, by the keys of their bits.
use Rattle.std.proofs.Common.{◌≡◌, ℕ, ◌+◌, Bool, false, cond, ◌&&◌, ◌==◌, List, [], ◌∷◌, ◌++◌, count_by, Option, Some, None, refl, ap, sym, ◌∙◌, arith}
use Rattle.std.specs.List.{filter_map, cons_option}
use Rattle.std.specs.Map.{lookup}
use Rattle.std.specs.Option.{option_eq, option_map_or}
use Rattle.std.specs.Prelude.{nat_eq}
use Rattle.std.proofs.lemmas.List.Sums.{sum_by-cons}
use Rattle.bsdl_lexicon.specs.Names.{is_same_name}
use Rattle.bsdl_device.specs.declared.entries.PortBit.{PortBit}
use Rattle.bsdl_device.specs.declared.entries.RowEntry.{RowEntry}
use Rattle.bsdl_device.specs.Ports.{same_bit, same_index}
use Rattle.bsdl_device.specs.RowRules.{is_row_of}
use Rattle.bsdl_port_rules.specs.declared.keys.Uses.{Uses}
use Rattle.bsdl_port_rules.specs.Keys.{uses_for, is_once}
use Rattle.bsdl_port_rules.proofs.KeyLists.{is_once-uses_for}
use Rattle.bsdl_port_rules.proofs.Tables.{key_of, count_by-map}
use Rattle.bsdl_row_rules.specs.declared.bit_rows.BitKey.{BitKey}
use Rattle.bsdl_row_rules.specs.Bits.{bit_of_key, bits_in, CountsBits}

-- rows are counted by their bits
pub count_by-bits : (b : PortBit) → (rows : List RowEntry) → count_by (is_row_of b) rows ≡ count_by (same_bit b) (filter_map (λ (r : RowEntry). r.port) rows)
count_by-bits b [] = refl
count_by-bits b (r ∷ rs) = sum_by-cons (λ (s : RowEntry). cond (is_row_of b s) 1 0) r rs ∙ by r.port (count_by-bits b rs)
  where
    by : (o : Option PortBit) → count_by (is_row_of b) rs ≡ count_by (same_bit b) (filter_map (λ (s : RowEntry). s.port) rs)
        → cond (option_map_or (same_bit b) o false) 1 0 + count_by (is_row_of b) rs ≡ count_by (same_bit b) (cons_option o (filter_map (λ (s : RowEntry). s.port) rs))
    by None rest = omega (arith, rest)
    by (Some a) rest =
        ap (λ (n : ℕ). cond (same_bit b a) 1 0 + n) rest
        ∙ sym (sum_by-cons (λ (p : PortBit). cond (same_bit b p) 1 0) a (filter_map (λ (s : RowEntry). s.port) rs))

-- some key of a bit
abbrev pub key_of_bit : PortBit → BitKey
key_of_bit b = record { port = key_of b.port; index = b.index }

-- keys are compared as the bits are
abbrev pub same_key : BitKey → BitKey → Bool
same_key j k = is_same_name j.port.0.now k.port.0.now && option_eq nat_eq j.index k.index

index_alike : (i j : Option ℕ) → option_eq nat_eq i j ≡ same_index i j
index_alike None None = refl
index_alike None (Some j) = refl
index_alike (Some i) None = refl
index_alike (Some i) (Some j) = refl

pub key_alike : (j k : BitKey) → same_key j k ≡ same_bit (bit_of_key j) (bit_of_key k)
key_alike j k = ap (λ b. is_same_name j.port.0.now k.port.0.now && b) (index_alike j.index k.index)

pub lookup_alike : {X : Type 0} (j : BitKey) → (es : List (BitKey × X)) → lookup (same_key j) es ≡ lookup (λ (k : BitKey). same_bit (bit_of_key j) (bit_of_key k)) es
lookup_alike j [] = refl
lookup_alike j (e ∷ es) = ap (λ b. cond b (Some e.1) (lookup (same_key j) es)) (key_alike j e.0) ∙ ap (λ r. cond (same_bit (bit_of_key j) (bit_of_key e.0)) (Some e.1) r) (lookup_alike j es)

count_alike : (j : BitKey) → (ks : List BitKey) → count_by (same_key j) ks ≡ count_by (λ (k : BitKey). same_bit (bit_of_key j) (bit_of_key k)) ks
count_alike j ks = ap (λ (test : BitKey → Bool). count_by test ks) (λ i k. key_alike j k i)

-- a table of the keys counts the bits of rows
pub counts_bits : (rows : List RowEntry) (keys : List BitKey) (entries : List (BitKey × Uses)) → bits_in keys ≡ filter_map (λ (r : RowEntry). r.port) rows
    → ((j : BitKey) → lookup (same_key j) entries ≡ uses_for (count_by (same_key j) keys)) → CountsBits rows entries
counts_bits rows keys entries bits counts = record {
  uses = λ b.
      sym (lookup_alike (key_of_bit b) entries) ∙ counts (key_of_bit b)
      ∙ ap uses_for (
      count_alike (key_of_bit b) keys ∙ sym (count_by-map (same_bit b) bit_of_key keys)
      ∙ ap (count_by (same_bit b)) bits ∙ sym (count_by-bits b rows)
      );
}

-- a bit that stands in one row is noted as that
pub once_at : (rows : List RowEntry) (entries : List (BitKey × Uses)) → CountsBits rows entries → (j : BitKey) → is_once (lookup (same_key j) entries) ≡ (count_by (is_row_of (bit_of_key j)) rows == 1)
once_at rows entries counted j = ap is_once (lookup_alike j entries ∙ counted.uses (bit_of_key j)) ∙ is_once-uses_for (count_by (is_row_of (bit_of_key j)) rows)
