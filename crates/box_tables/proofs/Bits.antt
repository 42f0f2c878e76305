-- Bits of nets by their places.
use Rattle.std.proofs.Common.{◌≡◌, ℕ, ◌+◌, ◌<◌, List, length, Option, Some, ap, sym, ◌∙◌, arith}
use Rattle.std.specs.Prelude.{slice_get}
use Rattle.std.specs.Option.{option_map}
use Rattle.std.proofs.lemmas.List.{length-map}
use Rattle.std.proofs.lemmas.Option.{slice_get-map}
use Rattle.list_laws.proofs.Lists.{length-counted_from, slice_get-counted_from}
use Rattle.verilog_tree.specs.declared.tree.Range.{Range}
use Rattle.verilog_tree.specs.declared.tree.Bit.{Bit}
use Rattle.link_model.specs.Nets.{width, counted_from, index_at}
use Rattle.box_model.specs.Ports.{bits_of}

abbrev bit_of : List ℕ → Option Range → ℕ → Bit
bit_of name range k = record { net = name; index = index_at range k }

pub length-bits_of : (name : List ℕ) (range : Option Range) → length (bits_of name range) ≡ width range
length-bits_of name range = length-map (counted_from 0 (width range)) (bit_of name range) ∙ length-counted_from 0 (width range)

bit_there : (name : List ℕ) (range : Option Range) (k : ℕ) → k < width range → slice_get (bits_of name range) k ≡ Some (bit_of name range k)
bit_there name range k low =
    let first : 0 + k ≡ k = omega arith in
    slice_get-map (bit_of name range) (counted_from 0 (width range)) k
    ∙ ap (option_map (bit_of name range)) (slice_get-counted_from 0 (width range) k low)
    ∙ ap (λ (i : ℕ). Some (bit_of name range i)) first

-- a bit by its parts
pub bit_made : (name : List ℕ) (range : Option Range) (k : ℕ) (net : List ℕ) (index : Option ℕ) → k < width range → net ≡ name → index ≡ index_at range k → slice_get (bits_of name range) k ≡ Some (record { net = net; index = index })
bit_made name range k net index low named indexed = bit_there name range k low ∙ by net named index indexed
  where
    by : (n : List ℕ) → n ≡ name → (i : Option ℕ) → i ≡ index_at range k → Some (bit_of name range k) ≡ Some (record { net = n; index = i })
    by n e i f = ap (λ (x : List ℕ). Some (bit_of x range k)) (sym e) ∙ ap (λ (x : Option ℕ). let b : Bit = record { net = n; index = x } in Some b) (sym f)
