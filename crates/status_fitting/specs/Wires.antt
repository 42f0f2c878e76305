-- When a word names a bit of a wire, and one that is driven: the name of a scalar wire, or `name[digits]`.
-- IEEE Std 1364-2001: nets, vectors, bit-selects; that 1 to 9 digits stand in the brackets is own.
use Rattle.std.specs.Prelude.{◌≡◌, ℕ, List, ◌∷◌, ◌++◌, slice_get, Option, Some, None}
use Rattle.std.specs.List.{AllByRecursion}
use Rattle.netlist_model.specs.declared.Name.TheVariants.{Original}
use Rattle.netlist_model.specs.Lists.{NetlistView}
use Rattle.netlist_model.specs.Formed.{IsDriven}
use Rattle.netlist_link.specs.Linked.{LinkedView}
use Rattle.netlist_link.specs.PinWords.{IsIndexed}
use Rattle.netlist_link.specs.WellNamed.{IsWireNet}

-- own: the net stands in no port, and has the name with this number, and this index; that of a scalar has none
pub record IsWireAt (N : NetlistView) (number : ℕ) (index : Option ℕ) (net : ℕ) : Type 0 where
  pub wire : IsWireNet N net (Original number)
  pub at : wire.view.index ≡ index

-- own: the same, by the name
pub record IsWireBit (L : LinkedView) (name : List ℕ) (index : Option ℕ) (net : ℕ) : Type 0 where
  pub number : ℕ
  pub called : slice_get L.names number ≡ Some name
  pub bit : IsWireAt L.arena.lists number index net

-- own: the word is the name of a vector wire, and the index of its bit in brackets
pub record IsVectorWord (L : LinkedView) (word : List ℕ) (net : ℕ) : Type 0 where
  pub name : List ℕ
  pub index : ℕ
  pub indexed : IsIndexed word name index
  pub bit : IsWireBit L name (Some index) net

-- own: the word names the bit of a wire; where it is a scalar's name, it names that one
pub data NamesWire (L : LinkedView) (word : List ℕ) (net : ℕ) : Type 0 where
  scalar : IsWireBit L word None net → NamesWire L word net
  vector : ((other : ℕ) → IsWireBit L word None other → ⊥) → IsVectorWord L word net → NamesWire L word net

-- own: and some cell drives it
pub record NamesDriven (L : LinkedView) (word : List ℕ) (net : ℕ) : Type 0 where
  pub named : NamesWire L word net
  pub driven : IsDriven L.arena.lists net

-- own: the word names some such bit
abbrev pub IsNamed : LinkedView → List ℕ → Type 0
IsNamed L word = (net : ℕ) × NamesDriven L word net

-- own: the first word that names none
pub record IsUnnamed (L : LinkedView) (words : List (List ℕ)) (word : List ℕ) : Type 0 where
  pub before : List (List ℕ)
  pub more : List (List ℕ)
  pub split : words ≡ before ++ word ∷ more
  pub unnamed : (net : ℕ) → NamesDriven L word net → ⊥
  pub named : AllByRecursion (IsNamed L) before
