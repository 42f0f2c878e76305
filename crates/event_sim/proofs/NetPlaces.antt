-- The places of nets, one after another.
use Rattle.std.proofs.Common.{◌≡◌, ◌≢◌, ◌⊎◌, ℕ, ◌+◌, ◌<◌, ◌≤◌, List, length, set, Option, Some, None, sym, ap, ◌∙◌, inl, inr, arith, get_or-set_same, get_or-set_other, length-set}
use Rattle.std.specs.Prelude.{slice_get}
use Rattle.std.proofs.lemmas.Bool.{cases_lt, cases_eq}
use Rattle.std.proofs.lemmas.Option.{slice_get_within}
use Rattle.list_laws.proofs.Options.{some_same}
use Rattle.netlist_model.specs.declared.NetId.{NetId}
use Rattle.event_sim.specs.Shown.{ArePlaces, place_at}

-- the places of the first so many nets
pub record ArePlacedUpTo (nets : List NetId) (bound count : ℕ) (places : List (Option ℕ)) : Type 0 where
  pub long : length places ≡ bound
  pub each : (place : ℕ) (net : NetId) → place < count → slice_get nets place ≡ Some net → place_at places net.0 ≡ Some place
  pub within : (net place : ℕ) → place_at places net ≡ Some place → place < count

pub none_placed : (nets : List NetId) (bound : ℕ) (places : List (Option ℕ)) → length places ≡ bound → ((net : ℕ) → place_at places net ≡ None) → ArePlacedUpTo nets bound 0 places
none_placed nets bound places long none = record {
  long = long;
  each = λ place net below at. absurd (omega arith);
  within = λ net place is. absurd (let no : None ≡ Some place = sym (none net) ∙ is in cc);
}

some_is : (a b : ℕ) → Some a ≡ Some b → a ≡ b
some_is a b e = let unwrap : Option ℕ → ℕ = (λ o. elim o [ None ↦ 0 | Some k ↦ k ]) in ap unwrap e

pub one_placed : (nets : List NetId) (bound count : ℕ) (net : NetId) (places : List (Option ℕ)) → slice_get nets count ≡ Some net → net.0 < bound
    → ((i j : ℕ) (other : NetId) → slice_get nets i ≡ Some other → slice_get nets j ≡ Some other → i ≡ j)
    → ArePlacedUpTo nets bound count places → ArePlacedUpTo nets bound (count + 1) (set places net.0 (Some count))
one_placed nets bound count net places at below once so_far = record {
  long = length-set places net.0 (Some count) ∙ so_far.long;
  each = λ place other under there.
      elim (cases_lt place count) [
        | inl early ↦ get_or-set_other places net.0 other.0 (Some count) None (λ e. apart place other early there e) ∙ so_far.each place other early there
        | inr late ↦ (let here : place ≡ count = omega arith in
            let same : other ≡ net = some_same other net _ (rw here at there) at in
            rw (same, here) (get_or-set_same places net.0 (Some count) None room))
      ];
  within = λ other place is.
      elim (cases_eq other net.0) [
        | inl same ↦ (let own : place_at (set places net.0 (Some count)) other ≡ Some count = rw same (get_or-set_same places net.0 (Some count) None room) in
            let one : count ≡ place = some_is count place (sym own ∙ is) in omega arith)
        | inr apart_net ↦ (let before : place_at places other ≡ Some place = sym (get_or-set_other places net.0 other (Some count) None apart_net) ∙ is in
            let less = so_far.within other place before in omega arith)
      ];
}
  where
    room : net.0 < length places
    room = (let long = so_far.long in omega arith)

    same_id : (a b : NetId) → a.0 ≡ b.0 → a ≡ b
    same_id a b e = ap (λ (k : ℕ). (let n : NetId = record { 0 = k } in n)) e

    apart : (place : ℕ) (other : NetId) → place < count → slice_get nets place ≡ Some other → other.0 ≡ net.0 → ⊥
    apart place other early there e =
        let ids : other ≡ net = same_id other net e in
        let one = once place count net (rw ids at there) at in omega arith

pub all_placed : (nets : List NetId) (bound count : ℕ) (places : List (Option ℕ)) → length nets ≤ count → count ≤ length nets → ArePlacedUpTo nets bound count places → ArePlaces nets places
all_placed nets bound count places whole upto all = record {
  each = λ place net at. (let within = slice_get_within nets place net at in all.each place net (omega arith) at);
  within = λ net place is. (let less = all.within net place is in omega arith);
}
