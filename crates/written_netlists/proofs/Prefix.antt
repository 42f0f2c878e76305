-- No original name of the netlist with the test logic built in begins with the prefix.
use Rattle.std.proofs.Common.{◌≡◌, ℕ, ◌++◌, List, refl, sym, ap, ◌∙◌, inl, inr, Some}
use Rattle.std.specs.Prelude.{slice_get, All}
use Rattle.std.proofs.lemmas.Option.{same_Some}
use Rattle.std.proofs.lemmas.List.Elements.{recursion_from_All}
use Rattle.list_laws.proofs.Lists.{slice_get_there, all_at}
use Rattle.netlist_model.specs.declared.Name.TheVariants.{Original}
use Rattle.netlist_model.specs.Formed.{IsLaidOut}
use Rattle.netlist_model.specs.Contained.{IsDense}
use Rattle.netlist_link.specs.Linked.{LinkedView}
use Rattle.netlist_link.specs.WellNamed.{IsWellNamed}
use Rattle.core_sides.specs.netlist_unlink.Prefixes.{IsUsed}
use Rattle.netlist_link.specs.Sources.{PartIsNamed}
use Rattle.netlist_link.proofs.DraftLawsNamed.{original_same}
use Rattle.plan_texts.specs.declared.plan.Plan.{Plan}
use Rattle.plan_texts.specs.declared.plan.TapLine.{TapLine}
use Rattle.core_sides.specs.plan_fitting.declared.fitted.Fitted.{Fitted}
use Rattle.core_sides.specs.plan_fitting.Pins.{PinSeen}
use Rattle.core_sides.specs.plan_fitting.Fits.{tap_lines}
use Rattle.core_sides.specs.plan_fitting.Devices.{fitted_of}
use Rattle.core_sides.specs.plan_fitting.DevicesLaws.{HasFreePrefix, PrefixesAreFree}
use Rattle.core_sides.specs.stitched_netlist.declared.model.TapNames.{TapNames}
use Rattle.core_sides.specs.stitched_netlist.Stitched.{stitched}
use Rattle.core_sides.specs.stitched_netlist.Places.{StitchedHoldsTheCore}
use Rattle.core_sides.specs.stitched_netlist.Directions.{StitchedDirections}
use Rattle.written_netlists.specs.Prepared.{with_tap_names, AreTapNames}
use Rattle.written_netlists.specs.NamesLaws.{StitchedHasFreePrefix}
use Rattle.written_netlists.proofs.Table.{all_kept}
use Rattle.written_netlists.proofs.TapNames.{tap_bytes, tap_list, line_at, has_bytes, used_low}
use Rattle.written_netlists.proofs.Extended.{used_either}
use Rattle.written_netlists.proofs.Same.{used_same}
use Rattle.written_netlists.proofs.Views.{stitched_extends}

-- no line of the test access port has these bytes
tap_free : (p : Plan) (prefix rest bytes : List ℕ) (place : ℕ) (line : TapLine) → All (λ (l : TapLine). (more : List ℕ) → l.name ≡ prefix ++ more → ⊥) (tap_lines p)
    → slice_get (tap_lines p) place ≡ Some line → line.name ≡ bytes → bytes ≡ prefix ++ rest → ⊥
tap_free p prefix rest bytes place line free at named is =
    all_at (λ (l : TapLine). (more : List ℕ) → l.name ≡ prefix ++ more → ⊥) (tap_lines p) place line
    (recursion_from_All (λ (l : TapLine). (more : List ℕ) → l.name ≡ prefix ++ more → ⊥) (tap_lines p) free) at rest (named ∙ is)

stitched_free : StitchedHoldsTheCore → PartIsNamed → StitchedDirections → (L : LinkedView) (p : Plan) (seen : List PinSeen) (names : TapNames) → IsWellNamed L.names L.arena.lists
    → HasFreePrefix L p → IsLaidOut L.arena.lists → IsDense L.arena.lists → AreTapNames (with_tap_names (fitted_of L p seen) L.names) (fitted_of L p seen) names
    → (number : ℕ) (rest : List ℕ) → IsUsed (stitched L.arena.lists names (fitted_of L p seen)) (Original number)
    → slice_get (with_tap_names (fitted_of L p seen) L.names) number ≡ Some (p.prefix ++ rest) → ⊥
stitched_free core law directions L p seen names well free laid dense are number rest used at =
    let f : Fitted = fitted_of L p seen in
    let table : List (List ℕ) = with_tap_names f L.names in
    elim (used_either L.arena.lists (stitched L.arena.lists names f) (tap_list names) (stitched_extends core law directions L.arena.lists names f laid dense) (Original number) number used refl) [
      | inl before ↦ (let old = slice_get_there L.names number (used_low L.names L.arena.lists (Original number) well before) in
          let same : old.0 ≡ p.prefix ++ rest = same_Some old.0 (p.prefix ++ rest) (sym (all_kept (tap_bytes f) L.names number old.0 old.1) ∙ at) in
          free.netlist.free number rest before (old.1 ∙ ap (λ (b : List ℕ). Some b) same))
      | inr tap ↦ (let bytes = has_bytes table f names are tap.0 (Original number) tap.1 in
          let same : bytes.bytes ≡ p.prefix ++ rest =
          same_Some bytes.bytes (p.prefix ++ rest) (sym bytes.there ∙ ap (slice_get table) (sym (original_same number bytes.number bytes.is)) ∙ at) in
          let line = line_at (tap_lines p) tap.0 bytes.bytes bytes.at in
          tap_free p p.prefix rest bytes.bytes tap.0 line.0 free.taps line.1 line.2 same)
    ]

pub stitched_has_free_prefix : PrefixesAreFree → StitchedHoldsTheCore → PartIsNamed → StitchedDirections → StitchedHasFreePrefix
stitched_has_free_prefix prefixes core law directions L after p seen names fits laid dense are table lists =
    let free = prefixes L p seen fits in
    record {
      word = free.netlist.word;
      free = λ number rest used at. stitched_free core law directions L p seen names fits.named free laid dense are number rest
          (used_same after.arena.lists (stitched L.arena.lists names (fitted_of L p seen)) lists (Original number) used) (ap (λ (names : List (List ℕ)). slice_get names number) (sym table) ∙ at);
    }
