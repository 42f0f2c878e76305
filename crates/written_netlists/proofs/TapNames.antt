-- The names of the test access port in the table, and that they are new to the netlist.
use Rattle.std.proofs.Common.{◌≡◌, ℕ, zero, suc, ◌<◌, ◌≤◌, List, [], ◌∷◌, map, length, refl, ap, sym, ◌∙◌, subst, inl, inr, Some, None}
use Rattle.std.specs.Prelude.{slice_get}
use Rattle.std.proofs.lemmas.Option.{same_Some, slice_get_within}
use Rattle.std.proofs.lemmas.List.Elements.{recursion_from_All}
use Rattle.list_laws.proofs.Lists.{slice_get_there, all_at}
use Rattle.verilog_tree.specs.IsTree.{IsTreeName}
use Rattle.link_model.specs.Denoted.{name_bytes}
use Rattle.netlist_model.specs.declared.Name.{Name}
use Rattle.netlist_model.specs.declared.Name.TheVariants.{Original, Added}
use Rattle.netlist_model.specs.Lists.{NetlistView}
use Rattle.link_arena.specs.NameTableNames.{IsOnce}
use Rattle.netlist_link.specs.Linked.{LinkedView}
use Rattle.netlist_link.specs.WellNamed.{IsKnown, IsWellNamed}
use Rattle.core_sides.specs.netlist_unlink.Prefixes.{IsUsed, port as used_port, net as used_net, cell as used_cell}
use Rattle.netlist_link.proofs.DraftLawsNamed.{original_same}
use Rattle.plan_texts.specs.declared.plan.Plan.{Plan}
use Rattle.plan_texts.specs.declared.plan.TapLine.{TapLine}
use Rattle.core_sides.specs.plan_fitting.declared.fitted.Fitted.{Fitted}
use Rattle.core_sides.specs.plan_fitting.Pins.{PinSeen}
use Rattle.core_sides.specs.plan_fitting.Fits.{tap_lines}
use Rattle.core_sides.specs.plan_fitting.Devices.{fitted_of}
use Rattle.core_sides.specs.plan_fitting.DevicesLaws.{HasNewTapNames}
use Rattle.core_sides.specs.stitched_netlist.declared.model.TapNames.{TapNames}
use Rattle.written_netlists.specs.Prepared.{with_tap_names, AreTapNames, IsEntered}
use Rattle.written_netlists.specs.NamesLaws.{TapNamesAreEntered}
use Rattle.written_netlists.proofs.Table.{all_kept, all_once, all_entered, all_either, no_shorter}

-- the names in the order of the ports: by their bytes, and as the netlist has them
abbrev pub tap_bytes : Fitted → List (List ℕ)
tap_bytes f = f.tck.name ∷ f.tms.name ∷ f.tdi.name ∷ f.tdo.name ∷ f.trst.name ∷ []

abbrev pub tap_list : TapNames → List Name
tap_list names = names.tck ∷ names.tms ∷ names.tdi ∷ names.tdo ∷ names.trst ∷ []

-- The table.

entered_name : (f : Fitted) (names : List (List ℕ)) (j : ℕ) (bytes : List ℕ) → slice_get (tap_bytes f) j ≡ Some bytes → IsEntered (with_tap_names f names) bytes
entered_name f names j bytes at = let there = all_entered (tap_bytes f) names j bytes at in (Original there.0, there.1)

name_same : (table : List (List ℕ)) (one other : Name) (bytes : List ℕ) → IsOnce table → name_bytes table one ≡ Some bytes → name_bytes table other ≡ Some bytes → one ≡ other
name_same table (Original i) (Original j) bytes once a b = ap (λ (k : ℕ). Original k) (once i j bytes a b)
name_same table (Original i) (Added j) bytes once a b = absurd (cc)
name_same table (Added i) other bytes once a b = absurd (cc)

pub tap_names_entered : TapNamesAreEntered
tap_names_entered names f = record {
  kept = all_kept (tap_bytes f) names;
  once = all_once (tap_bytes f) names;
  entered = record {
    tck = entered_name f names 0 f.tck.name refl;
    tms = entered_name f names 1 f.tms.name refl;
    tdi = entered_name f names 2 f.tdi.name refl;
    tdo = entered_name f names 3 f.tdo.name refl;
    trst = entered_name f names 4 f.trst.name refl;
  };
  same = λ once one other a b. (let table = with_tap_names f names in let each = all_once (tap_bytes f) names once in
      five one other (name_same table one.tck other.tck f.tck.name each a.tck b.tck) (name_same table one.tms other.tms f.tms.name each a.tms b.tms)
      (name_same table one.tdi other.tdi f.tdi.name each a.tdi b.tdi) (name_same table one.tdo other.tdo f.tdo.name each a.tdo b.tdo)
      (name_same table one.trst other.trst f.trst.name each a.trst b.trst));
}
  where
    five : (one other : TapNames) → one.tck ≡ other.tck → one.tms ≡ other.tms → one.tdi ≡ other.tdi → one.tdo ≡ other.tdo → one.trst ≡ other.trst → one ≡ other
    five one other a b c d e =
        ap (λ (n : Name). record { tck = n; tms = one.tms; tdi = one.tdi; tdo = one.tdo; trst = one.trst }) a
        ∙ ap (λ (n : Name). record { tck = other.tck; tms = n; tdi = one.tdi; tdo = one.tdo; trst = one.trst }) b
        ∙ ap (λ (n : Name). record { tck = other.tck; tms = other.tms; tdi = n; tdo = one.tdo; trst = one.trst }) c
        ∙ ap (λ (n : Name). record { tck = other.tck; tms = other.tms; tdi = other.tdi; tdo = n; trst = one.trst }) d
        ∙ ap (λ (n : Name). record { tck = other.tck; tms = other.tms; tdi = other.tdi; tdo = other.tdo; trst = n }) e

-- The names as the netlist has them.

-- the name at this place has the bytes at this place
pub record HasBytes (table : List (List ℕ)) (f : Fitted) (k : ℕ) (name : Name) : Type 0 where
  pub bytes : List ℕ
  pub at : slice_get (tap_bytes f) k ≡ Some bytes
  pub number : ℕ
  pub is : name ≡ Original number
  pub there : slice_get table number ≡ Some bytes

bytes_of : (table : List (List ℕ)) (f : Fitted) (k : ℕ) (one name : Name) (bytes : List ℕ) → one ≡ name → slice_get (tap_bytes f) k ≡ Some bytes → name_bytes table one ≡ Some bytes
    → HasBytes table f k name
bytes_of table f k (Original number) name bytes same at has = record { bytes = bytes; at = at; number = number; is = sym same; there = has }
bytes_of table f k (Added number) name bytes same at has = absurd (cc)

pub has_bytes : (table : List (List ℕ)) (f : Fitted) (names : TapNames) → AreTapNames table f names → (k : ℕ) (name : Name) → slice_get (tap_list names) k ≡ Some name → HasBytes table f k name
has_bytes table f names are zero name at = bytes_of table f 0 names.tck name f.tck.name (same_Some names.tck name at) refl are.tck
has_bytes table f names are (suc zero) name at = bytes_of table f 1 names.tms name f.tms.name (same_Some names.tms name at) refl are.tms
has_bytes table f names are (suc (suc zero)) name at = bytes_of table f 2 names.tdi name f.tdi.name (same_Some names.tdi name at) refl are.tdi
has_bytes table f names are (suc (suc (suc zero))) name at = bytes_of table f 3 names.tdo name f.tdo.name (same_Some names.tdo name at) refl are.tdo
has_bytes table f names are (suc (suc (suc (suc zero)))) name at = bytes_of table f 4 names.trst name f.trst.name (same_Some names.trst name at) refl are.trst
has_bytes table f names are (suc (suc (suc (suc (suc k))))) name at = absurd (let no : None ≡ Some name = at in cc)

-- the line of the plan at this place has these bytes
pub line_at : (lines : List TapLine) (k : ℕ) (bytes : List ℕ) → slice_get (map (λ (l : TapLine). l.name) lines) k ≡ Some bytes → (line : TapLine) × (slice_get lines k ≡ Some line) × (line.name ≡ bytes)
line_at [] k bytes at = absurd (cc)
line_at (line ∷ lines) zero bytes at = (line, refl, same_Some line.name bytes at)
line_at (line ∷ lines) (suc k) bytes at = line_at lines k bytes at

-- In the netlist.

-- an original name that is used stands in the old table
pub used_low : (table : List (List ℕ)) (N : NetlistView) (name : Name) → IsWellNamed table N → IsUsed N name → IsKnown table name
used_low table N _ well (used_port p port at) = let own = well.port_names p port at in subst (IsKnown table) (sym own.1) own.2
used_low table N _ well (used_net net view at) = well.net_names net view at
used_low table N _ well (used_cell i cell name at is) = well.cell_names i cell name at is

-- a name of the test access port is original, in the new table, and no port, net or cell has it
pub record IsNewName (N : NetlistView) (table : List (List ℕ)) (name : Name) : Type 0 where
  pub number : ℕ
  pub is : name ≡ Original number
  pub low : number < length table
  pub new : IsUsed N (Original number) → ⊥

-- names that are new, and no two the same
pub record AreNewNames (N : NetlistView) (table : List (List ℕ)) (taps : List Name) : Type 0 where
  pub each : (k : ℕ) (name : Name) → slice_get taps k ≡ Some name → IsNewName N table name
  pub apart : (j k : ℕ) (name : Name) → slice_get taps j ≡ Some name → slice_get taps k ≡ Some name → j ≡ k

pub taps_are_new : (L : LinkedView) (p : Plan) (seen : List PinSeen) (names : TapNames) → IsWellNamed L.names L.arena.lists → HasNewTapNames L p
    → AreTapNames (with_tap_names (fitted_of L p seen) L.names) (fitted_of L p seen) names
    → AreNewNames L.arena.lists (with_tap_names (fitted_of L p seen) L.names) (tap_list names)
taps_are_new L p seen names well new are =
    let f : Fitted = fitted_of L p seen in
    let table : List (List ℕ) = with_tap_names f L.names in
    record {
      each = λ k name at. (let has = has_bytes table f names are k name at in record {
        number = has.number;
        is = has.is;
        low = slice_get_within table has.number has.bytes has.there;
        new = λ used. not_used L p seen has.number k has.bytes well new has.at has.there used;
      });
      apart = λ j k name at there. (let one = has_bytes table f names are j name at in let other = has_bytes table f names are k name there in
          let same : one.number ≡ other.number = original_same one.number other.number (sym one.is ∙ other.is) in
          let bytes : one.bytes ≡ other.bytes = same_Some one.bytes other.bytes (sym one.there ∙ ap (slice_get table) same ∙ other.there) in
          let a = line_at (tap_lines p) j one.bytes one.at in
          let b = line_at (tap_lines p) k other.bytes other.at in
          new.distinct j k a.0 b.0 a.1 b.1 (a.2 ∙ bytes ∙ sym b.2));
    }
  where
    not_used : (L : LinkedView) (p : Plan) (seen : List PinSeen) (number k : ℕ) (bytes : List ℕ) → IsWellNamed L.names L.arena.lists → HasNewTapNames L p
        → slice_get (tap_bytes (fitted_of L p seen)) k ≡ Some bytes → slice_get (with_tap_names (fitted_of L p seen) L.names) number ≡ Some bytes
        → IsUsed L.arena.lists (Original number) → ⊥
    not_used L p seen number k bytes well new at there used =
        let low : number < length L.names = used_low L.names L.arena.lists (Original number) well used in
        let old = slice_get_there L.names number low in
        let same : old.0 ≡ bytes = same_Some old.0 bytes (sym (all_kept (tap_bytes (fitted_of L p seen)) L.names number old.0 old.1) ∙ there) in
        let line = line_at (tap_lines p) k bytes at in
        all_at (λ (line : TapLine). (number : ℕ) → IsUsed L.arena.lists (Original number) → slice_get L.names number ≡ Some line.name → ⊥) (tap_lines p) k line.0
        (recursion_from_All (λ (line : TapLine). (number : ℕ) → IsUsed L.arena.lists (Original number) → slice_get L.names number ≡ Some line.name → ⊥) (tap_lines p) new.new)
        line.1 number used (old.1 ∙ ap (λ (b : List ℕ). Some b) (same ∙ sym line.2))

-- The table as the netlist with the test logic wants it.

pub record IsLongerTable (old table : List (List ℕ)) : Type 0 where
  pub once : IsOnce table
  pub spelled : (number : ℕ) (name : List ℕ) → slice_get table number ≡ Some name → IsTreeName name
  pub longer : length old ≤ length table

pub table_is_longer : (L : LinkedView) (p : Plan) (seen : List PinSeen) → IsWellNamed L.names L.arena.lists → HasNewTapNames L p
    → IsLongerTable L.names (with_tap_names (fitted_of L p seen) L.names)
table_is_longer L p seen well new =
    let more : List (List ℕ) = tap_bytes (fitted_of L p seen) in
    record {
      once = all_once more L.names well.once;
      spelled = λ number name at. elim (all_either more L.names number name at) [
        | inl old ↦ well.spelled number name old
        | inr tap ↦ (let line = line_at (tap_lines p) tap.0 name tap.1 in
            subst IsTreeName line.2 (all_at (λ (line : TapLine). IsTreeName line.name) (tap_lines p) tap.0 line.0
            (recursion_from_All (λ (line : TapLine). IsTreeName line.name) (tap_lines p) new.written) line.1))
      ];
      longer = no_shorter more L.names;
    }
