-- The names of the test access port of a plan that fits are new to the netlist.
use Rattle.std.proofs.Common.{◌≡◌, ℕ, zero, suc, ◌<◌, ◌≤◌, true, false, List, [], ◌∷◌, ◌++◌, map, length, slice_get, Some, refl, sym, ap, ◌∙◌, arith}
use Rattle.std.specs.Prelude.{IsTrue}
use Rattle.std.specs.List.{list_any, AllByRecursion}
use Rattle.std.specs.Str.{bytes_eq}
use Rattle.std.proofs.lemmas.List.Elements.{All-from_recursion}
use Rattle.list_laws.proofs.Bytes.{bytes_eq-same}
use Rattle.list_laws.proofs.Lists.{all_front, all_back}
use Rattle.list_laws.proofs.Tests.{or_first, or_second}
use Rattle.bsdl_lexicon.specs.Bytes.{is_letter, is_name_byte}
use Rattle.bsdl_lexicon.specs.Names.{lower, is_same_name}
use Rattle.bsdl_device.specs.Checks.{is_repeated}
use Rattle.bsdl_device.specs.IsDevice.{IsDeviceName}
use Rattle.verilog_tree.specs.IsTree.{IsVisible, IsTreeName}
use Rattle.netlist_model.specs.declared.Name.TheVariants.{Original}
use Rattle.netlist_unlink.specs.netlist_link.Linked.{LinkedView}
use Rattle.netlist_unlink.specs.Prefixes.{IsUsed}
use Rattle.texts.specs.Repeated.{has_name}
use Rattle.plan_texts.specs.declared.plan.Plan.{Plan}
use Rattle.plan_texts.specs.declared.plan.TapLine.{TapLine}
use Rattle.plan_fitting.specs.Pins.{PinSeen}
use Rattle.plan_fitting.specs.Names.{net_names, cell_names, hidden_names}
use Rattle.plan_fitting.specs.Fits.{tap_lines, names_of, unit_names}
use Rattle.plan_fitting.specs.FittingPlan.{IsFitting}
use Rattle.plan_fitting.specs.DevicesLaws.{TapNamesAreNew}
use Rattle.plan_fitting.proofs.Tests.{true_not_false}
use Rattle.plan_fitting.proofs.Pairs.{pair_split}
use Rattle.plan_fitting.proofs.DevicesNames.{names_fit}
use Rattle.plan_fitting.proofs.DevicesFacts.{no_fault}
use Rattle.plan_fitting.proofs.Prefix.{used_holds}

-- Names that can be written.

letter_visible : (b : ℕ) → is_letter b ≡ true → (33 ≤ b) × (b ≤ 126)
letter_visible b h = grind arith

byte_visible : (b : ℕ) → is_name_byte b ≡ true → (33 ≤ b) × (b ≤ 126)
byte_visible b h = grind arith

bytes_visible : (bytes : List ℕ) → AllByRecursion (λ c. IsTrue (is_name_byte c)) bytes → AllByRecursion IsVisible bytes
bytes_visible [] all = tt
bytes_visible (b ∷ bytes) all = (record { low = (byte_visible b all.0).0; high = (byte_visible b all.0).1 }, bytes_visible bytes all.1)

tree_name : (name : List ℕ) → IsDeviceName name → IsTreeName name
tree_name [] is = absurd is.identifier
tree_name (b ∷ bytes) is =
    let short : length bytes < 255 = is.identifier.3 in
    record {
      filled = omega arith;
      short = omega arith;
      visible = (record { low = (letter_visible b is.identifier.0).0; high = (letter_visible b is.identifier.0).1 }, bytes_visible bytes is.identifier.1);
    }

lines_written : (lines : List TapLine) → AllByRecursion IsDeviceName (names_of lines) → AllByRecursion (λ (line : TapLine). IsTreeName line.name) lines
lines_written [] all = tt
lines_written (line ∷ lines) all = (tree_name line.name all.0, lines_written lines all.1)

-- No two are the same.

same_self : (a b : List ℕ) → a ≡ b → is_same_name a b ≡ true
same_self a b e = ap (is_same_name a) (sym e) ∙ bytes_eq-same (map lower a)

not_later : (name : List ℕ) (lines : List TapLine) (k : ℕ) (line : TapLine) → list_any (is_same_name name) (names_of lines) ≡ false → slice_get lines k ≡ Some line → name ≡ line.name → ⊥
not_later name [] k line h at e = absurd (cc)
not_later name (x ∷ lines) zero line h at e =
    let same : x ≡ line = cc in
    true_not_false (is_same_name name x.name) (same_self name x.name (e ∙ ap (λ (l : TapLine). l.name) (sym same))) (or_first (is_same_name name x.name) (list_any (is_same_name name) (names_of lines)) h)
not_later name (x ∷ lines) (suc k) line h at e = not_later name lines k line (or_second (is_same_name name x.name) (list_any (is_same_name name) (names_of lines)) h) at e

lines_distinct : (lines : List TapLine) → is_repeated (names_of lines) ≡ false → (j k : ℕ) (one other : TapLine) → slice_get lines j ≡ Some one → slice_get lines k ≡ Some other → one.name ≡ other.name → j ≡ k
lines_distinct [] h j k one other a b e = absurd (cc)
lines_distinct (x ∷ lines) h zero zero one other a b e = refl
lines_distinct (x ∷ lines) h zero (suc k) one other a b e =
    let same : x ≡ one = cc in
    absurd (not_later x.name lines k other (or_first (list_any (is_same_name x.name) (names_of lines)) (is_repeated (names_of lines)) h) b (ap (λ (l : TapLine). l.name) same ∙ e))
lines_distinct (x ∷ lines) h (suc j) zero one other a b e =
    let same : x ≡ other = cc in
    absurd (not_later x.name lines j one (or_first (list_any (is_same_name x.name) (names_of lines)) (is_repeated (names_of lines)) h) a (ap (λ (l : TapLine). l.name) same ∙ sym e))
lines_distinct (x ∷ lines) h (suc j) (suc k) one other a b e = ap suc (lines_distinct lines (or_second (list_any (is_same_name x.name) (names_of lines)) (is_repeated (names_of lines)) h) j k one other a b e)

-- None is in the netlist.

-- another name
abbrev IsOther : List ℕ → List ℕ → Type 0
IsOther name other = name ≡ other → ⊥

others_bytes : (name : List ℕ) (names : List (List ℕ)) → has_name names name ≡ false → AllByRecursion (IsOther name) names
others_bytes name [] h = tt
others_bytes name (other ∷ names) h = (
  λ e. true_not_false (bytes_eq name other) (ap (bytes_eq name) (sym e) ∙ bytes_eq-same name) (or_first (bytes_eq name other) (has_name names name) h),
  others_bytes name names (or_second (bytes_eq name other) (has_name names name) h),
)

lines_new : (L : LinkedView) (p : Plan) (seen : List PinSeen) → IsFitting L p seen → (lines : List TapLine)
    → AllByRecursion (λ name. has_name (net_names L ++ (cell_names L ++ hidden_names L)) name ≡ false) (names_of lines)
    → AllByRecursion (λ (line : TapLine). (number : ℕ) → IsUsed L.arena.lists (Original number) → slice_get L.names number ≡ Some line.name → ⊥) lines
lines_new L p seen fits [] new = tt
lines_new L p seen fits (line ∷ lines) new =
    let others = others_bytes line.name (net_names L ++ (cell_names L ++ hidden_names L)) new.0 in
    let rest = all_back (IsOther line.name) (net_names L) (cell_names L ++ hidden_names L) others in (
      λ number used at. used_holds L p seen fits (IsOther line.name) (record {
        nets = all_front (IsOther line.name) (net_names L) (cell_names L ++ hidden_names L) others;
        cells = all_front (IsOther line.name) (cell_names L) (hidden_names L) rest;
        hidden = all_back (IsOther line.name) (cell_names L) (hidden_names L) rest;
      }) (Original number) used number line.name refl at refl,
      lines_new L p seen fits lines new.1,
    )

pub tap_names_are_new : TapNamesAreNew
tap_names_are_new L p seen fits =
    let names = names_fit L p (no_fault L p seen fits).names in
    let taps = names_of (tap_lines p) in
    let more = names_of p.linkage in
    let whole = pair_split is_same_name (unit_names L p) (taps ++ more) names.distinct in
    let rest = pair_split is_same_name taps more whole.back in
    record {
      written = All-from_recursion (λ (line : TapLine). IsTreeName line.name) (tap_lines p) (lines_written (tap_lines p) names.tap);
      distinct = lines_distinct (tap_lines p) rest.front;
      new = All-from_recursion (λ (line : TapLine). (number : ℕ) → IsUsed L.arena.lists (Original number) → slice_get L.names number ≡ Some line.name → ⊥) (tap_lines p)
          (lines_new L p seen fits (tap_lines p) names.new);
    }
