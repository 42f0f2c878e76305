-- The rows of a device and those of its canonical text keep the same rules.
use Rattle.std.proofs.Common.{◌≡◌, ℕ, zero, suc, ◌+◌, ◌<◌, List, [], ◌∷◌, ◌++◌, Bool, true, false, cond, Option, Some, None, map, length, refl, sym, ap, subst, ◌∙◌, arith, eq-eqb, add-one}
use Rattle.std.specs.Prelude.{◌==◌, ◌||◌, ◌&&◌, not, is_some, is_none, slice_get, count_by, filter}
use Rattle.std.specs.List.{list_any, flat_map, enumerate_from, AllByRecursion}
use Rattle.std.specs.Option.{option_map, option_map_or}
use Rattle.std.proofs.lemmas.List.Folds.{list_any-append}
use Rattle.std.proofs.lemmas.Option.{slice_get_within}
use Rattle.list_laws.proofs.Tests.{and_left, and_right, not_false, or_false, and_true, or_first, or_second, neither}
use Rattle.list_laws.proofs.Lists.{any_same, any_map}
use Rattle.list_laws.proofs.Numbers.{eqb_less, eqb_more}
use Rattle.cell_library.specs.declared.codes.BoundaryKind.{BoundaryKind}
use Rattle.cell_library.specs.declared.codes.BoundaryKind.TheVariants as cell
use Rattle.cell_library.specs.declared.codes.Function.{Function}
use Rattle.cell_library.specs.declared.codes.Function.TheVariants as function
use Rattle.bsdl_device.specs.declared.values.PortMode.{PortMode}
use Rattle.bsdl_device.specs.declared.values.PortMode.TheVariants as mode
use Rattle.bsdl_device.specs.declared.values.DevPort.{DevPort}
use Rattle.bsdl_device.specs.declared.values.DevBit.{DevBit}
use Rattle.bsdl_device.specs.declared.values.Disable.{Disable}
use Rattle.bsdl_device.specs.declared.values.CellRow.{CellRow}
use Rattle.bsdl_device.specs.declared.values.Device.{Device}
use Rattle.bsdl_device.specs.declared.written.DeclaredPort.{DeclaredPort}
use Rattle.bsdl_device.specs.declared.entries.PortBit.{PortBit}
use Rattle.bsdl_device.specs.declared.entries.RowEntry.{RowEntry}
use Rattle.bsdl_device.specs.Ports.{port_named, has_bit, indices, bits_of, bit_of_port, same_bit, same_index, is_mode}
use Rattle.bsdl_device.specs.Checks.{any_pair, is_numbered}
use Rattle.bsdl_device.specs.RowRules.{is_function, is_cell, is_control, is_disabled_by, is_tap_port, is_system_port, is_system_bit, port_misfits, is_row_of, bit_not_in_one_row, system_bits, stands_at, rows_disagree, row_misfits}
use Rattle.bsdl_device.specs.Denoted.{bit_of, cell_of}
use Rattle.bsdl_device.specs.Canonical.{port_name}
use Rattle.bsdl_device.specs.IsDevice.{is_tap_place, suits, wanted_mode, is_bit_of, stands_right, is_control_at, names_control, disable_right, is_used, IsDeviceRow, own_bits_at, is_at, rows_clash}
use Rattle.bsdl_device.proofs.Totals.{weigh, tally, count_by-tally}
use Rattle.bsdl_device.proofs.Numbered.{NumberedFrom}
use Rattle.bsdl_device.proofs.Rebuilt.{as_declared, tap_of, port_bit, row_entry, row_entries}
use Rattle.bsdl_device.proofs.RoundTripPlaces.{AreNamed, same_at, named_at, place_at, tap_at}

-- Tests of all rows.

any_rows : (ports : List DevPort) (test : RowEntry → Bool) (own : CellRow → Bool) → ((n : ℕ) (c : CellRow) → test (row_entry ports n c) ≡ own c) → (first : ℕ) (cells : List CellRow)
    → list_any test (row_entries ports first cells) ≡ list_any own cells
any_rows ports test own same first [] = refl
any_rows ports test own same first (c ∷ cs) =
    ap (λ (b : Bool). b || list_any test (row_entries ports (first + 1) cs)) (same first c)
    ∙ ap (λ (b : Bool). own c || b) (any_rows ports test own same (first + 1) cs)

pub agree_rows : (ports : List DevPort) (first : ℕ) (cells : List CellRow) → any_pair rows_disagree (row_entries ports first cells) ≡ any_pair rows_clash cells
agree_rows ports first [] = refl
agree_rows ports first (c ∷ cs) =
    ap (λ (b : Bool). b || any_pair rows_disagree (row_entries ports (first + 1) cs)) (any_rows ports (rows_disagree (row_entry ports first c)) (rows_clash c) (λ n e. refl) (first + 1) cs)
    ∙ ap (λ (b : Bool). list_any (rows_clash c) cs || b) (agree_rows ports (first + 1) cs)

pub outputs_rows : (ports : List DevPort) (cells : List CellRow)
    → list_any (λ (r : RowEntry). is_function function.Output2 r.function) (row_entries ports 0 cells) ≡ list_any (λ (c : CellRow). is_function function.Output2 c.function) cells
outputs_rows ports cells = any_rows ports (λ (r : RowEntry). is_function function.Output2 r.function) (λ (c : CellRow). is_function function.Output2 c.function) (λ n c. refl) 0 cells

used_rows : (ports : List DevPort) (number : ℕ) (cells : List CellRow) → list_any (is_disabled_by number) (row_entries ports 0 cells) ≡ list_any (names_control number) cells
used_rows ports number cells = any_rows ports (is_disabled_by number) (names_control number) (λ n c. refl) 0 cells

-- The row of a number.

no_row : (ports : List DevPort) (n first : ℕ) (cells : List CellRow) → n < first → list_any (λ (s : RowEntry). is_numbered n s && is_control s) (row_entries ports first cells) ≡ false
no_row ports n first [] low = refl
no_row ports n first (c ∷ cs) low =
    neither ((first == n) && is_function function.Control c.function) (list_any (λ (s : RowEntry). is_numbered n s && is_control s) (row_entries ports (first + 1) cs))
    (ap (λ (b : Bool). b && is_function function.Control c.function) (eqb_more first n low))
    (no_row ports n (first + 1) cs (omega arith))

control_rows : (ports : List DevPort) (n first k : ℕ) (cells : List CellRow) → n ≡ first + k → list_any (λ (s : RowEntry). is_numbered n s && is_control s) (row_entries ports first cells) ≡ is_control_at cells k
control_rows ports n first k [] is = refl
control_rows ports n first zero (c ∷ cs) is =
    ap (λ (b : Bool). (b && is_function function.Control c.function) || list_any (λ (s : RowEntry). is_numbered n s && is_control s) (row_entries ports (first + 1) cs)) (eq-eqb first n (omega arith))
    ∙ ap (λ (b : Bool). is_function function.Control c.function || b) (no_row ports n (first + 1) cs (omega arith))
    ∙ or_false (is_function function.Control c.function)
control_rows ports n first (suc k) (c ∷ cs) is =
    ap (λ (b : Bool). (b && is_function function.Control c.function) || list_any (λ (s : RowEntry). is_numbered n s && is_control s) (row_entries ports (first + 1) cs)) (eqb_less first n (omega arith))
    ∙ control_rows ports n (first + 1) k cs (omega arith)

-- The bit of a row.

-- a bit of the device's own logic
abbrev is_own : Device → DevBit → Bool
is_own d b = option_map_or (λ (p : DevPort). has_bit p.range b.index && (not (is_tap_place d b.port) && not (is_mode mode.Linkage p.mode))) (slice_get d.ports b.port) false

abbrev has_mode : Device → PortMode → DevBit → Bool
has_mode d wanted b = option_map_or (λ (p : DevPort). is_mode wanted p.mode) (slice_get d.ports b.port) false

own_at : (d : Device) → AreNamed d.ports → (b : DevBit) → is_system_bit (map as_declared d.ports) (tap_of d) (port_bit d.ports b) ≡ is_own d b
unfolding port_name
own_at d n b =
    ap (λ (o : Option DeclaredPort). option_map_or (λ (p : DeclaredPort). has_bit p.range b.index && is_system_port (tap_of d) p) o false) (named_at d.ports n b.port)
    ∙ by (slice_get d.ports b.port) refl
  where
    by : (o : Option DevPort) → slice_get d.ports b.port ≡ o
        → option_map_or (λ (p : DeclaredPort). has_bit p.range b.index && is_system_port (tap_of d) p) (option_map as_declared o) false
        ≡ option_map_or (λ (p : DevPort). has_bit p.range b.index && (not (is_tap_place d b.port) && not (is_mode mode.Linkage p.mode))) o false
    by None is = refl
    by (Some p) is =
        let name : port_name d.ports b.port ≡ p.name = ap (λ (o : Option DevPort). option_map_or (λ (q : DevPort). q.name) o []) is in
        let tap : is_tap_port (tap_of d) p.name ≡ is_tap_place d b.port = ap (is_tap_port (tap_of d)) (sym name) ∙ tap_at d n b.port (slice_get_within d.ports b.port p is) in
        ap (λ (t : Bool). has_bit p.range b.index && (not t && not (is_mode mode.Linkage p.mode))) tap

stands_same : (d : Device) → AreNamed d.ports → (wanted : PortMode) (n : ℕ) (c : CellRow) → stands_at (map as_declared d.ports) wanted (row_entry d.ports n c) ≡ option_map_or (has_mode d wanted) c.pin false
stands_same d named wanted n c = by c.pin
  where
    at : (b : DevBit) (o : Option DevPort) → option_map_or (λ (p : DeclaredPort). is_mode wanted p.mode) (option_map as_declared o) false ≡ option_map_or (λ (p : DevPort). is_mode wanted p.mode) o false
    at b None = refl
    at b (Some p) = refl

    by : (o : Option DevBit) → option_map_or (λ (b : PortBit). option_map_or (λ (p : DeclaredPort). is_mode wanted p.mode) (port_named (map as_declared d.ports) b.port) false) (option_map (port_bit d.ports) o) false ≡ option_map_or (has_mode d wanted) o false
    by None = refl
    by (Some b) = ap (λ (o : Option DeclaredPort). option_map_or (λ (p : DeclaredPort). is_mode wanted p.mode) o false) (named_at d.ports named b.port) ∙ at b (slice_get d.ports b.port)

misfits_same : (d : Device) → AreNamed d.ports → (n : ℕ) (c : CellRow) → port_misfits (map as_declared d.ports) (tap_of d) (row_entry d.ports n c) ≡ option_map_or (λ (b : DevBit). not (is_own d b)) c.pin false
misfits_same d named n c = by c.pin
  where
    by : (o : Option DevBit) → option_map_or (λ b. not (is_system_bit (map as_declared d.ports) (tap_of d) b)) (option_map (port_bit d.ports) o) false ≡ option_map_or (λ (b : DevBit). not (is_own d b)) o false
    by None = refl
    by (Some b) = ap not (own_at d named b)

same_mode : (a b : PortMode) → is_mode a b ≡ true → a ≡ b
same_mode mode.Input mode.Input h = refl
same_mode mode.Input mode.Output h = absurd (cc)
same_mode mode.Input mode.Inout h = absurd (cc)
same_mode mode.Input mode.Linkage h = absurd (cc)
same_mode mode.Output mode.Input h = absurd (cc)
same_mode mode.Output mode.Output h = refl
same_mode mode.Output mode.Inout h = absurd (cc)
same_mode mode.Output mode.Linkage h = absurd (cc)
same_mode mode.Inout mode.Input h = absurd (cc)
same_mode mode.Inout mode.Output h = absurd (cc)
same_mode mode.Inout mode.Inout h = refl
same_mode mode.Inout mode.Linkage h = absurd (cc)
same_mode mode.Linkage mode.Input h = absurd (cc)
same_mode mode.Linkage mode.Output h = absurd (cc)
same_mode mode.Linkage mode.Inout h = absurd (cc)
same_mode mode.Linkage mode.Linkage h = refl

bit_of_from : (d : Device) (wanted : PortMode) (b : DevBit) → is_own d b ≡ true → has_mode d wanted b ≡ true → is_bit_of d wanted b ≡ true
bit_of_from d wanted b own has = by (slice_get d.ports b.port) own has
  where
    by : (o : Option DevPort) → option_map_or (λ (p : DevPort). has_bit p.range b.index && (not (is_tap_place d b.port) && not (is_mode mode.Linkage p.mode))) o false ≡ true
        → option_map_or (λ (p : DevPort). is_mode wanted p.mode) o false ≡ true
        → option_map_or (λ (p : DevPort). has_bit p.range b.index && not (is_tap_place d b.port) && is_mode wanted p.mode) o false ≡ true
    by None h k = absurd (cc)
    by (Some p) h k =
        let bit = has_bit p.range b.index in
        let free = not (is_tap_place d b.port) in
        and_true (bit && free) (is_mode wanted p.mode) (and_true bit free (and_left bit (free && not (is_mode mode.Linkage p.mode)) h) (and_left free (not (is_mode mode.Linkage p.mode)) (and_right bit (free && not (is_mode mode.Linkage p.mode)) h))) k

-- what a bit of a port of a mode is
pub record OwnBit (d : Device) (wanted : PortMode) (b : DevBit) : Type 0 where
  pub port : DevPort
  pub there : slice_get d.ports b.port ≡ Some port
  pub bit : has_bit port.range b.index ≡ true
  pub own : is_own d b ≡ true
  pub mode : has_mode d wanted b ≡ true

pub own_bit : (d : Device) (wanted : PortMode) (b : DevBit) → is_mode mode.Linkage wanted ≡ false → is_bit_of d wanted b ≡ true → OwnBit d wanted b
own_bit d wanted b apart h = by (slice_get d.ports b.port) refl h
  where
    by : (o : Option DevPort) → slice_get d.ports b.port ≡ o → option_map_or (λ (p : DevPort). has_bit p.range b.index && not (is_tap_place d b.port) && is_mode wanted p.mode) o false ≡ true → OwnBit d wanted b
    by None is k = absurd (cc)
    by (Some p) is k =
        let bit = has_bit p.range b.index in
        let free = not (is_tap_place d b.port) in
        let two = and_left (bit && free) (is_mode wanted p.mode) k in
        let right = and_right (bit && free) (is_mode wanted p.mode) k in
        let other : not (is_mode mode.Linkage p.mode) ≡ true = ap (λ (m : PortMode). not (is_mode mode.Linkage m)) (sym (same_mode wanted p.mode right)) ∙ ap not apart in
        record {
          port = p;
          there = is;
          bit = and_left bit free two;
          own = ap (λ (o : Option DevPort). option_map_or (λ (q : DevPort). has_bit q.range b.index && (not (is_tap_place d b.port) && not (is_mode mode.Linkage q.mode))) o false) is
              ∙ and_true bit (free && not (is_mode mode.Linkage p.mode)) (and_left bit free two) (and_true free (not (is_mode mode.Linkage p.mode)) (and_right bit free two) other);
          mode = ap (λ (o : Option DevPort). option_map_or (λ (q : DevPort). is_mode wanted q.mode) o false) is ∙ right;
        }

-- The rules on one row.

abbrev nine : Bool → Bool → Bool → Bool → Bool → Bool → Bool → Bool → Bool → Bool
nine a b c d e f g h i = a || b || c || d || e || f || g || h || i

-- the rules by what the device has
abbrev control_breaks : Device → ℕ → Function → BoundaryKind → Option DevBit → Bool
control_breaks d n f k pin = is_function function.Control f && (is_some pin || not (is_cell cell.Bc1 k || is_cell cell.Bc2 k) || not (list_any (names_control n) d.cells))

abbrev lacks_pin : Function → Option DevBit → Bool
lacks_pin f pin = not (is_function function.Control f) && is_none pin

abbrev is_misplaced : Device → Option DevBit → Bool
is_misplaced d pin = option_map_or (λ (b : DevBit). not (is_own d b)) pin false

abbrev input_breaks : Device → Function → BoundaryKind → Option DevBit → Bool
input_breaks d f k pin = is_function function.Input f && not ((is_cell cell.Bc1 k || is_cell cell.Bc4 k) && option_map_or (has_mode d mode.Input) pin false)

abbrev clock_breaks : Device → Function → BoundaryKind → Option DevBit → Bool
clock_breaks d f k pin = is_function function.Clock f && not (is_cell cell.Bc4 k && option_map_or (has_mode d mode.Input) pin false)

abbrev output_breaks : Device → Function → BoundaryKind → Option DevBit → Bool
output_breaks d f k pin = (is_function function.Output2 f || is_function function.Output3 f) && not ((is_cell cell.Bc1 k || is_cell cell.Bc2 k) && option_map_or (has_mode d mode.Output) pin false)

abbrev bidir_breaks : Device → Function → BoundaryKind → Option DevBit → Bool
bidir_breaks d f k pin = is_function function.Bidir f && not (is_cell cell.Bc7 k && option_map_or (has_mode d mode.Inout) pin false)

abbrev disable_breaks : Function → Option Disable → Bool
disable_breaks f disable = option_map_or (λ (e : Disable). not (is_function function.Output3 f || is_function function.Bidir f)) disable (is_function function.Output3 f || is_function function.Bidir f)

abbrev names_other : Device → Option Disable → Bool
names_other d disable = option_map_or (λ (e : Disable). not (is_control_at d.cells e.control)) disable false

abbrev row_breaks : Device → ℕ → Function → BoundaryKind → Option DevBit → Option Disable → Bool
row_breaks d n f k pin disable = nine (control_breaks d n f k pin) (lacks_pin f pin) (is_misplaced d pin) (input_breaks d f k pin) (clock_breaks d f k pin) (output_breaks d f k pin) (bidir_breaks d f k pin) (disable_breaks f disable) (names_other d disable)

nine_same : (a b c d e f g h i a2 b2 c2 d2 e2 f2 g2 h2 i2 : Bool) → a ≡ a2 → b ≡ b2 → c ≡ c2 → d ≡ d2 → e ≡ e2 → f ≡ f2 → g ≡ g2 → h ≡ h2 → i ≡ i2 → nine a b c d e f g h i ≡ nine a2 b2 c2 d2 e2 f2 g2 h2 i2
nine_same a b c d e f g h i a2 b2 c2 d2 e2 f2 g2 h2 i2 ha hb hc hd he hf hg hh hi = cc

is_some_same : {A B : Type 0} (f : A → B) (o : Option A) → is_some (option_map f o) ≡ is_some o
is_some_same f None = refl
is_some_same f (Some x) = refl

is_none_same : {A B : Type 0} (f : A → B) (o : Option A) → is_none (option_map f o) ≡ is_none o
is_none_same f None = refl
is_none_same f (Some x) = refl

breaks_same : (d : Device) → AreNamed d.ports → (n : ℕ) (c : CellRow)
    → row_misfits (map as_declared d.ports) (tap_of d) (row_entries d.ports 0 d.cells) (row_entry d.ports n c) ≡ row_breaks d n c.function c.cell c.pin c.disable
breaks_same d named n c =
    let rows = row_entries d.ports 0 d.cells in
    let ports = map as_declared d.ports in
    nine_same _ _ _ _ _ _ _ _ _ _ _ _ _ _ _ _ _ _
    (ap (λ (x : Bool). is_function function.Control c.function && (x || not (is_cell cell.Bc1 c.cell || is_cell cell.Bc2 c.cell) || not (list_any (is_disabled_by n) rows))) (is_some_same (port_bit d.ports) c.pin)
    ∙ ap (λ (x : Bool). is_function function.Control c.function && (is_some c.pin || not (is_cell cell.Bc1 c.cell || is_cell cell.Bc2 c.cell) || not x)) (used_rows d.ports n d.cells))
    (ap (λ (x : Bool). not (is_function function.Control c.function) && x) (is_none_same (port_bit d.ports) c.pin))
    (misfits_same d named n c)
    (ap (λ (x : Bool). is_function function.Input c.function && not ((is_cell cell.Bc1 c.cell || is_cell cell.Bc4 c.cell) && x)) (stands_same d named mode.Input n c))
    (ap (λ (x : Bool). is_function function.Clock c.function && not (is_cell cell.Bc4 c.cell && x)) (stands_same d named mode.Input n c))
    (ap (λ (x : Bool). (is_function function.Output2 c.function || is_function function.Output3 c.function) && not ((is_cell cell.Bc1 c.cell || is_cell cell.Bc2 c.cell) && x)) (stands_same d named mode.Output n c))
    (ap (λ (x : Bool). is_function function.Bidir c.function && not (is_cell cell.Bc7 c.cell && x)) (stands_same d named mode.Inout n c))
    refl
    (unknown c.disable)
  where
    unknown : (o : Option Disable) → option_map_or (λ (e : Disable). not (list_any (λ (s : RowEntry). is_numbered e.control s && is_control s) (row_entries d.ports 0 d.cells))) o false ≡ option_map_or (λ (e : Disable). not (is_control_at d.cells e.control)) o false
    unknown None = refl
    unknown (Some e) = ap not (control_rows d.ports e.control 0 e.control d.cells (omega arith))

nine_none : (a b c d e f g h i : Bool) → a ≡ false → b ≡ false → c ≡ false → d ≡ false → e ≡ false → f ≡ false → g ≡ false → h ≡ false → i ≡ false → nine a b c d e f g h i ≡ false
nine_none a b c d e f g h i ha hb hc hd he hf hg hh hi = nine_same a b c d e f g h i false false false false false false false false false ha hb hc hd he hf hg hh hi

record NineNone (a b c d e f g h i : Bool) : Type 0 where
  pub first : a ≡ false
  pub second : b ≡ false
  pub third : c ≡ false
  pub fourth : d ≡ false
  pub fifth : e ≡ false
  pub sixth : f ≡ false
  pub seventh : g ≡ false
  pub eighth : h ≡ false
  pub ninth : i ≡ false

nine_each : (a b c d e f g h i : Bool) → nine a b c d e f g h i ≡ false → NineNone a b c d e f g h i
nine_each a b c d e f g h i k =
    let k8 = or_first (a || b || c || d || e || f || g || h) i k in
    let k7 = or_first (a || b || c || d || e || f || g) h k8 in
    let k6 = or_first (a || b || c || d || e || f) g k7 in
    let k5 = or_first (a || b || c || d || e) f k6 in
    let k4 = or_first (a || b || c || d) e k5 in
    let k3 = or_first (a || b || c) d k4 in
    let k2 = or_first (a || b) c k3 in
    record {
      first = or_first a b k2;
      second = or_second a b k2;
      third = or_second (a || b) c k3;
      fourth = or_second (a || b || c) d k4;
      fifth = or_second (a || b || c || d) e k5;
      sixth = or_second (a || b || c || d || e) f k6;
      seventh = or_second (a || b || c || d || e || f) g k7;
      eighth = or_second (a || b || c || d || e || f || g) h k8;
      ninth = or_second (a || b || c || d || e || f || g || h) i k;
    }

rules_each : (d : Device) (n : ℕ) (f : Function) (k : BoundaryKind) (pin : Option DevBit) (disable : Option Disable) → row_breaks d n f k pin disable ≡ false
    → NineNone (control_breaks d n f k pin) (lacks_pin f pin) (is_misplaced d pin) (input_breaks d f k pin) (clock_breaks d f k pin) (output_breaks d f k pin) (bidir_breaks d f k pin) (disable_breaks f disable) (names_other d disable)
rules_each d n f k pin disable h = nine_each (control_breaks d n f k pin) (lacks_pin f pin) (is_misplaced d pin) (input_breaks d f k pin) (clock_breaks d f k pin) (output_breaks d f k pin) (bidir_breaks d f k pin) (disable_breaks f disable) (names_other d disable) h

-- a row's bit, as the rules see it
record PinKept (d : Device) (wanted : PortMode) (pin : Option DevBit) : Type 0 where
  pub some : is_none pin ≡ false
  pub own : option_map_or (λ (b : DevBit). not (is_own d b)) pin false ≡ false
  pub mode : option_map_or (has_mode d wanted) pin false ≡ true

pin_kept : (d : Device) (wanted : PortMode) (pin : Option DevBit) → is_mode mode.Linkage wanted ≡ false → option_map_or (is_bit_of d wanted) pin false ≡ true → PinKept d wanted pin
pin_kept d wanted None apart h = absurd (cc)
pin_kept d wanted (Some b) apart h = let bit = own_bit d wanted b apart h in record { some = refl; own = ap not bit.own; mode = bit.mode }

pin_from : (d : Device) (wanted : PortMode) (pin : Option DevBit) → is_none pin ≡ false → option_map_or (λ (b : DevBit). not (is_own d b)) pin false ≡ false → option_map_or (has_mode d wanted) pin false ≡ true → option_map_or (is_bit_of d wanted) pin false ≡ true
pin_from d wanted None some own has = absurd (cc)
pin_from d wanted (Some b) some own has = bit_of_from d wanted b (not_false (is_own d b) own) has

no_pin : (d : Device) (pin : Option DevBit) → is_none pin ≡ true → (is_some pin ≡ false) × (option_map_or (λ (b : DevBit). not (is_own d b)) pin false ≡ false)
no_pin d None h = (refl, refl)
no_pin d (Some b) h = absurd (cc)

none_from : {A : Type 0} (o : Option A) → is_some o ≡ false → is_none o ≡ true
none_from None h = refl
none_from (Some x) h = absurd (cc)

-- a row's disable value, as the rules see it
free_kept : (d : Device) (o : Option Disable) → option_map_or (λ (e : Disable). false && is_control_at d.cells e.control) o true ≡ true
    → (option_map_or (λ (e : Disable). true) o false ≡ false) × (option_map_or (λ (e : Disable). not (is_control_at d.cells e.control)) o false ≡ false)
free_kept d None h = (refl, refl)
free_kept d (Some e) h = absurd (cc)

free_from : (d : Device) (o : Option Disable) → option_map_or (λ (e : Disable). true) o false ≡ false → option_map_or (λ (e : Disable). false && is_control_at d.cells e.control) o true ≡ true
free_from d None h = refl
free_from d (Some e) h = absurd (cc)

held_kept : (d : Device) (o : Option Disable) → option_map_or (λ (e : Disable). is_control_at d.cells e.control) o false ≡ true
    → (option_map_or (λ (e : Disable). false) o true ≡ false) × (option_map_or (λ (e : Disable). not (is_control_at d.cells e.control)) o false ≡ false)
held_kept d None h = absurd (cc)
held_kept d (Some e) h = (refl, ap not h)

held_from : (d : Device) (o : Option Disable) → option_map_or (λ (e : Disable). false) o true ≡ false → option_map_or (λ (e : Disable). not (is_control_at d.cells e.control)) o false ≡ false → option_map_or (λ (e : Disable). is_control_at d.cells e.control) o false ≡ true
held_from d None h k = absurd (cc)
held_from d (Some e) h k = not_false (is_control_at d.cells e.control) k

-- a row by its parts
abbrev row_by : Function → BoundaryKind → Option DevBit → Option Disable → CellRow → CellRow
row_by f k pin disable c = record { cell = k; pin = pin; function = f; safe = c.safe; disable = disable }

row_keeps : (d : Device) (n : ℕ) (c : CellRow) → IsDeviceRow d n c → row_breaks d n c.function c.cell c.pin c.disable ≡ false
row_keeps d n c is = by c.function c.cell c.pin c.disable is.cell is.pin is.disable is.used
  where
    by : (f : Function) (k : BoundaryKind) (pin : Option DevBit) (disable : Option Disable) → suits f k ≡ true → stands_right d (row_by f k pin disable c) ≡ true
        → disable_right d.cells (row_by f k pin disable c) ≡ true → is_used d.cells n (row_by f k pin disable c) ≡ true → row_breaks d n f k pin disable ≡ false
    by function.Input k pin disable suit stands off used =
        let p = pin_kept d mode.Input pin refl stands in
        let e = free_kept d disable off in
        nine_none _ _ _ _ _ _ _ _ _ refl p.some p.own (ap not (and_true (is_cell cell.Bc1 k || is_cell cell.Bc4 k) (option_map_or (has_mode d mode.Input) pin false) suit p.mode)) refl refl refl e.0 e.1
    by function.Clock k pin disable suit stands off used =
        let p = pin_kept d mode.Input pin refl stands in
        let e = free_kept d disable off in
        nine_none _ _ _ _ _ _ _ _ _ refl p.some p.own refl (ap not (and_true (is_cell cell.Bc4 k) (option_map_or (has_mode d mode.Input) pin false) suit p.mode)) refl refl e.0 e.1
    by function.Output2 k pin disable suit stands off used =
        let p = pin_kept d mode.Output pin refl stands in
        let e = free_kept d disable off in
        nine_none _ _ _ _ _ _ _ _ _ refl p.some p.own refl refl (ap not (and_true (is_cell cell.Bc1 k || is_cell cell.Bc2 k) (option_map_or (has_mode d mode.Output) pin false) suit p.mode)) refl e.0 e.1
    by function.Output3 k pin disable suit stands off used =
        let p = pin_kept d mode.Output pin refl stands in
        let e = held_kept d disable off in
        nine_none _ _ _ _ _ _ _ _ _ refl p.some p.own refl refl (ap not (and_true (is_cell cell.Bc1 k || is_cell cell.Bc2 k) (option_map_or (has_mode d mode.Output) pin false) suit p.mode)) refl e.0 e.1
    by function.Bidir k pin disable suit stands off used =
        let p = pin_kept d mode.Inout pin refl stands in
        let e = held_kept d disable off in
        nine_none _ _ _ _ _ _ _ _ _ refl p.some p.own refl refl refl (ap not (and_true (is_cell cell.Bc7 k) (option_map_or (has_mode d mode.Inout) pin false) suit p.mode)) e.0 e.1
    by function.Control k pin disable suit stands off used =
        let p = no_pin d pin stands in
        let e = free_kept d disable off in
        nine_none _ _ _ _ _ _ _ _ _
        (neither (is_some pin || not (is_cell cell.Bc1 k || is_cell cell.Bc2 k)) (not (list_any (names_control n) d.cells)) (neither (is_some pin) (not (is_cell cell.Bc1 k || is_cell cell.Bc2 k)) p.0 (ap not suit)) (ap not used))
        refl p.1 refl refl refl refl e.0 e.1

row_from : (d : Device) (n : ℕ) (c : CellRow) → row_breaks d n c.function c.cell c.pin c.disable ≡ false → IsDeviceRow d n c
row_from d n c h = let r = by c.function c.cell c.pin c.disable h in record { cell = r.0; pin = r.1; disable = r.2; used = r.3 }
  where
    by : (f : Function) (k : BoundaryKind) (pin : Option DevBit) (disable : Option Disable) → row_breaks d n f k pin disable ≡ false
        → (suits f k ≡ true) × (stands_right d (row_by f k pin disable c) ≡ true) × (disable_right d.cells (row_by f k pin disable c) ≡ true) × (is_used d.cells n (row_by f k pin disable c) ≡ true)
    by function.Input k pin disable h =
        let e = rules_each d n function.Input k pin disable h in
        let right = not_false ((is_cell cell.Bc1 k || is_cell cell.Bc4 k) && option_map_or (has_mode d mode.Input) pin false) e.fourth in
        (and_left (is_cell cell.Bc1 k || is_cell cell.Bc4 k) (option_map_or (has_mode d mode.Input) pin false) right, pin_from d mode.Input pin e.second e.third (and_right (is_cell cell.Bc1 k || is_cell cell.Bc4 k) (option_map_or (has_mode d mode.Input) pin false) right), free_from d disable e.eighth, refl)
    by function.Clock k pin disable h =
        let e = rules_each d n function.Clock k pin disable h in
        let right = not_false (is_cell cell.Bc4 k && option_map_or (has_mode d mode.Input) pin false) e.fifth in
        (and_left (is_cell cell.Bc4 k) (option_map_or (has_mode d mode.Input) pin false) right, pin_from d mode.Input pin e.second e.third (and_right (is_cell cell.Bc4 k) (option_map_or (has_mode d mode.Input) pin false) right), free_from d disable e.eighth, refl)
    by function.Output2 k pin disable h =
        let e = rules_each d n function.Output2 k pin disable h in
        let right = not_false ((is_cell cell.Bc1 k || is_cell cell.Bc2 k) && option_map_or (has_mode d mode.Output) pin false) e.sixth in
        (and_left (is_cell cell.Bc1 k || is_cell cell.Bc2 k) (option_map_or (has_mode d mode.Output) pin false) right, pin_from d mode.Output pin e.second e.third (and_right (is_cell cell.Bc1 k || is_cell cell.Bc2 k) (option_map_or (has_mode d mode.Output) pin false) right), free_from d disable e.eighth, refl)
    by function.Output3 k pin disable h =
        let e = rules_each d n function.Output3 k pin disable h in
        let right = not_false ((is_cell cell.Bc1 k || is_cell cell.Bc2 k) && option_map_or (has_mode d mode.Output) pin false) e.sixth in
        (and_left (is_cell cell.Bc1 k || is_cell cell.Bc2 k) (option_map_or (has_mode d mode.Output) pin false) right, pin_from d mode.Output pin e.second e.third (and_right (is_cell cell.Bc1 k || is_cell cell.Bc2 k) (option_map_or (has_mode d mode.Output) pin false) right), held_from d disable e.eighth e.ninth, refl)
    by function.Bidir k pin disable h =
        let e = rules_each d n function.Bidir k pin disable h in
        let right = not_false (is_cell cell.Bc7 k && option_map_or (has_mode d mode.Inout) pin false) e.seventh in
        (and_left (is_cell cell.Bc7 k) (option_map_or (has_mode d mode.Inout) pin false) right, pin_from d mode.Inout pin e.second e.third (and_right (is_cell cell.Bc7 k) (option_map_or (has_mode d mode.Inout) pin false) right), held_from d disable e.eighth e.ninth, refl)
    by function.Control k pin disable h =
        let e = rules_each d n function.Control k pin disable h in
        let two = or_first (is_some pin || not (is_cell cell.Bc1 k || is_cell cell.Bc2 k)) (not (list_any (names_control n) d.cells)) e.first in
        (not_false (is_cell cell.Bc1 k || is_cell cell.Bc2 k) (or_second (is_some pin) (not (is_cell cell.Bc1 k || is_cell cell.Bc2 k)) two), none_from pin (or_first (is_some pin) (not (is_cell cell.Bc1 k || is_cell cell.Bc2 k)) two), free_from d disable e.eighth, not_false (list_any (names_control n) d.cells) (or_second (is_some pin || not (is_cell cell.Bc1 k || is_cell cell.Bc2 k)) (not (list_any (names_control n) d.cells)) e.first))

-- All rows.

pub rows_keep : (d : Device) → AreNamed d.ports → (first : ℕ) (cells : List CellRow) → AllByRecursion (λ (row : ℕ × CellRow). IsDeviceRow d row.0 row.1) (enumerate_from first cells)
    → list_any (row_misfits (map as_declared d.ports) (tap_of d) (row_entries d.ports 0 d.cells)) (row_entries d.ports first cells) ≡ false
rows_keep d named first [] all = refl
rows_keep d named first (c ∷ cs) all =
    neither (row_misfits (map as_declared d.ports) (tap_of d) (row_entries d.ports 0 d.cells) (row_entry d.ports first c)) _
    (breaks_same d named first c ∙ row_keeps d first c all.0)
    (rows_keep d named (first + 1) cs all.1)

pub rows_from : (d : Device) → AreNamed d.ports → (first : ℕ) (cells : List CellRow) → list_any (row_misfits (map as_declared d.ports) (tap_of d) (row_entries d.ports 0 d.cells)) (row_entries d.ports first cells) ≡ false
    → AllByRecursion (λ (row : ℕ × CellRow). IsDeviceRow d row.0 row.1) (enumerate_from first cells)
rows_from d named first [] h = tt
rows_from d named first (c ∷ cs) h =
    let rows = row_entries d.ports 0 d.cells in
    let misfits = row_misfits (map as_declared d.ports) (tap_of d) rows in (
      row_from d first c (sym (breaks_same d named first c) ∙ or_first (misfits (row_entry d.ports first c)) (list_any misfits (row_entries d.ports (first + 1) cs)) h),
      rows_from d named (first + 1) cs (or_second (misfits (row_entry d.ports first c)) (list_any misfits (row_entries d.ports (first + 1) cs)) h),
    )

-- The bits of the device's own logic.

row_at : (d : Device) → AreNamed d.ports → (place : ℕ) (index : Option ℕ) → place < length d.ports → (n : ℕ) (c : CellRow)
    → is_row_of (bit_of_port (port_name d.ports place) index) (row_entry d.ports n c) ≡ is_at (let bit : DevBit = record { port = place; index = index } in bit) c
row_at d named place index within n c = by c.pin
  where
    by : (o : Option DevBit) → option_map_or (same_bit (bit_of_port (port_name d.ports place) index)) (option_map (port_bit d.ports) o) false ≡ option_map_or (λ (b : DevBit). place == b.port && same_index index b.index) o false
    by None = refl
    by (Some b) = ap (λ (x : Bool). x && same_index index b.index) (same_at d.ports named place b.port within)

count_rows : (ports : List DevPort) (test : RowEntry → Bool) (own : CellRow → Bool) → ((n : ℕ) (c : CellRow) → test (row_entry ports n c) ≡ own c) → (first : ℕ) (cells : List CellRow)
    → tally test (row_entries ports first cells) ≡ tally own cells
count_rows ports test own same first [] = refl
count_rows ports test own same first (c ∷ cs) =
    ap (λ (b : Bool). weigh b 1 + tally test (row_entries ports (first + 1) cs)) (same first c)
    ∙ ap (λ (n : ℕ). weigh (own c) 1 + n) (count_rows ports test own same (first + 1) cs)

-- the bit hasn't one row
abbrev pub not_once : Device → DevBit → Bool
not_once d bit = not (count_by (is_at bit) d.cells == 1)

once_same : (d : Device) → AreNamed d.ports → (place : ℕ) → place < length d.ports → (index : Option ℕ)
    → bit_not_in_one_row (row_entries d.ports 0 d.cells) (bit_of_port (port_name d.ports place) index) ≡ not_once d (let bit : DevBit = record { port = place; index = index } in bit)
once_same d named place within index =
    let test = is_row_of (bit_of_port (port_name d.ports place) index) in
    let own = is_at (let bit : DevBit = record { port = place; index = index } in bit) in
    ap (λ (n : ℕ). not (n == 1)) (count_by-tally test (row_entries d.ports 0 d.cells) ∙ count_rows d.ports test own (row_at d named place index within) 0 d.cells ∙ sym (count_by-tally own d.cells))

-- the ports from this place on
abbrev StandFrom : Device → ℕ → List DevPort → Type 0
StandFrom d first ps = (k : ℕ) → slice_get ps k ≡ slice_get d.ports (first + k)

pub bits_at : (d : Device) → AreNamed d.ports → (first : ℕ) (ps : List DevPort) → StandFrom d first ps
    → list_any (bit_not_in_one_row (row_entries d.ports 0 d.cells)) (system_bits (map as_declared ps) (tap_of d)) ≡ list_any (not_once d) (flat_map (λ (port : ℕ × DevPort). own_bits_at d port.0 port.1) (enumerate_from first ps))
unfolding port_name
bits_at d named first [] stand = refl
bits_at d named first (p ∷ ps) stand =
    let none : first + 0 ≡ first = omega arith in
    let there : slice_get d.ports first ≡ Some p = ap (slice_get d.ports) (sym none) ∙ sym (stand 0) in
    let within = slice_get_within d.ports first p there in
    let name : port_name d.ports first ≡ p.name = ap (λ (o : Option DevPort). option_map_or (λ (q : DevPort). q.name) o []) there in
    let tap : is_tap_port (tap_of d) p.name ≡ is_tap_place d first = ap (is_tap_port (tap_of d)) (sym name) ∙ tap_at d named first within in
    let rest = bits_at d named (first + 1) ps (λ k. stand (suc k) ∙ ap (slice_get d.ports) (next k)) in
    ap (λ (t : Bool). list_any bad (bits_of (cond (not t && not (is_mode mode.Linkage p.mode)) (as_declared p ∷ filter (is_system_port (tap_of d)) (map as_declared ps)) (filter (is_system_port (tap_of d)) (map as_declared ps))))) tap
    ∙ by (is_tap_place d first) (is_mode mode.Linkage p.mode) (here within name) rest
  where
    bad : PortBit → Bool
    bad b = bit_not_in_one_row (row_entries d.ports 0 d.cells) b

    next : (k : ℕ) → first + suc k ≡ first + 1 + k
    next k = omega arith

    bit : Option ℕ → DevBit
    bit index = record { port = first; index = index }

    here : first < length d.ports → port_name d.ports first ≡ p.name → list_any bad (map (bit_of_port p.name) (indices p.range)) ≡ list_any (not_once d) (map bit (indices p.range))
    here within name =
        any_map bad (bit_of_port p.name) (indices p.range)
        ∙ any_same (λ index. bad (bit_of_port p.name index)) (λ index. not_once d (bit index)) (λ index. ap (λ (n : List ℕ). bad (bit_of_port n index)) (sym name) ∙ once_same d named first within index) (indices p.range)
        ∙ sym (any_map (not_once d) bit (indices p.range))

    by : (t l : Bool) → list_any bad (map (bit_of_port p.name) (indices p.range)) ≡ list_any (not_once d) (map bit (indices p.range))
        → list_any bad (system_bits (map as_declared ps) (tap_of d)) ≡ list_any (not_once d) (flat_map (λ (port : ℕ × DevPort). own_bits_at d port.0 port.1) (enumerate_from (first + 1) ps))
        → list_any bad (bits_of (cond (not t && not l) (as_declared p ∷ filter (is_system_port (tap_of d)) (map as_declared ps)) (filter (is_system_port (tap_of d)) (map as_declared ps))))
        ≡ list_any (not_once d) (cond (t || l) [] (map bit (indices p.range)) ++ flat_map (λ (port : ℕ × DevPort). own_bits_at d port.0 port.1) (enumerate_from (first + 1) ps))
    by true l now rest = rest
    by false true now rest = rest
    by false false now rest =
        list_any-append bad (map (bit_of_port p.name) (indices p.range)) (system_bits (map as_declared ps) (tap_of d))
        ∙ ap (λ (b : Bool). b || list_any bad (system_bits (map as_declared ps) (tap_of d))) now
        ∙ ap (λ (b : Bool). list_any (not_once d) (map bit (indices p.range)) || b) rest
        ∙ sym (list_any-append (not_once d) (map bit (indices p.range)) (flat_map (λ (port : ℕ × DevPort). own_bits_at d port.0 port.1) (enumerate_from (first + 1) ps)))

-- The cells again.

-- the port of a row's bit
pub record BitThere (d : Device) (b : DevBit) : Type 0 where
  pub port : DevPort
  pub there : slice_get d.ports b.port ≡ Some port
  pub bit : has_bit port.range b.index ≡ true

bit_there : (d : Device) (wanted : PortMode) (b : DevBit) → is_bit_of d wanted b ≡ true → BitThere d b
bit_there d wanted b h = by (slice_get d.ports b.port) refl h
  where
    by : (o : Option DevPort) → slice_get d.ports b.port ≡ o → option_map_or (λ (p : DevPort). has_bit p.range b.index && not (is_tap_place d b.port) && is_mode wanted p.mode) o false ≡ true → BitThere d b
    by None is k = absurd (cc)
    by (Some p) is k =
        let bit = has_bit p.range b.index in
        let free = not (is_tap_place d b.port) in
        record { port = p; there = is; bit = and_left bit free (and_left (bit && free) (is_mode wanted p.mode) k) }

abbrev pub PinThere : Device → Option DevBit → Type 0
PinThere d None = Unit {0}
PinThere d (Some b) = BitThere d b

pub pin_there : (d : Device) (c : CellRow) → stands_right d c ≡ true → PinThere d c.pin
pin_there d c h = by (wanted_mode c.function) c.pin h
  where
    by : (w : Option PortMode) (o : Option DevBit) → option_map_or (λ wanted. option_map_or (is_bit_of d wanted) o false) w (is_none o) ≡ true → PinThere d o
    by w None k = tt
    by None (Some b) k = absurd (cc)
    by (Some wanted) (Some b) k = bit_there d wanted b k

pub cells_at : (d : Device) → AreNamed d.ports → (first : ℕ) (cells : List CellRow) → AllByRecursion (λ (row : ℕ × CellRow). IsDeviceRow d row.0 row.1) (enumerate_from first cells)
    → map (cell_of (map as_declared d.ports)) (row_entries d.ports first cells) ≡ cells
cells_at d named first [] all = refl
cells_at d named first (c ∷ cs) all =
    ap (λ (o : Option DevBit). record { cell = c.cell; pin = o; function = c.function; safe = c.safe; disable = c.disable } ∷ map (cell_of (map as_declared d.ports)) (row_entries d.ports (first + 1) cs)) (by c.pin (pin_there d c all.0.pin))
    ∙ ap (λ (l : List CellRow). c ∷ l) (cells_at d named (first + 1) cs all.1)
  where
    by : (o : Option DevBit) → PinThere d o → option_map (bit_of (map as_declared d.ports)) (option_map (port_bit d.ports) o) ≡ o
    by None at = refl
    by (Some b) at = ap (λ (n : ℕ). let bit : DevBit = record { port = n; index = b.index } in Some bit) (place_at d.ports named b.port (slice_get_within d.ports b.port at.port at.there))

-- Rows are numbered.

pub rows_numbered : (ports : List DevPort) (first : ℕ) (cells : List CellRow) → NumberedFrom first (row_entries ports first cells)
rows_numbered ports first [] = tt
rows_numbered ports first (c ∷ cs) = (refl, subst (λ (n : ℕ). NumberedFrom n (row_entries ports (first + 1) cs)) (add-one first) (rows_numbered ports (first + 1) cs))

pub rows_many : (ports : List DevPort) (first : ℕ) (cells : List CellRow) → length (row_entries ports first cells) ≡ length cells
rows_many ports first [] = refl
rows_many ports first (c ∷ cs) = ap (λ (n : ℕ). suc n) (rows_many ports (first + 1) cs)
