-- The rows of the canonical text keep the rules on rows and describe the cells as before.
use Rattle.std.proofs.Common.{◌≡◌, ℕ, suc, List, [], ◌∷◌, Bool, true, false, Option, Some, None, map, refl, sym, ap, ◌∙◌, add-one}
use Rattle.std.specs.Prelude.{◌==◌, ◌||◌, ◌&&◌, not, is_some, is_none}
use Rattle.std.specs.List.{list_any}
use Rattle.std.specs.Option.{option_map, option_map_or}
use Rattle.std.proofs.Math.Bool.{and-false}
use Rattle.list_laws.proofs.Tests.{or_first, or_second, neither}
use Rattle.list_laws.proofs.Numbers.{eqb-sym}
use Rattle.list_laws.proofs.Options.{found}
use Rattle.list_laws.proofs.Lists.{any_same, any_map}
use Rattle.cell_library.specs.declared.codes.Function.TheVariants as function
use Rattle.cell_library.specs.declared.codes.BoundaryKind.TheVariants as cell
use Rattle.bsdl_lexicon.specs.Names.{same_name, is_same_name}
use Rattle.bsdl_lexicon.proofs.SameNames.{same_name-true}
use Rattle.bsdl_device.specs.declared.values.PortMode.{PortMode}
use Rattle.bsdl_device.specs.declared.values.PortMode.TheVariants as mode
use Rattle.bsdl_device.specs.declared.values.DevBit.{DevBit}
use Rattle.bsdl_device.specs.declared.values.Disable.{Disable}
use Rattle.bsdl_device.specs.declared.values.CellRow.{CellRow}
use Rattle.bsdl_device.specs.declared.written.DeclaredPort.{DeclaredPort}
use Rattle.bsdl_device.specs.declared.written.TapNames.{TapNames}
use Rattle.bsdl_device.specs.declared.entries.PinEntry.{PinEntry}
use Rattle.bsdl_device.specs.declared.entries.PortBit.{PortBit}
use Rattle.bsdl_device.specs.declared.entries.RowEntry.{RowEntry}
use Rattle.bsdl_device.specs.Ports.{port_named, has_bit, same_bit, same_index, is_mode}
use Rattle.bsdl_device.specs.Checks.{any_pair, is_numbered}
use Rattle.bsdl_device.specs.RowRules.{is_control, is_cell, is_function, is_disabled_by, control_fails, lacks_port, is_system_port, is_system_bit, port_misfits, is_row_of, bit_not_in_one_row, stands_at, input_fails, clock_fails, output_fails, bidir_fails, disable_misfits, control_is_unknown, differ, disables_disagree, rows_disagree, row_misfits}
use Rattle.bsdl_device.specs.Denoted.{port_of, bit_of, cell_of}
use Rattle.bsdl_device.proofs.Totals.{weigh, total_same, total-map, count_by-tally, any_shuffled, count_shuffled, Shuffled}
use Rattle.bsdl_device.proofs.Pairs.{pair-map, pairs_shuffled}
use Rattle.bsdl_device.proofs.RoundTripNames.{same_right}
use Rattle.bsdl_device.proofs.Lookups.{port_named_same, place_of_same, name_at_place}
use Rattle.bsdl_device.proofs.Taps.{SameTap, system_port_same}
use Rattle.bsdl_device.proofs.Numbered.{NumberedFrom}
use Rattle.bsdl_device.proofs.Rebuilt.{port_bit, row_entry, row_entries}

-- Rows whose ports are spelled as they are declared.

abbrev pub own_spelling : Option DeclaredPort → List ℕ → List ℕ
own_spelling None name = name
own_spelling (Some p) name = p.name

abbrev pub respelled_bit : List DeclaredPort → PortBit → PortBit
respelled_bit ports b = record { port = own_spelling (port_named ports b.port) b.port; index = b.index }

abbrev pub respelled_row : List DeclaredPort → RowEntry → RowEntry
respelled_row ports r = record { number = r.number; cell = r.cell; port = option_map (respelled_bit ports) r.port; function = r.function; safe = r.safe; disable = r.disable }

bit_same : (ports : List DeclaredPort) (b : PortBit) → same_name (respelled_bit ports b).port b.port
bit_same ports b = by (port_named ports b.port) refl
  where
    by : (o : Option DeclaredPort) → port_named ports b.port ≡ o → same_name (own_spelling o b.port) b.port
    by None is = refl
    by (Some p) is = sym (same_name-true b.port p.name (found (λ (q : DeclaredPort). is_same_name b.port q.name) ports p is))

-- the row's port, where it has one, is declared
abbrev pub is_known : List DeclaredPort → RowEntry → Bool
is_known ports r = option_map_or (λ (b : PortBit). is_some (port_named ports b.port)) r.port true

-- The rows of the canonical text are those of the file in order, respelled.

bit_again : (entries : List PinEntry) (ports : List DeclaredPort) (b : PortBit) → is_some (port_named ports b.port) ≡ true → port_bit (map (port_of entries) ports) (bit_of ports b) ≡ respelled_bit ports b
bit_again entries ports b known = by (port_named ports b.port) refl known
  where
    by : (o : Option DeclaredPort) → port_named ports b.port ≡ o → is_some o ≡ true → port_bit (map (port_of entries) ports) (bit_of ports b) ≡ record { port = own_spelling o b.port; index = b.index }
    by None is k = absurd (cc)
    by (Some p) is k = ap (λ (n : List ℕ). record { port = n; index = b.index }) (name_at_place entries ports b.port p is)

pub rows_respelled : (entries : List PinEntry) (ports : List DeclaredPort) (first : ℕ) (rows : List RowEntry) → NumberedFrom first rows → list_any (λ r. not (is_known ports r)) rows ≡ false
    → row_entries (map (port_of entries) ports) first (map (cell_of ports) rows) ≡ map (respelled_row ports) rows
rows_respelled entries ports first [] numbered known = refl
rows_respelled entries ports first (r ∷ rs) numbered known =
    ap (λ (l : List RowEntry). row_entry (map (port_of entries) ports) first (cell_of ports r) ∷ l)
    (ap (λ (n : ℕ). row_entries (map (port_of entries) ports) n (map (cell_of ports) rs)) (add-one first) ∙ rows_respelled entries ports (suc first) rs numbered.1 (or_second (not (is_known ports r)) (list_any (λ s. not (is_known ports s)) rs) known))
    ∙ ap (λ (s : RowEntry). s ∷ map (respelled_row ports) rs)
    (ap (λ (n : ℕ). row_entry (map (port_of entries) ports) n (cell_of ports r)) (sym numbered.0)
    ∙ ap (λ (o : Option PortBit). record { number = r.number; cell = r.cell; port = o; function = r.function; safe = r.safe; disable = r.disable }) (by r.port (or_first (not (is_known ports r)) (list_any (λ s. not (is_known ports s)) rs) known)))
  where
    by : (o : Option PortBit) → not (option_map_or (λ (b : PortBit). is_some (port_named ports b.port)) o true) ≡ false → option_map (port_bit (map (port_of entries) ports)) (option_map (bit_of ports) o) ≡ option_map (respelled_bit ports) o
    by None k = refl
    by (Some b) k = ap (λ (c : PortBit). Some c) (bit_again entries ports b (not_false (is_some (port_named ports b.port)) k))
      where
        not_false : (x : Bool) → not x ≡ false → x ≡ true
        not_false true h = refl
        not_false false h = absurd (cc)

pub numbered_respelled : (ports : List DeclaredPort) (first : ℕ) (rows : List RowEntry) → NumberedFrom first rows → NumberedFrom first (map (respelled_row ports) rows)
numbered_respelled ports first [] numbered = tt
numbered_respelled ports first (r ∷ rs) numbered = (numbered.0, numbered_respelled ports (suc first) rs numbered.1)

-- The cells again.

pub cells_respelled : (ports : List DeclaredPort) (rows : List RowEntry) → map (cell_of ports) (map (respelled_row ports) rows) ≡ map (cell_of ports) rows
cells_respelled ports [] = refl
cells_respelled ports (r ∷ rs) =
    ap (λ (o : Option DevBit). record { cell = r.cell; pin = o; function = r.function; safe = r.safe; disable = r.disable } ∷ map (cell_of ports) (map (respelled_row ports) rs)) (by r.port)
    ∙ ap (λ (l : List CellRow). cell_of ports r ∷ l) (cells_respelled ports rs)
  where
    by : (o : Option PortBit) → option_map (bit_of ports) (option_map (respelled_bit ports) o) ≡ option_map (bit_of ports) o
    by None = refl
    by (Some b) = ap (λ (n : ℕ). let bit : DevBit = record { port = n; index = b.index } in Some bit) (place_of_same ports (respelled_bit ports b).port b.port (bit_same ports b))

-- One row.

any_equal : {A : Type 0} (test : A → Bool) (xs ys : List A) → Shuffled xs ys → list_any test xs ≡ list_any test ys
any_equal {A} test xs ys s = by (list_any test xs) refl (list_any test ys) refl
  where
    back : Shuffled ys xs
    back = record { same = λ weight. sym (s.same weight) }

    by : (a : Bool) → list_any test xs ≡ a → (b : Bool) → list_any test ys ≡ b → list_any test xs ≡ list_any test ys
    by true h true k = h ∙ sym k
    by false h false k = h ∙ sym k
    by true h false k = let other : list_any test xs ≡ false = any_shuffled test xs ys s k in absurd (cc)
    by false h true k = let other : list_any test ys ≡ false = any_shuffled test ys xs back h in absurd (cc)

is_some_same : {A B : Type 0} (f : A → B) (o : Option A) → is_some (option_map f o) ≡ is_some o
is_some_same f None = refl
is_some_same f (Some x) = refl

is_none_same : {A B : Type 0} (f : A → B) (o : Option A) → is_none (option_map f o) ≡ is_none o
is_none_same f None = refl
is_none_same f (Some x) = refl

stands_same : (ports : List DeclaredPort) (wanted : PortMode) (r : RowEntry) → stands_at ports wanted (respelled_row ports r) ≡ stands_at ports wanted r
stands_same ports wanted r = by r.port
  where
    by : (o : Option PortBit) → option_map_or (λ (b : PortBit). option_map_or (λ (p : DeclaredPort). is_mode wanted p.mode) (port_named ports b.port) false) (option_map (respelled_bit ports) o) false ≡ option_map_or (λ (b : PortBit). option_map_or (λ (p : DeclaredPort). is_mode wanted p.mode) (port_named ports b.port) false) o false
    by None = refl
    by (Some b) = ap (λ (o : Option DeclaredPort). option_map_or (λ (p : DeclaredPort). is_mode wanted p.mode) o false) (port_named_same ports (respelled_bit ports b).port b.port (bit_same ports b))

system_same : (ports : List DeclaredPort) (a b : TapNames) → SameTap a b → (c : PortBit) → is_system_bit ports a (respelled_bit ports c) ≡ is_system_bit ports b c
system_same ports a b s c =
    ap (λ (o : Option DeclaredPort). option_map_or (λ (p : DeclaredPort). has_bit p.range c.index && is_system_port a p) o false) (port_named_same ports (respelled_bit ports c).port c.port (bit_same ports c))
    ∙ by (port_named ports c.port)
  where
    by : (o : Option DeclaredPort) → option_map_or (λ (p : DeclaredPort). has_bit p.range c.index && is_system_port a p) o false ≡ option_map_or (λ (p : DeclaredPort). has_bit p.range c.index && is_system_port b p) o false
    by None = refl
    by (Some p) = ap (λ (x : Bool). has_bit p.range c.index && x) (system_port_same a b s p)

misfits_same : (ports : List DeclaredPort) (a b : TapNames) → SameTap a b → (r : RowEntry) → port_misfits ports a (respelled_row ports r) ≡ port_misfits ports b r
misfits_same ports a b s r = by r.port
  where
    by : (o : Option PortBit) → option_map_or (λ c. not (is_system_bit ports a c)) (option_map (respelled_bit ports) o) false ≡ option_map_or (λ c. not (is_system_bit ports b c)) o false
    by None = refl
    by (Some c) = ap not (system_same ports a b s c)

any_respelled : (ports : List DeclaredPort) (test : RowEntry → Bool) → ((r : RowEntry) → test (respelled_row ports r) ≡ test r) → (xs ys : List RowEntry) → Shuffled xs ys → list_any test (map (respelled_row ports) xs) ≡ list_any test ys
any_respelled ports test same xs ys s = any_map test (respelled_row ports) xs ∙ any_same (λ r. test (respelled_row ports r)) test same xs ∙ any_equal test xs ys s

nine : (a b c d e f g h i a2 b2 c2 d2 e2 f2 g2 h2 i2 : Bool) → a ≡ a2 → b ≡ b2 → c ≡ c2 → d ≡ d2 → e ≡ e2 → f ≡ f2 → g ≡ g2 → h ≡ h2 → i ≡ i2
    → (a || b || c || d || e || f || g || h || i) ≡ (a2 || b2 || c2 || d2 || e2 || f2 || g2 || h2 || i2)
nine a b c d e f g h i a2 b2 c2 d2 e2 f2 g2 h2 i2 ha hb hc hd he hf hg hh hi = cc

-- a row breaks a rule of its own just where it did
row_same : (ports : List DeclaredPort) (a b : TapNames) → SameTap a b → (xs ys : List RowEntry) → Shuffled xs ys → (r : RowEntry) → row_misfits ports a (map (respelled_row ports) xs) (respelled_row ports r) ≡ row_misfits ports b ys r
row_same ports a b t xs ys s r =
    let named : list_any (is_disabled_by r.number) (map (respelled_row ports) xs) ≡ list_any (is_disabled_by r.number) ys = any_respelled ports (is_disabled_by r.number) (λ q. refl) xs ys s in
    nine (control_fails (map (respelled_row ports) xs) (respelled_row ports r)) (lacks_port (respelled_row ports r)) (port_misfits ports a (respelled_row ports r)) (input_fails ports (respelled_row ports r)) (clock_fails ports (respelled_row ports r)) (output_fails ports (respelled_row ports r)) (bidir_fails ports (respelled_row ports r)) (disable_misfits (respelled_row ports r)) (control_is_unknown (map (respelled_row ports) xs) (respelled_row ports r))
    (control_fails ys r) (lacks_port r) (port_misfits ports b r) (input_fails ports r) (clock_fails ports r) (output_fails ports r) (bidir_fails ports r) (disable_misfits r) (control_is_unknown ys r)
    (ap (λ (x : Bool). is_control r && (x || not (is_cell cell.Bc1 r.cell || is_cell cell.Bc2 r.cell) || not (list_any (is_disabled_by r.number) (map (respelled_row ports) xs)))) (is_some_same (respelled_bit ports) r.port)
    ∙ ap (λ (x : Bool). is_control r && (is_some r.port || not (is_cell cell.Bc1 r.cell || is_cell cell.Bc2 r.cell) || not x)) named)
    (ap (λ (x : Bool). not (is_control r) && x) (is_none_same (respelled_bit ports) r.port))
    (misfits_same ports a b t r)
    (ap (λ (x : Bool). is_function function.Input r.function && not ((is_cell cell.Bc1 r.cell || is_cell cell.Bc4 r.cell) && x)) (stands_same ports mode.Input r))
    (ap (λ (x : Bool). is_function function.Clock r.function && not (is_cell cell.Bc4 r.cell && x)) (stands_same ports mode.Input r))
    (ap (λ (x : Bool). (is_function function.Output2 r.function || is_function function.Output3 r.function) && not ((is_cell cell.Bc1 r.cell || is_cell cell.Bc2 r.cell) && x)) (stands_same ports mode.Output r))
    (ap (λ (x : Bool). is_function function.Bidir r.function && not (is_cell cell.Bc7 r.cell && x)) (stands_same ports mode.Inout r))
    refl
    (unknown r.disable)
  where
    unknown : (o : Option Disable) → option_map_or (λ (d : Disable). not (list_any (λ (q : RowEntry). is_numbered d.control q && is_control q) (map (respelled_row ports) xs))) o false ≡ option_map_or (λ (d : Disable). not (list_any (λ (q : RowEntry). is_numbered d.control q && is_control q) ys)) o false
    unknown None = refl
    unknown (Some d) = ap not (any_respelled ports (λ (q : RowEntry). is_numbered d.control q && is_control q) (λ q. refl) xs ys s)

pub rows_same : (ports : List DeclaredPort) (a b : TapNames) → SameTap a b → (xs ys : List RowEntry) → Shuffled xs ys
    → list_any (row_misfits ports a (map (respelled_row ports) xs)) (map (respelled_row ports) xs) ≡ list_any (row_misfits ports b ys) ys
rows_same ports a b t xs ys s =
    any_map (row_misfits ports a (map (respelled_row ports) xs)) (respelled_row ports) xs
    ∙ any_same (λ r. row_misfits ports a (map (respelled_row ports) xs) (respelled_row ports r)) (row_misfits ports b ys) (row_same ports a b t xs ys s) xs
    ∙ any_equal (row_misfits ports b ys) xs ys s

-- Rows together.

row_of_same : (ports : List DeclaredPort) (b : PortBit) (r : RowEntry) → is_row_of b (respelled_row ports r) ≡ is_row_of b r
row_of_same ports b r = by r.port
  where
    by : (o : Option PortBit) → option_map_or (same_bit b) (option_map (respelled_bit ports) o) false ≡ option_map_or (same_bit b) o false
    by None = refl
    by (Some c) = ap (λ (x : Bool). x && same_index b.index c.index) (same_right (respelled_bit ports c).port c.port b.port (bit_same ports c))

one_row_same : (ports : List DeclaredPort) (xs ys : List RowEntry) → Shuffled xs ys → (b : PortBit) → bit_not_in_one_row (map (respelled_row ports) xs) b ≡ bit_not_in_one_row ys b
one_row_same ports xs ys s b = ap (λ (n : ℕ). not (n == 1)) (
    count_by-tally (is_row_of b) (map (respelled_row ports) xs)
    ∙ total-map (λ r. weigh (is_row_of b r) 1) (respelled_row ports) xs
    ∙ total_same (λ r. weigh (is_row_of b (respelled_row ports r)) 1) (λ r. weigh (is_row_of b r) 1) (λ r. ap (λ (x : Bool). weigh x 1) (row_of_same ports b r)) xs
    ∙ sym (count_by-tally (is_row_of b) xs)
    ∙ count_shuffled (is_row_of b) xs ys s)

pub bits_same : (ports : List DeclaredPort) (xs ys : List RowEntry) → Shuffled xs ys → (bits : List PortBit) → list_any (bit_not_in_one_row (map (respelled_row ports) xs)) bits ≡ list_any (bit_not_in_one_row ys) bits
bits_same ports xs ys s bits = any_same (bit_not_in_one_row (map (respelled_row ports) xs)) (bit_not_in_one_row ys) (one_row_same ports xs ys s) bits

differ_turned : (a b : Bool) → differ a b ≡ differ b a
differ_turned true true = refl
differ_turned true false = refl
differ_turned false true = refl
differ_turned false false = refl

differ_not : (a : Bool) → differ a a ≡ false
differ_not true = refl
differ_not false = refl

disagree_turned : (r s : RowEntry) → rows_disagree r s ≡ rows_disagree s r
disagree_turned r s = by r.disable s.disable
  where
    by : (o p : Option Disable) → option_map_or (λ d. option_map_or (disables_disagree d) p false) o false ≡ option_map_or (λ d. option_map_or (disables_disagree d) o false) p false
    by None None = refl
    by None (Some e) = refl
    by (Some d) None = refl
    by (Some d) (Some e) = ap (λ (x : Bool). x && differ d.value e.value) (eqb-sym d.control e.control) ∙ ap (λ (x : Bool). (e.control == d.control) && x) (differ_turned d.value e.value)

agrees_with_itself : (r : RowEntry) → rows_disagree r r ≡ false
agrees_with_itself r = by r.disable
  where
    by : (o : Option Disable) → option_map_or (λ d. option_map_or (disables_disagree d) o false) o false ≡ false
    by None = refl
    by (Some d) = ap (λ (x : Bool). (d.control == d.control) && x) (differ_not d.value) ∙ and-false (d.control == d.control)

pub agree_again : (ports : List DeclaredPort) (xs ys : List RowEntry) → Shuffled xs ys → any_pair rows_disagree ys ≡ false → any_pair rows_disagree (map (respelled_row ports) xs) ≡ false
agree_again ports xs ys s h = pair-map rows_disagree (respelled_row ports) xs ∙ pairs_shuffled rows_disagree disagree_turned agrees_with_itself xs ys s h

pub outputs_same : (ports : List DeclaredPort) (xs ys : List RowEntry) → Shuffled xs ys → list_any (λ (r : RowEntry). is_function function.Output2 r.function) (map (respelled_row ports) xs) ≡ list_any (λ (r : RowEntry). is_function function.Output2 r.function) ys
outputs_same ports xs ys s = any_respelled ports (λ (r : RowEntry). is_function function.Output2 r.function) (λ r. refl) xs ys s

-- A row that keeps the rules has a declared port.

pub known_from : (ports : List DeclaredPort) (tap : TapNames) (all rows : List RowEntry) → list_any (row_misfits ports tap all) rows ≡ false → list_any (λ r. not (is_known ports r)) rows ≡ false
known_from ports tap all [] h = refl
known_from ports tap all (r ∷ rs) h =
    neither (not (is_known ports r)) (list_any (λ s. not (is_known ports s)) rs)
    (by r.port (port_kept (or_first (row_misfits ports tap all r) (list_any (row_misfits ports tap all) rs) h)))
    (known_from ports tap all rs (or_second (row_misfits ports tap all r) (list_any (row_misfits ports tap all) rs) h))
  where
    third : (a b c d e f g i j : Bool) → (a || b || c || d || e || f || g || i || j) ≡ false → c ≡ false
    third a b c d e f g i j k =
        or_second (a || b) c (or_first (a || b || c) d (or_first (a || b || c || d) e (or_first (a || b || c || d || e) f (or_first (a || b || c || d || e || f) g (or_first (a || b || c || d || e || f || g) i (or_first (a || b || c || d || e || f || g || i) j k))))))

    port_kept : row_misfits ports tap all r ≡ false → port_misfits ports tap r ≡ false
    port_kept k = third (control_fails all r) (lacks_port r) (port_misfits ports tap r) (input_fails ports r) (clock_fails ports r) (output_fails ports r) (bidir_fails ports r) (disable_misfits r) (control_is_unknown all r) k

    known_bit : (b : PortBit) (o : Option DeclaredPort) → not (option_map_or (λ (p : DeclaredPort). has_bit p.range b.index && is_system_port tap p) o false) ≡ false → not (is_some o) ≡ false
    known_bit b None k = k
    known_bit b (Some p) k = refl

    by : (o : Option PortBit) → option_map_or (λ b. not (is_system_bit ports tap b)) o false ≡ false → not (option_map_or (λ (b : PortBit). is_some (port_named ports b.port)) o true) ≡ false
    by None k = refl
    by (Some b) k = known_bit b (port_named ports b.port) k
