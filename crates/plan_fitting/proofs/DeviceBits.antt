-- Each bit of the device's own logic has one row.
use Rattle.std.proofs.Common.{◌≡◌, ℕ, zero, suc, ◌+◌, ◌-◌, ◌<◌, ◌≤◌, ◌==◌, Bool, true, false, List, [], ◌∷◌, ◌++◌, map, length, slice_get, if◌then◌else◌, Option, Some, None, option_map, refl, sym, ap, ◌∙◌, subst, inl, inr, arith, eq-eqb}
use Rattle.std.specs.Prelude.{◌||◌, count_by}
use Rattle.std.specs.List.{list_any, list_all, flat_map, enumerate_from, AllByRecursion}
use Rattle.std.specs.Option.{option_map_or}
use Rattle.std.proofs.lemmas.Bool.{cases_lt}
use Rattle.std.proofs.lemmas.Option.{slice_get-map}
use Rattle.std.proofs.lemmas.List.Folds.{list_all-append}
use Rattle.list_laws.proofs.Tests.{and_left, and_right, and_true, or_more}
use Rattle.list_laws.proofs.Numbers.{eqb_same}
use Rattle.list_laws.proofs.Lists.{all_append, slice_get_there, slice_get-counted_from, all_mapped, any_at, test_at}
use Rattle.list_laws.proofs.Options.{some_same}
use Rattle.cell_library.specs.declared.codes.BoundaryKind.{BoundaryKind}
use Rattle.netlist_model.specs.declared.PinBit.{PinBit}
use Rattle.netlist_model.specs.declared.Range.{Range}
use Rattle.netlist_model.specs.Lists.{PortView}
use Rattle.netlist_model.specs.Formed.{width_of}
use Rattle.netlist_unlink.specs.netlist_link.Linked.{LinkedView, own_ports}
use Rattle.netlist_unlink.specs.netlist_link.PinWords.{pin_at}
use Rattle.netlist_unlink.specs.netlist_link.WellNamed.{index_from}
use Rattle.bsdl_device.specs.declared.values.DevPort.{DevPort}
use Rattle.bsdl_device.specs.declared.values.DevBit.{DevBit}
use Rattle.bsdl_device.specs.Checks.{any_pair}
use Rattle.bsdl_device.specs.Ports.{width, indices, index_at, counted_from, is_mode}
use Rattle.bsdl_device.specs.IsDevice.{is_tap_place, tap_places, own_bits_at, own_bits, is_at}
use Rattle.plan_texts.specs.declared.plan.Plan.{Plan}
use Rattle.plan_fitting.specs.declared.fitted.FitRow.{FitRow}
use Rattle.plan_fitting.specs.declared.fitted.Fitted.{Fitted}
use Rattle.plan_fitting.specs.Pins.{PinSeen, same_bit}
use Rattle.plan_fitting.specs.Names.{NamedBit, named_bit, bits_of_port, port_bits}
use Rattle.plan_fitting.specs.Fits.{has_line}
use Rattle.plan_fitting.specs.Rows.{rows, has_highz}
use Rattle.plan_fitting.specs.Devices.{fit_port, fitted_of, dev_port, port_range, scalar_port, tap_ports, dev_ports, dev_bit, cell_row, device_of}
use Rattle.plan_fitting.specs.FittingPlan.{HasWidths}
use Rattle.plan_fitting.proofs.DevicesLists.{all_from_places, enumerated_at, all_enumerated}
use Rattle.plan_fitting.proofs.OwnPorts.{own_there, own_below}
use Rattle.plan_fitting.proofs.Rows.{Fact, Each}
use Rattle.plan_fitting.proofs.RowCounts.{weigh, count-cons, count_some, sits, makes_row, rows_count, at_most_one}
use Rattle.plan_fitting.proofs.Lined.{IsLined}
use Rattle.plan_fitting.proofs.PortPins.{same_bits_join}
use Rattle.plan_fitting.proofs.Indices.{IsBit, range_there, dev_port_at, count_of_own, same_in_device, same_dev_bit}
use Rattle.plan_fitting.proofs.DeviceTap.{behind_own}
use Rattle.plan_fitting.proofs.DeviceRows.{lined_bit, mapped_at}
use Rattle.link_model.specs.Nets as link
use Rattle.bsdl_device.specs.declared.values.PortMode.TheVariants as mode

-- Each bit of the netlist's own ports has a line.

flat_at : {X Y : Type 0} (p : Y → Bool) (g : X → List Y) (xs : List X) (k : ℕ) (x : X) → list_all p (flat_map g xs) ≡ true → slice_get xs k ≡ Some x → list_all p (g x) ≡ true
flat_at p g [] k x all h = absurd (cc)
flat_at {X = X} p g (y ∷ xs) zero x all h =
    let same : y ≡ x = some_same y x (Some y) refl h in
    subst (λ (z : X). list_all p (g z) ≡ true) same (and_left (list_all p (g y)) (list_all p (flat_map g xs)) (sym (list_all-append p (g y) (flat_map g xs)) ∙ all))
flat_at p g (y ∷ xs) (suc k) x all h = flat_at p g xs k x (and_right (list_all p (g y)) (list_all p (flat_map g xs)) (sym (list_all-append p (g y) (flat_map g xs)) ∙ all)) h

pub bit_has_line : (L : LinkedView) (seen : List PinSeen) → list_all (λ (b : NamedBit). has_line seen b.pin) (port_bits L) ≡ true
    → (k : ℕ) (port : PortView) (j : ℕ) → slice_get (own_ports L) k ≡ Some port → j < length port.nets → has_line seen (pin_at k j) ≡ true
bit_has_line L seen all k port j there low =
    let at : 0 + k ≡ k = omega arith in
    let number : slice_get (enumerate_from 0 (own_ports L)) k ≡ Some (k, port) = enumerated_at 0 (own_ports L) k port there ∙ ap (λ (n : ℕ). Some (n, port)) at in
    let own = flat_at (λ (b : NamedBit). has_line seen b.pin) (bits_of_port L) (enumerate_from 0 (own_ports L)) k (k, port) all number in
    let place : slice_get (link.counted_from 0 (length port.nets)) j ≡ Some (0 + j) = slice_get-counted_from 0 (length port.nets) j low in
    let bit : 0 + j ≡ j = omega arith in
    test_at (λ (b : NamedBit). has_line seen b.pin) (bits_of_port L (k, port)) j (named_bit L k port j) own
    (slice_get-map (named_bit L k port) (link.counted_from 0 (length port.nets)) j ∙ ap (option_map (named_bit L k port)) place ∙ ap (λ (n : ℕ). Some (named_bit L k port n)) bit)

-- One line, one row.

pub same_self : (x : PinBit) → same_bit x x ≡ true
same_self x = and_true (x.port.0 == x.port.0) (x.bit == x.bit) (eqb_same x.port.0) (eqb_same x.bit)

first_or : (a b : Bool) → a ≡ true → (a || b) ≡ true
first_or true b h = refl
first_or false b h = absurd (cc)

turned_bit : (a b : PinBit) → same_bit a b ≡ true → same_bit b a ≡ true
turned_bit a b h = same_bits_join a b a h (same_self a)

any_turned : (x : PinBit) (seen : List PinSeen) → has_line seen x ≡ true → list_any (λ (one : PinSeen). same_bit x one.pin) seen ≡ true
any_turned x [] h = absurd (cc)
any_turned x (one ∷ seen) h = by (same_bit one.pin x) refl h (λ k. any_turned x seen k)
  where
    by : (b : Bool) → same_bit one.pin x ≡ b → (b || has_line seen x) ≡ true → (has_line seen x ≡ true → list_any (λ (y : PinSeen). same_bit x y.pin) seen ≡ true)
        → (same_bit x one.pin || list_any (λ (y : PinSeen). same_bit x y.pin) seen) ≡ true
    by true e k more = ap (λ (b : Bool). b || list_any (λ (y : PinSeen). same_bit x y.pin) seen) (turned_bit one.pin x e)
    by false e k more = or_more (same_bit x one.pin) (list_any (λ (y : PinSeen). same_bit x y.pin) seen) (more k)

mapped_any : (t : PinBit → Bool) (xs : List PinSeen) → list_any t (map (λ (y : PinSeen). y.pin) xs) ≡ list_any (λ (y : PinSeen). t y.pin) xs
mapped_any t [] = refl
mapped_any t (y ∷ xs) = ap (λ (b : Bool). t y.pin || b) (mapped_any t xs)

mapped_pair : (r : PinBit → PinBit → Bool) (seen : List PinSeen) → any_pair r (map (λ (one : PinSeen). one.pin) seen) ≡ any_pair (λ (a : PinSeen) (b : PinSeen). r a.pin b.pin) seen
mapped_pair r [] = refl
mapped_pair r (one ∷ seen) =
    ap (λ (b : Bool). b || any_pair r (map (λ (y : PinSeen). y.pin) seen)) (mapped_any (r one.pin) seen)
    ∙ ap (λ (b : Bool). list_any (λ (y : PinSeen). r one.pin y.pin) seen || b) (mapped_pair r seen)

pub one_line : (seen : List PinSeen) (x : PinBit) → any_pair (λ early late. same_bit late early) (map (λ (one : PinSeen). one.pin) seen) ≡ false → has_line seen x ≡ true
    → count_by (λ (one : PinSeen). same_bit x one.pin) seen ≡ 1
one_line seen x apart there =
    let least : 1 ≤ count_by (λ (one : PinSeen). same_bit x one.pin) seen = count_some (λ (one : PinSeen). same_bit x one.pin) seen (any_turned x seen there) in
    let most : count_by (λ (one : PinSeen). same_bit x one.pin) seen ≤ 1 =
    at_most_one (λ (one : PinSeen). same_bit x one.pin) (λ (a : PinSeen) (b : PinSeen). same_bit b.pin a.pin) (λ a b h k. same_bits_join x b.pin a.pin k h) seen
    (sym (mapped_pair (λ early late. same_bit late early) seen) ∙ apart) in
    omega arith

-- Rows of the device.

-- a bit of the netlist, where there is one
abbrev IsPinBit : LinkedView → Option PinBit → Type 0
IsPinBit L None = Unit {0}
IsPinBit L (Some pin) = IsBit L pin

abbrev AreBits : LinkedView → List FitRow → Type 0
AreBits L rs = AllByRecursion (λ (r : FitRow). IsPinBit L r.pin) rs

device_count : (L : LinkedView) (p : Plan) (seen : List PinSeen) (x : PinBit) → IsBit L x → (rs : List FitRow) → AreBits L rs
    → count_by (is_at (dev_bit (fitted_of L p seen) x)) (map (cell_row (fitted_of L p seen)) rs) ≡ count_by (sits x) rs
device_count L p seen x b [] all = refl
device_count L p seen x b (r ∷ rs) all =
    let f = fitted_of L p seen in
    count-cons (is_at (dev_bit f x)) (cell_row f r) (map (cell_row f) rs)
    ∙ ap (λ (n : ℕ). weigh (is_at (dev_bit f x) (cell_row f r)) + n) (device_count L p seen x b rs all.1)
    ∙ ap (λ (t : Bool). weigh t + count_by (sits x) rs) (by r.pin all.0)
    ∙ sym (count-cons (sits x) r rs)
  where
    by : (pin : Option PinBit) → IsPinBit L pin
        → option_map_or (λ (y : DevBit). same_dev_bit (dev_bit (fitted_of L p seen) x) y) (option_map (dev_bit (fitted_of L p seen)) pin) false ≡ option_map_or (same_bit x) pin false
    by None h = refl
    by (Some y) h = same_in_device L p seen x y b h

fact_bit : (L : LinkedView) → HasWidths L.arena.lists → (cell : BoundaryKind) (highz : Bool) (rs : List FitRow) (k : ℕ) (r : FitRow) → Fact (IsLined L) cell highz rs k r → IsPinBit L r.pin
fact_bit L wide cell highz rs k r fact = elim fact [
  | inl d ↦ subst (IsPinBit L) (sym d.pin) (lined_bit L wide d.line d.one d.on)
  | inr c ↦ subst (IsPinBit L) (sym c.pin) tt
]

pub one_row : (L : LinkedView) (p : Plan) (seen : List PinSeen) → HasWidths L.arena.lists → length seen ≡ length p.pins → Each (IsLined L) p.control (has_highz p.opcodes) (rows p seen)
    → AllByRecursion (λ (one : PinSeen). makes_row one one.side ≡ true) seen → any_pair (λ early late. same_bit late early) (map (λ (one : PinSeen). one.pin) seen) ≡ false
    → (x : PinBit) → IsBit L x → has_line seen x ≡ true → (count_by (sits x) (rows p seen) ≡ 1) × (count_by (is_at (dev_bit (fitted_of L p seen) x)) (device_of L p seen).cells ≡ 1)
one_row L p seen wide many each makes apart x b there =
    let line : count_by (λ (one : PinSeen). same_bit x one.pin) seen ≡ 1 = one_line seen x apart there in
    let whole : count_by (sits x) (rows p seen) ≡ 0 + count_by (λ (one : PinSeen). same_bit x one.pin) seen = rows_count x p.control (has_highz p.opcodes) [] p.pins seen many makes in
    let here : count_by (sits x) (rows p seen) ≡ 1 = omega arith in
    let all = all_from_places (λ (r : FitRow). IsPinBit L r.pin) (rows p seen) (λ k r h. fact_bit L wide p.control (has_highz p.opcodes) (rows p seen) k r (each k r h)) in
    (here, device_count L p seen x b (rows p seen) all ∙ here)

-- The bits of the device's own logic.

all_flat : {X Y : Type 0} (P : Y → Type 0) (g : X → List Y) (xs : List X) → AllByRecursion (λ x. AllByRecursion P (g x)) xs → AllByRecursion P (flat_map g xs)
all_flat P g [] all = tt
all_flat P g (x ∷ xs) all = all_append P (g x) (flat_map g xs) all.0 (all_flat P g xs all.1)

all_counted : (P : ℕ → Type 0) (first n : ℕ) → ((k : ℕ) → first ≤ k → k < first + n → P k) → AllByRecursion P (counted_from first n)
all_counted P first zero each = tt
all_counted P first (suc n) each = (each first (omega arith) (omega arith), all_counted P (suc first) n (λ k a b. each k (omega arith) (omega arith)))

pub indices_all : (P : DevBit → Type 0) (k : ℕ) (range : Option Range) → ((j : ℕ) → j < width_of range → P (record { port = k; index = index_from range j }))
    → AllByRecursion P (map (λ (index : Option ℕ). let bit : DevBit = record { port = k; index = index } in bit) (indices (option_map port_range range)))
indices_all P k None each = (each 0 (omega arith), tt)
indices_all P k (Some r) each =
    all_mapped P (λ (index : Option ℕ). let bit : DevBit = record { port = k; index = index } in bit) (map (λ place. Some (index_at (port_range r) place)) (counted_from 0 (width (Some (port_range r)))))
    (all_mapped (λ (index : Option ℕ). P (record { port = k; index = index })) (λ place. Some (index_at (port_range r) place)) (counted_from 0 (width (Some (port_range r))))
    (all_counted (λ place. P (record { port = k; index = Some (index_at (port_range r) place) })) 0 (width (Some (port_range r))) (λ j a b. each j (omega arith))))

-- the ports behind the netlist's are of the test access port or of linkage
behind : (f : Fitted) (n : ℕ) (j : ℕ) (q : DevPort) → slice_get (tap_ports f ++ map (scalar_port mode.Linkage) f.linkage) j ≡ Some q
    → (list_any (λ (tap : ℕ). n + j == tap) (n ∷ (n + 1) ∷ (n + 2) ∷ (n + 3) ∷ (n + 4) ∷ []) || is_mode mode.Linkage q.mode) ≡ true
behind f n zero q h = first_or _ _ (any_at (λ (tap : ℕ). n + zero == tap) (n ∷ (n + 1) ∷ (n + 2) ∷ (n + 3) ∷ (n + 4) ∷ []) 0 n refl (eq-eqb (n + zero) n (omega arith)))
behind f n (suc zero) q h = first_or _ _ (any_at (λ (tap : ℕ). n + suc zero == tap) (n ∷ (n + 1) ∷ (n + 2) ∷ (n + 3) ∷ (n + 4) ∷ []) 1 (n + 1) refl (eq-eqb (n + suc zero) (n + 1) (omega arith)))
behind f n (suc (suc zero)) q h = first_or _ _ (any_at (λ (tap : ℕ). n + suc (suc zero) == tap) (n ∷ (n + 1) ∷ (n + 2) ∷ (n + 3) ∷ (n + 4) ∷ []) 2 (n + 2) refl (eq-eqb (n + suc (suc zero)) (n + 2) (omega arith)))
behind f n (suc (suc (suc zero))) q h = first_or _ _ (any_at (λ (tap : ℕ). n + suc (suc (suc zero)) == tap) (n ∷ (n + 1) ∷ (n + 2) ∷ (n + 3) ∷ (n + 4) ∷ []) 3 (n + 3) refl (eq-eqb (n + suc (suc (suc zero))) (n + 3) (omega arith)))
behind f n (suc (suc (suc (suc zero)))) q h = first_or _ _ (any_at (λ (tap : ℕ). n + suc (suc (suc (suc zero))) == tap) (n ∷ (n + 1) ∷ (n + 2) ∷ (n + 3) ∷ (n + 4) ∷ []) 4 (n + 4) refl (eq-eqb (n + suc (suc (suc (suc zero)))) (n + 4) (omega arith)))
behind f n (suc (suc (suc (suc (suc j))))) q h =
    let at = mapped_at (scalar_port mode.Linkage) f.linkage j q h in
    or_more _ _ (ap (λ (x : DevPort). is_mode mode.Linkage x.mode) (sym at.2))

nothing_if : (P : DevBit → Type 0) (b : Bool) (bits : List DevBit) → b ≡ true → AllByRecursion P (if b then [] else bits)
nothing_if P true bits h = tt
nothing_if P false bits h = absurd (cc)

either_way : (P : DevBit → Type 0) (b : Bool) (bits : List DevBit) → AllByRecursion P bits → AllByRecursion P (if b then [] else bits)
either_way P true bits h = tt
either_way P false bits h = h

-- what holds of each bit of the netlist holds of the device's own bits
pub own_bits_all : (L : LinkedView) (p : Plan) (seen : List PinSeen) → HasWidths L.arena.lists → (P : DevBit → Type 0)
    → ((x : PinBit) → IsBit L x → P (dev_bit (fitted_of L p seen) x)) → AllByRecursion P (own_bits (device_of L p seen))
own_bits_all L p seen wide P each =
    all_flat P (λ (port : ℕ × DevPort). own_bits_at (device_of L p seen) port.0 port.1) (enumerate_from 0 (device_of L p seen).ports)
    (all_enumerated (λ (port : ℕ × DevPort). AllByRecursion P (own_bits_at (device_of L p seen) port.0 port.1)) 0 (device_of L p seen).ports (λ k q there.
    let at : k ≡ 0 + k = omega arith in
    subst (λ (n : ℕ). AllByRecursion P (own_bits_at (device_of L p seen) n q)) at (at_place k q there)))
  where
    own : (k : ℕ) (port : PortView) (q : DevPort) → slice_get (own_ports L) k ≡ Some port → slice_get (device_of L p seen).ports k ≡ Some q → AllByRecursion P (own_bits_at (device_of L p seen) k q)
    own k port q here there =
        let mine : dev_port (fit_port L p seen (k, port)) ≡ q = some_same (dev_port (fit_port L p seen (k, port))) q (slice_get (device_of L p seen).ports k) (dev_port_at L p seen k port here) there in
        subst (λ (x : DevPort). AllByRecursion P (own_bits_at (device_of L p seen) k x)) mine
        (either_way P (is_tap_place (device_of L p seen) k || is_mode mode.Linkage (dev_port (fit_port L p seen (k, port))).mode)
        (map (λ (index : Option ℕ). let bit : DevBit = record { port = k; index = index } in bit) (indices (option_map port_range port.range)))
        (indices_all P k port.range (λ j low.
        let b : IsBit L (pin_at k j) = record { port = port; there = own_there L k port here; own = own_below L k port here; within = low } in
        subst (λ (r : Option Range). P (record { port = k; index = index_from r j })) (range_there L p seen (pin_at k j) b) (each (pin_at k j) b))))

    at_place : (k : ℕ) (q : DevPort) → slice_get (device_of L p seen).ports k ≡ Some q → AllByRecursion P (own_bits_at (device_of L p seen) k q)
    at_place k q there = elim (cases_lt k (length (own_ports L))) [
      | inl low ↦ (let port = slice_get_there (own_ports L) k low in own k port.0 q port.1 there)
      | inr high ↦
          (let f = fitted_of L p seen in
          let n = length f.ports in
          let many : length f.ports ≡ length (own_ports L) = count_of_own L p seen in
          let j = k - n in
          let at : k ≡ n + j = omega arith in
          let last : slice_get (tap_ports f ++ map (scalar_port mode.Linkage) f.linkage) j ≡ Some q = sym (behind_own f j) ∙ ap (slice_get (dev_ports f)) (sym at) ∙ there in
          nothing_if P (is_tap_place (device_of L p seen) k || is_mode mode.Linkage q.mode)
          (map (λ (index : Option ℕ). let bit : DevBit = record { port = k; index = index } in bit) (indices q.range))
          (ap (λ (m : ℕ). list_any (λ (tap : ℕ). m == tap) (tap_places (device_of L p seen)) || is_mode mode.Linkage q.mode) at ∙ behind f n j q last))
    ]
