-- A plan that fits has no more lines than the netlist's own ports have bits.
use Rattle.std.proofs.Common.{◌≡◌, ℕ, zero, suc, ◌+◌, ◌<◌, ◌≤◌, ◌==◌, Bool, true, List, [], ◌∷◌, length, slice_get, Some, option_map, refl, sym, ap, ◌∙◌, arith}
use Rattle.std.specs.Prelude.{◌||◌, count_by, sum_by}
use Rattle.std.specs.List.{list_any, flat_map, enumerate_from, AllByRecursion}
use Rattle.std.proofs.lemmas.List.{length-map, length-append}
use Rattle.std.proofs.lemmas.Option.{slice_get-map, slice_get_within}
use Rattle.std.proofs.lemmas.List.Folds.{list_any-append}
use Rattle.std.proofs.lemmas.List.Sums.{sum_by-cons}
use Rattle.list_laws.proofs.Numbers.{eqb_same}
use Rattle.list_laws.proofs.Lists.{length-counted_from, slice_get-counted_from, any_at}
use Rattle.list_laws.proofs.Tests.{and_true, or_more}
use Rattle.list_laws.proofs.Options.{some_same}
use Rattle.link_model.specs.Nets.{counted_from}
use Rattle.netlist_model.specs.Lists.{PortView}
use Rattle.netlist_arena.specs.Arena.{bit_count}
use Rattle.netlist_unlink.specs.netlist_link.Linked.{LinkedView, own_ports}
use Rattle.plan_fitting.specs.Pins.{PinSeen, IsSeen, same_bit}
use Rattle.plan_fitting.specs.Names.{NamedBit, named_bit, bits_of_port, port_bits}
use Rattle.plan_fitting.proofs.DevicesLists.{enumerated_at}
use Rattle.plan_fitting.proofs.OwnPorts.{own_from}
use Rattle.plan_fitting.proofs.RowCounts.{weigh, count-cons, count_some}

-- Two ways to count.

-- the sum of how many there are for each
abbrev counted : {X Y : Type 0} → (X → Y → Bool) → List X → List Y → ℕ
counted f bits seen = sum_by (λ b. count_by (f b) seen) bits

one_more : {X Y : Type 0} (f : X → Y → Bool) (y : Y) (bits : List X) (seen : List Y) → counted f bits (y ∷ seen) ≡ count_by (λ b. f b y) bits + counted f bits seen
one_more f y [] seen = omega arith
one_more {X = X} {Y = Y} f y (b ∷ bits) seen =
    let more : counted f bits (y ∷ seen) ≡ count_by (λ (x : X). f x y) bits + counted f bits seen = one_more f y bits seen in
    let left : counted f (b ∷ bits) (y ∷ seen) ≡ count_by (f b) (y ∷ seen) + counted f bits (y ∷ seen) = sum_by-cons (λ (x : X). count_by (f x) (y ∷ seen)) b bits in
    let here : count_by (f b) (y ∷ seen) ≡ weigh (f b y) + count_by (f b) seen = count-cons (f b) y seen in
    let right : counted f (b ∷ bits) seen ≡ count_by (f b) seen + counted f bits seen = sum_by-cons (λ (x : X). count_by (f x) seen) b bits in
    let first : count_by (λ (x : X). f x y) (b ∷ bits) ≡ weigh (f b y) + count_by (λ (x : X). f x y) bits = count-cons (λ (x : X). f x y) b bits in
    omega arith

-- where each is somewhere, there are so many at least
reached : {X Y : Type 0} (f : X → Y → Bool) (bits : List X) (seen : List Y) → AllByRecursion (λ y. 1 ≤ count_by (λ b. f b y) bits) seen → length seen ≤ counted f bits seen
reached f bits [] all = omega arith
reached {X = X} f bits (y ∷ seen) all =
    let here : 1 ≤ count_by (λ (b : X). f b y) bits = all.0 in
    let rest : length seen ≤ counted f bits seen = reached f bits seen all.1 in
    let step : counted f bits (y ∷ seen) ≡ count_by (λ (b : X). f b y) bits + counted f bits seen = one_more f y bits seen in
    omega arith

-- where none has two, there are so many at most
bounded : {X Y : Type 0} (f : X → Y → Bool) (bits : List X) (seen : List Y) → AllByRecursion (λ b. count_by (f b) seen ≤ 1) bits → counted f bits seen ≤ length bits
bounded f [] seen all = omega arith
bounded {X = X} f (b ∷ bits) seen all =
    let here : count_by (f b) seen ≤ 1 = all.0 in
    let rest : counted f bits seen ≤ length bits = bounded f bits seen all.1 in
    let step : counted f (b ∷ bits) seen ≡ count_by (f b) seen + counted f bits seen = sum_by-cons (λ (x : X). count_by (f x) seen) b bits in
    omega arith

pub no_more : {X Y : Type 0} (f : X → Y → Bool) (bits : List X) (seen : List Y) → AllByRecursion (λ y. 1 ≤ count_by (λ b. f b y) bits) seen → AllByRecursion (λ b. count_by (f b) seen ≤ 1) bits
    → length seen ≤ length bits
no_more f bits seen some few =
    let low = reached f bits seen some in
    let high = bounded f bits seen few in
    omega arith

-- The bits of ports.

bits_many : (L : LinkedView) (n : ℕ) (ports : List PortView) → length (flat_map (bits_of_port L) (enumerate_from n ports)) ≡ bit_count ports
bits_many L n [] = refl
bits_many L n (port ∷ ports) =
    let rest : length (flat_map (bits_of_port L) (enumerate_from (n + 1) ports)) ≡ bit_count ports = bits_many L (n + 1) ports in
    let here : length (bits_of_port L (n, port)) ≡ length port.nets = length-map (counted_from 0 (length port.nets)) (named_bit L n port) ∙ length-counted_from 0 (length port.nets) in
    let sum : bit_count (port ∷ ports) ≡ length port.nets + bit_count ports = sum_by-cons (λ (q : PortView). length q.nets) port ports in
    length-append (bits_of_port L (n, port)) (flat_map (bits_of_port L) (enumerate_from (n + 1) ports)) ∙ omega arith

pub count_of_bits : (L : LinkedView) → length (port_bits L) ≡ bit_count (own_ports L)
count_of_bits L = bits_many L 0 (own_ports L)

any_flat : {X Y : Type 0} (p : Y → Bool) (g : X → List Y) (xs : List X) (k : ℕ) (x : X) → slice_get xs k ≡ Some x → list_any p (g x) ≡ true → list_any p (flat_map g xs) ≡ true
any_flat p g [] k x h t = absurd (cc)
any_flat {X = X} p g (y ∷ xs) zero x h t =
    let same : x ≡ y = sym (some_same y x (Some y) refl h) in
    list_any-append p (g y) (flat_map g xs) ∙ ap (λ (b : Bool). b || list_any p (flat_map g xs)) (ap (λ (z : X). list_any p (g z)) (sym same) ∙ t)
any_flat p g (y ∷ xs) (suc k) x h t = list_any-append p (g y) (flat_map g xs) ∙ or_more (list_any p (g y)) (list_any p (flat_map g xs)) (any_flat p g xs k x h t)

-- a bit that a word names is one of these
pub seen_is_bit : (L : LinkedView) (word : List ℕ) (one : PinSeen) → IsSeen L word one → 1 ≤ count_by (λ (b : NamedBit). same_bit b.pin one.pin) (port_bits L)
seen_is_bit L word one seen =
    let k = one.pin.port.0 in
    let j = one.pin.bit in
    let low : j < length seen.port.nets = slice_get_within seen.port.nets j one.net seen.net in
    let at : 0 + k ≡ k = omega arith in
    let number : slice_get (enumerate_from 0 (own_ports L)) k ≡ Some (k, seen.port) = enumerated_at 0 (own_ports L) k seen.port (own_from L k seen.port seen.named.1 seen.there) ∙ ap (λ (n : ℕ). Some (n, seen.port)) at in
    let place : slice_get (counted_from 0 (length seen.port.nets)) j ≡ Some (0 + j) = slice_get-counted_from 0 (length seen.port.nets) j low in
    let bit : 0 + j ≡ j = omega arith in
    count_some (λ (b : NamedBit). same_bit b.pin one.pin) (port_bits L)
    (any_flat (λ (b : NamedBit). same_bit b.pin one.pin) (bits_of_port L) (enumerate_from 0 (own_ports L)) k (k, seen.port) number
    (any_at (λ (b : NamedBit). same_bit b.pin one.pin) (bits_of_port L (k, seen.port)) j (named_bit L k seen.port j)
    (slice_get-map (named_bit L k seen.port) (counted_from 0 (length seen.port.nets)) j ∙ ap (option_map (named_bit L k seen.port)) place ∙ ap (λ (n : ℕ). Some (named_bit L k seen.port n)) bit)
    (and_true (k == k) (j == j) (eqb_same k) (eqb_same j))))
