-- No name begins with the prefix of a plan that fits.
use Rattle.std.proofs.Common.{◌≡◌, ℕ, zero, suc, ◌+◌, ◌<◌, Bool, true, false, List, [], ◌∷◌, ◌++◌, length, filter_map, slice_get, if◌then◌else◌, Option, Some, None, refl, ap, ◌∙◌, subst, arith}
use Rattle.std.specs.Prelude.{nat_eq, option_and_then}
use Rattle.std.specs.List.{starts_with, cons_option, enumerate_from, AllByRecursion}
use Rattle.std.proofs.lemmas.List.Elements.{All-from_recursion}
use Rattle.list_laws.proofs.Lists.{all_front, all_back, begins_joined, slice_get_there}
use Rattle.list_laws.proofs.Options.{or_else-parts, some_same, not_there}
use Rattle.link_model.specs.Denoted.{name_bytes}
use Rattle.netlist_model.specs.declared.Name.{Name}
use Rattle.netlist_model.specs.declared.Name.TheVariants.{Original}
use Rattle.netlist_model.specs.Lists.{NetView, CellView, live_cell}
use Rattle.netlist_model.specs.Formed.{width_of}
use Rattle.netlist_unlink.specs.netlist_link.Linked.{LinkedView}
use Rattle.netlist_unlink.specs.Prefixes.{IsUsed, port as used_port, net as used_net, cell as used_cell}
use Rattle.texts.specs.First.{first_in}
use Rattle.plan_texts.specs.declared.plan.Plan.{Plan}
use Rattle.plan_texts.specs.declared.plan.TapLine.{TapLine}
use Rattle.plan_fitting.specs.declared.fault.FitFault.TheVariants as fault
use Rattle.plan_fitting.specs.Names.{port_names, is_hidden_net, own_net_name, net_names, hidden_net_name, hidden_names, cell_names, name_of_cell}
use Rattle.plan_fitting.specs.Fits.{tap_lines, names_of, begun_fault}
use Rattle.plan_fitting.specs.Pins.{PinSeen}
use Rattle.plan_fitting.specs.FittingPlan.{IsFitting}
use Rattle.plan_fitting.specs.DevicesLaws.{PrefixesAreFree}
use Rattle.plan_fitting.proofs.Tests.{true_not_false}
use Rattle.plan_fitting.proofs.PlanPrefix.{plans_have_prefixes}
use Rattle.plan_fitting.proofs.DevicesFacts.{no_fault}
use Rattle.plan_fitting.proofs.DevicesLists.{enumerated_at}
use Rattle.plan_fitting.proofs.DeviceIs.{some_width}

-- a name that doesn't begin with the prefix
abbrev IsApart : List ℕ → List ℕ → Type 0
IsApart prefix name = starts_with nat_eq name prefix ≡ false

all_apart : (prefix : List ℕ) (names : List (List ℕ)) → first_in (begun_fault prefix) names ≡ None → AllByRecursion (IsApart prefix) names
all_apart prefix [] h = tt
all_apart prefix (name ∷ names) h =
    let t = or_else-parts (begun_fault prefix name) (first_in (begun_fault prefix) names) h in
    ((not_there (starts_with nat_eq name prefix) (fault.PrefixTaken name) None t.0).0, all_apart prefix names t.1)

apart_no : (prefix name rest : List ℕ) → IsApart prefix name → name ≡ prefix ++ rest → ⊥
apart_no prefix name rest apart is = true_not_false (starts_with nat_eq name prefix) (ap (λ (n : List ℕ). starts_with nat_eq n prefix) is ∙ begins_joined prefix rest) apart

-- Names of the netlist.

tail_of : {Y : Type 0} (P : Y → Type 0) (o : Option Y) (ys : List Y) → AllByRecursion P (cons_option o ys) → AllByRecursion P ys
tail_of P None ys all = all
tail_of P (Some y) ys all = all.1

filtered_at : {X Y : Type 0} (P : Y → Type 0) (h : X → Option Y) (xs : List X) (k : ℕ) (x : X) (y : Y) → AllByRecursion P (filter_map h xs) → slice_get xs k ≡ Some x → h x ≡ Some y → P y
filtered_at P h [] k x y all at is = absurd (cc)
filtered_at {X = X} {Y = Y} P h (z ∷ xs) zero x y all at is =
    let same : z ≡ x = some_same z x (Some z) refl at in
    let here : AllByRecursion P (cons_option (Some y) (filter_map h xs)) = subst (λ (o : Option Y). AllByRecursion P (cons_option o (filter_map h xs))) (ap h same ∙ is) all in
    here.0
filtered_at P h (z ∷ xs) (suc k) x y all at is = filtered_at P h xs k x y (tail_of P (h z) (filter_map h xs) all) at is

bytes_at : (L : LinkedView) (bytes : List ℕ) (name : Name) (number : ℕ) → name ≡ Original number → slice_get L.names number ≡ Some bytes → name_bytes L.names name ≡ Some bytes
bytes_at L bytes name number is at = ap (name_bytes L.names) is ∙ at

live_there : (o : Option (Option CellView)) (cell : CellView) → live_cell o ≡ Some cell → o ≡ Some (Some cell)
live_there None cell h = absurd (cc)
live_there (Some place) cell h = ap (λ (x : Option CellView). Some x) h

-- what holds of the names of nets, hidden or not, and of cells
pub record NamesHold (L : LinkedView) (P : List ℕ → Type 0) : Type 0 where
  pub nets : AllByRecursion P (net_names L)
  pub cells : AllByRecursion P (cell_names L)
  pub hidden : AllByRecursion P (hidden_names L)

net_holds : (L : LinkedView) (P : List ℕ → Type 0) → NamesHold L P → (n : ℕ) (view : NetView) (bytes : List ℕ) → slice_get L.arena.lists.nets n ≡ Some view → name_bytes L.names view.name ≡ Some bytes → P bytes
net_holds L P hold n view bytes there is = by (is_hidden_net L n) refl
  where
    numbered : slice_get (enumerate_from 0 L.arena.lists.nets) n ≡ Some (n, view)
    numbered = let at : 0 + n ≡ n = omega arith in enumerated_at 0 L.arena.lists.nets n view there ∙ ap (λ (m : ℕ). Some (m, view)) at

    by : (b : Bool) → is_hidden_net L n ≡ b → P bytes
    by true e =
        filtered_at P (hidden_net_name L) (enumerate_from 0 L.arena.lists.nets) n (n, view) bytes hold.hidden numbered
        (ap (λ (b : Bool). if b then name_bytes L.names view.name else None) e ∙ is)
    by false e =
        filtered_at P (own_net_name L) (enumerate_from 0 L.arena.lists.nets) n (n, view) bytes hold.nets numbered
        (ap (λ (b : Bool). if b then None else name_bytes L.names view.name) e ∙ is)

-- holds of each name that is used; a port has that of its nets
pub used_holds : (L : LinkedView) (p : Plan) (seen : List PinSeen) → IsFitting L p seen → (P : List ℕ → Type 0) → NamesHold L P → (name : Name) → IsUsed L.arena.lists name
    → (number : ℕ) (bytes : List ℕ) → name ≡ Original number → slice_get L.names number ≡ Some bytes → P bytes
used_holds L p seen fits P hold _ (used_port k view at) number bytes is there =
    let some : 0 < width_of view.range = some_width view.range in
    let many : length view.nets ≡ width_of view.range = fits.wide k view at in
    let net = slice_get_there view.nets 0 (omega arith) in
    net_holds L P hold net.0.0 _ bytes (fits.named.port_bits k 0 view net.0 at net.1) (bytes_at L bytes view.name number is there)
used_holds L p seen fits P hold _ (used_net n view at) number bytes is there = net_holds L P hold n view bytes at (bytes_at L bytes view.name number is there)
used_holds L p seen fits P hold _ (used_cell i cell name at named) number bytes is there =
    filtered_at P (name_of_cell L.names) L.arena.lists.cells i (Some cell) bytes hold.cells (live_there (slice_get L.arena.lists.cells i) cell at)
    (ap (option_and_then (name_bytes L.names)) named ∙ bytes_at L bytes name number is there)

-- Names of the test access port.

taps_free : (prefix : List ℕ) (lines : List TapLine) → AllByRecursion (IsApart prefix) (names_of lines) → AllByRecursion (λ (line : TapLine). (rest : List ℕ) → line.name ≡ prefix ++ rest → ⊥) lines
taps_free prefix [] all = tt
taps_free prefix (line ∷ lines) all = (λ rest is. apart_no prefix line.name rest all.0 is, taps_free prefix lines all.1)

pub prefixes_are_free : PrefixesAreFree
prefixes_are_free L p seen fits =
    let taps = names_of (tap_lines p) in
    let later = hidden_names L ++ taps in
    let all = all_apart p.prefix (port_names L ++ (net_names L ++ (cell_names L ++ later))) (no_fault L p seen fits).prefix in
    let a = all_back (IsApart p.prefix) (port_names L) (net_names L ++ (cell_names L ++ later)) all in
    let b = all_back (IsApart p.prefix) (net_names L) (cell_names L ++ later) a in
    let c = all_back (IsApart p.prefix) (cell_names L) later b in
    let hold : NamesHold L (IsApart p.prefix) = record {
      nets = all_front (IsApart p.prefix) (net_names L) (cell_names L ++ later) a;
      cells = all_front (IsApart p.prefix) (cell_names L) later b;
      hidden = all_front (IsApart p.prefix) (hidden_names L) taps c;
    } in
    record {
      netlist = record {
        word = plans_have_prefixes p fits.spelled;
        free = λ number rest used at.
            apart_no p.prefix (p.prefix ++ rest) rest (used_holds L p seen fits (IsApart p.prefix) hold (Original number) used number (p.prefix ++ rest) refl at) refl;
      };
      taps = All-from_recursion (λ (line : TapLine). (rest : List ℕ) → line.name ≡ p.prefix ++ rest → ⊥) (tap_lines p) (taps_free p.prefix (tap_lines p) (all_back (IsApart p.prefix) (hidden_names L) taps c));
    }
