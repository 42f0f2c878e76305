-- Where no fault of drivers stands, each net has the drivers that it may have.
use Rattle.std.proofs.Common.{◌≡◌, ◌≢◌, ◌⊎◌, inl, inr, ℕ, suc, zero, ◌+◌, ◌<◌, ◌≤◌, List, [], ◌∷◌, length, refl, sym, ◌∙◌, ap, arith, Option, Some, None, Bool, true, false, ◌&&◌, ◌||◌, not, cond, ◌==◌}
use Rattle.std.specs.Prelude.{nat_le, if◌then◌else◌, slice_get, option_and_then}
use Rattle.std.specs.List.{enumerate_from, count_by, list_any}
use Rattle.std.specs.Option.{is_none}
use Rattle.std.proofs.lemmas.List.Elements.{All-head, All-tail}
use Rattle.std.proofs.lemmas.List.Sums.{sum_by-cons}
use Rattle.std.proofs.lemmas.Bool.Decides.{nat_tests, eqb_tells}
use Rattle.std.proofs.lemmas.Bool.{not-false}
use Rattle.list_laws.proofs.Options.{or_else-parts, first_in-at, not_told}
use Rattle.list_laws.proofs.Lists.{slice_get_there, any_at}
use Rattle.list_laws.proofs.Numbers.{eqb_same}
use Rattle.cell_library.specs.Gates.{is_three_state}
use Rattle.netlist_model.specs.declared.NetId.{NetId}
use Rattle.netlist_model.specs.declared.Feed.{Feed}
use Rattle.netlist_model.specs.declared.Feed.TheVariants.{Net}
use Rattle.netlist_model.specs.declared.Dir.{Dir}
use Rattle.netlist_model.specs.declared.Dir.TheVariants.{Input, Output, Inout}
use Rattle.netlist_model.specs.Below.{IsFeedBelow, AreFeedsBelow}
use Rattle.link_model.specs.declared.fault.LinkFault.{LinkFault}
use Rattle.link_model.specs.Nets.{NamedNet}
use Rattle.link_model.specs.Cells.{NamedCell}
use Rattle.link_model.specs.Fits.{IsCellBelow, CellsBelow}
use Rattle.link_model.specs.Faults.{drives, reads, feeds_from, is_driven, is_driven_by_bufif, is_read, is_input, is_output, is_inout, needs_driver, two_drivers, input_driven, not_driven, tristate_inside, tristate_read, inout_not_tristate, first_net, driver_fault}
use Rattle.link_rules.specs.DriversLaws.{dir_at, DrivesNet, ReadsNet, HasDriver, HasItsDrivers}
use Rattle.link_rules.proofs.Breaks.{counted_any}

-- Tests along lists.

enumerate_from-at : {X : Type 0} (first : ℕ) (xs : List X) (k : ℕ) (x : X) → slice_get xs k ≡ Some x → slice_get (enumerate_from first xs) k ≡ Some (first + k, x)
enumerate_from-at first [] k x here = absurd (cc)
enumerate_from-at first (y ∷ ys) zero x here = let same : y ≡ x = cc in let at : first ≡ first + 0 = omega arith in rw (sym same, sym at) refl
enumerate_from-at first (y ∷ ys) (suc k) x here = let at : (first + 1) + k ≡ first + suc k = omega arith in enumerate_from-at (first + 1) ys k x here ∙ ap (λ (n : ℕ). Some (n, x)) at

pub any-there : {X : Type 0} (p : X → Bool) (xs : List X) → list_any p xs ≡ true → (i : ℕ) × (x : X) × (slice_get xs i ≡ Some x) × (p x ≡ true)
any-there p [] some = absurd (cc)
any-there {X} p (y ∷ ys) some = by (p y) refl (any-there p ys)
  where
    Found : List X → Type 0
    Found zs = (i : ℕ) × (x : X) × (slice_get zs i ≡ Some x) × (p x ≡ true)

    by : (b : Bool) → p y ≡ b → (list_any p ys ≡ true → Found ys) → Found (y ∷ ys)
    by true e rest = (0, y, refl, e)
    by false e rest = let found = rest (sym (ap (λ b. b || list_any p ys) e) ∙ some) in (suc found.0, found.1, found.2, found.3)

-- two places that pass are counted twice
pub counted-two : {X : Type 0} (p : X → Bool) (xs : List X) (i j : ℕ) (x y : X) → slice_get xs i ≡ Some x → slice_get xs j ≡ Some y → p x ≡ true → p y ≡ true → (i ≡ j) ⊎ (2 ≤ count_by p xs)
counted-two p [] i j x y here there passes also = absurd (cc)
counted-two p (z ∷ zs) zero zero x y here there passes also = inl refl
counted-two p (z ∷ zs) zero (suc j) x y here there passes also =
    let now : p z ≡ true = let same : z ≡ x = cc in ap p same ∙ passes in
    let some = counted_any p zs ∙ any_at p zs j y there also in
    let count = sum_by-cons (λ w. cond (p w) 1 0) z zs in inr (grind (arith, nat_tests, now, some, count))
counted-two p (z ∷ zs) (suc i) zero x y here there passes also =
    let now : p z ≡ true = let same : z ≡ y = cc in ap p same ∙ also in
    let some = counted_any p zs ∙ any_at p zs i x here passes in
    let count = sum_by-cons (λ w. cond (p w) 1 0) z zs in inr (grind (arith, nat_tests, now, some, count))
counted-two p (z ∷ zs) (suc i) (suc j) x y here there passes also =
    let count = sum_by-cons (λ w. cond (p w) 1 0) z zs in
    elim (counted-two p zs i j x y here there passes also) [ inl e ↦ inl (ap (λ (n : ℕ). suc n) e) | inr e ↦ inr (omega (arith, count, e)) ]

-- A net that is there, and its direction.

named-at : (nets : List NamedNet) (net : ℕ) (dir : Dir) → dir_at nets net ≡ Some dir → (n : NamedNet) × (slice_get nets net ≡ Some n) × (n.dir ≡ Some dir)
named-at nets net dir h = by (slice_get nets net) refl
  where
    by : (o : Option NamedNet) → slice_get nets net ≡ o → (n : NamedNet) × (slice_get nets net ≡ Some n) × (n.dir ≡ Some dir)
    by None e = let no : None ≡ Some dir = sym (ap (option_and_then (λ (n : NamedNet). n.dir)) e) ∙ h in absurd (cc)
    by (Some n) e = (n, e, sym (ap (option_and_then (λ (m : NamedNet). m.dir)) e) ∙ h)

dir_at-named : (nets : List NamedNet) (net : ℕ) (n : NamedNet) → slice_get nets net ≡ Some n → dir_at nets net ≡ n.dir
dir_at-named nets net n here = rw here refl

cell-at : (nets : ℕ) (cells : List NamedCell) (i : ℕ) (cell : NamedCell) → CellsBelow nets cells → slice_get cells i ≡ Some cell → IsCellBelow nets cell
cell-at nets [] i cell fits here = absurd (cc)
cell-at nets (c ∷ cs) zero cell fits here = let same : c ≡ cell = cc in rw same at (All-head (IsCellBelow nets) c cs fits)
cell-at nets (c ∷ cs) (suc i) cell fits here = cell-at nets cs i cell (All-tail (IsCellBelow nets) c cs fits) here

feed-at : (nets : ℕ) (feeds : List Feed) (place : ℕ) (feed : Feed) → AreFeedsBelow nets feeds → slice_get feeds place ≡ Some feed → IsFeedBelow nets feed
feed-at nets [] place feed below here = absurd (cc)
feed-at nets (f ∷ fs) zero feed below here = let same : f ≡ feed = cc in rw same at (All-head (IsFeedBelow nets) f fs below)
feed-at nets (f ∷ fs) (suc place) feed below here = feed-at nets fs place feed (All-tail (IsFeedBelow nets) f fs below) here

-- What the tests say of cells that drive and read.

eqb_is : (a b : ℕ) → a == b ≡ true → a ≡ b
eqb_is a b h = elim (eqb_tells a b) [ inl e ↦ e.1 | inr e ↦ let no : true ≡ false = sym h ∙ e.0 in absurd (cc) ]

drives-yes : (cells : List NamedCell) (i : ℕ) (cell : NamedCell) (net : ℕ) → DrivesNet cells i cell net → drives net cell ≡ true
drives-yes cells i cell net d = rw d.output (eqb_same net)

drives-output : (cell : NamedCell) (net : ℕ) → drives net cell ≡ true → cell.output ≡ Some (record { 0 = net })
drives-output cell net h = by cell.output refl
  where
    by : (o : Option NetId) → cell.output ≡ o → cell.output ≡ Some (record { 0 = net })
    by None e = let no : false ≡ true = rw e at h in absurd (cc)
    by (Some n) e = let same : n.0 ≡ net = eqb_is n.0 net (rw e at h) in e ∙ ap (λ (k : ℕ). Some (record { 0 = k })) same

reads-yes : (cells : List NamedCell) (j : ℕ) (cell : NamedCell) (place net : ℕ) → ReadsNet cells j cell place net → reads net cell ≡ true
reads-yes cells j cell place net r = any_at (feeds_from net) cell.feeds place (Net (record { 0 = net })) r.operand (eqb_same net)

driven-yes : (cells : List NamedCell) (i : ℕ) (cell : NamedCell) (net : ℕ) → DrivesNet cells i cell net → is_driven cells net ≡ true
driven-yes cells i cell net d = any_at (drives net) cells i cell d.there (drives-yes cells i cell net d)

by_bufif-yes : (cells : List NamedCell) (i : ℕ) (cell : NamedCell) (net : ℕ) → DrivesNet cells i cell net → is_three_state cell.kind ≡ true → is_driven_by_bufif cells net ≡ true
by_bufif-yes cells i cell net d three = any_at (λ (c : NamedCell). drives net c && is_three_state c.kind) cells i cell d.there (rw (drives-yes cells i cell net d, three) refl)

read-yes : (cells : List NamedCell) (j : ℕ) (cell : NamedCell) (place net : ℕ) → ReadsNet cells j cell place net → is_read cells net ≡ true
read-yes cells j cell place net r = any_at (reads net) cells j cell r.there (reads-yes cells j cell place net r)

driven-has : (cells : List NamedCell) (net : ℕ) → is_driven cells net ≡ true → HasDriver cells net
driven-has cells net h =
    let found = any-there (drives net) cells h in
    record { number = found.0; cell = found.1; drives = record { there = found.2; output = drives-output found.1 net found.3 } }

bufif-has : (cells : List NamedCell) (net : ℕ) → is_driven_by_bufif cells net ≡ true → (d : HasDriver cells net) × (is_three_state d.cell.kind ≡ true)
bufif-has cells net h =
    let found = any-there (λ (c : NamedCell). drives net c && is_three_state c.kind) cells h in
    let parts = both (drives net found.1) (is_three_state found.1.kind) found.3 in
    (record { number = found.0; cell = found.1; drives = record { there = found.2; output = drives-output found.1 net parts.0 } }, parts.1)
  where
    both : (a b : Bool) → a && b ≡ true → (a ≡ true) × (b ≡ true)
    both true b e = (refl, e)
    both false b e = absurd (cc)

-- What no fault says of a net.

pub record IsClear (cells : List NamedCell) (net : ℕ) (n : NamedNet) : Type 0 where
  two : not (is_input n.dir) && nat_le 2 (count_by (drives net) cells) ≡ false
  input : is_input n.dir && is_driven cells net ≡ false
  driven : needs_driver cells net n.dir && not (is_driven cells net) ≡ false
  inside : is_none n.dir && is_driven_by_bufif cells net ≡ false
  read : is_output n.dir && (is_driven_by_bufif cells net && is_read cells net) ≡ false
  inout : is_inout n.dir && not (is_driven_by_bufif cells net) ≡ false

first_net-at : (test : List NamedCell → ℕ × NamedNet → Option LinkFault) (nets : List NamedNet) (cells : List NamedCell) (net : ℕ) (n : NamedNet) → first_net test nets cells ≡ None → slice_get nets net ≡ Some n → test cells (net, n) ≡ None
first_net-at test nets cells net n clear here =
    let placed : slice_get (enumerate_from 0 nets) net ≡ Some (net, n) = enumerate_from-at 0 nets net n here ∙ ap (λ (k : ℕ). Some (k, n)) (omega arith) in
    first_in-at (test cells) (enumerate_from 0 nets) net (net, n) clear placed

is-clear : (nets : List NamedNet) (cells : List NamedCell) (net : ℕ) (n : NamedNet) → driver_fault nets cells ≡ None → slice_get nets net ≡ Some n → IsClear cells net n
is-clear nets cells net n clear here =
    let a = or_else-parts _ _ clear in
    let b = or_else-parts _ _ a.1 in
    let c = or_else-parts _ _ b.1 in
    let d = or_else-parts _ _ c.1 in
    let e = or_else-parts _ _ d.1 in
    record {
      two = not_told _ _ (first_net-at two_drivers nets cells net n a.0 here);
      input = not_told _ _ (first_net-at input_driven nets cells net n b.0 here);
      driven = not_told _ _ (first_net-at not_driven nets cells net n c.0 here);
      inside = not_told _ _ (first_net-at tristate_inside nets cells net n d.0 here);
      read = not_told _ _ (first_net-at tristate_read nets cells net n e.0 here);
      inout = not_told _ _ (first_net-at inout_not_tristate nets cells net n e.1 here);
    }

-- Each part.

input-only : (dir : Option Dir) (many : Bool) → many ≡ true → not (is_input dir) && many ≡ false → dir ≡ Some Input
input-only None many e h = let no : true ≡ false = rw e at h in absurd (cc)
input-only (Some Input) many e h = refl
input-only (Some Output) many e h = let no : true ≡ false = rw e at h in absurd (cc)
input-only (Some Inout) many e h = let no : true ≡ false = rw e at h in absurd (cc)

drives-below : (nets : ℕ) (cells : List NamedCell) (i : ℕ) (cell : NamedCell) (net : ℕ) → CellsBelow nets cells → DrivesNet cells i cell net → net < nets
drives-below nets cells i cell net fits d = rw d.output at (cell-at nets cells i cell fits d.there).output

reads-below : (nets : ℕ) (cells : List NamedCell) (i : ℕ) (cell : NamedCell) (place net : ℕ) → CellsBelow nets cells → ReadsNet cells i cell place net → net < nets
reads-below nets cells i cell place net fits r = feed-at nets cell.feeds place (Net (record { 0 = net })) (cell-at nets cells i cell fits r.there).feeds r.operand

inputs-free : (nets : List NamedNet) (cells : List NamedCell) → driver_fault nets cells ≡ None → (i : ℕ) (cell : NamedCell) (net : ℕ) → DrivesNet cells i cell net → dir_at nets net ≢ Some Input
inputs-free nets cells clear i cell net d dir =
    let n = named-at nets net Input dir in
    let no : true ≡ false = rw (n.2, driven-yes cells i cell net d) at (is-clear nets cells net n.0 clear n.1).input in cc

one-driver : (nets : List NamedNet) (cells : List NamedCell) → CellsBelow (length nets) cells → driver_fault nets cells ≡ None
    → (i j : ℕ) (cell other : NamedCell) (net : ℕ) → DrivesNet cells i cell net → DrivesNet cells j other net → i ≡ j
one-driver nets cells fits clear i j cell other net d e =
    elim (counted-two (drives net) cells i j cell other d.there e.there (drives-yes cells i cell net d) (drives-yes cells j other net e)) [
      | inl same ↦ same
      | inr many ↦
          let n = slice_get_there nets net (drives-below (length nets) cells i cell net fits d) in
          let two : nat_le 2 (count_by (drives net) cells) ≡ true = grind (arith, nat_tests, many) in
          let input = input-only n.0.dir (nat_le 2 (count_by (drives net) cells)) two (is-clear nets cells net n.0 clear n.1).two in
          absurd (inputs-free nets cells clear i cell net d (dir_at-named nets net n.0 n.1 ∙ input))
    ]

bufif-at : (nets : List NamedNet) (cells : List NamedCell) (net : ℕ) → driver_fault nets cells ≡ None → dir_at nets net ≡ Some Inout → (d : HasDriver cells net) × (is_three_state d.cell.kind ≡ true)
bufif-at nets cells net clear dir =
    let n = named-at nets net Inout dir in
    let named : not (is_driven_by_bufif cells net) ≡ false = rw n.2 at (is-clear nets cells net n.0 clear n.1).inout in
    bufif-has cells net (not-false (is_driven_by_bufif cells net) named)

outside : (nets : List NamedNet) (cells : List NamedCell) → CellsBelow (length nets) cells → driver_fault nets cells ≡ None → (i : ℕ) (cell : NamedCell) (net : ℕ) → DrivesNet cells i cell net
    → is_three_state cell.kind ≡ true → (dir_at nets net ≡ Some Output) ⊎ (dir_at nets net ≡ Some Inout)
outside nets cells fits clear i cell net d three =
    let n = slice_get_there nets net (drives-below (length nets) cells i cell net fits d) in
    by n.0.dir (dir_at-named nets net n.0 n.1) (rw (by_bufif-yes cells i cell net d three) at (is-clear nets cells net n.0 clear n.1).inside)
  where
    by : (dir : Option Dir) → dir_at nets net ≡ dir → is_none dir && true ≡ false → (dir_at nets net ≡ Some Output) ⊎ (dir_at nets net ≡ Some Inout)
    by None e h = absurd (cc)
    by (Some Input) e h = absurd (inputs-free nets cells clear i cell net d e)
    by (Some Output) e h = inl e
    by (Some Inout) e h = inr e

pub has_its_drivers : (nets : List NamedNet) (cells : List NamedCell) → CellsBelow (length nets) cells → driver_fault nets cells ≡ None → HasItsDrivers nets cells
has_its_drivers nets cells fits clear = record {
  inputs_free = inputs-free nets cells clear;
  one_driver = one-driver nets cells fits clear;
  outputs_driven = λ net dir.
      let n = named-at nets net Output dir in
      let named : not (is_driven cells net) ≡ false = rw n.2 at (is-clear nets cells net n.0 clear n.1).driven in
      driven-has cells net (not-false (is_driven cells net) named);
  inouts_driven = λ net dir. (bufif-at nets cells net clear dir).0;
  read_driven = λ i cell place net r dir.
      let n = slice_get_there nets net (reads-below (length nets) cells i cell place net fits r) in
      let none : n.0.dir ≡ None = sym (dir_at-named nets net n.0 n.1) ∙ dir in
      let named : not (is_driven cells net) ≡ false = rw (none, read-yes cells i cell place net r) at (is-clear nets cells net n.0 clear n.1).driven in
      driven-has cells net (not-false (is_driven cells net) named);
  bufif_outside = outside nets cells fits clear;
  inout_bufif = λ i cell net d dir.
      let b = bufif-at nets cells net clear dir in
      let same = one-driver nets cells fits clear i b.0.number cell b.0.cell net d b.0.drives in
      let there : Some cell ≡ Some b.0.cell = sym d.there ∙ ap (slice_get cells) same ∙ b.0.drives.there in
      let cell_is : cell ≡ b.0.cell = cc in
      ap (λ (c : NamedCell). is_three_state c.kind) cell_is ∙ b.1;
  bufif_unread = λ i j cell other place net d three r dir.
      let n = named-at nets net Output dir in
      let no : true ≡ false = rw (n.2, by_bufif-yes cells i cell net d three, read-yes cells j other place net r) at (is-clear nets cells net n.0 clear n.1).read in cc;
}
