-- The nets that boundary cells give values: nothing of the core drives them, and none stands twice.
use Rattle.std.proofs.Common.{◌≡◌, ◌≢◌, ℕ, suc, ◌+◌, ◌<◌, ◌≤◌, ◌⊎◌, inl, inr, Bool, true, false, List, [], ◌∷◌, ◌++◌, length, refl, sym, ◌∙◌, ap, subst, arith, Option, Some, None}
use Rattle.std.specs.Prelude.{◌&&◌, slice_get, ⊤}
use Rattle.std.proofs.lemmas.Bool.{eqb-true, eqb-false}
use Rattle.netlist_model.specs.declared.Dir.TheVariants.{Input}
use Rattle.netlist_model.specs.declared.NetId.{NetId}
use Rattle.netlist_model.specs.Lists.{CellView, NetlistView, direction, IsUndriven, Drives}
use Rattle.netlist_model.specs.Settled.{is_output}
use Rattle.plan_fitting.specs.declared.fitted.FitRow.{FitRow}
use Rattle.core_sides.specs.stitched_netlist.declared.model.Site.{Site}
use Rattle.core_sides.specs.stitched_netlist.declared.model.Site.TheVariants as site
use Rattle.core_sides.specs.stitched_netlist.Sites.{Boundary, row_net, site_of, side_count, row_sides, sides_of}
use Rattle.core_sides.specs.stitched_netlist.Sides.{is_moved, moves, side_from}
use Rattle.core_sides.specs.stitched_netlist.ModelRows.{net_at}
use Rattle.std.proofs.lemmas.List.Sums.{sum_by-cons}
use Rattle.core_sides.proofs.stitched_netlist.ModelMoves.{moved_counts, side_range, moved_here, moved_on}
use Rattle.list_laws.proofs.Tests.{both_true, true_or_false}
use Rattle.test_logic_parts.specs.Rows.{into_at, into_of, into_from, IsApart, AreApart, AreFree}

pub record RowFits (N : NetlistView) (B : Boundary) (base : ℕ) (row : FitRow) : Type 0 where
  pub net : is_moved (site_of B.ports row) ≡ true → (net_at B row).0 < base
  pub bit : is_moved (site_of B.ports row) ≡ true → row_net B.ports row ≡ Some (net_at B row)
  pub outside : is_moved (site_of B.ports row) ≡ true → site_of B.ports row ≢ site.Input → direction N.ports (net_at B row).0 ≢ Some Input
  pub undriven : site_of B.ports row ≡ site.Input → IsUndriven N (net_at B row).0

abbrev pub EachFits : NetlistView → Boundary → ℕ → List FitRow → Type 0
EachFits N B base rows = (k : ℕ) (row : FitRow) → slice_get rows k ≡ Some row → RowFits N B base row

later : (N : NetlistView) (B : Boundary) (base : ℕ) (row : FitRow) (rows : List FitRow) → EachFits N B base (row ∷ rows) → EachFits N B base rows
later N B base row rows each = λ k r h. each (suc k) r h

-- Bools.

true_and : (a b : Bool) → a ≡ true → (a && b) ≡ false → b ≡ false
true_and true b e f = f
true_and false b e f = absurd (cc)

-- A net apart from those that cells give values.

-- by the site
at_apart : (B : Boundary) (base side net : ℕ) (row : FitRow) (at : Site) → (is_moved at ≡ true → (net_at B row).0 < base) → base ≤ net → (net < side) ⊎ (side + side_count at ≤ net)
    → IsApart (into_at B side row at) net
at_apart B base side net row site.Observed low past off = tt
at_apart B base side net row site.Input low past off = (λ e. elim off [ inl a ↦ omega arith | inr b ↦ omega arith ], tt)
at_apart B base side net row site.Output low past off = let pin = low refl in (λ e. omega arith, tt)
at_apart B base side net row site.AddedDriver low past off = let pin = low refl in (λ e. elim off [ inl a ↦ omega arith | inr b ↦ omega arith ], (λ e. omega arith, tt))
at_apart B base side net row site.Driver low past off = (λ e. elim off [ inl a ↦ omega arith | inr b ↦ omega arith ], tt)
at_apart B base side net row site.Inout low past off = (λ e. elim off [ inl a ↦ omega arith | inr b ↦ omega arith ], tt)
at_apart B base side net row site.Control low past off = (λ e. elim off [ inl a ↦ omega arith | inr b ↦ omega arith ], tt)

apart_both : (xs ys : List ℕ) (net : ℕ) → IsApart xs net → IsApart ys net → IsApart (xs ++ ys) net
apart_both [] ys net a b = b
apart_both (x ∷ xs) ys net a b = (a.0, apart_both xs ys net a.1 b)

-- a net behind those of the pins and before those of the rows
pub before_rows : (N : NetlistView) (B : Boundary) (base side net : ℕ) (rows : List FitRow) → EachFits N B base rows → base ≤ net → net < side → IsApart (into_from B side rows) net
before_rows N B base side net [] each past low = tt
before_rows N B base side net (row ∷ rows) each past low =
    apart_both (into_of B side row) (into_from B (side + row_sides B.ports row) rows) net
    (at_apart B base side net row (site_of B.ports row) (each 0 row refl).net past (inl low))
    (before_rows N B base (side + row_sides B.ports row) net rows (later N B base row rows each) past (omega arith))

-- What the core drives.

-- where the row moves the net, it gives no value to what the core drives then
moved_apart : (N : NetlistView) (B : Boundary) (base side out : ℕ) (row : FitRow) (at : Site) → site_of B.ports row ≡ at → RowFits N B base row → base ≤ side
    → (i : ℕ) (cell : CellView) → Drives N i cell out → is_moved at ≡ true → is_output (row_net B.ports row) out ≡ true → IsApart (into_at B side row at) side
moved_apart N B base side out row site.Observed is fits past i cell drives moved own = absurd (cc)
moved_apart N B base side out row site.Input is fits past i cell drives moved own =
    let bit = fits.bit (ap is_moved is) in
    let here : is_output (Some (net_at B row)) out ≡ true = sym (ap (λ (o : Option NetId). is_output o out) bit) ∙ own in
    let same : (net_at B row).0 ≡ out = eqb-true (net_at B row).0 out here in
    let P : ℕ → Type 0 = λ n. Drives N i cell n in
    let there = subst P (sym same) drives in
    absurd (fits.undriven is i cell there.live there.output)
moved_apart N B base side out row site.Output is fits past i cell drives moved own = let low = fits.net (ap is_moved is) in (λ e. omega arith, tt)
moved_apart N B base side out row site.AddedDriver is fits past i cell drives moved own = let low = fits.net (ap is_moved is) in (λ e. omega arith, (λ e. omega arith, tt))
moved_apart N B base side out row site.Driver is fits past i cell drives moved own = absurd (cc)
moved_apart N B base side out row site.Inout is fits past i cell drives moved own = absurd (cc)
moved_apart N B base side out row site.Control is fits past i cell drives moved own = absurd (cc)

-- a net that a row doesn't move is not its pin's
other_pin : (N : NetlistView) (B : Boundary) (base side count out to : ℕ) (row : FitRow) → RowFits N B base row → base ≤ side
    → (to ≡ out) ⊎ (side + count ≤ to) → is_moved (site_of B.ports row) ≡ true → moves B.ports out row ≡ false → to ≢ (net_at B row).0
other_pin N B base side count out to row fits past off moved not e =
    let low = fits.net moved in
    elim off [
      | inl same ↦
          (let bit = fits.bit moved in
          let none : is_output (Some (net_at B row)) out ≡ false
          = sym (ap (λ (o : Option NetId). is_output o out) bit) ∙ true_and (is_moved (site_of B.ports row)) (is_output (row_net B.ports row) out) moved not in
          eqb-false (net_at B row).0 out none (sym e ∙ same))
      | inr b ↦ omega arith
    ]

-- where it doesn't, neither: what the core drives stays, or goes to a net of another row
unmoved_apart : (N : NetlistView) (B : Boundary) (base side out to : ℕ) (row : FitRow) (at : Site) → site_of B.ports row ≡ at → RowFits N B base row → base ≤ side → out < base
    → (to ≡ out) ⊎ (side + side_count at ≤ to) → moves B.ports out row ≡ false → IsApart (into_at B side row at) to
unmoved_apart N B base side out to row site.Observed is fits past low off not = tt
unmoved_apart N B base side out to row site.Input is fits past low off not = (λ e. elim off [ inl a ↦ omega arith | inr b ↦ omega arith ], tt)
unmoved_apart N B base side out to row site.Output is fits past low off not =
    (other_pin N B base side 1 out to row fits past off (ap is_moved is) not, tt)
unmoved_apart N B base side out to row site.AddedDriver is fits past low off not =
    (λ e. elim off [ inl a ↦ omega arith | inr b ↦ omega arith ], (other_pin N B base side 2 out to row fits past off (ap is_moved is) not, tt))
unmoved_apart N B base side out to row site.Driver is fits past low off not = (λ e. elim off [ inl a ↦ omega arith | inr b ↦ omega arith ], tt)
unmoved_apart N B base side out to row site.Inout is fits past low off not = (λ e. elim off [ inl a ↦ omega arith | inr b ↦ omega arith ], tt)
unmoved_apart N B base side out to row site.Control is fits past low off not = (λ e. elim off [ inl a ↦ omega arith | inr b ↦ omega arith ], tt)

-- what the core drives, is driven by no boundary cell
pub core_apart : (N : NetlistView) (B : Boundary) (base side out : ℕ) (rows : List FitRow) → EachFits N B base rows → base ≤ side → out < base
    → (i : ℕ) (cell : CellView) → Drives N i cell out → IsApart (into_from B side rows) (side_from B.ports out side rows)
core_apart N B base side out [] each past low i cell drives = tt
core_apart N B base side out (row ∷ rows) each past low i cell drives =
    let next : ℕ = side + row_sides B.ports row in
    let fits = each 0 row refl in
    let P : ℕ → Type 0 = λ to. IsApart (into_from B side (row ∷ rows)) to in
    elim (true_or_false (moves B.ports out row)) [
      | inl e ↦
          (let both = both_true (is_moved (site_of B.ports row)) (is_output (row_net B.ports row) out) e in
          let some = moved_counts (site_of B.ports row) both.0 in
          subst P (sym (moved_here B.ports out side row rows e))
          (apart_both (into_of B side row) (into_from B next rows) side
          (moved_apart N B base side out row (site_of B.ports row) refl fits past i cell drives both.0 both.1)
          (before_rows N B base next side rows (later N B base row rows each) past (omega arith))))
      | inr e ↦
          (let off : (side_from B.ports out next rows ≡ out) ⊎ (next ≤ side_from B.ports out next rows)
          = elim (side_range B.ports out next rows) [ inl stays ↦ inl stays | inr beyond ↦ inr beyond.0 ] in
          subst P (sym (moved_on B.ports out side row rows e))
          (apart_both (into_of B side row) (into_from B next rows) (side_from B.ports out next rows)
          (unmoved_apart N B base side out (side_from B.ports out next rows) row (site_of B.ports row) refl fits past low off e)
          (core_apart N B base next out rows (later N B base row rows each) (omega arith) low i cell drives)))
    ]

-- None stands twice.

-- rows stand at nets of their own
abbrev pub AreOnce : Boundary → List FitRow → Type 0
AreOnce B rows = (j k : ℕ) (one other : FitRow) (net : NetId) → slice_get rows j ≡ Some one → slice_get rows k ≡ Some other
    → row_net B.ports one ≡ Some net → row_net B.ports other ≡ Some net → j ≡ k

-- a pin is apart from what a row at another site gives values
pin_at_apart : (N : NetlistView) (B : Boundary) (base side : ℕ) (pin : NetId) (row : FitRow) (at : Site) → site_of B.ports row ≡ at → RowFits N B base row → base ≤ side → pin.0 < base
    → row_net B.ports row ≢ Some pin → IsApart (into_at B side row at) pin.0
pin_at_apart N B base side pin row site.Observed is fits past low differ = tt
pin_at_apart N B base side pin row site.Input is fits past low differ = (λ e. omega arith, tt)
pin_at_apart N B base side pin row site.Output is fits past low differ = (λ e. differ (fits.bit (ap is_moved is) ∙ ap (λ (n : ℕ). Some (let net : NetId = record { 0 = n } in net)) (sym e)), tt)
pin_at_apart N B base side pin row site.AddedDriver is fits past low differ =
    (λ e. omega arith, (λ e. differ (fits.bit (ap is_moved is) ∙ ap (λ (n : ℕ). Some (let net : NetId = record { 0 = n } in net)) (sym e)), tt))
pin_at_apart N B base side pin row site.Driver is fits past low differ = (λ e. omega arith, tt)
pin_at_apart N B base side pin row site.Inout is fits past low differ = (λ e. omega arith, tt)
pin_at_apart N B base side pin row site.Control is fits past low differ = (λ e. omega arith, tt)

pin_apart : (N : NetlistView) (B : Boundary) (base side : ℕ) (pin : NetId) (rows : List FitRow) → EachFits N B base rows → base ≤ side → pin.0 < base
    → ((k : ℕ) (row : FitRow) → slice_get rows k ≡ Some row → row_net B.ports row ≢ Some pin) → IsApart (into_from B side rows) pin.0
pin_apart N B base side pin [] each past low differ = tt
pin_apart N B base side pin (row ∷ rows) each past low differ =
    apart_both (into_of B side row) (into_from B (side + row_sides B.ports row) rows) pin.0
    (pin_at_apart N B base side pin row (site_of B.ports row) refl (each 0 row refl) past low (differ 0 row refl))
    (pin_apart N B base (side + row_sides B.ports row) pin rows (later N B base row rows each) (omega arith) low (λ k r h. differ (suc k) r h))

site_apart : (B : Boundary) (base side : ℕ) (row : FitRow) (at : Site) (ys : List ℕ) → (is_moved at ≡ true → (net_at B row).0 < base) → base ≤ side
    → ((net : ℕ) → base ≤ net → net < side + side_count at → IsApart ys net) → (is_moved at ≡ true → IsApart ys (net_at B row).0) → AreApart ys → AreApart (into_at B side row at ++ ys)
site_apart B base side row site.Observed ys low past sides pins rest = rest
site_apart B base side row site.Input ys low past sides pins rest = (sides side past (omega arith), rest)
site_apart B base side row site.Output ys low past sides pins rest = (pins refl, rest)
site_apart B base side row site.AddedDriver ys low past sides pins rest =
    let pin = low refl in
    ((λ e. omega arith, sides (side + 1) (omega arith) (omega arith)), (pins refl, rest))
site_apart B base side row site.Driver ys low past sides pins rest = (sides side past (omega arith), rest)
site_apart B base side row site.Inout ys low past sides pins rest = (sides side past (omega arith), rest)
site_apart B base side row site.Control ys low past sides pins rest = (sides side past (omega arith), rest)

pub into_apart : (N : NetlistView) (B : Boundary) (base side : ℕ) (rows : List FitRow) → EachFits N B base rows → AreOnce B rows → base ≤ side → AreApart (into_from B side rows)
into_apart N B base side [] each once past = tt
into_apart N B base side (row ∷ rows) each once past =
    let next : ℕ = side + row_sides B.ports row in
    let fits = each 0 row refl in
    let more : EachFits N B base rows = later N B base row rows each in
    let high : base ≤ next = omega arith in
    let alone : is_moved (site_of B.ports row) ≡ true → (k : ℕ) (other : FitRow) → slice_get rows k ≡ Some other → row_net B.ports other ≢ Some (net_at B row)
    = λ moved k other h e. (let same : 0 ≡ suc k = once 0 (suc k) row other (net_at B row) refl h (fits.bit moved) e in omega arith) in
    site_apart B base side row (site_of B.ports row) (into_from B next rows) fits.net past
    (λ net a b. before_rows N B base next net rows more a b)
    (λ moved. pin_apart N B base next (net_at B row) rows more high (fits.net moved) (alone moved))
    (into_apart N B base next rows more (λ j k a b net h g p q. let e = once (suc j) (suc k) a b net h g p q in omega arith) high)

-- They are there, and no inputs.

abbrev AreOutside : NetlistView → ℕ → List ℕ → Type 0
AreOutside N nets [] = ⊤
AreOutside N nets (net ∷ rest) = (net < nets) × (direction N.ports net ≢ Some Input) × AreOutside N nets rest

site_outside : (N : NetlistView) (B : Boundary) (base side nets : ℕ) (row : FitRow) (at : Site) (ys : List ℕ) → site_of B.ports row ≡ at → RowFits N B base row → base ≤ side
    → base ≤ nets → side + side_count at ≤ nets → ((net : ℕ) → base ≤ net → direction N.ports net ≢ Some Input) → AreOutside N nets ys → AreOutside N nets (into_at B side row at ++ ys)
site_outside N B base side nets row site.Observed ys is fits past many low none rest = rest
site_outside N B base side nets row site.Input ys is fits past many low none rest = (omega arith, none side past, rest)
site_outside N B base side nets row site.Output ys is fits past many low none rest =
    let pin = fits.net (ap is_moved is) in (omega arith, fits.outside (ap is_moved is) (λ e. let both : site.Output ≡ site.Input = sym is ∙ e in cc), rest)
site_outside N B base side nets row site.AddedDriver ys is fits past many low none rest =
    let pin = fits.net (ap is_moved is) in
    (omega arith, none (side + 1) (omega arith), (omega arith, fits.outside (ap is_moved is) (λ e. let both : site.AddedDriver ≡ site.Input = sym is ∙ e in cc), rest))
site_outside N B base side nets row site.Driver ys is fits past many low none rest = (omega arith, none side past, rest)
site_outside N B base side nets row site.Inout ys is fits past many low none rest = (omega arith, none side past, rest)
site_outside N B base side nets row site.Control ys is fits past many low none rest = (omega arith, none side past, rest)

into_outside : (N : NetlistView) (B : Boundary) (base side nets : ℕ) (rows : List FitRow) → EachFits N B base rows → base ≤ side → side + sides_of B.ports rows ≤ nets
    → ((net : ℕ) → base ≤ net → direction N.ports net ≢ Some Input) → AreOutside N nets (into_from B side rows)
into_outside N B base side nets [] each past low none = tt
into_outside N B base side nets (row ∷ rows) each past low none =
    let more = sum_by-cons (row_sides B.ports) row rows in
    site_outside N B base side nets row (site_of B.ports row) (into_from B (side + row_sides B.ports row) rows) refl (each 0 row refl) past (omega arith) (omega arith) none
    (into_outside N B base (side + row_sides B.ports row) nets rows (later N B base row rows each) (omega arith) (omega arith) none)

-- a netlist with these ports whose cells drive none of them
pub are_free : (N M : NetlistView) (nets : List ℕ) → M.ports ≡ N.ports → AreOutside N (length M.nets) nets
    → ((i : ℕ) (cell : CellView) (net : ℕ) → Drives M i cell net → IsApart nets net) → AreFree M nets
are_free N M [] same outside apart = tt
are_free N M (net ∷ nets) same outside apart = (
  outside.0,
  record {
    undriven = λ i cell live drives. (apart i cell net (record { live = live; output = drives })).0 refl;
    outside = rw same outside.1;
  },
  are_free N M nets same outside.2 (λ i cell other drives. (apart i cell other drives).1),
)

pub into_free : (N M : NetlistView) (B : Boundary) (base : ℕ) → EachFits N B base B.rows → base ≤ B.first → B.first + sides_of B.ports B.rows ≤ length M.nets
    → ((net : ℕ) → base ≤ net → direction N.ports net ≢ Some Input) → M.ports ≡ N.ports
    → ((i : ℕ) (cell : CellView) (net : ℕ) → Drives M i cell net → IsApart (into_from B B.first B.rows) net) → AreFree M (into_from B B.first B.rows)
into_free N M B base each past low none same apart =
    are_free N M (into_from B B.first B.rows) same (into_outside N B base B.first (length M.nets) B.rows each past low none) apart
