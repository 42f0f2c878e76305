-- The whole module, told.
use Rattle.std.proofs.Common.{◌≡◌, ℕ, suc, zero, ◌+◌, ◌<◌, ◌≤◌, ◌⊎◌, inl, inr, List, [], ◌∷◌, ◌++◌, length, refl, sym, ◌∙◌, ap, Option, Some, None, slice_get, arith}
use Rattle.std.proofs.lemmas.Option.{slice_get_within}
use Rattle.list_laws.proofs.Lists.{slice_get-append_left, slice_get-append_right, slice_get_there}
use Rattle.gate_parts.specs.Parts.{added_nets}
use Rattle.gate_parts.proofs.Steps.{length-added_nets}
use Rattle.netlist_model.specs.declared.Name.{Name}
use Rattle.netlist_model.specs.declared.Name.TheVariants.{Original, Added}
use Rattle.netlist_model.specs.declared.Feed.{Feed}
use Rattle.netlist_model.specs.declared.Feed.TheVariants.{Net}
use Rattle.netlist_model.specs.Lists.{NetView, NetlistView}
use Rattle.netlist_link.specs.Linked.{LinkedView}
use Rattle.plan_fitting.specs.declared.fitted.FitRow.{FitRow}
use Rattle.plan_fitting.specs.declared.fitted.Fitted.{Fitted}
use Rattle.netlist_unlink.specs.Trees.{original}
use Rattle.stitched_netlist.specs.declared.model.TapNames.{TapNames}
use Rattle.stitched_netlist.specs.Sites.{Boundary, site_of, side_count, row_sides, sides_of}
use Rattle.stitched_netlist.specs.Sides.{core_feed}
use Rattle.stitched_netlist.specs.declared.model.Site.{Site}
use Rattle.stitched_netlist.specs.declared.model.Site.TheVariants as site
use Rattle.stitched_netlist.specs.ModelRows.{net_at}
use Rattle.stitched_netlist.specs.Stitched.{boundary_at, tap_net_views, test_logic_nets}
use Rattle.stitched_netlist.proofs.ModelMoves.{sides_cons}
use Rattle.strip_model.specs.Core.{begins}
use Rattle.strip_model.specs.Pairs.{Pair, pair_at, pairs_from}
use Rattle.strip_model.specs.NetlistsTold.{IsOwn, CanBeTold}
use Rattle.strip_model.proofs.Nets.{added_at}

-- The nets of pairs.

same_first : (a b : Pair) → ◌≡◌ {A = Option Pair} (Some a) (Some b) → a.net ≡ b.net
same_first a b e = let is : a ≡ b = cc in ap (λ (p : Pair). p.net) is

pub pair_within : (B : Boundary) (side : ℕ) (rs : List FitRow) (k : ℕ) (one : Pair) → slice_get (pairs_from B side rs) k ≡ Some one
    → (side ≤ one.net) × (one.net < side + sides_of B.ports rs)
pair_within B side [] k one at = absurd (cc)
pair_within B side (row ∷ rs) k one at =
    by (pairs_from B (side + row_sides B.ports row) rs) (site_of B.ports row) refl k at (λ j there. pair_within B (side + row_sides B.ports row) rs j one there)
  where
    Later : List Pair → Type 0
    Later ps = (j : ℕ) → slice_get ps j ≡ Some one → (side + row_sides B.ports row ≤ one.net) × (one.net < side + row_sides B.ports row + sides_of B.ports rs)

    later : (ps : List Pair) (k : ℕ) → slice_get ps k ≡ Some one → Later ps → (side ≤ one.net) × (one.net < side + sides_of B.ports (row ∷ rs))
    later ps k at rest =
        let r = rest k at in
        let low = r.0 in
        let high = r.1 in
        let more = sides_cons B.ports row rs in (omega (arith, low), omega (arith, high, more))

    here : (ps : List Pair) (feed : Feed) → 0 < row_sides B.ports row → (k : ℕ) → slice_get (record { net = side; core = feed } ∷ ps) k ≡ Some one → Later ps
        → (side ≤ one.net) × (one.net < side + sides_of B.ports (row ∷ rs))
    here ps feed some zero at rest =
        let same : side ≡ one.net = same_first (record { net = side; core = feed }) one at in
        let more = sides_cons B.ports row rs in (omega (arith, same), omega (arith, same, more, some))
    here ps feed some (suc k) at rest = later ps k at rest

    counted : (at : Site) → site_of B.ports row ≡ at → 0 < side_count at → 0 < row_sides B.ports row
    counted at e some = rw e some

    by : (ps : List Pair) (at : Site) → site_of B.ports row ≡ at → (k : ℕ) → slice_get (pair_at B side row (site_of B.ports row) ++ ps) k ≡ Some one → Later ps
        → (side ≤ one.net) × (one.net < side + sides_of B.ports (row ∷ rs))
    by ps site.Observed e k at rest = later ps k (rw e at at) rest
    by ps site.Input e k at rest = here ps (Net (net_at B row)) (counted site.Input e (omega arith)) k (rw e at at) rest
    by ps site.Output e k at rest = here ps (Net (net_at B row)) (counted site.Output e (omega arith)) k (rw e at at) rest
    by ps site.AddedDriver e k at rest = here ps (Net (net_at B row)) (counted site.AddedDriver e (omega arith)) k (rw e at at) rest
    by ps site.Driver e k at rest = here ps (core_feed B row) (counted site.Driver e (omega arith)) k (rw e at at) rest
    by ps site.Inout e k at rest = here ps (core_feed B row) (counted site.Inout e (omega arith)) k (rw e at at) rest
    by ps site.Control e k at rest = here ps (core_feed B row) (counted site.Control e (omega arith)) k (rw e at at) rest

-- The nets.

-- own: the nets behind the core's
abbrev pub behind_nets : NetlistView → TapNames → Fitted → List NetView
behind_nets N names f = tap_net_views names ++ added_nets (boundary_at N f).first (sides_of N.ports f.rows + test_logic_nets (boundary_at N f) f)

-- a name of the netlist is one of the larger table
pub wider : (own table : List (List ℕ)) (prefix : List ℕ) → ((number : ℕ) (bytes : List ℕ) → slice_get own number ≡ Some bytes → slice_get table number ≡ Some bytes)
    → (number : ℕ) → number < length own → (number < length table) × (original table number ≡ original own number)
wider own table prefix kept number low =
    let there = slice_get_there own number low in
    let is = kept number there.0 there.1 in
    (slice_get_within table number there.0 is, rw (is, there.1) refl)

pub wider_own : (own table : List (List ℕ)) (prefix : List ℕ) → ((number : ℕ) (bytes : List ℕ) → slice_get own number ≡ Some bytes → slice_get table number ≡ Some bytes)
    → (name : Name) → IsOwn own prefix name → IsOwn table prefix name
wider_own own table prefix kept (Original number) is =
    let w = wider own table prefix kept number is.0 in (w.0, ap (begins prefix) w.1 ∙ is.1)
wider_own own table prefix kept (Added number) is = absurd is

pub module_nets : (L : LinkedView) (table : List (List ℕ)) (names : TapNames) (f : Fitted) (prefix : List ℕ) → CanBeTold L table names f prefix
    → (net : ℕ) (view : NetView) → slice_get (L.arena.lists.nets ++ behind_nets L.arena.lists names f) net ≡ Some view
    → IsOwn table prefix view.name ⊎ (view ≡ record { name = Added net; index = None })
module_nets L table names f prefix can net view at = elim (less net (length L.arena.lists.nets)) [
  | inl low ↦ inl (wider_own L.names table prefix can.kept view.name (can.nets net view (sym (slice_get-append_left L.arena.lists.nets (behind_nets L.arena.lists names f) net low) ∙ at)))
  | inr high ↦ behind high.0 (sym (slice_get-append_right L.arena.lists.nets (behind_nets L.arena.lists names f) net high.0 high.1) ∙ at) high.1
]
  where
    N : NetlistView
    N = L.arena.lists

    less : (a b : ℕ) → (a < b) ⊎ ((k : ℕ) × (a ≡ b + k))
    less a zero = inr (a, omega arith)
    less zero (suc b) = inl (omega arith)
    less (suc a) (suc b) = elim (less a b) [
      | inl low ↦ inl (omega (arith, low))
      | inr high ↦ (let is = high.1 in inr (high.0, omega (arith, is)))
    ]

    named : (name : Name) → IsOwn table prefix name → ◌≡◌ {A = Option NetView} (Some (record { name = name; index = None })) (Some view) → IsOwn table prefix view.name ⊎ (view ≡ record { name = Added net; index = None })
    named name own e =
        let is : record { name = name; index = None } ≡ view = inside (record { name = name; index = None }) view e in inl (rw (← is) own)
      where
        inside : (a b : NetView) → ◌≡◌ {A = Option NetView} (Some a) (Some b) → a ≡ b
        inside a b h = cc

    count : ℕ
    count = sides_of N.ports f.rows + test_logic_nets (boundary_at N f) f

    added_one : (k : ℕ) → net ≡ length N.nets + (5 + k) → slice_get (added_nets (boundary_at N f).first count) k ≡ Some view → view ≡ record { name = Added net; index = None }
    added_one k is there = elim (less k count) [
      | inl low ↦
          (let now : Some (record { name = Added ((boundary_at N f).first + k); index = None }) ≡ Some view = sym (added_at (boundary_at N f).first count k low) ∙ there in
          let number : (boundary_at N f).first + k ≡ net = omega (arith, is) in
          sym (rw number at (inside (record { name = Added ((boundary_at N f).first + k); index = None }) view now)))
      | inr high ↦
          (let within = slice_get_within (added_nets (boundary_at N f).first count) k view there in
          let all = length-added_nets (boundary_at N f).first count in
          let past = high.1 in absurd (omega (arith, within, all, past)))
    ]
      where
        inside : (a b : NetView) → ◌≡◌ {A = Option NetView} (Some a) (Some b) → a ≡ b
        inside a b h = cc

    behind : (k : ℕ) → slice_get (behind_nets N names f) k ≡ Some view → net ≡ length N.nets + k → IsOwn table prefix view.name ⊎ (view ≡ record { name = Added net; index = None })
    behind zero there is = named names.tck can.tck.own there
    behind (suc zero) there is = named names.tms can.tms.own there
    behind (suc (suc zero)) there is = named names.tdi can.tdi.own there
    behind (suc (suc (suc zero))) there is = named names.tdo can.tdo.own there
    behind (suc (suc (suc (suc zero)))) there is = named names.trst can.trst.own there
    behind (suc (suc (suc (suc (suc k))))) there is = inr (added_one k (omega (arith, is)) there)
