-- Cells without a loop have an order: while a cell is left, going back along what gates read ends at one that can be placed.
use Rattle.std.proofs.Common.{◌≡◌, ◌≢◌, ℕ, zero, suc, ◌+◌, ◌-◌, ◌<◌, ◌≤◌, ◌⊎◌, ◌==◌, Bool, true, false, List, [], ◌∷◌, ◌++◌, length, slice_index, get_or, inl, inr, arith, refl, sym, ap, ◌∙◌, subst, Option, Some, None, if◌then◌else◌}
use Rattle.std.specs.Prelude.{⊤, slice_get, IsSome}
use Rattle.std.specs.List.{filter_map, cons_option, position}
use Rattle.std.proofs.lemmas.Bool.Decides.{eqb_tells}
use Rattle.std.proofs.lemmas.List.Quantifiers.{position-Some}
use Rattle.std.proofs.lemmas.Option.{none-some, same_Some, slice_get_within, slice_get-get_or}
use Rattle.list_laws.proofs.Lists.{any_at, at_push, before_push, last_push, position_none}
use Rattle.list_laws.proofs.Options.{is_there, some_there}
use Rattle.netlist_model.proofs.Search.{cell_at_once}
use Rattle.cell_library.specs.Gates.{is_flop}
use Rattle.netlist_model.specs.declared.CellId.{CellId}
use Rattle.netlist_model.specs.declared.NetId.{NetId}
use Rattle.netlist_model.specs.declared.Feed.{Feed}
use Rattle.netlist_model.specs.declared.Feed.TheVariants.{Net, Const}
use Rattle.netlist_model.specs.Lists.{CellView, NetlistView, cell_at, live_cell, Drives, IsDrivenOnce}
use Rattle.netlist_model.specs.Orders.{StandsAt}
use Rattle.cell_order.specs.Walk.{Stands, WaitsFor}
use Rattle.cell_order.specs.Loops.{HasNoGateLoop, IsGateLoop, LooplessHasOrder, ReadsGate}
use Rattle.cell_order.proofs.Steps.{number_of}

-- Elements of a list of numbers.

abbrev In : ℕ → List ℕ → Type 0
In v [] = ⊥
In v (x ∷ xs) = (v ≡ x) ⊎ In v xs

in_or_not : (v : ℕ) (xs : List ℕ) → In v xs ⊎ (In v xs → ⊥)
in_or_not v [] = inr (λ i. i)
in_or_not v (x ∷ xs) =
    elim (eqb_tells v x) [
      | inl e ↦ inl (inl e.1)
      | inr e ↦ elim (in_or_not v xs) [
        | inl i ↦ inl (inr i)
        | inr missing ↦ inr (λ i. elim i [ inl same ↦ e.1 same | inr later ↦ missing later ])
      ]
    ]

in_at : (xs : List ℕ) (k d : ℕ) → k < length xs → In (get_or xs k d) xs
in_at [] k d less = absurd (omega arith)
in_at (x ∷ xs) zero d less = inl refl
in_at (x ∷ xs) (suc k) d less = inr (in_at xs k d (omega arith))

-- The others of a list, shorter by one that stands in it.

record Others (w : ℕ) (xs : List ℕ) : Type 0 where
  pub rest : List ℕ
  pub shorter : length rest + 1 ≡ length xs
  pub each : (u : ℕ) → u ≢ w → In u xs → In u rest

without : (w : ℕ) (xs : List ℕ) → In w xs → Others w xs
without w [] i = absurd i
without w (x ∷ xs) (inl e) = record { rest = xs; shorter = omega arith; each = λ u differs i. elim i [ inl same ↦ absurd (differs (same ∙ sym e)) | inr later ↦ later ] }
without w (x ∷ xs) (inr i) =
    let more = without w xs i in
    let shorter = more.shorter in
    record {
      rest = x ∷ more.rest;
      shorter = omega arith;
      each = λ u differs j. elim j [ inl same ↦ inl same | inr later ↦ inr (more.each u differs later) ];
    }

-- What a cell reads, as numbers of cells.

abbrev output_is : ℕ → Option NetId → Bool
output_is net None = false
output_is net (Some n) = n.0 == net

abbrev drives_test : ℕ → Option CellView → Bool
drives_test net None = false
drives_test net (Some cell) = output_is net cell.output

abbrev source_of : NetlistView → Feed → Option ℕ
source_of N (Net net) = position (drives_test net.0) N.cells
source_of N (Const value) = None

abbrev cell_reads : NetlistView → Option CellView → List ℕ
cell_reads N None = []
cell_reads N (Some cell) = if is_flop N.library cell.kind then [] else filter_map (source_of N) cell.feeds

abbrev reads_at : NetlistView → ℕ → List ℕ
reads_at N v = cell_reads N (cell_at N v)

in_cons : (o : Option ℕ) (ys : List ℕ) (y : ℕ) → In y (cons_option o ys) → (o ≡ Some y) ⊎ In y ys
in_cons None ys y i = inr i
in_cons (Some z) ys y (inl e) = inl (ap (λ (x : ℕ). Some x) (sym e))
in_cons (Some z) ys y (inr i) = inr i

cons_in : (o : Option ℕ) (ys : List ℕ) (y : ℕ) → (o ≡ Some y) ⊎ In y ys → In y (cons_option o ys)
cons_in None ys y (inl e) = absurd (none-some y e)
cons_in None ys y (inr i) = i
cons_in (Some z) ys y (inl e) = inl (sym (same_Some z y e))
cons_in (Some z) ys y (inr i) = inr i

record IsMapped (h : Feed → Option ℕ) (xs : List Feed) (y : ℕ) : Type 0 where
  pub place : ℕ
  pub feed : Feed
  pub there : slice_get xs place ≡ Some feed
  pub gives : h feed ≡ Some y

mapped_from : (h : Feed → Option ℕ) (xs : List Feed) (y : ℕ) → In y (filter_map h xs) → IsMapped h xs y
mapped_from h [] y i = absurd i
mapped_from h (x ∷ xs) y i = elim (in_cons (h x) (filter_map h xs) y i) [
  | inl e ↦ record { place = 0; feed = x; there = refl; gives = e }
  | inr later ↦ let s = mapped_from h xs y later in record { place = suc s.place; feed = s.feed; there = s.there; gives = s.gives }
]

mapped_to : (h : Feed → Option ℕ) (xs : List Feed) (y k : ℕ) (x : Feed) → slice_get xs k ≡ Some x → h x ≡ Some y → In y (filter_map h xs)
mapped_to h [] y k x there gives = absurd (none-some x there)
mapped_to h (z ∷ xs) y zero x there gives = cons_in (h z) (filter_map h xs) y (inl (ap h (same_Some z x there) ∙ gives))
mapped_to h (z ∷ xs) y (suc k) x there gives = cons_in (h z) (filter_map h xs) y (inr (mapped_to h xs y k x there gives))

-- the cell that is found drives the net
record IsSource (N : NetlistView) (net i : ℕ) : Type 0 where
  pub cell : CellView
  pub drives : Drives N i cell net

same_output : (net : ℕ) (o : Option NetId) → output_is net o ≡ true → o ≡ Some (record { 0 = net })
same_output net None e = absurd (cc)
same_output net (Some n) e = elim (eqb_tells n.0 net) [
  | inl same ↦ ap (λ (k : ℕ). Some (record { 0 = k })) same.1
  | inr differs ↦ absurd (let no : false ≡ true = sym differs.0 ∙ e in cc)
]

is_source : (N : NetlistView) (net i : ℕ) → position (drives_test net) N.cells ≡ Some i → IsSource N net i
is_source N net i e =
    let at = position-Some (drives_test net) N.cells i None e in
    by (get_or N.cells i None) (slice_get-get_or N.cells i None at.0) at.1
  where
    by : (o : Option CellView) → slice_get N.cells i ≡ Some o → drives_test net o ≡ true → IsSource N net i
    by None there passes = absurd (cc)
    by (Some cell) there passes = record { cell = cell; drives = record { live = ap live_cell there; output = same_output net cell.output passes } }

found_number : (N : NetlistView) (net i : ℕ) (cell : CellView) → Drives N i cell net → (j : ℕ) × (position (drives_test net) N.cells ≡ Some j)
found_number N net i cell d = by (position (drives_test net) N.cells) refl
  where
    there : (o : Option (Option CellView)) → slice_get N.cells i ≡ o → live_cell o ≡ Some cell → slice_get N.cells i ≡ Some (Some cell)
    there None e l = absurd (none-some cell l)
    there (Some o) e l = e ∙ ap (λ (p : Option CellView). Some p) l

    passes : drives_test net (Some cell) ≡ true
    passes = elim (eqb_tells net net) [
      | inl same ↦ ap (output_is net) d.output ∙ same.0
      | inr differs ↦ absurd (differs.1 refl)
    ]

    by : (o : Option ℕ) → position (drives_test net) N.cells ≡ o → (j : ℕ) × (position (drives_test net) N.cells ≡ Some j)
    by (Some j) e = (j, e)
    by None e = absurd (
        let none = position_none (drives_test net) N.cells e in
        let some = any_at (drives_test net) N.cells i (Some cell) (there (slice_get N.cells i) refl d.live) passes in
        let no : false ≡ true = sym none ∙ some in cc)

waits_of_feed : (N : NetlistView) (v w place : ℕ) (cell : CellView) (feed : Feed) → cell_at N v ≡ Some cell → is_flop N.library cell.kind ≡ false → slice_get cell.feeds place ≡ Some feed → source_of N feed ≡ Some w → WaitsFor N v w
waits_of_feed N v w place cell (Const value) live gate there gives = absurd (none-some w gives)
waits_of_feed N v w place cell (Net net) live gate there gives =
    let s = is_source N net.0 w gives in
    (place, record { cell = cell; driver = s.cell; net = net.0; gate = gate; reads = record { live = live; operand = there }; drives = s.drives })

reads_waits : (N : NetlistView) (v w : ℕ) → In w (reads_at N v) → WaitsFor N v w
reads_waits N v w i = by (cell_at N v) refl i
  where
    by_kind : (cell : CellView) → cell_at N v ≡ Some cell → (b : Bool) → is_flop N.library cell.kind ≡ b → In w (if b then [] else filter_map (source_of N) cell.feeds) → WaitsFor N v w
    by_kind cell live true flop i = absurd i
    by_kind cell live false gate i =
        let m = mapped_from (source_of N) cell.feeds w i in
        waits_of_feed N v w m.place cell m.feed live gate m.there m.gives

    by : (o : Option CellView) → cell_at N v ≡ o → In w (cell_reads N o) → WaitsFor N v w
    by None e i = absurd i
    by (Some cell) e i = by_kind cell e (is_flop N.library cell.kind) refl i

waits_reads : (N : NetlistView) (v w : ℕ) → IsDrivenOnce N → WaitsFor N v w → In w (reads_at N v)
waits_reads N v w single b =
    let found = found_number N b.1.net w b.1.driver b.1.drives in
    let s = is_source N b.1.net found.0 found.1 in
    let same : found.0 ≡ w = single found.0 w s.cell b.1.driver b.1.net s.drives b.1.drives in
    let gives : source_of N (Net (record { 0 = b.1.net })) ≡ Some w = found.1 ∙ ap (λ (k : ℕ). Some k) same in
    let listed = mapped_to (source_of N) b.1.cell.feeds w b.0 (Net (record { 0 = b.1.net })) b.1.reads.operand gives in
    subst (λ (o : Option CellView). In w (cell_reads N o)) (sym b.1.reads.live) (subst (λ (t : Bool). In w (if t then [] else filter_map (source_of N) b.1.cell.feeds)) (sym b.1.gate) listed)

-- Paths back: each cell of the list reads the one before it, and none stands twice.

abbrev IsPath : (ℕ → List ℕ) → ℕ → List ℕ → Type 0
IsPath reads v [] = ⊤
IsPath reads v (u ∷ us) = In v (reads u) × (In v (u ∷ us) → ⊥) × IsPath reads u us

abbrev last_of : ℕ → List ℕ → ℕ
last_of v [] = v
last_of v (u ∷ us) = last_of u us

-- the front of a path, up to a cell of it
record HasFront (reads : ℕ → List ℕ) (w v : ℕ) (us : List ℕ) : Type 0 where
  pub more : List ℕ
  pub path : IsPath reads v more
  pub inside : (u : ℕ) → In u more → In u us
  pub ends : last_of v more ≡ w

front_of : (reads : ℕ → List ℕ) (w v : ℕ) (us : List ℕ) → In w (v ∷ us) → IsPath reads v us → HasFront reads w v us
front_of reads w v us (inl e) path = record { more = []; path = tt; inside = λ u i. absurd i; ends = sym e }
front_of reads w v [] (inr i) path = absurd i
front_of reads w v (u ∷ us) (inr i) path =
    let rest = front_of reads w u us i path.2 in
    record {
      more = u ∷ rest.more;
      path = (path.0, λ j. path.1 (elim j [ inl same ↦ inl same | inr later ↦ inr (rest.inside v later) ]), rest.path);
      inside = λ x j. elim j [ inl same ↦ inl same | inr later ↦ inr (rest.inside x later) ];
      ends = rest.ends;
    }

-- a circle of reads
record IsCycle (reads : ℕ → List ℕ) (cycle : List ℕ) : Type 0 where
  pub some : 0 < length cycle
  pub each : (i : ℕ) → i + 1 < length cycle → In (slice_index cycle i) (reads (slice_index cycle (i + 1)))
  pub closes : In (slice_index cycle (length cycle - 1)) (reads (slice_index cycle 0))
  pub once : (i j : ℕ) → i < length cycle → j < length cycle → slice_index cycle i ≡ slice_index cycle j → i ≡ j

path_reads : (reads : ℕ → List ℕ) (v : ℕ) (us : List ℕ) → IsPath reads v us → (i : ℕ) → i + 1 < length (v ∷ us) → In (slice_index (v ∷ us) i) (reads (slice_index (v ∷ us) (i + 1)))
path_reads reads v [] path i less = absurd (omega arith)
path_reads reads v (u ∷ us) path zero less = path.0
path_reads reads v (u ∷ us) path (suc i) less =
    let e : suc i + 1 ≡ suc (i + 1) = omega arith in
    let rest = path_reads reads u us path.2 i (omega arith) in
    rw e rest

path_once : (reads : ℕ → List ℕ) (v : ℕ) (us : List ℕ) → IsPath reads v us → (i j : ℕ) → i < length (v ∷ us) → j < length (v ∷ us) → slice_index (v ∷ us) i ≡ slice_index (v ∷ us) j → i ≡ j
path_once reads v [] path i j hi hj e = omega arith
path_once reads v (u ∷ us) path zero zero hi hj e = refl
path_once reads v (u ∷ us) path zero (suc j) hi hj e =
    let P : ℕ → Type 0 = λ x. In x (u ∷ us) in absurd (path.1 (subst P (sym e) (in_at (u ∷ us) j 0 (omega arith))))
path_once reads v (u ∷ us) path (suc i) zero hi hj e =
    let P : ℕ → Type 0 = λ x. In x (u ∷ us) in absurd (path.1 (subst P e (in_at (u ∷ us) i 0 (omega arith))))
path_once reads v (u ∷ us) path (suc i) (suc j) hi hj e = ap suc (path_once reads u us path.2 i j (omega arith) (omega arith) e)

last_at : (v : ℕ) (us : List ℕ) → slice_index (v ∷ us) (length (v ∷ us) - 1) ≡ last_of v us
last_at v [] = refl
last_at v (u ∷ us) = let e : length (v ∷ u ∷ us) - 1 ≡ suc (length (u ∷ us) - 1) = omega arith in rw e (last_at u us)

cycle_of : (reads : ℕ → List ℕ) (v : ℕ) (us : List ℕ) → IsPath reads v us → In (last_of v us) (reads v) → IsCycle reads (v ∷ us)
cycle_of reads v us path read = record {
  some = omega arith;
  each = path_reads reads v us path;
  closes = let P : ℕ → Type 0 = λ x. In x (reads v) in subst P (sym (last_at v us)) read;
  once = path_once reads v us path;
}

-- a circle of what gates read is a loop
gate_loop : (N : NetlistView) (v w other : ℕ) → WaitsFor N v w → WaitsFor N w other → ReadsGate N v w
gate_loop N v w other b next =
    let same : b.1.driver ≡ next.1.cell = cell_at_once N w w b.1.driver next.1.cell refl b.1.drives.live next.1.reads.live in
    record {
      reading = b.1.cell;
      driving = b.1.driver;
      place = b.0;
      net = b.1.net;
      reader_gate = b.1.gate;
      driver_gate = ap (λ (x : CellView). is_flop N.library x.kind) same ∙ next.1.gate;
      reads = b.1.reads;
      drives = b.1.drives;
    }

cycle_waits : (N : NetlistView) (cycle : List ℕ) → IsCycle (reads_at N) cycle → (i : ℕ) → i < length cycle → (other : ℕ) × WaitsFor N (slice_index cycle i) other
cycle_waits N cycle c zero h = (slice_index cycle (length cycle - 1), reads_waits N (slice_index cycle 0) (slice_index cycle (length cycle - 1)) c.closes)
cycle_waits N cycle c (suc i) h =
    let at : i + 1 ≡ suc i = omega arith in
    let w = reads_waits N (slice_index cycle (i + 1)) (slice_index cycle i) (c.each i (omega (arith, h))) in
    (slice_index cycle i, subst (λ (k : ℕ). WaitsFor N (slice_index cycle k) (slice_index cycle i)) at w)

cycle_loop : (N : NetlistView) (cycle : List ℕ) → IsCycle (reads_at N) cycle → IsGateLoop N cycle
cycle_loop N cycle c = record {
  some = c.some;
  each = λ i h.
      let next = cycle_waits N cycle c i (omega (arith, h)) in
      gate_loop N (slice_index cycle (i + 1)) (slice_index cycle i) next.0 (reads_waits N (slice_index cycle (i + 1)) (slice_index cycle i) (c.each i h)) next.1;
  closes =
      let some = c.some in
      let next = cycle_waits N cycle c (length cycle - 1) (omega (arith, some)) in
      gate_loop N (slice_index cycle 0) (slice_index cycle (length cycle - 1)) next.0 (reads_waits N (slice_index cycle 0) (slice_index cycle (length cycle - 1)) c.closes) next.1;
  once = c.once;
}

-- What stands in an order.

stands_or_not : (v : ℕ) (order : List CellId) → Stands order v ⊎ (Stands order v → ⊥)
stands_or_not v [] = inr (λ s. let no = s.there in absurd (cc))
stands_or_not v (x ∷ xs) =
    elim (eqb_tells v x.0) [
      | inl e ↦ inl (record { place = 0; there = ap (λ (n : ℕ). Some (record { 0 = n })) (sym e.1) })
      | inr e ↦ elim (stands_or_not v xs) [
        | inl s ↦ inl (record { place = suc s.place; there = s.there })
        | inr missing ↦ inr (λ s. here e.1 missing s.place s.there)
      ]
    ]
  where
    here : (v ≡ x.0 → ⊥) → (Stands xs v → ⊥) → (place : ℕ) → StandsAt (x ∷ xs) place v → ⊥
    here differs missing zero there = differs (sym (number_of x v (same_Some x (record { 0 = v }) there)))
    here differs missing (suc k) there = missing (record { place = k; there = there })

stands_push : (v : ℕ) (order : List CellId) (id : CellId) → Stands order v → Stands (order ++ id ∷ []) v
stands_push v order id s = record { place = s.place; there = before_push order (id ∷ []) (record { 0 = v }) s.place s.there }

all_or_missing : (order : List CellId) (reads : List ℕ) → ((w : ℕ) → In w reads → Stands order w) ⊎ ((w : ℕ) × In w reads × (Stands order w → ⊥))
all_or_missing order [] = inl (λ w i. absurd i)
all_or_missing order (x ∷ xs) =
    elim (stands_or_not x order) [
      | inr out ↦ inr (x, inl refl, out)
      | inl here ↦ elim (all_or_missing order xs) [
        | inl all ↦ inl (λ w i. elim i [ inl same ↦ subst (λ v. Stands order v) (sym same) here | inr later ↦ all w later ])
        | inr m ↦ inr (m.0, inr m.1, m.2)
      ]
    ]

-- A cell that can be placed: all that it reads is.

abbrev IsLive : NetlistView → ℕ → Type 0
IsLive N v = IsSome (cell_at N v)

record Source (N : NetlistView) (order : List CellId) : Type 0 where
  pub vertex : ℕ
  pub live : IsLive N vertex
  pub out : Stands order vertex → ⊥
  pub placed : (w : ℕ) → In w (reads_at N vertex) → Stands order w

-- each cell that isn't placed stands on the path or among the rest
abbrev Covers : NetlistView → List CellId → List ℕ → List ℕ → Type 0
Covers N order path rest = (u : ℕ) → IsLive N u → (Stands order u → ⊥) → In u path ⊎ In u rest

covers_more : (N : NetlistView) (order : List CellId) (path rest fewer : List ℕ) (w : ℕ) → Covers N order path rest → ((u : ℕ) → u ≢ w → In u rest → In u fewer) → Covers N order (w ∷ path) fewer
covers_more N order path rest fewer w covers each u live out =
    elim (eqb_tells u w) [
      | inl e ↦ inl (inl e.1)
      | inr d ↦ elim (covers u live out) [ inl on ↦ inl (inr on) | inr left ↦ inr (each u d.1 left) ]
    ]

-- a path that is longer by a cell of the rest
record Further (N : NetlistView) (order : List CellId) (v : ℕ) (us rest : List ℕ) : Type 0 where
  pub next : ℕ
  pub live : IsLive N next
  pub out : Stands order next → ⊥
  pub path : IsPath (reads_at N) next (v ∷ us)
  pub left : Others next rest
  pub covers : Covers N order (next ∷ v ∷ us) left.rest

read_live : (N : NetlistView) (v w : ℕ) → In w (reads_at N v) → IsLive N w
read_live N v w i = let b = reads_waits N v w i in is_there (cell_at N w) b.1.driver b.1.drives.live

look_back : (N : NetlistView) → HasNoGateLoop N → (order : List CellId) (v : ℕ) (us rest : List ℕ) → IsLive N v → (Stands order v → ⊥) → IsPath (reads_at N) v us
    → Covers N order (v ∷ us) rest → Source N order ⊎ Further N order v us rest
look_back N loopless order v us rest live out path covers =
    elim (all_or_missing order (reads_at N v)) [
      | inl all ↦ inl (record { vertex = v; live = live; out = out; placed = all })
      | inr m ↦ elim (in_or_not m.0 (v ∷ us)) [
        | inl again ↦ absurd (
            let f = front_of (reads_at N) m.0 v us again path in
            let P : ℕ → Type 0 = λ x. In x (reads_at N v) in
            loopless (v ∷ f.more) (cycle_loop N (v ∷ f.more) (cycle_of (reads_at N) v f.more f.path (subst P (sym f.ends) m.1))))
        | inr new ↦ elim (covers m.0 (read_live N v m.0 m.1) m.2) [
          | inl on ↦ absurd (new on)
          | inr there ↦
              let left = without m.0 rest there in
              inr (record { next = m.0; live = read_live N v m.0 m.1; out = m.2; path = (m.1, new, path); left = left; covers = covers_more N order (v ∷ us) rest left.rest m.0 covers left.each })
        ]
      ]
    ]

find_source : (N : NetlistView) → HasNoGateLoop N → (order : List CellId) (k v : ℕ) (us rest : List ℕ) → length rest ≤ k → IsLive N v → (Stands order v → ⊥)
    → IsPath (reads_at N) v us → Covers N order (v ∷ us) rest → Source N order
find_source N loopless order zero v us rest few live out path covers =
    elim (look_back N loopless order v us rest live out path covers) [ inl s ↦ s | inr f ↦ absurd (let e = f.left.shorter in omega arith) ]
find_source N loopless order (suc k) v us rest few live out path covers =
    elim (look_back N loopless order v us rest live out path covers) [
      | inl s ↦ s
      | inr f ↦ let e = f.left.shorter in find_source N loopless order k f.next (v ∷ us) f.left.rest (omega arith) f.live f.out f.path f.covers
    ]

-- The order so far.

record IsPart (N : NetlistView) (order : List CellId) : Type 0 where
  pub only : (i v : ℕ) → StandsAt order i v → IsLive N v
  pub once : (i j v : ℕ) → StandsAt order i v → StandsAt order j v → i ≡ j
  pub after : (i v w : ℕ) → StandsAt order i v → In w (reads_at N v) → (j : ℕ) × (j < i) × StandsAt order j w

more_part : (N : NetlistView) (order : List CellId) (s : Source N order) → IsPart N order → IsPart N (order ++ record { 0 = s.vertex } ∷ [])
more_part N order s part =
    let id : CellId = record { 0 = s.vertex } in
    record {
      only = λ i v e. elim (at_push order id (record { 0 = v }) i e) [
        | inl h ↦ subst (IsLive N) (number_of id v h.1) s.live
        | inr h ↦ part.only i v h.1
      ];
      once = λ i j v e f. elim (at_push order id (record { 0 = v }) i e) [
        | inl h ↦ elim (at_push order id (record { 0 = v }) j f) [
          | inl g ↦ h.0 ∙ sym g.0
          | inr g ↦ absurd (s.out (record { place = j; there = subst (λ x. StandsAt order j x) (sym (number_of id v h.1)) g.1 }))
        ]
        | inr h ↦ elim (at_push order id (record { 0 = v }) j f) [
          | inl g ↦ absurd (s.out (record { place = i; there = subst (λ x. StandsAt order i x) (sym (number_of id v g.1)) h.1 }))
          | inr g ↦ part.once i j v h.1 g.1
        ]
      ];
      after = λ i v w e read. elim (at_push order id (record { 0 = v }) i e) [
        | inl h ↦
            let old = s.placed w (subst (λ x. In w (reads_at N x)) (sym (number_of id v h.1)) read) in
            let low = slice_get_within order old.place (record { 0 = w }) old.there in
            let end = h.0 in
            (old.place, omega (arith, low, end), before_push order (id ∷ []) (record { 0 = w }) old.place old.there)
        | inr h ↦ let old = part.after i v w h.1 read in (old.0, old.1, before_push order (id ∷ []) (record { 0 = w }) old.0 old.2)
      ];
    }

-- a cell after the others: each that was left is placed or still left
covers_placed : (N : NetlistView) (order : List CellId) (rest fewer : List ℕ) (s : ℕ) → ((u : ℕ) → IsLive N u → Stands order u ⊎ In u rest) → ((u : ℕ) → u ≢ s → In u rest → In u fewer)
    → (u : ℕ) → IsLive N u → Stands (order ++ record { 0 = s } ∷ []) u ⊎ In u fewer
covers_placed N order rest fewer s left each u live =
    let id : CellId = record { 0 = s } in
    elim (eqb_tells u s) [
      | inl e ↦ inl (record { place = length order; there = last_push order id ∙ ap (λ (n : ℕ). Some (record { 0 = n })) (sym e.1) })
      | inr d ↦ elim (left u live) [ inl placed ↦ inl (stands_push u order id placed) | inr there ↦ inr (each u d.1 there) ]
    ]

-- without a number that is placed, or that no cell has
covers_fewer : (N : NetlistView) (order : List CellId) (rest : List ℕ) (x : ℕ) → (IsLive N x → Stands order x) → ((u : ℕ) → IsLive N u → Stands order u ⊎ In u (x ∷ rest))
    → (u : ℕ) → IsLive N u → Stands order u ⊎ In u rest
covers_fewer N order rest x placed left u live =
    elim (left u live) [
      | inl there ↦ inl there
      | inr there ↦ elim there [
        | inl same ↦ inl (subst (λ y. Stands order y) (sym same) (placed (subst (IsLive N) same live)))
        | inr later ↦ inr later
      ]
    ]

record IsWhole (N : NetlistView) : Type 0 where
  pub order : List CellId
  pub part : IsPart N order
  pub each : (u : ℕ) → IsLive N u → Stands order u

place_all : (N : NetlistView) → HasNoGateLoop N → (k : ℕ) (order : List CellId) (rest : List ℕ) → length rest ≤ k → IsPart N order
    → ((u : ℕ) → IsLive N u → Stands order u ⊎ In u rest) → IsWhole N
place_all N loopless k order [] few part left = record { order = order; part = part; each = λ u live. elim (left u live) [ inl placed ↦ placed | inr nowhere ↦ absurd nowhere ] }
place_all N loopless zero order (x ∷ rest) few part left = absurd (omega arith)
place_all N loopless (suc k) order (x ∷ rest) few part left =
    elim (stands_or_not x order) [
      | inl here ↦ place_all N loopless k order rest (omega arith) part (covers_fewer N order rest x (λ h. here) left)
      | inr out ↦ by_cell (cell_at N x) refl out (λ next left_over less so_far covered. place_all N loopless k next left_over less so_far covered)
    ]
  where
    path_or_rest : (u : ℕ) → Stands order u ⊎ In u (x ∷ rest) → (Stands order u → ⊥) → In u (x ∷ []) ⊎ In u rest
    path_or_rest u (inl placed) free = absurd (free placed)
    path_or_rest u (inr there) free = elim there [ inl same ↦ inl (inl same) | inr later ↦ inr later ]

    by_cell : (o : Option CellView) → cell_at N x ≡ o → (Stands order x → ⊥)
        → ((next : List CellId) (left_over : List ℕ) → length left_over ≤ k → IsPart N next → ((u : ℕ) → IsLive N u → Stands next u ⊎ In u left_over) → IsWhole N) → IsWhole N
    by_cell None e out go_on = go_on order rest (omega arith) part (covers_fewer N order rest x (λ live. absurd (let some = some_there (cell_at N x) live in none-some some.0 (sym e ∙ some.1))) left)
    by_cell (Some cell) e out go_on =
        let s = find_source N loopless order (length rest) x [] rest (omega arith) (is_there (cell_at N x) cell e) out tt (λ u live free. path_or_rest u (left u live) free) in
        let there : In s.vertex (x ∷ rest) = elim (left s.vertex s.live) [ inl placed ↦ absurd (s.out placed) | inr there ↦ there ] in
        let o = without s.vertex (x ∷ rest) there in
        let shorter = o.shorter in
        go_on (order ++ record { 0 = s.vertex } ∷ []) o.rest (omega arith) (more_part N order s part) (covers_placed N order (x ∷ rest) o.rest s.vertex left o.each)

-- all numbers below a bound
abbrev up_to : ℕ → List ℕ
up_to zero = []
up_to (suc n) = n ∷ up_to n

in_up_to : (n u : ℕ) → u < n → In u (up_to n)
in_up_to zero u less = absurd (omega arith)
in_up_to (suc n) u less = elim (eqb_tells u n) [ inl e ↦ inl e.1 | inr d ↦ inr (in_up_to n u (let e = d.1 in omega arith)) ]

live_low : (N : NetlistView) (u : ℕ) → IsLive N u → u < length N.cells
live_low N u live = by (slice_get N.cells u) refl
  where
    by : (o : Option (Option CellView)) → slice_get N.cells u ≡ o → u < length N.cells
    by None e = absurd (let some = some_there (cell_at N u) live in none-some some.0 (sym (ap live_cell e) ∙ some.1))
    by (Some o) e = slice_get_within N.cells u o e

pub loopless_has_order : LooplessHasOrder
loopless_has_order N single loopless =
    let all = place_all N loopless (length (up_to (length N.cells))) [] (up_to (length N.cells)) (omega arith)
    (record { only = λ i v e. absurd (cc); once = λ i j v e f. absurd (cc); after = λ i v w e read. absurd (cc) })
    (λ u live. inr (in_up_to (length N.cells) u (live_low N u live))) in (
      all.order,
      record {
        each = λ number live. let s = all.each number live in (s.place, s.there);
        only = all.part.only;
        once = all.part.once;
        after = λ place number other cell driver operand net there gate reads drives.
            all.part.after place number other there (waits_reads N number other single (operand, record { cell = cell; driver = driver; net = net; gate = gate; reads = reads; drives = drives }));
      },
    )
