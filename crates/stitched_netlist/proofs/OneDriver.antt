-- No net has two drivers.
use Rattle.std.proofs.Common.{◌≡◌, inl, inr, ℕ, zero, suc, ◌+◌, ◌-◌, ◌<◌, ◌≤◌, true, length, refl, sym, ap, subst, ◌∙◌, arith, Some}
use Rattle.std.specs.Prelude.{slice_get}
use Rattle.std.proofs.lemmas.Bool.{cases_lt}
use Rattle.list_laws.proofs.Options.{some_same}
use Rattle.netlist_model.specs.declared.Dir.TheVariants.{Input}
use Rattle.netlist_model.specs.Lists.{CellView, NetlistView, direction, Drives}
use Rattle.plan_fitting.specs.declared.fitted.FitRow.{FitRow}
use Rattle.plan_fitting.specs.declared.fitted.Fitted.{Fitted}
use Rattle.stitched_netlist.specs.declared.model.Site.{Site}
use Rattle.stitched_netlist.specs.declared.model.Site.TheVariants as site
use Rattle.stitched_netlist.specs.Sites.{row_net, site_of, row_sides, sides_of}
use Rattle.stitched_netlist.specs.Sides.{is_moved}
use Rattle.stitched_netlist.specs.ModelRows.{row_nets, nets_of_rows}
use Rattle.stitched_netlist.specs.ModelLogic.{logic_size}
use Rattle.stitched_netlist.specs.Stitched.{first_net}
use Rattle.stitched_netlist.specs.PlacesLaws.{register_net, row_first, row_side, row_number}
use Rattle.stitched_netlist.specs.RowsLaws.{StandsAt, at_observed, at_input, at_output, at_added, at_driver, at_inout, at_control}
use Rattle.stitched_netlist.specs.CellsLaws.{driver_number}
use Rattle.stitched_netlist.proofs.FormedContext.{FitsWell, net_number}
use Rattle.stitched_netlist.proofs.Ranges.{tdo_net, side_range, same_side, row_range, same_row}
use Rattle.stitched_netlist.proofs.FormedPlaces.{PinDriver, own_pin, cell_pin, added_pin, given_side, SideDriver, core_side_of, cell_side_of, DriverOf, of_pin, of_tdo_pin, of_side, of_logic, of_row_net, of_tdo_net}

-- The places.

abbrev bound : NetlistView → Fitted → ℕ → ℕ
bound N f zero = 0
bound N f (suc zero) = length N.nets
bound N f (suc (suc zero)) = length N.nets + 5
bound N f (suc (suc (suc zero))) = first_net N f
bound N f (suc (suc (suc (suc zero)))) = register_net N f
bound N f (suc (suc (suc (suc (suc zero))))) = tdo_net N f
bound N f (suc (suc (suc (suc (suc (suc k)))))) = tdo_net N f + 6

pub record Within (N : NetlistView) (f : Fitted) (net place : ℕ) : Type 0 where
  pub low : bound N f place ≤ net
  pub high : net < bound N f (suc place)

bound_next : (N : NetlistView) (f : Fitted) (k : ℕ) → bound N f k ≤ bound N f (suc k)
bound_next N f zero = omega arith
bound_next N f (suc zero) = omega arith
bound_next N f (suc (suc zero)) = let end : first_net N f ≡ length N.nets + 5 + sides_of N.ports f.rows = refl in omega arith
bound_next N f (suc (suc (suc zero))) = let end : register_net N f ≡ first_net N f + logic_size f = refl in omega arith
bound_next N f (suc (suc (suc (suc zero)))) = let end : tdo_net N f ≡ register_net N f + nets_of_rows N.ports f.rows = refl in omega arith
bound_next N f (suc (suc (suc (suc (suc zero))))) = omega arith
bound_next N f (suc (suc (suc (suc (suc (suc k)))))) = omega arith

bound_more : (N : NetlistView) (f : Fitted) (j k : ℕ) → bound N f j ≤ bound N f (j + k)
bound_more N f j zero = let e : j ≡ j + 0 = omega arith in let same : bound N f j ≡ bound N f (j + 0) = ap (bound N f) e in omega arith
bound_more N f j (suc k) =
    let next = bound_next N f (j + k) in
    let rest = bound_more N f j k in
    let e : suc (j + k) ≡ j + suc k = omega arith in
    let same : bound N f (suc (j + k)) ≡ bound N f (j + suc k) = ap (bound N f) e in
    omega arith

apart : (N : NetlistView) (f : Fitted) (net a b : ℕ) → Within N f net a → Within N f net b → a < b → ⊥
apart N f net a b x y less =
    let k : ℕ = b - suc a in
    let more = bound_more N f (suc a) k in
    let e : suc a + k ≡ b = omega arith in
    let same : bound N f (suc a + k) ≡ bound N f b = ap (bound N f) e in
    let high = x.high in
    let low = y.low in
    omega arith

same_place : (N : NetlistView) (f : Fitted) (net a b : ℕ) → Within N f net a → Within N f net b → a ≡ b
same_place N f net a b x y = elim (cases_lt a b) [
  | inl less ↦ absurd (apart N f net a b x y less)
  | inr past ↦ elim (cases_lt b a) [
    | inl less ↦ absurd (apart N f net b a y x less)
    | inr past' ↦ omega arith
  ]
]

abbrev pub place_of : (N : NetlistView) (f : Fitted) (i net : ℕ) (cell : CellView) → DriverOf N f i net cell → ℕ
place_of N f i net cell (of_pin low d) = 0
place_of N f i net cell (of_tdo_pin is e) = 1
place_of N f i net cell (of_side k row e there low is d) = 2
place_of N f i net cell (of_logic j low is e) = 3
place_of N f i net cell (of_row_net k row j there low is e) = 4
place_of N f i net cell (of_tdo_net j low is e) = 5

pub within : (N : NetlistView) (f : Fitted) (i net : ℕ) (cell : CellView) (d : DriverOf N f i net cell) → Within N f net (place_of N f i net cell d)
within N f i net cell (of_pin low d) = record { low = omega arith; high = low }
within N f i net cell (of_tdo_pin is e) = record { low = omega arith; high = omega arith }
within N f i net cell (of_side k row e there low is d) = let r = side_range N f k row e there low in subst (λ (n : ℕ). Within N f n 2) (sym is) (record { low = r.low; high = r.high })
within N f i net cell (of_logic j low is e) =
    let end : register_net N f ≡ first_net N f + logic_size f = refl in record { low = omega arith; high = omega arith }
within N f i net cell (of_row_net k row j there low is e) = let r = row_range N f k row j there low in subst (λ (n : ℕ). Within N f n 4) (sym e) (record { low = r.low; high = r.high })
within N f i net cell (of_tdo_net j low is e) = record { low = omega arith; high = omega arith }

-- Two drivers of one net.

-- rows at one net have one site
other_site : (N : NetlistView) (f : Fitted) → FitsWell N f → (k k' : ℕ) (row row' : FitRow) (net : ℕ) → slice_get f.rows k ≡ Some row → slice_get f.rows k' ≡ Some row'
    → row_net N.ports row ≡ Some (record { 0 = net }) → row_net N.ports row' ≡ Some (record { 0 = net }) → (at at' : Site) → site_of N.ports row ≡ at → site_of N.ports row' ≡ at'
    → (at ≡ at' → ⊥) → ⊥
other_site N f well k k' row row' net there there' on on' at at' here here' unlike =
    let same : k ≡ k' = well.once k k' row row' (record { 0 = net }) there there' on on' in
    let alike : row ≡ row' = some_same row row' (slice_get f.rows k') (ap (slice_get f.rows) (sym same) ∙ there) there' in
    unlike (sym here ∙ ap (λ (r : FitRow). site_of N.ports r) alike ∙ here')

same_pins : (N : NetlistView) (f : Fitted) → FitsWell N f → (i j net : ℕ) (one other : CellView) → PinDriver N f i net one → PinDriver N f j net other → i ≡ j
same_pins N f well i j net one other (own_pin old d is s) (own_pin old' d' is' s') = well.formed.one_driver i j old old' net d d'
same_pins N f well i j net one other (own_pin old d is s) (cell_pin k row there on out here at) =
    absurd (let no : is_moved (site_of N.ports row) ≡ true = ap is_moved here in let still = s.none k row there on in cc)
same_pins N f well i j net one other (own_pin old d is s) (added_pin k row there on out here at) =
    absurd (let no : is_moved (site_of N.ports row) ≡ true = ap is_moved here in let still = s.none k row there on in cc)
same_pins N f well i j net one other (cell_pin k row there on out here at) (own_pin old d is s) =
    absurd (let no : is_moved (site_of N.ports row) ≡ true = ap is_moved here in let still = s.none k row there on in cc)
same_pins N f well i j net one other (added_pin k row there on out here at) (own_pin old d is s) =
    absurd (let no : is_moved (site_of N.ports row) ≡ true = ap is_moved here in let still = s.none k row there on in cc)
same_pins N f well i j net one other (cell_pin k row there on out here at) (cell_pin k' row' there' on' out' here' at') =
    let same : k ≡ k' = well.once k k' row row' (record { 0 = net }) there there' on on' in
    let alike : row ≡ row' = some_same row row' (slice_get f.rows k') (ap (slice_get f.rows) (sym same) ∙ there) there' in
    at ∙ ap (λ (n : ℕ). row_number N f n + row_nets N.ports row) same ∙ ap (λ (r : FitRow). row_number N f k' + row_nets N.ports r) alike ∙ sym at'
same_pins N f well i j net one other (added_pin k row there on out here at) (added_pin k' row' there' on' out' here' at') =
    let same : k ≡ k' = well.once k k' row row' (record { 0 = net }) there there' on on' in
    let alike : row ≡ row' = some_same row row' (slice_get f.rows k') (ap (slice_get f.rows) (sym same) ∙ there) there' in
    at ∙ ap (λ (n : ℕ). driver_number N f n row) same ∙ ap (λ (r : FitRow). driver_number N f k' r) alike ∙ sym at'
same_pins N f well i j net one other (cell_pin k row there on out here at) (added_pin k' row' there' on' out' here' at') =
    absurd (other_site N f well k k' row row' net there there' on on' site.Output site.AddedDriver here here' (λ e. cc))
same_pins N f well i j net one other (added_pin k row there on out here at) (cell_pin k' row' there' on' out' here' at') =
    absurd (other_site N f well k k' row row' net there there' on on' site.AddedDriver site.Output here here' (λ e. cc))

-- of an output that the core always drives, its own side is the first, and the boundary cell's another
moved_given : (at : Site) → is_moved at ≡ true → (at ≡ site.Output → ⊥) → (at ≡ site.Input → ⊥) → given_side at ≡ 1
moved_given site.Observed e out into = absurd (cc)
moved_given site.Input e out into = absurd (into refl)
moved_given site.Output e out into = absurd (out refl)
moved_given site.AddedDriver e out into = refl
moved_given site.Driver e out into = absurd (cc)
moved_given site.Inout e out into = absurd (cc)
moved_given site.Control e out into = absurd (cc)

-- the core drives no input
no_input : (N : NetlistView) (f : Fitted) → FitsWell N f → (k : ℕ) (row : FitRow) (i before : ℕ) (old : CellView) → slice_get f.rows k ≡ Some row → Drives N i old before
    → row_net N.ports row ≡ Some (record { 0 = before }) → site_of N.ports row ≡ site.Input → StandsAt N f row → ⊥
no_input N f well k row i before old there d on here (at_observed pin at side is) = let no : site.Observed ≡ site.Input = sym is ∙ here in cc
no_input N f well k row i before old there d on here (at_input pin at side is) =
    let same : pin.0 ≡ before = net_number pin (record { 0 = before }) (row_net N.ports row) at on in
    well.formed.inputs_free i old before d (subst (λ (n : ℕ). direction N.ports n ≡ Some Input) same side)
no_input N f well k row i before old there d on here (at_output pin at side is core two) = let no : site.Output ≡ site.Input = sym is ∙ here in cc
no_input N f well k row i before old there d on here (at_added pin at side is core two control) = let no : site.AddedDriver ≡ site.Input = sym is ∙ here in cc
no_input N f well k row i before old there d on here (at_driver pin at side is operand gate control) = let no : site.Driver ≡ site.Input = sym is ∙ here in cc
no_input N f well k row i before old there d on here (at_inout pin at side is operand gate control) = let no : site.Inout ≡ site.Input = sym is ∙ here in cc
no_input N f well k row i before old there d on here (at_control none is operand core read) = let no : site.Control ≡ site.Input = sym is ∙ here in cc

core_or_cell : (N : NetlistView) (f : Fitted) → FitsWell N f → (k : ℕ) (row : FitRow) (i before e : ℕ) (old : CellView) → slice_get f.rows k ≡ Some row → Drives N i old before
    → row_net N.ports row ≡ Some (record { 0 = before }) → is_moved (site_of N.ports row) ≡ true → e ≡ 0 → (site_of N.ports row ≡ site.Output → ⊥) → e ≡ given_side (site_of N.ports row) → ⊥
core_or_cell N f well k row i before e old there d on moved first out given =
    let one = moved_given (site_of N.ports row) moved out (λ here. no_input N f well k row i before old there d on here (well.stand k row there)) in omega arith

same_sides : (N : NetlistView) (f : Fitted) → FitsWell N f → (i j k : ℕ) (row : FitRow) (e : ℕ) (one other : CellView) → slice_get f.rows k ≡ Some row
    → SideDriver N f i k row e one → SideDriver N f j k row e other → i ≡ j
same_sides N f well i j k row e one other there (core_side_of old before d is on moved first) (core_side_of old' before' d' is' on' moved' first') =
    let same : before' ≡ before = net_number (record { 0 = before' }) (record { 0 = before }) (row_net N.ports row) on' on in
    well.formed.one_driver i j old old' before d (subst (λ (n : ℕ). Drives N j old' n) same d')
same_sides N f well i j k row e one other there (core_side_of old before d is on moved first) (cell_side_of out given at) =
    absurd (core_or_cell N f well k row i before e old there d on moved first out given)
same_sides N f well i j k row e one other there (cell_side_of out given at) (core_side_of old before d is on moved first) =
    absurd (core_or_cell N f well k row j before e old there d on moved first out given)
same_sides N f well i j k row e one other there (cell_side_of out given at) (cell_side_of out' given' at') = at ∙ sym at'

-- where one row's share is another's, the rows are the same
moved_side : (N : NetlistView) (f : Fitted) (j k k' : ℕ) (row row' : FitRow) (e e' : ℕ) (cell : CellView) → k' ≡ k → row' ≡ row → e' ≡ e → SideDriver N f j k' row' e' cell → SideDriver N f j k row e cell
moved_side N f j k k' row row' e e' cell a b c d =
    subst (λ (n : ℕ). SideDriver N f j n row e cell) a (subst (λ (r : FitRow). SideDriver N f j k' r e cell) b (subst (λ (n : ℕ). SideDriver N f j k' row' n cell) c d))

both_sides : (N : NetlistView) (f : Fitted) → FitsWell N f → (i j net : ℕ) (one other : CellView) (k : ℕ) (row : FitRow) (e : ℕ) (k' : ℕ) (row' : FitRow) (e' : ℕ)
    → slice_get f.rows k ≡ Some row → slice_get f.rows k' ≡ Some row' → e < row_sides N.ports row → e' < row_sides N.ports row' → net ≡ row_side N f k + e → net ≡ row_side N f k' + e'
    → SideDriver N f i k row e one → SideDriver N f j k' row' e' other → i ≡ j
both_sides N f well i j net one other k row e k' row' e' there there' low low' is is' d d' =
    let same : k' ≡ k = same_side N f k' k row' row e' e there' there low' low (sym is' ∙ is) in
    let alike : row' ≡ row = some_same row' row (slice_get f.rows k) (ap (slice_get f.rows) (sym same) ∙ there') there in
    let start : row_side N f k' ≡ row_side N f k = ap (row_side N f) same in
    same_sides N f well i j k row e one other there d (moved_side N f j k k' row row' e e' other same alike (omega arith) d')

both_rows : (N : NetlistView) (f : Fitted) (i j net k : ℕ) (row : FitRow) (a : ℕ) (k' : ℕ) (row' : FitRow) (b : ℕ) → slice_get f.rows k ≡ Some row → slice_get f.rows k' ≡ Some row'
    → a < row_nets N.ports row → b < row_nets N.ports row' → i ≡ row_number N f k + a → j ≡ row_number N f k' + b → net ≡ row_first N f k + a → net ≡ row_first N f k' + b → i ≡ j
both_rows N f i j net k row a k' row' b there there' low low' at at' is is' =
    let same : k ≡ k' = same_row N f k k' row row' a b there there' low low' (sym is ∙ is') in
    let number : row_number N f k ≡ row_number N f k' = ap (row_number N f) same in
    let first : row_first N f k ≡ row_first N f k' = ap (row_first N f) same in
    omega arith

same_driver : (N : NetlistView) (f : Fitted) → FitsWell N f → (i j net : ℕ) (one other : CellView) (a : DriverOf N f i net one) (b : DriverOf N f j net other)
    → place_of N f i net one a ≡ place_of N f j net other b → i ≡ j
same_driver N f well i j net one other (of_pin low d) (of_pin low' d') same = same_pins N f well i j net one other d d'
same_driver N f well i j net one other (of_tdo_pin is e) (of_tdo_pin is' e') same = is ∙ sym is'
same_driver N f well i j net one other (of_side k row e there low is d) (of_side k' row' e' there' low' is' d') same =
    both_sides N f well i j net one other k row e k' row' e' there there' low low' is is' d d'
same_driver N f well i j net one other (of_logic a low is e) (of_logic b low' is' e') same = omega arith
same_driver N f well i j net one other (of_row_net k row a there low is e) (of_row_net k' row' b there' low' is' e') same =
    both_rows N f i j net k row a k' row' b there there' low low' is is' e e'
same_driver N f well i j net one other (of_tdo_net a low is e) (of_tdo_net b low' is' e') same = omega arith
same_driver N f well i j net one other a b same = absurd (omega arith)

pub one_driver_of : (N : NetlistView) (f : Fitted) → FitsWell N f → (i j net : ℕ) (one other : CellView) → DriverOf N f i net one → DriverOf N f j net other → i ≡ j
one_driver_of N f well i j net one other a b =
    same_driver N f well i j net one other a b
    (same_place N f net (place_of N f i net one a) (place_of N f j net other b) (within N f i net one a) (within N f j net other b))
