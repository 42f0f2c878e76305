-- Each row of a plan is the data cell of one of its lines, or a control cell that a row names.
use Rattle.std.proofs.Common.{◌≡◌, ◌⊎◌, ℕ, zero, suc, ◌+◌, ◌-◌, Bool, true, false, List, [], ◌∷◌, ◌++◌, length, slice_get, position, if◌then◌else◌, Option, Some, None, refl, sym, ap, ◌∙◌, subst, inl, inr, arith}
use Rattle.std.proofs.lemmas.Bool.{cases_lt}
use Rattle.std.proofs.lemmas.Option.{get_or_from_slice_get, slice_get_within}
use Rattle.std.proofs.lemmas.List.Quantifiers.{position-Some}
use Rattle.list_laws.proofs.Numbers.{eqb_same}
use Rattle.list_laws.proofs.Lists.{slice_get_there, slice_get-append_left, slice_get-append_right}
use Rattle.list_laws.proofs.Tests.{and_true}
use Rattle.cell_library.specs.declared.codes.BoundaryKind.{BoundaryKind}
use Rattle.cell_library.specs.declared.codes.Function.{Function}
use Rattle.cell_library.specs.declared.codes.Function.TheVariants as function
use Rattle.netlist_model.specs.declared.Dir.{Dir}
use Rattle.netlist_model.specs.declared.Dir.TheVariants as dir
use Rattle.netlist_model.specs.declared.Feed.{Feed}
use Rattle.netlist_model.specs.declared.Feed.TheVariants.{Net, Const}
use Rattle.plan_texts.specs.declared.plan.Plan.{Plan}
use Rattle.plan_texts.specs.declared.plan.PinLine.{PinLine}
use Rattle.plan_fitting.specs.declared.fitted.FitRow.{FitRow}
use Rattle.plan_fitting.specs.Pins.{PinSeen}
use Rattle.plan_fitting.specs.Rows.{Driver, same_bool, same_feed, controls, input_row, two_state_row, data_row, control_row, controlled_by, output_rows, inout_rows, rows_at, rows_after, rows, output_driver, three_state, has_highz}

-- the driver of a bit that a control cell is to control
abbrev pub side_driver : Bool → PinSeen → Dir → Option Driver
side_driver highz one dir.Input = None
side_driver highz one dir.Output = output_driver highz one
side_driver highz one dir.Inout = three_state one.driver

-- what the data cell of a bit does
abbrev pub data_function : Dir → Bool → Option Driver → Function
data_function dir.Input clock d = if clock then function.Clock else function.Input
data_function dir.Output clock None = function.Output2
data_function dir.Output clock (Some d) = function.Output3
data_function dir.Inout clock d = function.Bidir

-- the core's side of the data cell
abbrev pub data_core : PinSeen → Dir → Option Driver → Option Feed
data_core one dir.Input d = None
data_core one dir.Output None = Some (Net one.net)
data_core one dir.Output (Some d) = Some d.core
data_core one dir.Inout None = None
data_core one dir.Inout (Some d) = Some d.core

-- the number is that of the driver's control cell
pub record IsControlled (rs : List FitRow) (d : Driver) (named : Option ℕ) : Type 0 where
  pub number : ℕ
  pub is : named ≡ Some number
  pub row : FitRow
  pub there : slice_get rs number ≡ Some row
  pub right : controls d row ≡ true

-- a driver has a control cell, and nothing else has one
abbrev pub Controlled : List FitRow → Option Driver → Option ℕ → Type 0
Controlled rs None named = named ≡ None
Controlled rs (Some d) named = IsControlled rs d named

-- the data cell of a line that passes
pub record IsDataRow (On : PinLine → PinSeen → Type 0) (highz : Bool) (rs : List FitRow) (row : FitRow) : Type 0 where
  pub line : PinLine
  pub one : PinSeen
  pub on : On line one
  pub pin : row.pin ≡ Some one.pin
  pub cell : row.cell ≡ line.cell
  pub does : row.function ≡ data_function one.side one.clock (side_driver highz one one.side)
  pub core : row.core ≡ data_core one one.side (side_driver highz one one.side)
  pub controlled : Controlled rs (side_driver highz one one.side) row.control

-- a control cell of this kind, whose number the row before it names
pub record IsControlRow (kind : BoundaryKind) (rs : List FitRow) (number : ℕ) (row : FitRow) : Type 0 where
  pub does : row.function ≡ function.Control
  pub pin : row.pin ≡ None
  pub cell : row.cell ≡ kind
  pub user : ℕ
  pub next : number ≡ user + 1
  pub user_row : FitRow
  pub user_there : slice_get rs user ≡ Some user_row
  pub names : user_row.control ≡ Some number

abbrev pub Fact : (PinLine → PinSeen → Type 0) → BoundaryKind → Bool → List FitRow → ℕ → FitRow → Type 0
Fact On kind highz rs number row = IsDataRow On highz rs row ⊎ IsControlRow kind rs number row

abbrev pub Each : (PinLine → PinSeen → Type 0) → BoundaryKind → Bool → List FitRow → Type 0
Each On kind highz rs = (number : ℕ) (row : FitRow) → slice_get rs number ≡ Some row → Fact On kind highz rs number row

-- Longer lists.

kept_at : (rs more : List FitRow) (number : ℕ) (row : FitRow) → slice_get rs number ≡ Some row → slice_get (rs ++ more) number ≡ Some row
kept_at rs more number row h = slice_get-append_left rs more number (slice_get_within rs number row h) ∙ h

controlled_kept : (rs more : List FitRow) (d : Option Driver) (named : Option ℕ) → Controlled rs d named → Controlled (rs ++ more) d named
controlled_kept rs more None named h = h
controlled_kept rs more (Some d) named h = record { number = h.number; is = h.is; row = h.row; there = kept_at rs more h.number h.row h.there; right = h.right }

fact_kept : (On : PinLine → PinSeen → Type 0) (kind : BoundaryKind) (highz : Bool) (rs more : List FitRow) (number : ℕ) (row : FitRow) → Fact On kind highz rs number row → Fact On kind highz (rs ++ more) number row
fact_kept On kind highz rs more number row fact = elim fact [
  | inl d ↦ inl (record { line = d.line; one = d.one; on = d.on; pin = d.pin; cell = d.cell; does = d.does; core = d.core; controlled = controlled_kept rs more (side_driver highz d.one d.one.side) row.control d.controlled })
  | inr c ↦ inr (record { does = c.does; pin = c.pin; cell = c.cell; user = c.user; next = c.next; user_row = c.user_row; user_there = kept_at rs more c.user c.user_row c.user_there; names = c.names })
]

abbrev News : (PinLine → PinSeen → Type 0) → BoundaryKind → Bool → List FitRow → List FitRow → Type 0
News On kind highz rs new = (place : ℕ) (row : FitRow) → slice_get new place ≡ Some row → Fact On kind highz (rs ++ new) (length rs + place) row

each_joined : (On : PinLine → PinSeen → Type 0) (kind : BoundaryKind) (highz : Bool) (rs new : List FitRow) → Each On kind highz rs → News On kind highz rs new → Each On kind highz (rs ++ new)
each_joined On kind highz rs new each news number row h = elim (cases_lt number (length rs)) [
  | inl low ↦ fact_kept On kind highz rs new number row (each number row (sym (slice_get-append_left rs new number low) ∙ h))
  | inr high ↦
      (let at : number ≡ length rs + (number - length rs) = omega arith in
      subst (λ (n : ℕ). Fact On kind highz (rs ++ new) n row) (sym at) (news (number - length rs) row (sym (slice_get-append_right rs new number (number - length rs) at) ∙ h)))
]

-- The rows of a line.

same_bool_self : (b : Bool) → same_bool b b ≡ true
same_bool_self true = refl
same_bool_self false = refl

same_feed_self : (f : Feed) → same_feed f f ≡ true
same_feed_self (Net n) = eqb_same n.0
same_feed_self (Const b) = same_bool_self b

own_control : (kind : BoundaryKind) (d : Driver) → controls d (control_row kind d) ≡ true
own_control kind d = and_true (same_bool d.active_high d.active_high) (same_feed d.operand d.operand) (same_bool_self d.active_high) (same_feed_self d.operand)

found_control : (d : Driver) (before : List FitRow) (number : ℕ) (any : FitRow) → position (controls d) before ≡ Some number → (row : FitRow) × (slice_get before number ≡ Some row) × (controls d row ≡ true)
found_control d before number any is =
    let at = position-Some (controls d) before number any is in
    let there = slice_get_there before number at.0 in
    (there.0, there.1, subst (λ (r : FitRow). controls d r ≡ true) (get_or_from_slice_get before number there.0 any there.1) at.1)

-- one row alone
alone : (On : PinLine → PinSeen → Type 0) (kind : BoundaryKind) (highz : Bool) (before : List FitRow) (x : FitRow) → IsDataRow On highz (before ++ x ∷ []) x → News On kind highz before (x ∷ [])
alone On kind highz before x is zero row h = let same : x ≡ row = cc in subst (λ (r : FitRow). Fact On kind highz (before ++ x ∷ []) (length before + 0) r) same (inl is)
alone On kind highz before x is (suc place) row h = absurd (cc)

-- a row and its control cell
twofold : (On : PinLine → PinSeen → Type 0) (kind : BoundaryKind) (highz : Bool) (before : List FitRow) (x y : FitRow)
    → IsDataRow On highz (before ++ x ∷ y ∷ []) x → IsControlRow kind (before ++ x ∷ y ∷ []) (length before + 1) y → News On kind highz before (x ∷ y ∷ [])
twofold On kind highz before x y is control zero row h = let same : x ≡ row = cc in subst (λ (r : FitRow). Fact On kind highz (before ++ x ∷ y ∷ []) (length before + 0) r) same (inl is)
twofold On kind highz before x y is control (suc zero) row h =
    let same : y ≡ row = cc in
    let at : length before + 1 ≡ length before + suc zero = omega arith in
    subst (λ (n : ℕ). Fact On kind highz (before ++ x ∷ y ∷ []) n row) at
    (subst (λ (r : FitRow). Fact On kind highz (before ++ x ∷ y ∷ []) (length before + 1) r) same (inr control))
twofold On kind highz before x y is control (suc (suc place)) row h = absurd (cc)

-- what a driver's rows are, for a bit on this side
pub record IsDriven (On : PinLine → PinSeen → Type 0) (highz : Bool) (does : Function) (line : PinLine) (one : PinSeen) (d : Driver) : Type 0 where
  pub on : On line one
  pub driver : side_driver highz one one.side ≡ Some d
  pub right : does ≡ data_function one.side one.clock (side_driver highz one one.side)
  pub core : data_core one one.side (side_driver highz one one.side) ≡ Some d.core

controlled_news : (On : PinLine → PinSeen → Type 0) (kind : BoundaryKind) (highz : Bool) (before : List FitRow) (does : Function) (line : PinLine) (one : PinSeen) (d : Driver) (number : Option ℕ)
    → IsDriven On highz does line one d → position (controls d) before ≡ number → News On kind highz before (controlled_by kind before does line one d number)
controlled_news On kind highz before does line one d (Some number) is found =
    let x = data_row does line one d number in
    let at = found_control d before number x found in
    alone On kind highz before x (record {
      line = line;
      one = one;
      on = is.on;
      pin = refl;
      cell = refl;
      does = is.right;
      core = sym is.core;
      controlled = subst (λ (o : Option Driver). Controlled (before ++ x ∷ []) o (Some number)) (sym is.driver)
          (record { number = number; is = refl; row = at.0; there = kept_at before (x ∷ []) number at.0 at.1; right = at.2 });
    })
controlled_news On kind highz before does line one d None is found =
    let x = data_row does line one d (length before + 1) in
    let y = control_row kind d in
    twofold On kind highz before x y
    (record {
      line = line;
      one = one;
      on = is.on;
      pin = refl;
      cell = refl;
      does = is.right;
      core = sym is.core;
      controlled = subst (λ (o : Option Driver). Controlled (before ++ x ∷ y ∷ []) o (Some (length before + 1))) (sym is.driver)
          (record { number = length before + 1; is = refl; row = y; there = slice_get-append_right before (x ∷ y ∷ []) (length before + 1) 1 refl; right = own_control kind d });
    })
    (record {
      does = refl;
      pin = refl;
      cell = refl;
      user = length before + 0;
      next = omega arith;
      user_row = x;
      user_there = slice_get-append_right before (x ∷ y ∷ []) (length before + 0) 0 refl;
      names = refl;
    })

-- where the bit is on this side
abbrev OnSide : (PinLine → PinSeen → Type 0) → PinLine → PinSeen → Dir → Type 0
OnSide On line one side = On line one × (one.side ≡ side)

undriven_fact : (On : PinLine → PinSeen → Type 0) (highz : Bool) (rs : List FitRow) (line : PinLine) (one : PinSeen) (row : FitRow) → On line one → row.pin ≡ Some one.pin → row.cell ≡ line.cell
    → side_driver highz one one.side ≡ None → row.function ≡ data_function one.side one.clock None → row.core ≡ data_core one one.side None → row.control ≡ None → IsDataRow On highz rs row
undriven_fact On highz rs line one row on pin cell none does core control = record {
  line = line;
  one = one;
  on = on;
  pin = pin;
  cell = cell;
  does = does ∙ ap (data_function one.side one.clock) (sym none);
  core = core ∙ ap (data_core one one.side) (sym none);
  controlled = subst (λ (o : Option Driver). Controlled rs o row.control) (sym none) control;
}

output_news : (On : PinLine → PinSeen → Type 0) (kind : BoundaryKind) (highz : Bool) (before : List FitRow) (line : PinLine) (one : PinSeen) (d : Option Driver) → OnSide On line one dir.Output
    → output_driver highz one ≡ d → News On kind highz before (output_rows kind before line one d)
output_news On kind highz before line one None on is =
    let none : side_driver highz one one.side ≡ None = ap (side_driver highz one) on.1 ∙ is in
    alone On kind highz before (two_state_row line one)
    (undriven_fact On highz (before ++ two_state_row line one ∷ []) line one (two_state_row line one) on.0 refl refl none (ap (λ (s : Dir). data_function s one.clock None) (sym on.1)) (ap (λ (s : Dir). data_core one s None) (sym on.1)) refl)
output_news On kind highz before line one (Some d) on is =
    let driven : side_driver highz one one.side ≡ Some d = ap (side_driver highz one) on.1 ∙ is in
    controlled_news On kind highz before function.Output3 line one d (position (controls d) before)
    (record { on = on.0; driver = driven; right = ap (λ (s : Dir). data_function s one.clock (Some d)) (sym on.1) ∙ ap (data_function one.side one.clock) (sym driven); core = ap (data_core one one.side) driven ∙ ap (λ (s : Dir). data_core one s (Some d)) on.1 }) refl

inout_news : (On : PinLine → PinSeen → Type 0) (kind : BoundaryKind) (highz : Bool) (before : List FitRow) (line : PinLine) (one : PinSeen) (d : Option Driver) → OnSide On line one dir.Inout
    → three_state one.driver ≡ d → News On kind highz before (inout_rows kind before line one d)
inout_news On kind highz before line one None on is = λ place row h. absurd (cc)
inout_news On kind highz before line one (Some d) on is =
    let driven : side_driver highz one one.side ≡ Some d = ap (side_driver highz one) on.1 ∙ is in
    controlled_news On kind highz before function.Bidir line one d (position (controls d) before)
    (record { on = on.0; driver = driven; right = ap (λ (s : Dir). data_function s one.clock (Some d)) (sym on.1) ∙ ap (data_function one.side one.clock) (sym driven); core = ap (data_core one one.side) driven ∙ ap (λ (s : Dir). data_core one s (Some d)) on.1 }) refl

line_news : (On : PinLine → PinSeen → Type 0) (kind : BoundaryKind) (highz : Bool) (before : List FitRow) (line : PinLine) (one : PinSeen) (side : Dir) → OnSide On line one side
    → News On kind highz before (rows_at kind highz before line one side)
line_news On kind highz before line one dir.Input on =
    let none : side_driver highz one one.side ≡ None = ap (side_driver highz one) on.1 in
    alone On kind highz before (input_row line one)
    (undriven_fact On highz (before ++ input_row line one ∷ []) line one (input_row line one) on.0 refl refl none (ap (λ (s : Dir). data_function s one.clock None) (sym on.1)) (ap (λ (s : Dir). data_core one s None) (sym on.1)) refl)
line_news On kind highz before line one dir.Output on = output_news On kind highz before line one (output_driver highz one) on refl
line_news On kind highz before line one dir.Inout on = inout_news On kind highz before line one (three_state one.driver) on refl

-- The whole.

after_each : (On : PinLine → PinSeen → Type 0) (kind : BoundaryKind) (highz : Bool) (before : List FitRow) (lines : List PinLine) (seen : List PinSeen)
    → ((place : ℕ) (line : PinLine) (one : PinSeen) → slice_get lines place ≡ Some line → slice_get seen place ≡ Some one → On line one)
    → Each On kind highz before → Each On kind highz (rows_after kind highz before lines seen)
after_each On kind highz before [] seen on each = each
after_each On kind highz before (line ∷ lines) [] on each = each
after_each On kind highz before (line ∷ lines) (one ∷ seen) on each =
    let new = rows_at kind highz before line one one.side in
    after_each On kind highz (before ++ new) lines seen (λ place x y h k. on (suc place) x y h k)
    (each_joined On kind highz before new each (line_news On kind highz before line one one.side (on 0 line one refl refl, refl)))

pub rows_each : (On : PinLine → PinSeen → Type 0) (p : Plan) (seen : List PinSeen)
    → ((place : ℕ) (line : PinLine) (one : PinSeen) → slice_get p.pins place ≡ Some line → slice_get seen place ≡ Some one → On line one)
    → Each On p.control (has_highz p.opcodes) (rows p seen)
rows_each On p seen on = after_each On p.control (has_highz p.opcodes) [] p.pins seen on (λ number row h. absurd (cc))
