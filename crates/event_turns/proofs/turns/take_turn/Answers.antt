use Rattle.std.proofs.Common.{◌≡◌, ◌≤◌, ◌+◌, ◌<◌, ◌∙◌, sym, ap, length, arith, slice_range, Some, None, true}
use Rattle.list_laws.proofs.Options.{some_same}
use Rattle.netlist_model.specs.Lists.{CellView, direction}
use Rattle.signal_values.specs.declared.Sig.TheVariants.{Unknown}
use Rattle.cell_library.specs.Gates.{is_three_state}
use Rattle.netlist_model.specs.Settled.{feed_values, cell_drive}
use Rattle.netlist_model.specs.LawsRuns.{kind_next}
use Rattle.netlist_settling.specs.Values.{value_at, pin_at}
use Rattle.netlist_settling.specs.Passes.{driven_value}
use Rattle.event_laws.specs.Laws.{steps_of}
use Rattle.event_turns.proofs.Logs.{logs_then}
use Rattle.event_turns.proofs.Turned.{side_is, driving, idle}
use Rattle.event_turns.proofs.turns.take_turn.Goals as goal

pub returns-in-Some-clause-turn : goal.returns-in-Some-clause-turn
returns-in-Some-clause-turn g c = λ cell live.
    let own = rw (← c.circuit.view_is) at c.requires.gate in
    let here = rw (← c.circuit.view_is) at live in
    let same : own.cell ≡ cell = some_same own.cell cell _ own.live here in
    let kind : c.args.gate.kind ≡ cell.kind = own.is_of.kind_is ∙ ap (λ (x : CellView). x.kind) same in
    let feeds : slice_range c.deref.result.now c.args.gate.first (c.args.gate.first + c.args.gate.count) ≡ cell.feeds
    = rw c.deref.ensures.value (own.is_of.feeds_are ∙ ap (λ (x : CellView). x.feeds) same) in
    let out : cell.output ≡ Some c.in-Some.net = sym (own.is_of.output_is ∙ ap (λ (x : CellView). x.output) same) ∙ c.in-Some.is in
    let keeps : c.kept_after-kept.result
    ≡ kind_next c.circuit.inside.netlist.now.lists.library cell.kind (feed_values (value_at c.args.before.now) cell.feeds) (feed_values (value_at c.args.values.now) cell.feeds) (value_at c.args.state.now c.args.gate.cell.0)
    = rw (← kind, ← feeds, ← c.value_at-old.ensures, ← c.library-library.ensures) c.kept_after-kept.ensures in
    let below : c.in-Some.net.0 < length c.circuit.inside.sides.items = (let long = c.circuit.invariant.sides.long in
    let there = c.circuit.invariant.laid.outputs c.args.gate.cell.0 cell c.in-Some.net.0 (record { live = here; output = out }) in omega arith) in
    let side : c.index-side.result.now ≡ direction c.circuit.inside.netlist.now.lists.ports c.in-Some.net.0
    = side_is c.circuit.inside.sides.items c.in-Some.net.0 c.index-side.result.now c.index-side.ensures below ∙ c.circuit.invariant.sides.each c.in-Some.net.0 in
    let gives : c.driven-given.result.value
    ≡ driven_value c.circuit.inside.netlist.now.lists.library (direction c.circuit.inside.netlist.now.lists.ports c.in-Some.net.0) cell.kind (feed_values (value_at c.args.values.now) cell.feeds) c.kept_after-kept.result
    (pin_at c.args.pins.now c.in-Some.net.0)
    = rw (← kind, ← feeds, ← side, ← c.pin_at-outside.ensures, ← c.library-library.ensures) c.driven-given.ensures.value in
    let few : c.driven-given.new.steps ≤ c.args.steps.now + steps_of c.circuit.inside.netlist.now.lists.library cell.kind = rw (← kind, ← c.library-library.ensures) (let s = c.driven-given.ensures.step in omega arith) in
    let taken = rw (← c.circuit.view_is) at c.give.ensures.taken in
    let room : c.in-Some.net.0 < length c.args.drives.now = (let d = c.requires.fits.for_drives in let n = rw (← c.circuit.view_is) at d in let long = c.circuit.invariant.sides.long in omega arith) in
    let shown : is_three_state cell.kind ≡ true → c.driven-given.result.drive ≡ Some (cell_drive cell.kind (feed_values (value_at c.args.values.now) cell.feeds) Unknown)
    = rw (← kind, ← feeds) c.driven-given.ensures.drive in
    rw (← c.circuit.view_is, c.keep_drive.ensures.drives) (driving _ c.args.pins.now c.args.drives.now c.driven-given.result.drive c.args.before.now _ _ c.args.state.now _ _ _ _ c.args.gate.cell.0 cell c.in-Some.net c.kept_after-kept.result c.driven-given.result.value
    out (c.requires.fits.for_state c.args.gate.cell.0 cell live) keeps gives taken few room shown)

pub returns-in_default-clause-turn : goal.returns-in_default-clause-turn
returns-in_default-clause-turn g c = λ cell live.
    let own = rw (← c.circuit.view_is) at c.requires.gate in
    let here = rw (← c.circuit.view_is) at live in
    let same : own.cell ≡ cell = some_same own.cell cell _ own.live here in
    let kind : c.args.gate.kind ≡ cell.kind = own.is_of.kind_is ∙ ap (λ (x : CellView). x.kind) same in
    let feeds : slice_range c.deref.result.now c.args.gate.first (c.args.gate.first + c.args.gate.count) ≡ cell.feeds
    = rw c.deref.ensures.value (own.is_of.feeds_are ∙ ap (λ (x : CellView). x.feeds) same) in
    let out : cell.output ≡ None = sym (own.is_of.output_is ∙ ap (λ (x : CellView). x.output) same) ∙ c.in_default.is in
    let keeps : c.kept_after-kept.result
    ≡ kind_next c.circuit.inside.netlist.now.lists.library cell.kind (feed_values (value_at c.args.before.now) cell.feeds) (feed_values (value_at c.args.values.now) cell.feeds) (value_at c.args.state.now c.args.gate.cell.0)
    = rw (← kind, ← feeds, ← c.value_at-old.ensures, ← c.library-library.ensures) c.kept_after-kept.ensures in
    rw (← c.circuit.view_is) (idle _ c.args.pins.now c.args.drives.now c.args.before.now _ c.args.state.now _ _ c.args.gate.cell.0 cell c.kept_after-kept.result out (c.requires.fits.for_state c.args.gate.cell.0 cell live) keeps)

pub returns-in-Some-clause-logs : goal.returns-in-Some-clause-logs
returns-in-Some-clause-logs g c =
    let n = c.requires.fits.for_drives in
    let kept = rw n at c.keep_drive.ensures.logs c.args.values.now in
    logs_then _ _ _ _ _ _ _ _ _ _ kept (c.give.ensures.logs c.keep_drive.new.drives)

pub give-requires-clause-log : goal.give-requires-clause-log
give-requires-clause-log g c =
    let long = (c.keep_drive.ensures.logs c.args.values.now).long in
    let room = c.requires.log in
    omega arith
