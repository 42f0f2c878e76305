use Rattle.std.proofs.Common.{◌≡◌, ◌<◌, ℕ, List, get_or, Some, None, length, arith, refl, sym, subst, ap, ◌∙◌}
use Rattle.std.specs.Prelude.{slice_get, IsSome}
use Rattle.std.proofs.lemmas.Option.{slice_get_read}
use Rattle.netlist_model.specs.Lists.{cell_at}
use Rattle.verilog_tree.specs.declared.tree.Item.{Item}
use Rattle.link_model.specs.Lists.{first_in}
use Rattle.link_model.specs.Nets.{declared_names}
use Rattle.link_rules.specs.Links.{found_item}
use Rattle.link_rules.proofs.FirstDerived.{no_derived_in, first_derived_in, live_item, found_item-at, first_in-passed, first_in-found, first_in-ended}
use Rattle.link_rules.proofs.clocks.derived.first_derived.Goals as goal
use Rattle.link_rules.proofs.clocks.derived.first_derived.Goals.{in-Instance+in-None, in-Gate, in-Assign}

-- what is read at a place of a list, seen in the list that it is
read_at : {X : Type 0} (seen xs : List X) (i : ℕ) (x : X) → seen ≡ xs → i < length seen → x ≡ get_or seen i x → slice_get xs i ≡ Some x
read_at seen xs i x same low is = sym (ap (λ ys. slice_get ys i) same) ∙ slice_get_read seen (length seen) i x refl low is

pub numbered_cell-cell-requires : goal.numbered_cell-cell-requires
numbered_cell-cell-requires c =
    let here : slice_get c.args.tree.now.items c.loop-number.number ≡ Some c.item-item.result = read_at c.as_slice-item-items.result.now c.args.tree.now.items c.loop-number.number c.item-item.result c.as_slice-item-items.ensures c.loop-number-test.true c.item-item.is in
    let l = live_item c.requires.live.0 c.args.netlist.now.lists c.args.tree.now c.loop-number.number c.item-item.result c.requires.live.1 here in
    subst IsSome (sym l.live) refl

pub first_found-requires-clause-live : goal.first_found-requires-clause-live
first_found-requires-clause-live c =
    let here : slice_get c.args.tree.now.items c.loop-number.number ≡ Some c.item-item.result = read_at c.as_slice-item-items.result.now c.args.tree.now.items c.loop-number.number c.item-item.result c.as_slice-item-items.ensures c.loop-number-test.true c.item-item.is in
    let l = live_item c.requires.live.0 c.args.netlist.now.lists c.args.tree.now c.loop-number.number c.item-item.result c.requires.live.1 here in
    subst IsSome (sym (ap (cell_at c.args.netlist.now.lists) c.numbered_cell-cell.ensures ∙ l.live)) refl

pub loop-number-preserved : goal.loop-number-preserved
loop-number-preserved c =
    let N = c.args.netlist.now.lists in
    let m = c.args.tree.now in
    let test = found_item N.library c.args.marks.now (declared_names m) in
    let here : slice_get m.items c.loop-number.number ≡ Some c.item-item.result = read_at c.as_slice-item-items.result.now m.items c.loop-number.number c.item-item.result c.as_slice-item-items.ensures c.loop-number-test.true c.item-item.is in
    elim c.match-item.branch [
      | in-Instance+in-None w ↦
          first_in-passed test m.items c.loop-number.number c.item-item.result (first_in test m.items) here
          (found_item-at c.requires.live.0 N m c.args.marks.now c.loop-number.number c.item-item.result w.in-Instance.instance w.as_slice.result.now None
          c.requires.live.1 here w.in-Instance.is w.as_slice.ensures (λ cell live. w.in-None.ensures.found cell (ap (cell_at N) w.numbered_cell-cell.ensures ∙ live))) c.loop-number.invariant
      | in-Gate w ↦ first_in-passed test m.items c.loop-number.number c.item-item.result (first_in test m.items) here (ap test w.in-Gate.is) c.loop-number.invariant
      | in-Assign w ↦ first_in-passed test m.items c.loop-number.number c.item-item.result (first_in test m.items) here (ap test w.in-Assign.is) c.loop-number.invariant
    ]

pub returns-in-Some : goal.returns-in-Some
returns-in-Some c =
    let N = c.args.netlist.now.lists in
    let m = c.args.tree.now in
    let test = found_item N.library c.args.marks.now (declared_names m) in
    let here : slice_get m.items c.loop-number.number ≡ Some c.item-item.result = read_at c.as_slice-item-items.result.now m.items c.loop-number.number c.item-item.result c.as_slice-item-items.ensures c.loop-number-test.true c.item-item.is in
    let below = c.in-Some.ensures.below in
    let count = c.requires.count in
    let net_low : c.in-Some.net < length c.args.nets.now = omega (arith, below, count) in
    let named : slice_get c.args.nets.now c.in-Some.net ≡ Some c.index-nets-net.result = slice_get_read c.args.nets.now (length c.args.nets.now) c.in-Some.net c.index-nets-net.result refl net_low c.index-nets-net.is in
    let first : first_in test m.items ≡ Some (c.in-Instance.instance.name, c.in-Some.net) =
    first_in-found test m.items c.loop-number.number c.item-item.result (c.in-Instance.instance.name, c.in-Some.net) (first_in test m.items) here
    (found_item-at c.requires.live.0 N m c.args.marks.now c.loop-number.number c.item-item.result c.in-Instance.instance c.as_slice.result.now (Some c.in-Some.net)
    c.requires.live.1 here c.in-Instance.is c.as_slice.ensures (λ cell live. c.in-Some.ensures.found cell (ap (cell_at N) c.numbered_cell-cell.ensures ∙ live))) c.loop-number.invariant in
    first_derived_in N.library m c.args.nets.now c.args.marks.now c.requires.text c.requires.nets c.requires.derived c.in-Instance.instance.name c.in-Some.net c.index-nets-net.result c.in_ok-fault-in-Some.fault
    first named c.in_ok-fault-in-Some.ensures

pub returns : goal.returns
returns c =
    let N = c.args.netlist.now.lists in
    let m = c.args.tree.now in
    let test = found_item N.library c.args.marks.now (declared_names m) in
    let past = c.loop-number-test.false in
    let also : length c.as_slice-item-items.result.now ≡ length m.items = ap (λ (xs : List Item). length xs) c.as_slice-item-items.ensures in
    no_derived_in N.library m c.args.nets.now c.args.marks.now c.requires.text c.requires.nets c.requires.derived
    (first_in-ended test m.items c.loop-number.number (first_in test m.items) (omega (arith, past, also)) c.loop-number.invariant)
