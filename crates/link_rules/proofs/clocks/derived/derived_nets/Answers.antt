use Rattle.std.proofs.Common.{◌≡◌, ◌∙◌, sym, ap, length}
use Rattle.std.proofs.lemmas.List.{length-map}
use Rattle.list_laws.proofs.Lists.{front_of}
use Rattle.link_model.specs.Faults.{cells_in}
use Rattle.link_rules.specs.Cones.{is_inout_net}
use Rattle.link_rules.proofs.ClocksCells.{kept}
use Rattle.link_rules.proofs.DerivedNets.{derived_by}
use Rattle.link_rules.proofs.clocks.derived.derived_nets.Goals as goal

pub mark_derived-requires-clause-long : goal.mark_derived-requires-clause-long
mark_derived-requires-clause-long c = ap length (c.as_mut_slice.ensures.value ∙ c.in_ok-marks.ensures) ∙ length-map c.args.nets.now is_inout_net ∙ c.requires.count

pub returns-clause-length : goal.returns-clause-length
returns-clause-length c =
    let whole : c.in_ok-marks.marks.len ≡ length c.mark_derived.new.marks = sym c.as_mut_slice.ensures.len ∙ sym c.mark_derived.ensures.long in
    let long : length c.mark_derived.new.marks ≡ length c.args.nets.now = c.mark_derived.ensures.long ∙ ap length (c.as_mut_slice.ensures.value ∙ c.in_ok-marks.ensures) ∙ length-map c.args.nets.now is_inout_net in
    rw (front_of c.mark_derived.new.marks _ c.in_ok-marks.marks.len whole) long

pub returns-clause-derived : goal.returns-clause-derived
returns-clause-derived c =
    let N = c.args.netlist.now.lists in
    let whole : c.in_ok-marks.marks.len ≡ length c.mark_derived.new.marks = sym c.as_mut_slice.ensures.len ∙ sym c.mark_derived.ensures.long in
    rw (front_of c.mark_derived.new.marks _ c.in_ok-marks.marks.len whole)
    (derived_by c.requires.live.0 N c.args.nets.now (cells_in N.library c.args.tree.now) c.as_mut_slice.result.now c.mark_derived.new.marks c.requires.live.1 (kept N c.args.tree.now) (c.as_mut_slice.ensures.value ∙ c.in_ok-marks.ensures) c.mark_derived.ensures.derived)
