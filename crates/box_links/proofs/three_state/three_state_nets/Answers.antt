use Rattle.std.proofs.Common.{◌∙◌}
use Rattle.box_links.proofs.Gates.{none_flagged}
use Rattle.box_links.proofs.three_state.three_state_nets.Goals as goal

pub flag_gates-requires : goal.flag_gates-requires
flag_gates-requires c =
    none_flagged c.args.netlist.now.lists c.net_count.result c.as_mut_slice.result.now (c.as_mut_slice.ensures.value ∙ c.in_ok-flags.ensures.items_if_clones_equal (λ y h. h)) c.net_count.ensures
