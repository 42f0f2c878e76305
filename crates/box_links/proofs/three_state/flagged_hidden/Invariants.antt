use Rattle.std.proofs.Common.{◌≡◌, drop}
use Rattle.list_laws.specs.Options.{first_in}
use Rattle.netlist_link.specs.Linked.{hidden_ports}
use Rattle.box_links.specs.ThreeState.{first_hidden, flag_at, output_bit}
use Rattle.box_links.proofs.three_state.flagged_hidden.Given as goal

abbrev pub invariant-loop-place : goal.invariant-loop-place
invariant-loop-place l = first_in (output_bit l.linked.names (flag_at l.flags)) (drop l.place (hidden_ports l.linked)) ≡ first_hidden l.linked (flag_at l.flags)
