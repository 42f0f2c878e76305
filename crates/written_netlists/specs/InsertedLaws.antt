-- A linked netlist with its test logic.
-- IEEE Std 1149.1-2001: test logic architecture; that the module's name stays is own.
use Rattle.netlist_link.specs.Linked.{LinkedView}
use Rattle.core_sides.specs.plan_fitting.declared.fitted.Fitted.{Fitted}
use Rattle.core_sides.specs.stitched_netlist.declared.model.TapNames.{TapNames}
use Rattle.core_sides.specs.stitched_netlist.Stitched.{stitched}
use Rattle.written_netlists.specs.Prepared.{with_tap_names}

-- own: a linked netlist with the test logic of what was fitted built in, by these names of the test access port; the
-- module's name stays
abbrev pub with_test_logic : LinkedView → TapNames → Fitted → LinkedView
with_test_logic L names f = record L { arena = record L.arena { lists = stitched L.arena.lists names f }; names = with_tap_names f L.names }
