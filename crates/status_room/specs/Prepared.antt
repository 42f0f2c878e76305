-- What preparing for registers comes to.
-- IEEE Std 1149.1-2001: test access port; how much room is taken is own.
use Rattle.std.specs.Prelude.{ℕ, ◌+◌, List}
use Rattle.netlist_link.specs.Drafts.{reserved}
use Rattle.netlist_link.specs.Linked.{LinkedView}
use Rattle.plan_fitting.specs.declared.fitted.Fitted.{Fitted}
use Rattle.scan_stitch.specs.written_netlists.Prepared.{room_of, ports_of, with_tap_names}
use Rattle.status_fitting.specs.declared.fitted.FittedRegister.{FittedRegister}
use Rattle.status_room.specs.Ready.{status_room}

-- own: with so many cells and nets more
abbrev pub prepared_with : Fitted → ℕ → LinkedView → LinkedView
prepared_with f more L = record (reserved (room_of f + more) (room_of f + more) (ports_of f) L) { names = with_tap_names f L.names }

abbrev pub prepared_status : Fitted → List FittedRegister → LinkedView → LinkedView
prepared_status f rs L = prepared_with f (status_room rs) L
