use Rattle.stitched_netlist.proofs.Ordered.{ordered as lemma}
use Rattle.stitched_netlist.proofs.ranks.stitched_is_ordered.Goals as goal

pub returns : goal.returns
returns c = lemma
    (record {
      parts = record {
        tap = c.tap_stands_above.ensures;
        stages = c.stages_stand_above.ensures;
        matches = c.matches_stand_above.ensures;
        selections = c.selections_stand_above.ensures;
        copies = c.copies_stand_above.ensures;
        bypass = c.bypass_stands_above.ensures;
        ident = c.ident_stands_above.ensures;
        joined = c.parts_stand_above.ensures;
      };
      rows = c.rows_stand_above.ensures;
      tdo = c.tdo_stands_above.ensures;
      by_place = c.stands_by_place.ensures;
    })
    c.direction_of_a_bit.ensures c.driver_is_found.ensures c.found_driver_drives.ensures c.control_cells_are_there.ensures
