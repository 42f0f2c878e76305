use Rattle.std.proofs.Common.{◌∙◌, sym}
use Rattle.linked_cells.proofs.Moves.{moving_there, moving_step, moving_less}
use Rattle.linked_cells.specs.Cells.{slot_at, slot_count}
use Rattle.linked_cells.proofs.links.turn_all.Goals as goal

pub slot_of-found-requires : goal.slot_of-found-requires
slot_of-found-requires c =
    let is = sym c.reader.ensures ∙ c.in-Some.is in
    let here = rw is at c.loop-reader.invariant.walk in
    moving_there (slot_at c.args.cells.now.items) (slot_at c.loop-reader.cells.items) c.args.from.0 c.args.to.0 c.args.start c.loop-reader.last (slot_count c.args.cells.now.items) c.in-Some.reader here

pub loop-reader-smaller : goal.loop-reader-smaller
loop-reader-smaller c =
    let is = sym c.reader.ensures ∙ c.in-Some.is in
    let here = rw is at c.loop-reader.invariant.walk in
    rw is (moving_less (slot_at c.args.cells.now.items) (slot_at c.loop-reader.cells.items) (slot_at c.write_slot.new.cells.items) c.args.from.0 c.args.to.0 c.args.start c.loop-reader.last
    (slot_count c.args.cells.now.items) c.in-Some.reader c.slot_of-found.result c.requires.differ here c.slot_of-found.ensures c.write_slot.ensures.writes)

pub loop-reader-preserved : goal.loop-reader-preserved
loop-reader-preserved c =
    let is = sym c.reader.ensures ∙ c.in-Some.is in
    let here = rw is at c.loop-reader.invariant.walk in
    record {
      walk = rw is (moving_step (slot_at c.args.cells.now.items) (slot_at c.loop-reader.cells.items) (slot_at c.write_slot.new.cells.items) c.args.from.0 c.args.to.0 c.args.start c.loop-reader.last
          (slot_count c.args.cells.now.items) c.in-Some.reader c.slot_of-found.result c.requires.differ here c.slot_of-found.ensures c.write_slot.ensures.writes);
      shapes = c.write_slot.ensures.shapes ∙ c.loop-reader.invariant.shapes;
      spare = c.write_slot.ensures.spare ∙ c.loop-reader.invariant.spare;
    }
