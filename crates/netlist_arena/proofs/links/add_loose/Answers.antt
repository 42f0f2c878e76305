use Rattle.std.proofs.Common.{length}
use Rattle.linked_cells.specs.Cells.{cells_of, first_at}
use Rattle.netlist_arena.proofs.CellPlaces.{put_at, put_threaded, put_blank, put_given}
use Rattle.netlist_arena.proofs.links.add_loose.Goals as goal

pub give_all-requires-clause-threaded : goal.give_all-requires-clause-threaded
give_all-requires-clause-threaded c =
    put_threaded c.args.cells.now.items c.put.new.self.items (first_at c.args.nets.now.items) c.put.result (length c.args.feeds.now) c.args.cell c.requires.blank (put_at _ _ _ _ _ c.put.ensures.puts) c.requires.threaded

pub give_all-requires-clause-blank : goal.give_all-requires-clause-blank
give_all-requires-clause-blank c = λ place below.
    put_blank c.args.cells.now.items c.put.new.self.items c.put.result (length c.args.feeds.now) place c.args.cell c.requires.blank (put_at _ _ _ _ _ c.put.ensures.puts) below

pub returns-clause-puts : goal.returns-clause-puts
returns-clause-puts c =
    put_given c.args.cells.now.items c.put.new.self.items c.put.result (length c.args.feeds.now) c.args.cell c.args.feeds.now (cells_of c.give_all.new.cells.items) c.requires.blank c.put.ensures.puts c.give_all.ensures.cells
