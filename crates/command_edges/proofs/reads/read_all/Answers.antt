use Rattle.std.proofs.Common.{rules, refl, ◌∙◌}
use Rattle.list_laws.proofs.Options.{err_is}
use Rattle.command_edges.specs.Seen.{ShelfSeen, shelf_seen}
use Rattle.command_edges.specs.Names.{names_of}
use Rattle.command_edges.specs.Texts.{StandsInReadings}
use Rattle.command_edges.proofs.TextsRead.{name_at, read_next, stops_behind, stands_longer}
use Rattle.command_edges.proofs.reads.read_all.Goals as goal

pub returns-in_err-text-clause-fault : goal.returns-in_err-text-clause-fault
returns-in_err-text-clause-fault g c =
    let shelf : ShelfSeen = shelf_seen g.S.Shelf.tells g.S.Shelf.held g.S.Shelf.written g.S.Shelf.faults c.args.shelf.now c.read_text.new.shelf in
    let short : ShelfSeen = shelf_seen g.S.Shelf.tells g.S.Shelf.held g.S.Shelf.written g.S.Shelf.faults c.loop-name.shelf c.read_text.new.shelf in
    err_is c.from_residual.result c.in_err-text.field-0.0 (StandsInReadings (names_of c.args.names.now) shelf) c.from_residual.ensures.1
    (stops_behind shelf c.in_err-text.field-0.0 (names_of c.args.names.now) c.loop-name.texts c.loop-name.name-index _ c.loop-name.invariant.read
    (name_at c.args.names.now c.loop-name.name-index _ (search rules))
    (stands_longer _ short shelf c.in_err-text.field-0.0 (c.loop-name.invariant.held _) refl c.loop-name.invariant.later c.in_err-text.ensures.fault))

pub loop-name-preserved : goal.loop-name-preserved
loop-name-preserved g c = record {
  read = read_next (g.S.Shelf.held c.args.shelf.now) (g.S.Shelf.held c.loop-name.shelf) (names_of c.args.names.now) c.loop-name.texts c.push.new.self c.loop-name.name-index _ c.in_ok-text.text
      c.loop-name.invariant.read (name_at c.args.names.now c.loop-name.name-index _ (search rules)) c.loop-name.invariant.held c.in_ok-text.ensures.ok c.in_ok-text.ensures.within (search rules);
  held = λ q. c.read_text.ensures.held q ∙ c.loop-name.invariant.held q;
  written = λ q. c.read_text.ensures.written q ∙ c.loop-name.invariant.written q;
  later = search rules;
}
