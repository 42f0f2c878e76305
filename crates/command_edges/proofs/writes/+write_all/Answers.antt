use Rattle.std.proofs.Common.{rules, refl}
use Rattle.list_laws.proofs.Options.{err_is}
use Rattle.command_edges.specs.Seen.{ShelfSeen, shelf_seen}
use Rattle.command_edges.specs.Names.{names_of}
use Rattle.command_edges.specs.Texts.{StandsInWritings}
use Rattle.command_edges.proofs.Results.{err_weaker}
use Rattle.command_edges.proofs.TextsWritten.{first_stops, rest_stops, rest_written}
use Rattle.command_edges.proofs.writes.+write_all.Goals as goal

pub returns-in_err-write_text-clause-fault : goal.returns-in_err-write_text-clause-fault
returns-in_err-write_text-clause-fault g t c =
    let shelf : ShelfSeen = shelf_seen g.S.Shelf.tells g.S.Shelf.held g.S.Shelf.written g.S.Shelf.faults c.args.shelf.now c.write_text.new.shelf in
    err_is c.from_residual.result c.in_err-write_text.field-0.0 (StandsInWritings (names_of c.args.names.now) c.args.texts.now shelf) c.from_residual.ensures.1
    (first_stops c.args.names.now c.args.texts.now shelf c.in_err-write_text.field-0.0 _ c.text-item.result c.in-len1-up.len_at_least (search rules) c.requires.apart c.in_err-write_text.ensures.fault c.in_err-write_text.ensures.cut_short)

pub returns-clause-fault : goal.returns-clause-fault
returns-clause-fault g t c =
    let short : ShelfSeen = shelf_seen g.S.Shelf.tells g.S.Shelf.held g.S.Shelf.written g.S.Shelf.faults c.write_text.new.shelf c.write_all.new.shelf in
    let long : ShelfSeen = shelf_seen g.S.Shelf.tells g.S.Shelf.held g.S.Shelf.written g.S.Shelf.faults c.args.shelf.now c.write_all.new.shelf in
    err_weaker c.write_all.result _ (StandsInWritings (names_of c.args.names.now) c.args.texts.now long)
    (λ f s. rest_stops c.args.names.now c.args.texts.now short long f _ c.text-item.result c.in-len1-up.len_at_least (search rules) c.requires.apart refl refl refl c.write_text.ensures.later c.in_ok-write_text.ensures.ok c.write_all.ensures.others s)
    c.write_all.ensures.fault

pub returns-clause-written : goal.returns-clause-written
returns-clause-written g t c =
    let short : ShelfSeen = shelf_seen g.S.Shelf.tells g.S.Shelf.held g.S.Shelf.written g.S.Shelf.faults c.write_text.new.shelf c.write_all.new.shelf in
    let long : ShelfSeen = shelf_seen g.S.Shelf.tells g.S.Shelf.held g.S.Shelf.written g.S.Shelf.faults c.args.shelf.now c.write_all.new.shelf in
    rest_written c.write_all.result c.args.names.now c.args.texts.now short long _ c.text-item.result c.in-len1-up.len_at_least (search rules) c.requires.apart refl refl c.in_ok-write_text.ensures.ok c.write_all.ensures.others c.write_all.ensures.written
