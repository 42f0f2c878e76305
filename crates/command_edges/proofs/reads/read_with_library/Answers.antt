use Rattle.std.proofs.Common.{rules, ℕ, List, ◌∷◌, ◌++◌, Bor, Option, subst, sym, refl}
use Rattle.list_laws.proofs.Options.{err_is}
use Rattle.command_faults.specs.declared.fault.Fault.TheVariants as fault
use Rattle.command_edges.specs.Libraries.{name_of, names_if}
use Rattle.command_edges.specs.Names.{names_of}
use Rattle.command_edges.specs.Seen.{ShelfSeen, shelf_seen}
use Rattle.command_edges.specs.Texts.{AreRead, StandsInReadings}
use Rattle.command_edges.proofs.TextsRead.{stands_before, stops_last, read_last, stands_longer}
use Rattle.command_edges.proofs.reads.read_with_library.Goals as goal

pub returns-in_err-texts-clause-fault : goal.returns-in_err-texts-clause-fault
returns-in_err-texts-clause-fault g c =
    let shelf : ShelfSeen = shelf_seen g.S.Shelf.tells g.S.Shelf.held g.S.Shelf.written g.S.Shelf.faults c.args.shelf.now c.read_all.new.shelf in
    err_is c.from_residual.result c.in_err-texts.field-0.0 (StandsInReadings (names_of c.args.names.now ++ names_if (name_of c.args.library)) shelf) c.from_residual.ensures.1
    (stands_before (names_of c.args.names.now) (names_if (name_of c.args.library)) shelf c.in_err-texts.field-0.0 c.in_err-texts.ensures.fault)

pub returns-in_err-text-clause-fault : goal.returns-in_err-text-clause-fault
returns-in_err-text-clause-fault g c =
    let shelf : ShelfSeen = shelf_seen g.S.Shelf.tells g.S.Shelf.held g.S.Shelf.written g.S.Shelf.faults c.args.shelf.now c.read_text.new.shelf in
    let short : ShelfSeen = shelf_seen g.S.Shelf.tells g.S.Shelf.held g.S.Shelf.written g.S.Shelf.faults c.read_all.new.shelf c.read_text.new.shelf in
    err_is c.from_residual-in_err-text.result c.in_err-text.field-0.0 (StandsInReadings (names_of c.args.names.now ++ names_if (name_of c.args.library)) shelf) c.from_residual-in_err-text.ensures.1
    (subst (λ (library : Option (Bor (List ℕ))). StandsInReadings (names_of c.args.names.now ++ names_if (name_of library)) shelf c.in_err-text.field-0.0) (sym c.in-Some.is)
    (stops_last shelf c.in_err-text.field-0.0 (names_of c.args.names.now) c.in_ok-texts.texts c.in-Some.name.now c.in_ok-texts.ensures.read
    (stands_longer _ short shelf c.in_err-text.field-0.0 (c.in_ok-texts.ensures.held _) refl c.in_ok-texts.ensures.later c.in_err-text.ensures.fault)))

pub returns-in_err-push-clause-fault : goal.returns-in_err-push-clause-fault
returns-in_err-push-clause-fault g c =
    let shelf : ShelfSeen = shelf_seen g.S.Shelf.tells g.S.Shelf.held g.S.Shelf.written g.S.Shelf.faults c.args.shelf.now c.read_text.new.shelf in
    err_is c.from_residual-in_err-push.result fault.OutOfMemory (StandsInReadings (names_of c.args.names.now ++ names_if (name_of c.args.library)) shelf) (search rules)
    (subst (λ (library : Option (Bor (List ℕ))). StandsInReadings (names_of c.args.names.now ++ names_if (name_of library)) shelf fault.OutOfMemory) (sym c.in-Some.is)
    (stops_last shelf fault.OutOfMemory (names_of c.args.names.now) c.in_ok-texts.texts c.in-Some.name.now c.in_ok-texts.ensures.read tt))

pub returns-clause-read : goal.returns-clause-read
returns-clause-read g c =
    subst (λ (library : Option (Bor (List ℕ))). AreRead (g.S.Shelf.held c.args.shelf.now) (names_of c.args.names.now ++ names_if (name_of library)) c.push.new.self) (sym c.in-Some.is)
    (read_last (g.S.Shelf.held c.args.shelf.now) (g.S.Shelf.held c.read_all.new.shelf) (names_of c.args.names.now) c.in_ok-texts.texts c.push.new.self c.in-Some.name.now c.in_ok-text.text
    c.in_ok-texts.ensures.read c.in_ok-texts.ensures.held c.in_ok-text.ensures.ok c.in_ok-text.ensures.within (search rules))
