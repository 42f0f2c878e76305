use Rattle.std.proofs.Common.{◌++◌}
use Rattle.command_edges.specs.Libraries.{name_of, names_if}
use Rattle.command_edges.specs.Names.{names_of}
use Rattle.command_line.proofs.NameLaws.{one_before, one_behind, none_both}
use Rattle.command_line.proofs.names.is_among.Goals as goal

pub returns-then-is_one_of-clause-one : goal.returns-then-is_one_of-clause-one
returns-then-is_one_of-clause-one c = λ is.
    one_before c.args.name.now (names_of c.args.reads.now ++ names_if (name_of c.args.library)) (names_of c.args.writes.now)
    (one_before c.args.name.now (names_of c.args.reads.now) (names_if (name_of c.args.library)) (c.is_one_of.ensures.one c.if-is_one_of.true))

pub returns-then-is_library-clause-one : goal.returns-then-is_library-clause-one
returns-then-is_library-clause-one c = λ is.
    one_before c.args.name.now (names_of c.args.reads.now ++ names_if (name_of c.args.library)) (names_of c.args.writes.now)
    (one_behind c.args.name.now (names_of c.args.reads.now) (names_if (name_of c.args.library)) (c.is_library.ensures.one c.if-is_library.true))

pub returns-clause-one : goal.returns-clause-one
returns-clause-one c = λ is.
    one_behind c.args.name.now (names_of c.args.reads.now ++ names_if (name_of c.args.library)) (names_of c.args.writes.now) (c.is_one_of-2.ensures.one is)

pub returns-clause-none : goal.returns-clause-none
returns-clause-none c = λ is.
    none_both c.args.name.now (names_of c.args.reads.now ++ names_if (name_of c.args.library)) (names_of c.args.writes.now)
    (none_both c.args.name.now (names_of c.args.reads.now) (names_if (name_of c.args.library)) (c.is_one_of.ensures.none c.if-is_one_of.false) (c.is_library.ensures.none c.if-is_library.false))
    (c.is_one_of-2.ensures.none is)
