use Rattle.std.proofs.Common.{◌++◌}
use Rattle.command_edges.specs.Libraries.{name_of, names_if}
use Rattle.command_edges.specs.Names.{names_of}
use Rattle.command_line.proofs.NameLaws.{repeated_first, repeated_later, apart_later}
use Rattle.command_line.proofs.names.+same_name.Goals as goal

pub returns-then-is_among-clause-same : goal.returns-then-is_among-clause-same
returns-then-is_among-clause-same t c =
    repeated_first (names_of c.args.reads.now ++ names_if (name_of c.args.library)) c.args.writes.now _ c.in-len1-up.len_at_least (c.is_among.ensures.one c.if-is_among.true)

pub returns-clause-same : goal.returns-clause-same
returns-clause-same t c =
    repeated_later c.same_name.result (names_of c.args.reads.now ++ names_if (name_of c.args.library)) c.args.writes.now _ c.in-len1-up.len_at_least
    (c.is_among.ensures.none c.if-is_among.false) c.same_name.ensures.same

pub returns-clause-apart : goal.returns-clause-apart
returns-clause-apart t c = λ is.
    apart_later (names_of c.args.reads.now ++ names_if (name_of c.args.library)) c.args.writes.now _ c.in-len1-up.len_at_least
    (c.is_among.ensures.none c.if-is_among.false) (c.same_name.ensures.apart is)
