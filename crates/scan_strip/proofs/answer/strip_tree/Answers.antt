use Rattle.scan_strip.proofs.Whole.{pair_found, core_found, none_found}
use Rattle.scan_strip.proofs.answer.strip_tree.Goals as goal

pub strip_found-requires-clause-core : goal.strip_found-requires-clause-core
strip_found-requires-clause-core c =
    core_found c.core_is_tree.ensures _ c.in-Some.found c.args.inserted.now c.args.device.now c.requires c.in_ok-found.ensures c.in-Some.is

pub strip_found-requires-clause-found : goal.strip_found-requires-clause-found
strip_found-requires-clause-found c = pair_found _ c.in-Some.found c.args.inserted.now c.args.device.now c.in_ok-found.ensures c.in-Some.is

pub returns-in-None-clause-refused : goal.returns-in-None-clause-refused
returns-in-None-clause-refused c = λ told. none_found c.refused_by_all.ensures _ c.args.library.now c.args.inserted.now c.args.device.now c.requires c.in_ok-found.ensures c.in-None.is
