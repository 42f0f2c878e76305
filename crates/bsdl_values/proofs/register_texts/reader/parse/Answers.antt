use Rattle.std.proofs.lemmas.Result.{err_from_is_err_and}
use Rattle.bsdl_values.proofs.RegisterTextsTexts.{words_fault}
use Rattle.bsdl_values.proofs.register_texts.reader.parse.Goals as goal

pub returns-in_err-parse_extended-clause-fault : goal.returns-in_err-parse_extended-clause-fault
returns-in_err-parse_extended-clause-fault c =
    let p = err_from_is_err_and c.from_residual.result c.from_residual.ensures.1 in
    rw (p.1, p.2) (words_fault _ c.args.words c.in_err-parse_extended.ensures.fault)

pub returns-clause-device : goal.returns-clause-device
returns-clause-device c = record { spells = c.in_ok-parse_extended.ensures.spelled; only = c.in_ok-parse_extended.ensures.only }
