use Rattle.std.proofs.Common.{[], sym}
use Rattle.std.proofs.lemmas.Result.{err_from_is_err_and}
use Rattle.verilog_texts.proofs.Texts.{fed_fault, end_fault}
use Rattle.verilog_texts.proofs.module_text.cut.Goals as goal

pub returns-in_err-feed-clause-fault : goal.returns-in_err-feed-clause-fault
returns-in_err-feed-clause-fault c =
    let p = err_from_is_err_and c.from_residual.result c.from_residual.ensures.1 in
    rw (p.1, p.2) (rw (sym c.as_bytes.ensures) (fed_fault _ _ (c.in_err-feed.ensures.fault [] c.with_room-cutter.ensures)))

pub returns-in_err-finish-clause-fault : goal.returns-in_err-finish-clause-fault
returns-in_err-finish-clause-fault c =
    let p = err_from_is_err_and c.from_residual-in_err-finish.result c.from_residual-in_err-finish.ensures.1 in
    rw (p.1, p.2) (rw (sym c.as_bytes.ensures) (end_fault _ _ (c.in_err-finish.ensures.fault _ (c.in_ok-feed.ensures.fed [] c.with_room-cutter.ensures))))

pub returns-clause-words : goal.returns-clause-words
returns-clause-words c =
    let fed = c.in_ok-feed.ensures.fed [] c.with_room-cutter.ensures in
    rw (sym c.as_bytes.ensures) (record {
      cut = c.in_ok-finish.ensures.words _ fed;
      only = c.in_ok-finish.ensures.only _ fed;
      end_is = c.in_ok-finish.ensures.end _ fed;
    })
