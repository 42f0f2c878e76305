use Rattle.std.proofs.Common.{[]}
use Rattle.std.proofs.lemmas.Result.{IfOk-weaker, IfErr-weaker, err_from_is_err_and}
use Rattle.bsdl_words.proofs.Feeds.{fault_whole}
use Rattle.bsdl_words.proofs.whole.cut.Goals as goal

pub returns-in_err-feed-clause-fault : goal.returns-in_err-feed-clause-fault
returns-in_err-feed-clause-fault c =
    let p = err_from_is_err_and c.from_residual.result c.from_residual.ensures.1 in
    rw (p.1, p.2) (fault_whole c.in_err-feed.field-0.0 c.args.text.now (c.in_err-feed.ensures.fault [] c.new-cutter.ensures))

pub returns-clause-words : goal.returns-clause-words
returns-clause-words c = IfOk-weaker c.finish.result _ _ (λ w cut. cut c.args.text.now (c.in_ok-feed.ensures.fed [] c.new-cutter.ensures)) c.finish.ensures.words

pub returns-clause-only : goal.returns-clause-only
returns-clause-only c = IfOk-weaker c.finish.result _ _ (λ w only. only c.args.text.now (c.in_ok-feed.ensures.fed [] c.new-cutter.ensures)) c.finish.ensures.only

pub returns-clause-end : goal.returns-clause-end
returns-clause-end c = IfOk-weaker c.finish.result _ _ (λ w end. end c.args.text.now (c.in_ok-feed.ensures.fed [] c.new-cutter.ensures)) c.finish.ensures.end

pub returns-clause-fault : goal.returns-clause-fault
returns-clause-fault c = IfErr-weaker c.finish.result _ _ (λ e fault. fault c.args.text.now (c.in_ok-feed.ensures.fed [] c.new-cutter.ensures)) c.finish.ensures.fault
