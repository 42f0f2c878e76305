use Rattle.std.proofs.Common.{take, sym, ◌∙◌}
use Rattle.hier_model.specs.Walks.{texts}
use Rattle.hier_flatten.proofs.ReferLaws.{refer_known, refer_bad, refer_good}
use Rattle.hier_flatten.proofs.name_checks.refer.Goals as goal

pub returns-then-is_some : goal.returns-then-is_some
returns-then-is_some c =
    let around = c.args.around.now in
    refer_known (take around.declared c.args.seen.now) c.args.seen.now (texts around.at.now) around.nets.now c.args.bit.now c.as_bytes.result.now c.range.result c.range.ensures c.as_bytes.ensures (sym c.is_some.ensures ∙ c.if-is_some.true)

pub returns-then-is_barred : goal.returns-then-is_barred
returns-then-is_barred c =
    let around = c.args.around.now in
    refer_bad (take around.declared c.args.seen.now) c.args.seen.now (texts around.at.now) around.nets.now c.args.bit.now c.as_bytes.result.now c.as_bytes-2.result.now c.in_ok-flat.flat c.as_bytes-3.result.now c.range.result c.is_barred.result
    c.range.ensures c.as_bytes.ensures (sym c.is_some.ensures ∙ c.if-is_some.false) c.as_bytes-2.ensures c.in_ok-flat.ensures c.as_bytes-3.ensures c.is_barred.ensures c.if-is_barred.true

pub returns : goal.returns
returns c =
    let around = c.args.around.now in
    refer_good (take around.declared c.args.seen.now) c.args.seen.now (texts around.at.now) around.nets.now c.args.bit.now c.as_bytes.result.now c.as_bytes-2.result.now c.in_ok-flat.flat c.as_bytes-3.result.now c.range.result c.is_barred.result
    c.range.ensures c.as_bytes.ensures (sym c.is_some.ensures ∙ c.if-is_some.false) c.as_bytes-2.ensures c.in_ok-flat.ensures c.as_bytes-3.ensures c.is_barred.ensures c.if-is_barred.false
