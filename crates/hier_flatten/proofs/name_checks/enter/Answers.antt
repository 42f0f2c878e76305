use Rattle.hier_model.specs.Walks.{texts}
use Rattle.hier_model.specs.Names.{flat_name}
use Rattle.hier_flatten.proofs.EnterLaws.{enter_bad, enter_good}
use Rattle.hier_flatten.proofs.name_checks.enter.Goals as goal

pub returns-then-is_taken : goal.returns-then-is_taken
returns-then-is_taken c =
    λ declared. enter_bad declared c.args.seen.now _ c.in_ok-flat.flat (flat_name (texts c.args.at.now) c.args.name.now) c.as_bytes.result.now c.is_taken.result c.in_ok-flat.ensures c.as_bytes.ensures c.is_taken.ensures c.if-is_taken.true

pub returns : goal.returns
returns c =
    λ declared. enter_good declared c.args.seen.now _ c.in_ok-flat.flat (flat_name (texts c.args.at.now) c.args.name.now) c.as_bytes.result.now c.as_bytes-2.result.now c.is_taken.result c.in_ok-flat.ensures c.as_bytes.ensures c.is_taken.ensures c.if-is_taken.false c.as_bytes-2.ensures c.in_ok-enter.ensures.names
