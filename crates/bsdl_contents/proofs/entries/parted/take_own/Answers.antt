use Rattle.std.proofs.Common.{sym, ap, ◌∙◌}
use Rattle.bsdl_device.specs.Shape.{joined}
use Rattle.bsdl_contents.proofs.EntriesTold.{told_none, told_some}
use Rattle.bsdl_contents.proofs.entries.parted.take_own.Goals as goal

pub returns-in-None : goal.returns-in-None
returns-in-None c =
    told_none c.args.file.now c.as_bytes-whole.result.now c.new.result (c.as_bytes-whole.ensures ∙ c.in_ok-bytes.ensures ∙ ap joined c.as_slice.ensures) (sym c.in-None.is ∙ c.in_ok-own.ensures.own) c.new.ensures

pub returns : goal.returns
returns c =
    told_some c.args.file.now c.keep_front.new.file c.as_bytes-whole.result.now c.in-Some.own (c.as_bytes-whole.ensures ∙ c.in_ok-bytes.ensures ∙ ap joined c.as_slice.ensures) (sym c.in-Some.is ∙ c.in_ok-own.ensures.own) c.in_ok-keep_front-in-Some.ensures
