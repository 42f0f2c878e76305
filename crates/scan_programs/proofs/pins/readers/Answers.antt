use Rattle.std.proofs.Common.{◌++◌, [], ap, ◌∙◌}
use Rattle.bsdl_device.specs.declared.values.DevPort.{DevPort}
use Rattle.scan_programs.specs.Pins.{readers_of}
use Rattle.scan_programs.proofs.Lists.{pieces_step}
use Rattle.scan_programs.proofs.pins.readers.Goals as goal

pub loop-place-preserved : goal.loop-place-preserved
loop-place-preserved c =
    pieces_step (readers_of c.args.device.now) c.args.device.now.ports c.as_slice-ports.result.now c.loop-place.place c.index-ports-place.result [] c.loop-place.list.items _ c.as_slice-ports.ensures
    c.loop-place-test.true c.loop-place.invariant
    (c.in_ok-push_readers.ensures ∙ ap (λ (p : DevPort). c.loop-place.list.items ++ readers_of c.args.device.now (c.loop-place.place, p)) c.index-ports-place.is)
