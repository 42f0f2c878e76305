use Rattle.std.proofs.Common.{◌≡◌, take}
use Rattle.scan_stitch.proofs.device.copy_texts.Given as goal

abbrev pub invariant-loop-text : goal.invariant-loop-text
invariant-loop-text l = l.copies ≡ take l.text-index l.texts
