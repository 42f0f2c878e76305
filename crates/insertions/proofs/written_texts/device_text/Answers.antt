use Rattle.insertions.proofs.Made.{device_told}
use Rattle.insertions.proofs.written_texts.device_text.Goals as goal

pub returns : goal.returns
returns c = device_told c.devices_are_read_back.ensures c.print_device.result c.args.device.now c.requires c.print_device.ensures.text
