use Rattle.text_command.proofs.ConvertFound.{device_found}
use Rattle.text_command.proofs.convert.canonical_texts.canonical_device.Goals as goal

pub returns-clause-found : goal.returns-clause-found
returns-clause-found c =
    device_found c.args.text c.in_ok-print_device.field-0 c.in_ok-device.device c.in_ok-device.ensures.read c.in_ok-print_device.ensures.text
