use Rattle.std.proofs.Common.{◌≡◌, ℕ, List, sym, subst, rules}
use Rattle.bsdl_device.specs.Canonical.{canonical_device}
use Rattle.bsdl_device.specs.Spelled.{SpellsText}
use Rattle.bsdl_printing.proofs.print.print_device.Goals as goal

pub returns-clause-spells : goal.returns-clause-spells
returns-clause-spells c =
    let same : c.put_device.new.text ≡ canonical_device c.args.device.now = search rules in
    λ is. subst (λ (text : List ℕ). SpellsText text c.args.device.now) (sym same) (c.canonical_texts_spell_their_devices.ensures c.args.device.now is)

pub returns-clause-spelled : goal.returns-clause-spelled
returns-clause-spelled c = λ bytes spells. c.spelled_devices_keep_the_conditions.ensures bytes c.args.device.now spells

pub returns-in_err-put_device-clause-spelled : goal.returns-in_err-put_device-clause-spelled
returns-in_err-put_device-clause-spelled c = λ bytes spells. c.spelled_devices_keep_the_conditions.ensures bytes c.args.device.now spells
