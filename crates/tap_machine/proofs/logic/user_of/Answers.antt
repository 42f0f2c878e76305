use Rattle.std.proofs.Common.{◌≡◌, ℕ, length, Option, List, ap, sym, ◌∙◌}
use Rattle.signal_values.specs.declared.Sig.{Sig}
use Rattle.test_logic.specs.Machine.{code_bits}
use Rattle.tap_machine.proofs.Bits.{bits_of_long, if_ok}
use Rattle.tap_machine.proofs.logic.user_of.Goals as goal

pub returns-in-Some-Some-clause-len : goal.returns-in-Some-Some-clause-len
returns-in-Some-Some-clause-len c =
    if_ok c.bits_of.result c.bits_of.ensures
    (λ bits e. ap (λ (xs : List Sig). length xs) e ∙ bits_of_long 32 c.in-Some-Some.user c.in-Some-Some.field-0-0
    ∙ ap (λ (o : Option ℕ). length (code_bits o)) (sym c.in-Some-Some.is-0))
