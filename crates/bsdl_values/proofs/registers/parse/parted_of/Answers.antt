use Rattle.std.proofs.Common.{ℕ, ◌<◌, ◌^◌, subst, sym}
use Rattle.bsdl_values.proofs.RegistersFaults.{some_strings, parted_words}
use Rattle.bsdl_values.proofs.registers.parse.parted_of.Goals as goal

pub without_own-requires : goal.without_own-requires
without_own-requires c = some_strings c.in_ok-file.file.access.strings c.in_ok-file.ensures.spelled.is.access

pub returns-clause-parted : goal.returns-clause-parted
returns-clause-parted c = record {
  file = c.in_ok-file.file;
  spells = c.in_ok-file.ensures.spelled;
  parted = c.in_ok-without_own.ensures;
  few = subst (λ (n : ℕ). n < 2 ^ 64) (sym (parted_words c.in_ok-file.file c.in_ok-without_own.field-0 c.in_ok-without_own.ensures)) c.in_ok-file.ensures.few;
}
