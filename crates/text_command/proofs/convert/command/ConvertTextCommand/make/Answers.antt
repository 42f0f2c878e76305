use Rattle.std.proofs.Common.{◌≡◌, subst}
use Rattle.list_laws.proofs.Options.{err_is}
use Rattle.command_faults.specs.declared.status.Status.TheVariants as status
use Rattle.command_faults.specs.Statuses.{status_of}
use Rattle.text_command.specs.ConvertTasks.{AreSpelled}
use Rattle.text_command.proofs.ConvertComplete.{spelled_memory}
use Rattle.text_command.proofs.convert.command.ConvertTextCommand.make.Goals as goal

pub returns-in_err-printed-clause-free : goal.returns-in_err-printed-clause-free
returns-in_err-printed-clause-free c =
    err_is c.from_residual.result c.in_err-printed.field-0.0 (λ f. AreSpelled c.args.self.conversion c.args.texts.now → status_of f ≡ status.Memory) c.from_residual.ensures.1
    (λ spelled. spelled_memory c.args.self.conversion c.take_one-text.result c.in_err-printed.field-0.0 (subst (AreSpelled c.args.self.conversion) c.take_one-text.ensures spelled) c.in_err-printed.ensures.fault)
