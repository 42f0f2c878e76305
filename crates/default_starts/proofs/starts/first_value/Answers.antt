use Rattle.std.proofs.Common.{◌≡◌, true, false, sym, ◌∙◌}
use Rattle.default_starts.specs.Starts.BeginsAt.{control, plain}
use Rattle.default_starts.proofs.starts.first_value.Goals as goal

pub returns-then-is_control : goal.returns-then-is_control
returns-then-is_control c = control (c.is_control.ensures.0 c.if-is_control.true)

pub returns-else-is_control : goal.returns-else-is_control
returns-else-is_control c = plain (λ port. let no : true ≡ false = sym (c.is_control.ensures.1 port) ∙ c.if-is_control.false in cc)
