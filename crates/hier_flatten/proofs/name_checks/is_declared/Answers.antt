use Rattle.std.proofs.Common.{ℕ, sym, ap, ◌∙◌}
use Rattle.std.specs.Prelude.{nat_lt}
use Rattle.hier_flatten.proofs.EnteredNames.{name_below, name_never}
use Rattle.hier_flatten.proofs.name_checks.is_declared.Goals as goal

pub returns-in-Some : goal.returns-in-Some
returns-in-Some c =
    ap (λ (n : ℕ). nat_lt n c.args.declared) c.from.ensures
    ∙ name_below c.args.seen.now c.args.name.now c.in-Some.number c.args.declared (sym c.in-Some.ensures.number) c.in-Some.ensures.stands

pub returns-in-None : goal.returns-in-None
returns-in-None c = sym (name_never c.args.seen.now c.args.name.now c.args.declared (sym c.in-None.ensures.number))
