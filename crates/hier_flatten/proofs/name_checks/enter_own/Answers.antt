use Rattle.std.proofs.Common.{ℕ, List, [], ◌∷◌}
use Rattle.std.specs.Option.{option_map_or}
use Rattle.hier_model.specs.Walks.{texts}
use Rattle.hier_model.specs.Names.{flat_name}
use Rattle.hier_model.specs.Faults.{enters}
use Rattle.hier_flatten.proofs.EnterLaws.{of_equal, own_name}
use Rattle.hier_flatten.proofs.name_checks.enter_own.Goals as goal

pub returns-in-Some : goal.returns-in-Some
returns-in-Some c =
    of_equal c.args.seen.now _ (enters (flat_name (texts c.args.at.now) c.as_bytes.result.now) ∷ []) (option_map_or (λ (n : List ℕ). enters (flat_name (texts c.args.at.now) n) ∷ []) c.args.name.now []) c.enter.result
    (own_name (texts c.args.at.now) c.args.name.now _ c.as_bytes.result.now c.in-Some.is c.as_bytes.ensures) c.enter.ensures
