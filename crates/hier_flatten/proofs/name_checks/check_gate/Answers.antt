use Rattle.std.proofs.Common.{ℕ, List, [], ◌∷◌, Some, None, take, sym, ap, ◌∙◌}
use Rattle.std.specs.List.{flat_map}
use Rattle.std.specs.Option.{option_map_or}
use Rattle.link_model.specs.Faults.{operand_bits}
use Rattle.hier_model.specs.Walks.{texts}
use Rattle.hier_model.specs.Names.{flat_name}
use Rattle.hier_model.specs.Faults.{enters}
use Rattle.hier_flatten.specs.NameChecks.{net_checks}
use Rattle.hier_flatten.proofs.NameLaws.{stops}
use Rattle.hier_flatten.proofs.EnterLaws.{equal_nets}
use Rattle.hier_flatten.proofs.ReferLaws.{bit_stops, item_found, inputs_end}
use Rattle.hier_flatten.proofs.StepChecks.{checks_as}
use Rattle.hier_flatten.proofs.name_checks.check_gate.Goals as goal

pub returns-in-Some : goal.returns-in-Some
returns-in-Some c =
    let around = c.args.around.now in
    let g = c.args.gate.now in
    let old = c.args.seen.now in
    let at = texts around.at.now in
    stops (take around.declared old) old (option_map_or (λ (n : List ℕ). enters (flat_name at n) ∷ []) g.name []) (net_checks at around.nets.now (g.output ∷ flat_map operand_bits g.inputs)) c.in-Some.fault c.enter_own.new.seen c.enter_own.new.seen
    (checks_as (take around.declared old) old c.enter_own.new.seen (option_map_or (λ (n : List ℕ). enters (flat_name at n) ∷ []) g.name []) _ (Some c.in-Some.fault) c.in-Some.is (c.in_ok-fault.ensures (take around.declared old)))

pub returns-in-Some-2 : goal.returns-in-Some-2
returns-in-Some-2 c =
    let around = c.args.around.now in
    let g = c.args.gate.now in
    let old = c.args.seen.now in
    let mid = c.enter_own.new.seen in
    let at = texts around.at.now in
    item_found old mid at around.declared around.nets.now (option_map_or (λ (n : List ℕ). enters (flat_name at n) ∷ []) g.name []) (g.output ∷ flat_map operand_bits g.inputs) (Some c.in-Some-2.fault) c.requires
    (checks_as (take around.declared old) old mid (option_map_or (λ (n : List ℕ). enters (flat_name at n) ∷ []) g.name []) _ None c.in-None.is (c.in_ok-fault.ensures (take around.declared old)))
    (bit_stops (take around.declared mid) mid at around.nets.now g.output (flat_map operand_bits g.inputs) c.in-Some-2.fault (sym c.in-Some-2.is ∙ c.in_ok-fault-2.ensures))

pub returns : goal.returns
returns c =
    let around = c.args.around.now in
    let g = c.args.gate.now in
    let old = c.args.seen.now in
    let mid = c.enter_own.new.seen in
    let at = texts around.at.now in
    inputs_end old mid at around.declared around.nets.now (option_map_or (λ (n : List ℕ). enters (flat_name at n) ∷ []) g.name []) g.output (flat_map operand_bits g.inputs) c.refer_operands.result c.requires
    (checks_as (take around.declared old) old mid (option_map_or (λ (n : List ℕ). enters (flat_name at n) ∷ []) g.name []) _ None c.in-None.is (c.in_ok-fault.ensures (take around.declared old)))
    (sym c.in-None-2.is ∙ c.in_ok-fault-2.ensures)
    (equal_nets (take around.declared mid) mid at around.nets.now (flat_map operand_bits c.as_slice.result.now) (flat_map operand_bits g.inputs) c.refer_operands.result (ap (flat_map operand_bits) c.as_slice.ensures) c.refer_operands.ensures)
