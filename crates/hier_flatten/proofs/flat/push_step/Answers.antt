use Rattle.std.proofs.Common.{◌≡◌, ℕ, List, Bor, sym, ap, ◌∙◌}
use Rattle.std.proofs.lemmas.List.{take-map}
use Rattle.std.proofs.lemmas.Result.{IfOk-weaker}
use Rattle.hier_model.specs.Walks.{texts, turn_of}
use Rattle.hier_flatten.proofs.FlatLaws.{opens_added}
use Rattle.hier_flatten.proofs.flat.push_step.Goals as goal

pub returns-in-Opens : goal.returns-in-Opens
returns-in-Opens c =
    let e = c.in-Some.ensures ∙ c.requires.within in
    let same : c.in-Some.nets.now ≡ c.args.step.within.now = cc in
    IfOk-weaker c.push_inputs.result _ _
    (λ x is. opens_added (texts c.args.path.now) _ c.args.step.depth c.args.step.within.now c.in-Some.nets.now (turn_of c.args.step.turn) c.in-Opens.instance.now c.in-Opens.child.now c.args.items.now c.push_inputs.new.items c.requires.path (ap turn_of c.in-Opens.is)
    (sym (take-map (λ (b : Bor (List ℕ)). b.now) c.args.step.depth c.args.path.now)) same is) c.push_inputs.ensures
