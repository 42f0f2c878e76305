use Rattle.std.proofs.Common.{◌≡◌, ℕ, List, [], Option, Some, None, get_or, refl, sym, ap, subst, ◌∙◌}
use Rattle.std.specs.Prelude.{option_and_then, IsSome}
use Rattle.std.specs.Option.{option_map}
use Rattle.edge_io.specs.declared.outputs.Output.{Output}
use Rattle.edge_io.specs.declared.entries.Entry.{Entry}
use Rattle.edge_io.specs.Outputs.{bytes_if_started}
use Rattle.edge_io.proofs.Named.{value_of-found, value_of-none, value_of-set}
use Rattle.edge_io.proofs.Views.{ChangesOne-view, SameTold-view}
use Rattle.edge_io.proofs.Written.{bytes_if_started-empty}
use Rattle.edge_io.proofs.outputs.start_output.Goals as goal

pub returns-in_default-clause-found : goal.returns-in_default-clause-found
returns-in_default-clause-found c =
    let view : Option Output → Option ℕ = option_map (λ o. o.text.room) in
    let none = ap view (value_of-none c.args.outputs.now c.args.name.now (sym c.in_default.ensures)) in
    ((λ h. absurd cc), (λ h. let untrue : IsSome (view None) = subst IsSome none h in cc))

pub returns-clause-found : goal.returns-clause-found
returns-clause-found c =
    let e : Entry Output = get_or c.args.outputs.now c.in-Some.place c.index-outputs-place.result in
    let is : e ≡ get_or c.args.outputs.now c.in-Some.place e = ap (get_or c.args.outputs.now c.in-Some.place) c.index-outputs-place.is in
    let view : Option Output → Option ℕ = option_map (λ o. o.text.room) in
    let found = ap view (value_of-found c.args.outputs.now c.in-Some.place e c.args.name.now (sym c.in-Some.ensures) is) in
    ((λ h. subst IsSome (sym found) refl), (λ h. refl))

pub returns-clause-started : goal.returns-clause-started
returns-clause-started c = λ _.
    let e : Entry Output = get_or c.args.outputs.now c.in-Some.place c.index-outputs-place.result in
    let is : e ≡ get_or c.args.outputs.now c.in-Some.place e = ap (get_or c.args.outputs.now c.in-Some.place) c.index-outputs-place.is in
    let one = value_of-set c.args.outputs.now c.in-Some.place e c.args.name.now _ c.start.new.self (sym c.in-Some.ensures) is refl in
    let view : Option Output → Option (List ℕ) = option_and_then bytes_if_started in
    ChangesOne-view view _ _ c.args.name.now _ (λ b a. a ≡ Some []) one
    (ap view one.there.1 ∙ bytes_if_started-empty c.start.new.self c.start.ensures.started (ap (λ t. t.bytes) c.start.ensures.text))

pub returns-clause-room : goal.returns-clause-room
returns-clause-room c =
    let e : Entry Output = get_or c.args.outputs.now c.in-Some.place c.index-outputs-place.result in
    let is : e ≡ get_or c.args.outputs.now c.in-Some.place e = ap (get_or c.args.outputs.now c.in-Some.place) c.index-outputs-place.is in
    let one = value_of-set c.args.outputs.now c.in-Some.place e c.args.name.now _ c.start.new.self (sym c.in-Some.ensures) is refl in
    let view : Option Output → Option ℕ = option_map (λ o. o.text.room) in
    SameTold-view view _ _ c.args.name.now _ one (ap view one.there.1 ∙ ap (λ t. Some t.room) c.start.ensures.text ∙ sym (ap view one.there.0))
