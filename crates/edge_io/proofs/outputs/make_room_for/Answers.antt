use Rattle.std.proofs.Common.{◌≡◌, ℕ, List, Option, Some, position, max, refl, sym, ap, ◌∙◌}
use Rattle.std.specs.Prelude.{option_and_then, unwrap_or}
use Rattle.std.specs.Option.{option_map}
use Rattle.std.specs.Str.{bytes_eq}
use Rattle.edge_io.specs.declared.outputs.Output.{Output}
use Rattle.edge_io.specs.Outputs.{bytes_if_started}
use Rattle.edge_io.proofs.Named.{value_of-none, value_of-set}
use Rattle.edge_io.proofs.Views.{ChangesOne-view, SameTold-view}
use Rattle.edge_io.proofs.outputs.make_room_for.Goals as goal

pub returns-in-Some-clause-ok : goal.returns-in-Some-clause-ok
returns-in-Some-clause-ok c =
    let at = ap (position (λ e. bytes_eq e.name c.args.name.now)) (sym c.deref.ensures.value) ∙ sym c.in-Some.ensures in
    let one = value_of-set c.args.outputs.now.items c.in-Some.place c.index_mut.result.now c.args.name.now _ (record { text = c.make_room.new.self; started = c.index_mut.result.now.value.started }) at c.index_mut.ensures.value refl in
    let view : Option Output → Option ℕ = option_map (λ o. o.text.room) in
    ChangesOne-view view _ _ c.args.name.now _ (λ b a. a ≡ Some (max (unwrap_or b 0) c.args.bytes)) one
    (ap view one.there.1 ∙ ap (λ t. Some t.room) c.in_ok-make_room.ensures.ok ∙ sym (ap (λ v. Some (max (unwrap_or (view v) 0) c.args.bytes)) one.there.0))

pub returns-in-Some-clause-written : goal.returns-in-Some-clause-written
returns-in-Some-clause-written c =
    let at = ap (position (λ e. bytes_eq e.name c.args.name.now)) (sym c.deref.ensures.value) ∙ sym c.in-Some.ensures in
    let after : Output = record { text = c.make_room.new.self; started = c.index_mut.result.now.value.started } in
    let one = value_of-set c.args.outputs.now.items c.in-Some.place c.index_mut.result.now c.args.name.now _ after at c.index_mut.ensures.value refl in
    let view : Option Output → Option (List ℕ) = option_and_then bytes_if_started in
    SameTold-view view _ _ c.args.name.now _ one
    (ap view one.there.1 ∙ ap (λ t. bytes_if_started (record { text = t; started = c.index_mut.result.now.value.started })) c.in_ok-make_room.ensures.ok ∙ sym (ap view one.there.0))

pub returns-clause-ok : goal.returns-clause-ok
returns-clause-ok c =
    let at = ap (position (λ e. bytes_eq e.name c.args.name.now)) (sym c.deref.ensures.value) ∙ sym c.in_default.ensures in
    let none = value_of-none c.args.outputs.now.items c.args.name.now at in
    let one = c.in_ok-set_value.ensures.ok in
    let view : Option Output → Option ℕ = option_map (λ o. o.text.room) in
    ChangesOne-view view _ _ c.args.name.now _ (λ b a. a ≡ Some (max (unwrap_or b 0) c.args.bytes)) one
    (ap view one.there ∙ ap (λ t. Some t.room) c.in_ok-make_room-2.ensures.ok ∙ ap (λ t. Some (max t.room c.args.bytes)) c.new-text.ensures ∙ sym (ap (λ v. Some (max (unwrap_or (view v) 0) c.args.bytes)) none))

pub returns-clause-written : goal.returns-clause-written
returns-clause-written c =
    let at = ap (position (λ e. bytes_eq e.name c.args.name.now)) (sym c.deref.ensures.value) ∙ sym c.in_default.ensures in
    let none = value_of-none c.args.outputs.now.items c.args.name.now at in
    let one = c.in_ok-set_value.ensures.ok in
    let view : Option Output → Option (List ℕ) = option_and_then bytes_if_started in
    SameTold-view view _ _ c.args.name.now _ one (ap view one.there ∙ sym (ap view none))
