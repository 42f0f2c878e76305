use Rattle.std.proofs.Common.{◌≡◌, ◌++◌, ℕ, List, Option, Some, None, get_or, length, take, refl, sym, ap, ◌∙◌}
use Rattle.std.specs.Prelude.{option_and_then, IfSome}
use Rattle.std.specs.Option.{option_map}
use Rattle.edge_io.specs.declared.outputs.Output.{Output}
use Rattle.edge_io.specs.declared.entries.Entry.{Entry}
use Rattle.edge_io.specs.Outputs.{bytes_if_started, written_in}
use Rattle.edge_io.specs.Entries.{value_of}
use Rattle.edge_io.specs.Shelf.{ChangesOne, appended}
use Rattle.edge_io.proofs.Named.{value_of-found, value_of-none, value_of-set}
use Rattle.edge_io.proofs.Views.{ChangesOne-view, SameTold-view}
use Rattle.edge_io.proofs.Written.{AddsNone-found, AddsNone-missing, adds_count-found, bytes_if_started-added}
use Rattle.edge_io.proofs.outputs.add_to_output.Goals as goal

pub returns-in_err-place-clause-none : goal.returns-in_err-place-clause-none
returns-in_err-place-clause-none c =
    AddsNone-missing _ (length c.args.piece.now) _ (value_of-none c.args.outputs.now c.args.name.now (sym c.place_of.ensures ∙ c.in_err-place.was)) c.from_residual.ensures

pub returns-clause-none : goal.returns-clause-none
returns-clause-none c =
    let e : Entry Output = get_or c.args.outputs.now c.in_ok-place.place c.index-outputs-place.result in
    let is : e ≡ get_or c.args.outputs.now c.in_ok-place.place e = ap (get_or c.args.outputs.now c.in_ok-place.place) c.index-outputs-place.is in
    let found = value_of-found c.args.outputs.now c.in_ok-place.place e c.args.name.now (sym c.place_of.ensures ∙ c.in_ok-place.was) is in
    AddsNone-found _ (length c.args.piece.now) e.value _ found c.add.ensures.none

pub returns-clause-count : goal.returns-clause-count
returns-clause-count c =
    let e : Entry Output = get_or c.args.outputs.now c.in_ok-place.place c.index-outputs-place.result in
    let is : e ≡ get_or c.args.outputs.now c.in_ok-place.place e = ap (get_or c.args.outputs.now c.in_ok-place.place) c.index-outputs-place.is in
    let found = value_of-found c.args.outputs.now c.in_ok-place.place e c.args.name.now (sym c.place_of.ensures ∙ c.in_ok-place.was) is in
    adds_count-found _ (length c.args.piece.now) e.value _ found c.add.ensures.none c.add.ensures.count

changes : (old new : List (Entry Output)) (name piece : List ℕ) (before after : Output) (r : Option ℕ)
    → ChangesOne (value_of old) (value_of new) name (λ b a. (b ≡ Some before) × (a ≡ Some after)) → after.started ≡ before.started
    → IfSome r (λ n. after.text ≡ record before.text { bytes = before.text.bytes ++ take n piece })
    → IfSome r (λ n. ChangesOne (written_in old) (written_in new) name (λ b a. a ≡ appended (take n piece) b))
changes old new name piece before after None one started text = tt
changes old new name piece before after (Some n) one started text =
    let view : Option Output → Option (List ℕ) = option_and_then bytes_if_started in
    ChangesOne-view view (value_of old) (value_of new) name _ (λ b a. a ≡ appended (take n piece) b) one
    (ap view one.there.1 ∙ bytes_if_started-added before after (take n piece) started (ap (λ t. t.bytes) text) ∙ sym (ap (λ v. appended (take n piece) (view v)) one.there.0))

pub returns-clause-added : goal.returns-clause-added
returns-clause-added c =
    let e : Entry Output = get_or c.args.outputs.now c.in_ok-place.place c.index-outputs-place.result in
    let is : e ≡ get_or c.args.outputs.now c.in_ok-place.place e = ap (get_or c.args.outputs.now c.in_ok-place.place) c.index-outputs-place.is in
    let one = value_of-set c.args.outputs.now c.in_ok-place.place e c.args.name.now _ c.add.new.self (sym c.place_of.ensures ∙ c.in_ok-place.was) is refl in
    changes _ _ c.args.name.now c.args.piece.now e.value c.add.new.self c.add.result one c.add.ensures.started c.add.ensures.added

pub returns-clause-room : goal.returns-clause-room
returns-clause-room c =
    let e : Entry Output = get_or c.args.outputs.now c.in_ok-place.place c.index-outputs-place.result in
    let is : e ≡ get_or c.args.outputs.now c.in_ok-place.place e = ap (get_or c.args.outputs.now c.in_ok-place.place) c.index-outputs-place.is in
    let one = value_of-set c.args.outputs.now c.in_ok-place.place e c.args.name.now _ c.add.new.self (sym c.place_of.ensures ∙ c.in_ok-place.was) is refl in
    let view : Option Output → Option ℕ = option_map (λ o. o.text.room) in
    SameTold-view view _ _ c.args.name.now _ one (ap view one.there.1 ∙ ap (λ k. Some k) c.add.ensures.room ∙ sym (ap view one.there.0))
