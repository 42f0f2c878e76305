use Rattle.std.proofs.Common.{List, ℕ, length, ◌∙◌, ap, sym, arith}
use Rattle.std.specs.Str.{bytes_eq}
use Rattle.std.proofs.lemmas.List.{length-map}
use Rattle.box_model.specs.declared.boxes.BoxPort.{BoxPort}
use Rattle.box_model.specs.Faults.{port_named}
use Rattle.box_tables.specs.CutPorts.{box_port_names}
use Rattle.box_tables.proofs.Places.{found_at, found_nowhere, position_low}
use Rattle.box_tables.proofs.CutPorts.{port_first}
use Rattle.box_tables.proofs.port_table.PortTable.find.Goals as goal

pub returns-in-None : goal.returns-in-None
returns-in-None c =
    found_nowhere (λ (x : BoxPort). x.name) c.self.inside.ports c.self.inside.places c.args.name.now c.self.invariant c.in-None.ensures
    ∙ port_first c.self.inside.ports c.args.name.now
    ∙ ap (λ (l : List BoxPort). port_named l c.args.name.now) c.self.view_is

pub bounds-as_slice-place : goal.bounds-as_slice-place
bounds-as_slice-place c =
    let low = position_low (bytes_eq c.args.name.now) c.self.inside.places c.in-Some.place c.in-Some.ensures in
    let long = length-map c.self.inside.ports (λ (x : BoxPort). x.name) in
    let same = ap (λ (l : List (List ℕ)). length l) c.self.invariant in
    let slice = ap (λ (l : List BoxPort). length l) c.as_slice.ensures in
    omega (arith, low, long, same, slice)

pub returns-in-Some : goal.returns-in-Some
returns-in-Some c =
    found_at (λ (x : BoxPort). x.name) c.as_slice.result.now c.self.inside.places c.args.name.now c.in-Some.place c.index-as_slice-place.result (c.self.invariant ∙ ap box_port_names (sym c.as_slice.ensures)) c.in-Some.ensures c.index-as_slice-place.is
    ∙ port_first c.as_slice.result.now c.args.name.now
    ∙ ap (λ (l : List BoxPort). port_named l c.args.name.now) (c.as_slice.ensures ∙ c.self.view_is)
