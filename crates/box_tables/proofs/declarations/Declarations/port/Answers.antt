use Rattle.std.proofs.Common.{List, ℕ, find, length, ◌∙◌, ap, sym, arith}
use Rattle.std.specs.Str.{bytes_eq}
use Rattle.std.proofs.lemmas.List.{length-map}
use Rattle.verilog_tree.specs.declared.tree.Port.{Port}
use Rattle.verilog_tree.specs.declared.tree.Module.{Module}
use Rattle.box_tables.specs.Nets.{port_names}
use Rattle.box_tables.proofs.Places.{found_at, found_nowhere, position_low}
use Rattle.box_tables.proofs.declarations.Declarations.port.Goals as goal

pub returns-in-None : goal.returns-in-None
returns-in-None c =
    found_nowhere (λ (x : Port). x.name) c.self.inside.tree.now.ports c.self.inside.port_places c.args.name.now c.self.invariant.ports_are c.in-None.ensures
    ∙ ap (λ (m : Module). find (λ (x : Port). bytes_eq c.args.name.now x.name) m.ports) c.self.view_is

pub bounds-as_slice-place : goal.bounds-as_slice-place
bounds-as_slice-place c =
    let low = position_low (bytes_eq c.args.name.now) c.self.inside.port_places c.in-Some.place c.in-Some.ensures in
    let long = length-map c.self.inside.tree.now.ports (λ (x : Port). x.name) in
    let same = ap (λ (l : List (List ℕ)). length l) c.self.invariant.ports_are in
    let slice = ap (λ (l : List Port). length l) c.as_slice.ensures in
    omega (arith, low, long, same, slice)

pub returns-in-Some : goal.returns-in-Some
returns-in-Some c =
    found_at (λ (x : Port). x.name) c.as_slice.result.now c.self.inside.port_places c.args.name.now c.in-Some.place c.index-as_slice-place.result (c.self.invariant.ports_are ∙ ap port_names (sym c.as_slice.ensures)) c.in-Some.ensures c.index-as_slice-place.is
    ∙ ap (find (λ (x : Port). bytes_eq c.args.name.now x.name)) c.as_slice.ensures
    ∙ ap (λ (m : Module). find (λ (x : Port). bytes_eq c.args.name.now x.name) m.ports) c.self.view_is
