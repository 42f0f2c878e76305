use Rattle.std.proofs.Common.{◌≡◌, Bool, List, [], ◌∷◌, ◌++◌, filter, refl, ap, ◌∙◌}
use Rattle.std.proofs.lemmas.List.{map-append}
use Rattle.texts.specs.Repeated.{texts}
use Rattle.box_model.specs.declared.boxes.BoxPort.{BoxPort}
use Rattle.box_tables.specs.CutPorts.{is_of, box_port_names}
use Rattle.box_tables.proofs.Steps.{gathered_next, gathered_end, filter_step}
use Rattle.box_tables.proofs.port_table.add_names.Goals as goal

named_step : (test : BoxPort → Bool) (p : BoxPort) (ps : List BoxPort) → box_port_names (filter test (p ∷ ps)) ≡ box_port_names (filter test (p ∷ [])) ++ box_port_names (filter test ps)
named_step test p ps = ap box_port_names (filter_step test p ps) ∙ map-append (λ (q : BoxPort). q.name) (filter test (p ∷ [])) (filter test ps)

pub loop-port-preserved : goal.loop-port-preserved
loop-port-preserved c =
    let test = is_of c.args.narrow in
    gathered_next (λ ps. box_port_names (filter test ps)) (λ p. box_port_names (filter test (p ∷ []))) (named_step test) c.args.from.now c.loop-port.port-index c.port-item.result (texts c.loop-port.names.items) (texts c.add_name.new.names.items)
    (texts c.args.names.now.items ++ box_port_names (filter test c.args.from.now))
    c.loop-port-test.true c.port-item.is c.loop-port.invariant c.in_ok-add_name.ensures

pub returns : goal.returns
returns c =
    let test = is_of c.args.narrow in
    gathered_end (λ ps. box_port_names (filter test ps)) (λ p. box_port_names (filter test (p ∷ []))) (named_step test) refl c.args.from.now c.loop-port.port-index (texts c.loop-port.names.items)
    (texts c.args.names.now.items ++ box_port_names (filter test c.args.from.now)) c.loop-port-test.false c.loop-port.invariant
