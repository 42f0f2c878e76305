use Rattle.std.proofs.Common.{◌≢◌, arith}
use Rattle.netlist_model.specs.declared.Dir.TheVariants.{Input, Output}
use Rattle.test_logic_parts.proofs.port.add_ports.Goals as goal

pub add_scalar-requires-2-clause-net : goal.add_scalar-requires-2-clause-net
add_scalar-requires-2-clause-net c =
    let p = c.args.port.now in
    let a = c.requires.port.tms_next in
    c.add_scalar.ensures.others Input p.tms (λ e. omega arith) c.requires.port.tms

pub add_scalar-requires-3-clause-net : goal.add_scalar-requires-3-clause-net
add_scalar-requires-3-clause-net c =
    let p = c.args.port.now in
    let a = c.requires.port.tms_next in
    let b = c.requires.port.tdi_next in
    c.add_scalar-2.ensures.others Input p.tdi (λ e. omega arith) (c.add_scalar.ensures.others Input p.tdi (λ e. omega arith) c.requires.port.tdi)

pub add_scalar-requires-4-clause-net : goal.add_scalar-requires-4-clause-net
add_scalar-requires-4-clause-net c =
    let p = c.args.port.now in
    let a = c.requires.port.tms_next in
    let b = c.requires.port.tdi_next in
    let d = c.requires.port.tdo_next in
    c.add_scalar-3.ensures.others Output p.tdo (λ e. omega arith)
    (c.add_scalar-2.ensures.others Output p.tdo (λ e. omega arith) (c.add_scalar.ensures.others Output p.tdo (λ e. omega arith) c.requires.port.tdo))

pub add_scalar-requires-5-clause-net : goal.add_scalar-requires-5-clause-net
add_scalar-requires-5-clause-net c =
    let p = c.args.port.now in
    let a = c.requires.port.tms_next in
    let b = c.requires.port.tdi_next in
    let d = c.requires.port.tdo_next in
    let f = c.requires.port.trst_next in
    c.add_scalar-4.ensures.others Input p.trst (λ e. omega arith)
    (c.add_scalar-3.ensures.others Input p.trst (λ e. omega arith)
    (c.add_scalar-2.ensures.others Input p.trst (λ e. omega arith) (c.add_scalar.ensures.others Input p.trst (λ e. omega arith) c.requires.port.trst)))
