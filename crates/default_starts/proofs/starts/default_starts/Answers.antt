use Rattle.std.proofs.Common.{◌+◌, Bool, [], List, length, sym, ap, ◌∙◌, subst, arith}
use Rattle.list_laws.proofs.Lists.{slice_get_there}
use Rattle.scan_vectors.specs.declared.lines.Line.{Line}
use Rattle.default_starts.specs.Starts.{AreDefaultStarts}
use Rattle.default_starts.specs.Found.{AddsPort, AddsStarts}
use Rattle.default_starts.proofs.Adds.{first_inputs, no_starts, number_all, number_next, port_hidden, port_other}
use Rattle.default_starts.proofs.starts.default_starts.Goals as goal
use Rattle.default_starts.proofs.starts.default_starts.Goals.{then-is_hidden_input+in_ok-add_starts, else-is_hidden_input}

pub returns-then-straight-eq0 : goal.returns-then-straight-eq0
returns-then-straight-eq0 c =
    let L = c.args.linked.now in
    let none = no_starts L c.args.lines.now (ap (λ s. s.count) (sym c.straight.ensures) ∙ c.if-straight-eq0.true) in
    subst (λ (s : List Line). AreDefaultStarts L c.args.lines.now s) (sym c.new-starts.ensures) none

pub loop-number-preserved : goal.loop-number-preserved
loop-number-preserved c =
    let L = c.args.linked.now in
    let number = c.loop-number.number in
    let flags = c.in_ok-flags.flags.items in
    let mid = c.loop-number.starts in
    let ports = c.port_count-number-end.ensures in
    let less = c.loop-number-test.true in
    let arena = ap (λ a. length a.lists.ports) c.netlist.ensures.netlist in
    let found = slice_get_there L.arena.lists.ports number (omega (arith, ports, less, arena)) in
    let port = found.0 in
    let test = c.is_hidden_input.ensures in
    elim c.if-is_hidden_input.branch [
      | then-is_hidden_input+in_ok-add_starts w ↦
          let adds = port_hidden L flags number port mid w.add_starts.new.starts found.1 (sym (test port found.1) ∙ w.if-is_hidden_input.true)
          (subst (λ (f : List Bool). AddsPort L f number mid w.add_starts.new.starts) w.as_slice.ensures.value w.in_ok-add_starts.ensures) in
          subst (λ (s : List Line). AddsStarts L flags (first_inputs L (number + 1)) [] s) (sym w.starts-is)
          (number_next L flags number port [] mid w.add_starts.new.starts found.1 c.loop-number.invariant adds)
      | else-is_hidden_input w ↦
          subst (λ (s : List Line). AddsStarts L flags (first_inputs L (number + 1)) [] s) (sym w.starts-is)
          (number_next L flags number port [] mid mid found.1 c.loop-number.invariant (port_other L flags number port mid (sym (test port found.1) ∙ w.if-is_hidden_input.false)))
    ]

pub returns : goal.returns
returns c =
    let L = c.args.linked.now in
    let ports = c.port_count-number-end.ensures in
    let done = c.loop-number-test.false in
    let arena = ap (λ a. length a.lists.ports) c.netlist.ensures.netlist in
    number_all L c.in_ok-flags.flags.items c.loop-number.number c.args.lines.now c.loop-number.starts (omega (arith, ports, done, arena)) c.loop-number.invariant c.in_ok-flags.ensures
