use Rattle.std.proofs.Common.{ℕ, List, sym, subst, ◌∙◌}
use Rattle.scan_vectors.specs.Pins.{Names}
use Rattle.scan_vectors.proofs.Named.{IsThere, only_found, pin_there}
use Rattle.default_starts.proofs.Marks.{is_there, started_next, started_same}
use Rattle.default_starts.proofs.started.mark_line.Goals as goal

pub returns-in_default : goal.returns-in_default
returns-in_default c = λ before are.
    started_same c.args.linked.now before c.args.line.now c.args.flags.now (λ pin start named. c.in_default.not-Start (c.parts_of-parts.ensures.act ∙ start)) are

pub returns-in_default-find_pin : goal.returns-in_default-find_pin
returns-in_default-find_pin c = λ before are.
    started_same c.args.linked.now before c.args.line.now c.args.flags.now
    (λ pin start named. c.in_default-find_pin.not-Some pin ((c.find_pin.ensures pin).1 (subst (λ (w : List ℕ). Names c.args.linked.now w pin) (sym c.parts_of-parts.ensures.word) named))) are

pub pin_net-net-requires : goal.pin_net-net-requires
pin_net-net-requires c =
    let L = c.args.linked.now in
    let word = c.parts_of-parts.result.word.now in
    let at : IsThere L.arena.lists c.in-Some.pin = pin_there L.names L.arena.lists word c.in-Some.pin (rw c.netlist-netlist.ensures.netlist at c.is_laid_out.ensures.laid_out) ((c.find_pin.ensures c.in-Some.pin).0 c.in-Some.is) in
    rw c.netlist-netlist.ensures.netlist (is_there L.arena.lists c.in-Some.pin at)

pub returns : goal.returns
returns c = λ before are.
    let L = c.args.linked.now in
    let pin = c.in-Some.pin in
    let words = c.parts_of-parts.ensures.word in
    started_next L before c.args.line.now c.args.flags.now pin c.pin_net-net.result c.netlist-netlist.ensures.linked.formed (sym c.parts_of-parts.ensures.act ∙ c.in-Start.is)
    (subst (λ (w : List ℕ). Names L w pin) words ((c.find_pin.ensures pin).0 c.in-Some.is))
    (λ other named. only_found pin other (sym c.in-Some.is ∙ (c.find_pin.ensures other).1 (subst (λ (w : List ℕ). Names L w other) (sym words) named)))
    (rw c.netlist-netlist.ensures.netlist at c.pin_net-net.ensures.value) (rw c.netlist-netlist.ensures.netlist at c.pin_net-net.ensures.below) are
