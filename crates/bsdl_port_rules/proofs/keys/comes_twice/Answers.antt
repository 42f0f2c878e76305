use Rattle.std.proofs.Common.{List, ◌∙◌, ap}
use Rattle.bsdl_port_rules.specs.Keys.{repeats_after}
use Rattle.bsdl_port_rules.proofs.KeyLists.{repeats_after_none}
use Rattle.bsdl_port_rules.proofs.keys.comes_twice.Goals as goal

pub loop-key-init : goal.loop-key-init
loop-key-init g c =
    ap (λ (before : List g.row.K.Denot). repeats_after g.K.PartialEq.eq before c.args.keys.now) c.new-seen.ensures.empty
    ∙ repeats_after_none g.K.PartialEq.eq g.met.K.Eq.laws c.args.keys.now
