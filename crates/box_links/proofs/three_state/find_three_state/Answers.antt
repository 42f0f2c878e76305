use Rattle.std.proofs.Common.{◌≡◌, ℕ, List, Bool, Option, ap, ◌∙◌, subst}
use Rattle.std.specs.Prelude.{IfOk}
use Rattle.link_model.specs.declared.fault.BitName.{BitName}
use Rattle.netlist_arena.specs.Arena.{ArenaView}
use Rattle.box_links.specs.ThreeState.{flag_at, has_gate}
use Rattle.box_links.proofs.OutputBits.{hidden_same}
use Rattle.box_links.proofs.three_state.find_three_state.Goals as goal

pub returns : goal.returns
returns c =
    let flags : (net : ℕ) → flag_at c.as_slice.result.now net ≡ has_gate c.args.linked.now.arena.lists.cells net = λ net.
    ap (λ (l : List Bool). flag_at l net) c.as_slice.ensures.value ∙ c.in_ok-flags.ensures.each net ∙ ap (λ (a : ArenaView). has_gate a.lists.cells net) c.netlist.ensures.netlist in
    subst (λ (o : Option BitName). IfOk c.flagged_hidden.result (λ (bit : Option BitName). bit ≡ o))
    (hidden_same c.args.linked.now (flag_at c.as_slice.result.now) (has_gate c.args.linked.now.arena.lists.cells) flags)
    c.flagged_hidden.ensures
