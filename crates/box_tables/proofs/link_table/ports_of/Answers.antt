use Rattle.std.proofs.Common.{◌≡◌, List, [], ◌∷◌, ◌++◌, filter, refl, ap, ◌∙◌}
use Rattle.std.proofs.lemmas.List.{map-append}
use Rattle.texts.specs.Repeated.{texts}
use Rattle.verilog_tree.specs.declared.tree.Link.{Link}
use Rattle.box_tables.specs.Links.{is_linked, link_names}
use Rattle.box_tables.proofs.Steps.{gathered_next, gathered_end, filter_step}
use Rattle.box_tables.proofs.link_table.ports_of.Goals as goal

named_step : (l : Link) (ls : List Link) → link_names (filter is_linked (l ∷ ls)) ≡ link_names (filter is_linked (l ∷ [])) ++ link_names (filter is_linked ls)
named_step l ls = ap link_names (filter_step is_linked l ls) ∙ map-append (λ (k : Link). k.port) (filter is_linked (l ∷ [])) (filter is_linked ls)

pub loop-link-preserved : goal.loop-link-preserved
loop-link-preserved c =
    gathered_next (λ ls. link_names (filter is_linked ls)) (λ l. link_names (filter is_linked (l ∷ []))) named_step c.args.links.now c.loop-link.link-index c.link-item.result (texts c.loop-link.names.items) (texts c.add_port.new.names.items) (link_names (filter is_linked c.args.links.now))
    c.loop-link-test.true c.link-item.is c.loop-link.invariant c.in_ok-add_port.ensures

pub returns : goal.returns
returns c =
    gathered_end (λ ls. link_names (filter is_linked ls)) (λ l. link_names (filter is_linked (l ∷ []))) named_step refl c.args.links.now c.loop-link.link-index (texts c.loop-link.names.items) (link_names (filter is_linked c.args.links.now)) c.loop-link-test.false c.loop-link.invariant
