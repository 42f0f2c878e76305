use Rattle.std.proofs.Common.{sym, ◌∙◌}
use Rattle.texts.specs.Repeated.{texts}
use Rattle.cell_text.proofs.Borrowed.{word_at}
use Rattle.box_texts.proofs.PortLoops.{no_port, port_taken}
use Rattle.box_texts.proofs.box_cells.with_ports.Goals as goal

pub returns-in-None : goal.returns-in-None
returns-in-None c =
    let words = c.args.words.now in
    let k = c.loop-word.word-index in
    no_port c.args.dir (texts words) k _ c.loop-word.ports _ (word_at words k _ c.loop-word-test.true) (sym c.in_ok-port.ensures ∙ c.in-None.is) c.loop-word.invariant

pub loop-word-preserved : goal.loop-word-preserved
loop-word-preserved c =
    let words = c.args.words.now in
    let k = c.loop-word.word-index in
    port_taken c.args.dir (texts words) k _ c.in-Some.port c.loop-word.ports c.push.new.self _ (word_at words k _ c.loop-word-test.true) (sym c.in_ok-port.ensures ∙ c.in-Some.is) c.in_ok-push-in-Some.ensures.ok
    c.loop-word.invariant
