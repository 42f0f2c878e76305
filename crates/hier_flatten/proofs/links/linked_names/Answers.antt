use Rattle.std.proofs.Common.{◌≡◌, ◌+◌, ◌||◌, ℕ, List, true, false, drop, is_some, ◌∙◌, ap, sym}
use Rattle.std.specs.Str.{bytes_eq}
use Rattle.texts.specs.Repeated.{has_name, seen}
use Rattle.hier_flatten.proofs.LinkChecks.{left_next, noted, linked_more, linked_same}
use Rattle.hier_flatten.proofs.links.linked_names.Goals as goal
use Rattle.hier_flatten.proofs.links.linked_names.Goals.{then-is_some+in_ok-note, else-is_some}

pub loop-link-preserved : goal.loop-link-preserved
loop-link-preserved c =
    let links = c.args.links.now in
    let i = c.loop-link.link-index in
    let link = c.link-item.result in
    let here = left_next links i link c.loop-link-test.true c.link-item.is in
    let old = seen c.loop-link.names in
    elim c.if-is_some.branch [
      | then-is_some+in_ok-note w ↦
          let some : is_some link.operand ≡ true = sym c.is_some.ensures ∙ w.if-is_some.true in
          let grown : (name : List ℕ) → has_name (seen w.note.new.table) name ≡ (has_name old name || bytes_eq link.port name) =
          λ name. noted old (seen w.note.new.table) w.as_bytes.result.now _ w.in_ok-note.ensures.0 w.in_ok-note.ensures.1 name ∙ ap (λ (n : List ℕ). has_name old name || bytes_eq n name) w.as_bytes.ensures in
          rw w.names-is (λ name. linked_more old (seen w.note.new.table) link (drop (i + 1) links) (drop i links) some grown here name ∙ c.loop-link.invariant name)
      | else-is_some w ↦
          let none : is_some link.operand ≡ false = sym c.is_some.ensures ∙ w.if-is_some.false in
          rw w.names-is (λ name. linked_same old link (drop (i + 1) links) (drop i links) none here name ∙ c.loop-link.invariant name)
    ]
