use Rattle.std.proofs.Common.{◌-◌, length, drop, sym, ◌∙◌, arith, length-drop}
use Rattle.list_laws.proofs.Lists.{front_all}
use Rattle.box_trees.proofs.WordParts.{starts_behind, word_parted}
use Rattle.box_trees.proofs.bit_words.part_word.Goals as goal

pub returns-then-start-eq0 : goal.returns-then-start-eq0
returns-then-start-eq0 c = λ name digits bare is.
    let facts = c.behind_bracket-start.ensures in
    let some = (starts_behind c.args.word.now c.behind_bracket-start.result name digits (facts.within, facts.behind, facts.bracket) bare is).0 in
    let none = c.if-start-eq0.true in
    omega (arith, some, none)

pub returns-in-None : goal.returns-in-None
returns-in-None c = λ name digits bare is.
    let word = c.args.word.now in
    let start = c.behind_bracket-start.result in
    let facts = c.behind_bracket-start.ensures in
    let long = length-drop start word in
    c.in-None.ensures digits (front_all (drop start word) (length word - start) (omega (arith, long)) ∙ (starts_behind word start name digits (facts.within, facts.behind, facts.bracket) bare is).1)

pub returns-in-Some : goal.returns-in-Some
returns-in-Some c =
    let word = c.args.word.now in
    let start = c.behind_bracket-start.result in
    let facts = c.behind_bracket-start.ensures in
    let some = c.if-start-eq0.false in
    let long = length-drop start word in
    word_parted word start c.in-Some.digits.now (facts.within, facts.behind, facts.bracket) (omega (arith, some)) (sym (front_all (drop start word) (length word - start) (omega (arith, long))) ∙ c.in-Some.ensures)
