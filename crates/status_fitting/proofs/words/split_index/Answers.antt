use Rattle.std.proofs.Common.{◌≡◌, List, ℕ, ◌∷◌, ◌++◌, [], Option, Some, None, sym, ◌∙◌, ap}
use Rattle.std.specs.Prelude.{MatchOption}
use Rattle.std.proofs.lemmas.List.{append_cancel_right}
use Rattle.status_fitting.specs.declared.words.IndexedWord.{IndexedWord}
use Rattle.netlist_link.specs.PinWords.{IsIndexed}
use Rattle.netlist_link.specs.Brackets.{IsOpenIndexed}
use Rattle.status_fitting.proofs.words.split_index.Goals as goal

closed : (word front name : List ℕ) (index : ℕ) → word ≡ front ++ 93 ∷ [] → IsOpenIndexed front name index → IsIndexed word name index
closed word front name index is part = record {
  digits = part.digits;
  number = part.number;
  spelled = is ∙ ap (λ bytes. bytes ++ 93 ∷ []) part.spelled;
  value = part.value;
}

opened : (word front name : List ℕ) (index : ℕ) → word ≡ front ++ 93 ∷ [] → IsIndexed word name index → IsOpenIndexed front name index
opened word front name index is shut = record {
  digits = shut.digits;
  number = shut.number;
  spelled = append_cancel_right front (name ++ 91 ∷ shut.digits) (93 ∷ []) (sym is ∙ shut.spelled);
  value = shut.value;
}

pub returns-in-Some : goal.returns-in-Some
returns-in-Some c = go c.split_front.result c.split_front.ensures
  where
    go : (r : Option IndexedWord) → MatchOption r ((name : List ℕ) (index : ℕ) → IsOpenIndexed c.in-Some.front.now name index → ⊥) (λ found. IsOpenIndexed c.in-Some.front.now found.name.now found.index)
        → MatchOption r ((name : List ℕ) (index : ℕ) → IsIndexed c.args.word.now name index → ⊥) (λ found. IsIndexed c.args.word.now found.name.now found.index)
    go None none = λ name index is. none name index (opened c.args.word.now c.in-Some.front.now name index c.in-Some.ensures is)
    go (Some found) is = closed c.args.word.now c.in-Some.front.now found.name.now found.index c.in-Some.ensures is
