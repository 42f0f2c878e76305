-- Libraries that grow.
use Rattle.std.proofs.Common.{◌≡◌, ◌<◌, List, [], ◌∷◌, ◌++◌, length, Result, Ok, Err, OnOk, OnErr, subst, sym, arith, ◌∙◌, ap, inl, inr, length-append}
use Rattle.std.proofs.lemmas.List.Elements.{All-push}
use Rattle.verilog_lexicon.proofs.list_laws.Lists.{at_push}
use Rattle.cell_library.specs.declared.listed.ListedCell.{ListedCell}
use Rattle.cell_library.specs.Library.{own_kind_named}
use Rattle.cell_library.specs.Sound.{IsSoundCell, IsLibrary, IsNewTo}

-- a library stays one where a cell is added under a new name
pub grown : (library : List ListedCell) (cell : ListedCell) → IsLibrary library → length library < 4096 → IsSoundCell cell → IsNewTo library cell.name → IsLibrary (library ++ cell ∷ [])
grown library cell is room sound new = record {
  few = (let long = length-append library (cell ∷ []) in omega arith);
  sound = All-push IsSoundCell library cell is.sound sound;
  named = λ i c at. elim (at_push library cell c i at) [
    | inl h ↦ ap (λ (x : ListedCell). own_kind_named x.name) (sym h.1) ∙ new.free
    | inr h ↦ is.named i c h.1
  ];
  once = λ i j c d at there same. elim (at_push library cell c i at) [
    | inl h ↦ elim (at_push library cell d j there) [
      | inl k ↦ h.0 ∙ sym k.0
      | inr k ↦ absurd (new.new j d k.1 (sym same ∙ ap (λ (x : ListedCell). x.name) (sym h.1)))
    ]
    | inr h ↦ elim (at_push library cell d j there) [
      | inl k ↦ absurd (new.new i c h.1 (same ∙ ap (λ (x : ListedCell). x.name) (sym k.1)))
      | inr k ↦ is.once i j c d h.1 k.1 same
    ]
  ];
}

-- so it does where a push answers, and stays the same where that is refused
pub added : {A E : Type 0} (r : Result A E) (old new : List ListedCell) (cell : ListedCell) → OnOk r (new ≡ old ++ cell ∷ []) → OnErr r (new ≡ old) → IsLibrary old
    → IsLibrary (old ++ cell ∷ []) → IsLibrary new
added (Ok x) old new cell ok err is more = subst IsLibrary (sym ok) more
added (Err e) old new cell ok err is more = subst IsLibrary (sym err) is
