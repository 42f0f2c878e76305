-- That lines are legal, or illegal at one line, and not both.
use Rattle.std.specs.Prelude.{◌≡◌, ℕ}
use Rattle.netlist_link.specs.Linked.{LinkedView}
use Rattle.scan_vectors.specs.declared.lines.Lines.{Lines}
use Rattle.scan_vectors.specs.Rules.{AreLegal, AreIllegalAt}

-- own: legal lines are illegal at no line
abbrev pub LegalIsNotIllegal : Type 0
LegalIsNotIllegal = (L : LinkedView) (lines : Lines) (number : ℕ) → AreLegal L lines → AreIllegalAt L lines number → ⊥

-- own: lines are illegal at one line at most
abbrev pub IllegalAtOneLine : Type 0
IllegalAtOneLine = (L : LinkedView) (lines : Lines) (one other : ℕ) → AreIllegalAt L lines one → AreIllegalAt L lines other → one ≡ other
