-- Lines of a program with their pins found.
use Rattle.std.proofs.Common.{◌≡◌, ℕ, zero, suc, List, [], ◌∷◌, length, slice_get, Some, refl, ap, ◌∙◌, subst, arith}
use Rattle.std.specs.Prelude.{⊤}
use Rattle.netlist_link.specs.Linked.{LinkedView}
use Rattle.bsdl_device.specs.declared.values.Device.{Device}
use Rattle.scan_vectors.specs.declared.lines.Act.TheVariants as act
use Rattle.scan_vectors.specs.declared.lines.Line.{Line}
use Rattle.scan_vectors.specs.declared.lines.Line.TheVariants.{Start, Set, Expect}
use Rattle.scan_vectors.specs.declared.lines.Lines.{Lines}
use Rattle.scan_vectors.specs.Grammar.{act_of, pin_of, value_of}
use Rattle.scan_vectors.specs.declared.scripts.script.ScriptLine.{ScriptLine}
use Rattle.scan_vectors.specs.Pins.{Names}
use Rattle.scan_vectors.specs.Scripts.{IsFound, IsScriptOf}
use Rattle.program_runs.specs.Lines.{IsStartOf, NamePins}

-- the line with its pin found
pub record IsFoundAs (L : LinkedView) (line : Line) (found : ScriptLine) : Type 0 where
  pub act : found.act ≡ act_of line
  pub pin : Names L (pin_of line) found.pin
  pub value : found.value ≡ value_of line

-- the lines in order
abbrev pub AreFound : LinkedView → List Line → List ScriptLine → Type 0
AreFound L [] [] = ⊤
AreFound L [] (found ∷ script) = ⊥
AreFound L (line ∷ lines) [] = ⊥
AreFound L (line ∷ lines) (found ∷ script) = IsFoundAs L line found × AreFound L lines script

abbrev EachFound : LinkedView → List Line → List ℕ → List ScriptLine → Type 0
EachFound L lines numbers script = (place : ℕ) (line : Line) (number : ℕ) (found : ScriptLine) → slice_get lines place ≡ Some line → slice_get numbers place ≡ Some number
    → slice_get script place ≡ Some found → IsFound L line number found

found_by : (L : LinkedView) (lines : List Line) (numbers : List ℕ) (script : List ScriptLine) → length script ≡ length lines → length numbers ≡ length lines → EachFound L lines numbers script
    → AreFound L lines script
found_by L [] numbers [] many numbered each = tt
found_by L [] numbers (found ∷ script) many numbered each = absurd (let no : suc (length script) ≡ 0 = many in cc)
found_by L (line ∷ lines) numbers [] many numbered each = absurd (let no : 0 ≡ suc (length lines) = many in cc)
found_by L (line ∷ lines) [] (found ∷ script) many numbered each = absurd (let no : 0 ≡ suc (length lines) = numbered in cc)
found_by L (line ∷ lines) (number ∷ numbers) (found ∷ script) many numbered each =
    let one = each 0 line number found refl refl refl in
    let m : suc (length script) ≡ suc (length lines) = many in
    let n : suc (length numbers) ≡ suc (length lines) = numbered in (
      record { act = one.act; pin = one.pin; value = one.value },
      found_by L lines numbers script (omega (arith, m)) (omega (arith, n)) (λ place. each (suc place)),
    )

-- what is resolved is found
pub are_found : (L : LinkedView) (lines : Lines) (script : List ScriptLine) → length lines.numbers ≡ length lines.list → IsScriptOf L lines script → AreFound L lines.list script
are_found L lines script numbered is = found_by L lines.list lines.numbers script is.count numbered is.each

-- One line.

pub record FoundThere (L : LinkedView) (script : List ScriptLine) (place : ℕ) (line : Line) : Type 0 where
  pub found : ScriptLine
  pub there : slice_get script place ≡ Some found
  pub is : IsFoundAs L line found

pub found_there : (L : LinkedView) (lines : List Line) (script : List ScriptLine) → AreFound L lines script → (place : ℕ) (line : Line) → slice_get lines place ≡ Some line → FoundThere L script place line
found_there L [] [] are place line there = absurd (cc)
found_there L [] (found ∷ script) are place line there = absurd are
found_there L (first ∷ lines) [] are place line there = absurd are
found_there L (first ∷ lines) (found ∷ script) are zero line there =
    let same : first ≡ line = cc in
    record { found = found; there = refl; is = subst (λ (l : Line). IsFoundAs L l found) same are.0 }
found_there L (first ∷ lines) (found ∷ script) are (suc place) line there =
    let more = found_there L lines script are.1 place line there in
    record { found = more.found; there = more.there; is = more.is }

-- a start among lines that name pins
pub start_there : (B : Device) (lines : List Line) → NamePins B lines → (place : ℕ) (line : Line) → slice_get lines place ≡ Some line → act_of line ≡ act.Start → IsStartOf B (pin_of line) (value_of line)
start_there B [] names place line there start = absurd (cc)
start_there B (Start word value ∷ lines) names zero line there start =
    let same : Start word value ≡ line = cc in
    subst (λ (l : Line). IsStartOf B (pin_of l) (value_of l)) same names.0
start_there B (Set word value ∷ lines) names zero line there start =
    let same : Set word value ≡ line = cc in
    absurd (let no : act.Set ≡ act.Start = ap act_of same ∙ start in cc)
start_there B (Expect word value ∷ lines) names zero line there start =
    let same : Expect word value ≡ line = cc in
    absurd (let no : act.Expect ≡ act.Start = ap act_of same ∙ start in cc)
start_there B (Start word value ∷ lines) names (suc place) line there start = start_there B lines names.1 place line there start
start_there B (Set word value ∷ lines) names (suc place) line there start = start_there B lines names.1 place line there start
start_there B (Expect word value ∷ lines) names (suc place) line there start = start_there B lines names place line there start
