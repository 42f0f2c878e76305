-- Registers that fit are few, and so are their wires.
use Rattle.std.proofs.Common.{◌≡◌, ℕ, ◌≤◌, List, [], ◌∷◌, map, length, All, sym, ap, subst, ◌∙◌, arith}
use Rattle.std.proofs.lemmas.List.{length-map}
use Rattle.std.proofs.lemmas.List.Elements.{All-nil, All-cons, All-head, All-tail}
use Rattle.list_laws.specs.Lists.{AreAll}
use Rattle.list_laws.proofs.Lists.{AreAll-length}
use Rattle.netlist_link.specs.Linked.{LinkedView}
use Rattle.status_fitting.specs.declared.register_texts.plan.StatusRow.{StatusRow}
use Rattle.status_fitting.specs.declared.register_texts.plan.StatusPlan.{StatusPlan}
use Rattle.status_fitting.specs.Grammar.{RegisterWords, IsRegister as IsWritten, register_of}
use Rattle.status_fitting.specs.declared.fitted.FittedRegister.{FittedRegister}
use Rattle.status_fitting.specs.declared.fitted.FittedStatus.{FittedStatus}
use Rattle.status_fitting.specs.Faults.{IsSpelled}
use Rattle.status_fitting.specs.Fitted.{IsNetOf, IsRegister, IsFitted as AreFitted}
use Rattle.status_register.specs.status_room.Ready.{HasFewWires}

abbrev HasFewWords : StatusRow → Type 0
HasFewWords row = length row.words ≤ 256

few_words : (source : List RegisterWords) → All IsWritten source → All HasFewWords (map register_of source)
few_words [] all = All-nil HasFewWords
few_words (r ∷ source) all =
    All-cons HasFewWords (register_of r) (map register_of source) (All-head IsWritten r source all).few (few_words source (All-tail IsWritten r source all))

-- so a register has as many wires
few_wires : (L : LinkedView) (rows : List StatusRow) (rs : List FittedRegister) → All HasFewWords rows → AreAll (IsRegister L) rows rs → All HasFewWires rs
few_wires L [] [] few are = All-nil HasFewWires
few_wires L [] (r ∷ rs) few are = absurd are
few_wires L (row ∷ rows) [] few are = absurd are
few_wires L (row ∷ rows) (r ∷ rs) few are =
    let same : length row.words ≡ length r.nets = AreAll-length (IsNetOf L) row.words r.nets are.0.nets in
    let here : length row.words ≤ 256 = All-head HasFewWords row rows few in
    All-cons HasFewWires r rs (omega (arith, same, here)) (few_wires L rows rs (All-tail HasFewWords row rows few) are.1)

pub few_registers : (L : LinkedView) (asked : StatusPlan) (s : FittedStatus) → IsSpelled asked → AreFitted L asked s → (length s.registers ≤ 16) × All HasFewWires s.registers
few_registers L asked s spelled are =
    let told = spelled.1 in
    let W : StatusPlan → Type 0 = λ p. All HasFewWords p.registers in
    let words = subst W (sym told.plan_is) (few_words told.source told.forms.each) in
    let rows : length asked.registers ≡ length told.source = ap (λ (p : StatusPlan). length p.registers) told.plan_is ∙ length-map told.source register_of in
    let same : length asked.registers ≡ length s.registers = AreAll-length (IsRegister L) asked.registers s.registers are in
    let most : length told.source ≤ 16 = told.forms.few in
    (omega (arith, rows, same, most), few_wires L asked.registers s.registers words are)
