-- Of right answers there is one.
use Rattle.std.proofs.Common.{◌≡◌, ℕ, List, [], ◌∷◌, ◌++◌, refl, ap, sym, ◌∙◌, subst, Result, Ok, Err}
use Rattle.std.specs.List.{AllByRecursion}
use Rattle.list_laws.specs.Lists.{AreAll}
use Rattle.cell_library.specs.declared.codes.Bits.{Bits}
use Rattle.netlist_model.specs.declared.NetId.{NetId}
use Rattle.netlist_link.specs.Linked.{LinkedView}
use Rattle.netlist_link.specs.WellNamed.{IsWellNamed}
use Rattle.plan_texts.specs.declared.plan.Plan.{Plan}
use Rattle.status_fitting.specs.declared.register_texts.fault.StatusFault.{StatusFault}
use Rattle.status_fitting.specs.declared.register_texts.fault.StatusFault.TheVariants as fault
use Rattle.status_fitting.specs.declared.register_texts.plan.StatusRow.{StatusRow}
use Rattle.status_fitting.specs.declared.register_texts.plan.StatusPlan.{StatusPlan}
use Rattle.status_fitting.specs.declared.fitted.FittedRegister.{FittedRegister}
use Rattle.status_fitting.specs.declared.fitted.FittedStatus.{FittedStatus}
use Rattle.status_fitting.specs.Faults.{HasFault, in_name, in_wire, in_opcode, words_of}
use Rattle.status_fitting.specs.Fitted.{IsNetOf, IsRegister, IsFitted}
use Rattle.status_fitting.specs.Laws.{IsRight}
use Rattle.status_fitting.specs.Names.{all_given, is_barred}
use Rattle.status_fitting.specs.Opcodes.{is_taken}
use Rattle.status_fitting.specs.Steps.{name_fault, opcode_fault}
use Rattle.status_fitting.specs.Wires.{IsNamed, IsUnnamed}
use Rattle.status_fitting.proofs.Firsts.{same_first_fault, same_front, same_rest}
use Rattle.status_fitting.proofs.Fits.{not_first, not_unnamed}
use Rattle.status_fitting.proofs.WireWords.{named_once}

-- What is fitted.

net_numbered : ℕ → NetId
net_numbered number = record { 0 = number }

nets_once : (L : LinkedView) (words : List (List ℕ)) (nets others : List NetId) → IsWellNamed L.names L.arena.lists → AreAll (IsNetOf L) words nets → AreAll (IsNetOf L) words others → nets ≡ others
unfolding net_numbered
nets_once L [] [] [] well one two = refl
nets_once L [] [] (other ∷ others) well one two = absurd two
nets_once L [] (net ∷ nets) others well one two = absurd one
nets_once L (word ∷ words) [] others well one two = absurd one
nets_once L (word ∷ words) (net ∷ nets) [] well one two = absurd two
nets_once L (word ∷ words) (net ∷ nets) (other ∷ others) well one two =
    let first : net ≡ other = ap net_numbered (named_once L word net.0 other.0 well one.0.named two.0.named) in
    let rest : nets ≡ others = nets_once L words nets others well one.1 two.1 in
    ap (λ (n : NetId). n ∷ nets) first ∙ ap (λ (ns : List NetId). other ∷ ns) rest

fitted_as : List ℕ → List ℕ → Bits → ℕ → List NetId → FittedRegister
fitted_as name instr bits count nets = record { register = record { name = name; instr = instr; bits = bits; length = count }; nets = nets }

same_as : (n m i j : List ℕ) (b c : Bits) (k l : ℕ) (ns ms : List NetId) → n ≡ m → i ≡ j → b ≡ c → k ≡ l → ns ≡ ms → fitted_as n i b k ns ≡ fitted_as m j c l ms
same_as n m i j b c k l ns ms names instrs bits counts nets = cc

register_once : (L : LinkedView) (row : StatusRow) (r s : FittedRegister) → IsWellNamed L.names L.arena.lists → IsRegister L row r → IsRegister L row s → r ≡ s
unfolding fitted_as
register_once L row r s well one two =
    same_as r.register.name s.register.name r.register.instr s.register.instr r.register.bits s.register.bits r.register.length s.register.length r.nets s.nets
    (one.name ∙ sym two.name) (one.instr ∙ sym two.instr) (one.bits ∙ sym two.bits) (one.count ∙ sym two.count) (nets_once L row.words r.nets s.nets well one.nets two.nets)

registers_once : (L : LinkedView) (rows : List StatusRow) (rs ss : List FittedRegister) → IsWellNamed L.names L.arena.lists → AreAll (IsRegister L) rows rs → AreAll (IsRegister L) rows ss → rs ≡ ss
registers_once L [] [] [] well one two = refl
registers_once L [] [] (s ∷ ss) well one two = absurd two
registers_once L [] (r ∷ rs) ss well one two = absurd one
registers_once L (row ∷ rows) [] ss well one two = absurd one
registers_once L (row ∷ rows) (r ∷ rs) [] well one two = absurd two
registers_once L (row ∷ rows) (r ∷ rs) (s ∷ ss) well one two =
    let first : r ≡ s = register_once L row r s well one.0 two.0 in
    let rest : rs ≡ ss = registers_once L rows rs ss well one.1 two.1 in
    ap (λ (x : FittedRegister). x ∷ rs) first ∙ ap (λ (xs : List FittedRegister). s ∷ xs) rest

status_of : List FittedRegister → FittedStatus
status_of registers = record { registers = registers }

fitted_once : (L : LinkedView) (plan : StatusPlan) (one other : FittedStatus) → IsWellNamed L.names L.arena.lists → IsFitted L plan one → IsFitted L plan other → one ≡ other
unfolding status_of
fitted_once L plan one other well a b = ap status_of (registers_once L plan.registers one.registers other.registers well a b)

-- The first word that names no wire's bit.

same_unnamed : (L : LinkedView) (before others more rest : List (List ℕ)) (word other : List ℕ) → before ++ word ∷ more ≡ others ++ other ∷ rest
    → AllByRecursion (IsNamed L) before → (IsNamed L word → ⊥) → AllByRecursion (IsNamed L) others → (IsNamed L other → ⊥) → word ≡ other
same_unnamed L [] [] more rest word other e named none named_too none_too = same_front word other more rest e
same_unnamed L [] (w ∷ others) more rest word other e named none named_too none_too =
    let N : List ℕ → Type 0 = IsNamed L in
    absurd (none (subst N (sym (same_front word w more (others ++ other ∷ rest) e)) named_too.0))
same_unnamed L (w ∷ before) [] more rest word other e named none named_too none_too =
    let N : List ℕ → Type 0 = IsNamed L in
    absurd (none_too (subst N (same_front w other (before ++ word ∷ more) rest e) named.0))
same_unnamed L (w ∷ before) (v ∷ others) more rest word other e named none named_too none_too =
    same_unnamed L before others more rest word other (same_rest w v (before ++ word ∷ more) (others ++ other ∷ rest) e) named.1 none named_too.1 none_too

unnamed_once : (L : LinkedView) (words : List (List ℕ)) (word other : List ℕ) → IsUnnamed L words word → IsUnnamed L words other → word ≡ other
unnamed_once L words word other one two =
    same_unnamed L one.before two.before one.more two.more word other (sym one.split ∙ two.split) one.named (λ n. one.unnamed n.0 n.1) two.named (λ n. two.unnamed n.0 n.1)

-- Faults.

fault_once : (L : LinkedView) (base : Plan) (plan : StatusPlan) (f g : StatusFault) → HasFault L base plan f → HasFault L base plan g → f ≡ g
fault_once L base plan _ _ (in_name {given} one) (in_name {given = other} two) = same_first_fault is_barred name_fault (all_given plan) given other one two
fault_once L base plan _ _ (in_name {given} one) (in_wire {word} stand two) = absurd (not_first is_barred (all_given plan) given stand one)
fault_once L base plan _ _ (in_name {given} one) (in_opcode {row} stand named two) = absurd (not_first is_barred (all_given plan) given stand one)
fault_once L base plan _ _ (in_wire {word} stand one) (in_name {given} two) = absurd (not_first is_barred (all_given plan) given stand two)
fault_once L base plan _ _ (in_wire {word} stand one) (in_wire {word = other} too two) = ap (λ (w : List ℕ). fault.StatusNet w) (unnamed_once L (words_of plan.registers) word other one two)
fault_once L base plan _ _ (in_wire {word} stand one) (in_opcode {row} too named two) = absurd (not_unnamed L (words_of plan.registers) word named one)
fault_once L base plan _ _ (in_opcode {row} stand named one) (in_name {given} two) = absurd (not_first is_barred (all_given plan) given stand two)
fault_once L base plan _ _ (in_opcode {row} stand named one) (in_wire {word} too two) = absurd (not_unnamed L (words_of plan.registers) word named two)
fault_once L base plan _ _ (in_opcode {row} stand named one) (in_opcode {row = other} too names two) = same_first_fault (is_taken base) opcode_fault plan.registers row other one two

-- Answers.

pub right_once : (L : LinkedView) (base : Plan) (plan : StatusPlan) (one other : Result FittedStatus StatusFault) → IsWellNamed L.names L.arena.lists → IsRight L base plan one → IsRight L base plan other
    → one ≡ other
right_once L base plan (Ok a) (Ok b) well one two = ap Ok (fitted_once L plan a b well one.0 two.0)
right_once L base plan (Ok a) (Err f) well one two = absurd (one.1 f two)
right_once L base plan (Err f) (Ok b) well one two = absurd (two.1 f one)
right_once L base plan (Err f) (Err g) well one two = ap Err (fault_once L base plan f g one two)
