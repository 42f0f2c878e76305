-- The first fault of all, and that there is none.
use Rattle.std.proofs.Common.{◌≡◌, ℕ, Bool, true, false, List, [], ◌∷◌, ◌++◌, map, ap, sym, ◌∙◌, subst, Option, Some, None}
use Rattle.std.specs.Prelude.{All}
use Rattle.std.specs.Bool.{IsFalse}
use Rattle.std.specs.List.{AllByRecursion}
use Rattle.std.proofs.lemmas.List.Elements.{All-head, All-tail}
use Rattle.list_laws.specs.Lists.{AreAll}
use Rattle.netlist_link.specs.Linked.{LinkedView}
use Rattle.plan_texts.specs.declared.plan.Plan.{Plan}
use Rattle.status_fitting.specs.declared.register_texts.fault.StatusFault.{StatusFault}
use Rattle.status_fitting.specs.declared.register_texts.fault.StatusFault.TheVariants as fault
use Rattle.status_fitting.specs.declared.register_texts.plan.StatusRow.{StatusRow}
use Rattle.status_fitting.specs.declared.register_texts.plan.StatusPlan.{StatusPlan}
use Rattle.status_fitting.specs.Grammar.{RegisterWords, IsRegister as IsWritten, register_of}
use Rattle.status_fitting.specs.declared.fitted.FittedRegister.{FittedRegister}
use Rattle.status_fitting.specs.First.{Stands, IsFirst}
use Rattle.status_fitting.specs.Faults.{HasFault, HasNoFault, IsFault, IsSpelled, in_name, in_wire, in_opcode, words_of}
use Rattle.status_fitting.specs.Fitted.{IsRegister}
use Rattle.status_fitting.specs.Names.{all_given, is_barred}
use Rattle.status_fitting.specs.Opcodes.{is_taken}
use Rattle.status_fitting.specs.Steps.{fault_behind, name_fault, opcode_fault, HaveFewWords, IsNetFault}
use Rattle.status_fitting.specs.Wires.{IsNamed, IsUnnamed}
use Rattle.status_fitting.proofs.Firsts.{first_fault, no_fault_stands}
use Rattle.status_fitting.proofs.Rows.{rows_named}

-- Lines of a text have few words.

few : (source : List RegisterWords) → All IsWritten source → HaveFewWords (map register_of source)
few [] all = tt
few (r ∷ source) all = ((All-head IsWritten r source all).few, few source (All-tail IsWritten r source all))

few_words : (plan : StatusPlan) → IsSpelled plan → HaveFewWords plan.registers
few_words plan spelled =
    let s = spelled.1 in
    let F : StatusPlan → Type 0 = λ p. HaveFewWords p.registers in
    subst F (sym s.plan_is) (few s.source s.forms.each)

-- The first fault.

in_names : (L : LinkedView) (base : Plan) (plan : StatusPlan) (f : StatusFault) → fault_behind is_barred name_fault [] (all_given plan) ≡ Some f → IsFault L base plan f
in_names L base plan f some =
    let found = first_fault is_barred name_fault (all_given plan) f some in
    let F : StatusFault → Type 0 = IsFault L base plan in
    subst F found.fault (in_name found.first)

in_nets : (L : LinkedView) (base : Plan) (plan : StatusPlan) (f : StatusFault) → fault_behind is_barred name_fault [] (all_given plan) ≡ None → IsNetFault L (words_of plan.registers) f → IsFault L base plan f
in_nets L base plan (fault.StatusNet word) none is = in_wire (no_fault_stands is_barred name_fault (all_given plan) none) is
in_nets L base plan (fault.StatusLine line) none is = absurd is
in_nets L base plan (fault.StatusName word) none is = absurd is
in_nets L base plan (fault.StatusOpcode word) none is = absurd is
in_nets L base plan fault.OutOfMemory none is = tt

in_opcodes : (L : LinkedView) (base : Plan) (plan : StatusPlan) (registers : List FittedRegister) (f : StatusFault) → fault_behind is_barred name_fault [] (all_given plan) ≡ None
    → AreAll (IsRegister L) plan.registers registers → fault_behind (is_taken base) opcode_fault [] plan.registers ≡ Some f → IsFault L base plan f
in_opcodes L base plan registers f none all some =
    let found = first_fault (is_taken base) opcode_fault plan.registers f some in
    let F : StatusFault → Type 0 = IsFault L base plan in
    subst F found.fault (in_opcode (no_fault_stands is_barred name_fault (all_given plan) none) (rows_named L plan.registers registers all) found.first)

-- No fault.

pub not_first : {A : Type 0} (cannot : List A → A → Bool) (list : List A) (x : A) → Stands cannot list → IsFirst cannot list x → ⊥
not_first cannot list x stand first =
    let no : IsFalse (cannot first.before x) = stand first.before first.more x first.split in
    let both : true ≡ false = sym first.cannot_be ∙ no in
    cc

all_inside : {A : Type 0} (P : A → Type 0) (before more : List A) (x : A) → AllByRecursion P (before ++ x ∷ more) → P x
all_inside P [] more x all = all.0
all_inside P (y ∷ before) more x all = all_inside P before more x all.1

pub not_unnamed : (L : LinkedView) (words : List (List ℕ)) (word : List ℕ) → AllByRecursion (IsNamed L) words → IsUnnamed L words word → ⊥
not_unnamed L words word all first =
    let A : List (List ℕ) → Type 0 = AllByRecursion (IsNamed L) in
    let named = all_inside (IsNamed L) first.before first.more word (subst A first.split all) in
    first.unnamed named.0 named.1

no_fault : (L : LinkedView) (base : Plan) (plan : StatusPlan) → Stands is_barred (all_given plan) → AllByRecursion (IsNamed L) (words_of plan.registers) → Stands (is_taken base) plan.registers
    → (f : StatusFault) → HasFault L base plan f → ⊥
no_fault L base plan names nets opcodes _ (in_name {given} first) = not_first is_barred (all_given plan) given names first
no_fault L base plan names nets opcodes _ (in_wire {word} stand first) = not_unnamed L (words_of plan.registers) word nets first
no_fault L base plan names nets opcodes _ (in_opcode {row} stand named first) = not_first (is_taken base) plan.registers row opcodes first

fits : (L : LinkedView) (base : Plan) (plan : StatusPlan) (registers : List FittedRegister) → fault_behind is_barred name_fault [] (all_given plan) ≡ None
    → AreAll (IsRegister L) plan.registers registers → fault_behind (is_taken base) opcode_fault [] plan.registers ≡ None → HasNoFault L base plan
fits L base plan registers names all opcodes =
    no_fault L base plan (no_fault_stands is_barred name_fault (all_given plan) names) (rows_named L plan.registers registers all) (no_fault_stands (is_taken base) opcode_fault plan.registers opcodes)

-- As the parts tell it, of the same rows and netlist.

pub names_told : (L : LinkedView) (base : Plan) (plan : StatusPlan) (f : StatusFault) (found : Option StatusFault) → found ≡ fault_behind is_barred name_fault [] (all_given plan) → found ≡ Some f
    → IsFault L base plan f
names_told L base plan f found is some = in_names L base plan f (sym is ∙ some)

pub nets_told : (L M : LinkedView) (base : Plan) (plan : StatusPlan) (rows : List StatusRow) (f : StatusFault) (found : Option StatusFault) → M ≡ L → rows ≡ plan.registers
    → found ≡ fault_behind is_barred name_fault [] (all_given plan) → found ≡ None → IsNetFault M (words_of rows) f → IsFault L base plan f
nets_told L M base plan rows f found same of is none told =
    let F : LinkedView → Type 0 = λ K. IsNetFault K (words_of rows) f in
    let G : List StatusRow → Type 0 = λ rs. IsNetFault L (words_of rs) f in
    in_nets L base plan f (sym is ∙ none) (subst G of (subst F same told))

fitted_told : (L M : LinkedView) (plan : StatusPlan) (rows : List StatusRow) (registers : List FittedRegister) → M ≡ L → rows ≡ plan.registers → AreAll (IsRegister M) rows registers
    → AreAll (IsRegister L) plan.registers registers
fitted_told L M plan rows registers same of all =
    let F : LinkedView → Type 0 = λ K. AreAll (IsRegister K) rows registers in
    let G : List StatusRow → Type 0 = λ rs. AreAll (IsRegister L) rs registers in
    subst G of (subst F same all)

opcodes_of_plan : (base : Plan) (plan : StatusPlan) (rows : List StatusRow) (taken answer : Option StatusFault) → rows ≡ plan.registers
    → taken ≡ fault_behind (is_taken base) opcode_fault [] rows → taken ≡ answer → fault_behind (is_taken base) opcode_fault [] plan.registers ≡ answer
opcodes_of_plan base plan rows taken answer of is answered = ap (fault_behind (is_taken base) opcode_fault []) (sym of) ∙ sym is ∙ answered

pub opcodes_told : (L M : LinkedView) (base : Plan) (plan : StatusPlan) (rows : List StatusRow) (registers : List FittedRegister) (f : StatusFault) (found taken : Option StatusFault)
    → M ≡ L → rows ≡ plan.registers → found ≡ fault_behind is_barred name_fault [] (all_given plan) → found ≡ None → AreAll (IsRegister M) rows registers
    → taken ≡ fault_behind (is_taken base) opcode_fault [] rows → taken ≡ Some f → IsFault L base plan f
opcodes_told L M base plan rows registers f found taken same of is none all taken_is some =
    in_opcodes L base plan registers f (sym is ∙ none) (fitted_told L M plan rows registers same of all) (opcodes_of_plan base plan rows taken (Some f) of taken_is some)

pub none_told : (L M : LinkedView) (base : Plan) (plan : StatusPlan) (rows : List StatusRow) (registers : List FittedRegister) (found taken : Option StatusFault)
    → M ≡ L → rows ≡ plan.registers → found ≡ fault_behind is_barred name_fault [] (all_given plan) → found ≡ None → AreAll (IsRegister M) rows registers
    → taken ≡ fault_behind (is_taken base) opcode_fault [] rows → taken ≡ None → HasNoFault L base plan
none_told L M base plan rows registers found taken same of is none all taken_is none_taken =
    fits L base plan registers (sym is ∙ none) (fitted_told L M plan rows registers same of all) (opcodes_of_plan base plan rows taken None of taken_is none_taken)

pub few_told : (plan : StatusPlan) (rows : List StatusRow) → rows ≡ plan.registers → IsSpelled plan → HaveFewWords rows
few_told plan rows of spelled =
    let F : List StatusRow → Type 0 = HaveFewWords in
    subst F (sym of) (few_words plan spelled)
