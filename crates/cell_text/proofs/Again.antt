-- A cell's words, read again.
use Rattle.std.proofs.Common.{◌≡◌, ◌≤◌, ◌<◌, ℕ, suc, ◌+◌, ◌-◌, Bool, true, false, ◌&&◌, ◌==◌, not, if◌then◌else◌, List, [], ◌∷◌, ◌++◌, map, length, codes, slice_get, slice_index_or, get_or, position, is_none, nat_le, Option, Some, None, option_and_then, All, refl, sym, ap, ◌∙◌, arith, eq-eqb, eqb-true, leb-true, ltb-true}
use Rattle.std.specs.Str.{bytes_eq}
use Rattle.std.specs.List.{list_all, AllByRecursion}
use Rattle.std.proofs.lemmas.Slice.Eq.{bytes_eq-Decides}
use Rattle.std.proofs.lemmas.List.{length-map}
use Rattle.std.proofs.lemmas.List.Elements.{All-nil, All-cons, All-head, All-tail}
use Rattle.std.proofs.lemmas.List.Quantifiers.{position-Some}
use Rattle.std.proofs.lemmas.Option.{slice_get-get_or}
use Rattle.list_laws.proofs.Bytes.{bytes_eq-same, bytes_eq-sym}
use Rattle.list_laws.proofs.Lists.{any_at, position_none, slice_get_there, test_at, all_at}
use Rattle.list_laws.proofs.Tests.{and_left, and_right, and_true, neither, both_false}
use Rattle.verilog_lexicon.specs.Keywords as keys
use Rattle.texts.specs.Repeated.{has_name, repeated_after, repeated}
use Rattle.texts.proofs.Tables.{not_before}
use Rattle.cell_library.specs.declared.FlopKind.{FlopKind}
use Rattle.cell_library.specs.declared.Edge.{Edge}
use Rattle.cell_library.specs.declared.Edge.TheVariants.{Rise, Fall}
use Rattle.cell_library.specs.declared.ResetTo.{ResetTo}
use Rattle.cell_library.specs.declared.ResetTo.TheVariants.{Nothing, Zero as ToZero, One as ToOne}
use Rattle.cell_library.specs.declared.listed.Step.{Step}
use Rattle.cell_library.specs.declared.listed.Step.TheVariants as step
use Rattle.cell_library.specs.declared.listed.Body.{Body}
use Rattle.cell_library.specs.declared.listed.Body.TheVariants as body
use Rattle.cell_library.specs.declared.listed.ListedCell.{ListedCell}
use Rattle.cell_library.specs.Gates.{flop_operand_count}
use Rattle.cell_library.specs.Library.{flop_name}
use Rattle.cell_library.specs.Ports.{AreApart}
use Rattle.cell_library.specs.Sound.{is_port_name, IsPort, wants, is_of, leaves_one, is_sound_body, IsSoundCell}
use Rattle.cell_library.proofs.PortLaws.{apart_once}
use Rattle.cell_text.specs.Words.{Words, is_colon, flop_named, step_word, step_named, step_of, input_or}
use Rattle.cell_text.specs.Lines.{takes, is_cell_line}
use Rattle.cell_text.specs.Cells.{are_ports, put_before, steps_of, sound_steps, cell_of, with_ports, gate_of, flop_of, cell_in}
use Rattle.cell_text.specs.Grammar.{body_words, cell_words}
use Rattle.cell_text.proofs.Borrowed.{index_at}
use Rattle.cell_text.proofs.Parts.{is_parted, parted_there}

-- Ports.

ports_pass : (ports : Words) → All IsPort ports → list_all is_port_name ports ≡ true
ports_pass [] all = refl
ports_pass (p ∷ ports) all = and_true (is_port_name p) (list_all is_port_name ports) (All-head IsPort p ports all) (ports_pass ports (All-tail IsPort p ports all))

pub passed_ports : (ports : Words) → list_all is_port_name ports ≡ true → All IsPort ports
passed_ports [] pass = All-nil IsPort
passed_ports (p ∷ ports) pass =
    All-cons IsPort p ports (and_left (is_port_name p) (list_all is_port_name ports) pass) (passed_ports ports (and_right (is_port_name p) (list_all is_port_name ports) pass))

has_none : (before : Words) (name n : List ℕ) → has_name before n ≡ false → bytes_eq n name ≡ false → has_name (before ++ name ∷ []) n ≡ false
has_none [] name n none other = rw other refl
has_none (x ∷ before) name n none other =
    let both = both_false (bytes_eq n x) (has_name before n) none in neither (bytes_eq n x) (has_name (before ++ name ∷ []) n) both.0 (has_none before name n both.1 other)

had_none : (before : Words) (name n : List ℕ) → has_name (before ++ name ∷ []) n ≡ false → (has_name before n ≡ false) × (bytes_eq n name ≡ false)
had_none [] name n none = (refl, (both_false (bytes_eq n name) false none).0)
had_none (x ∷ before) name n none =
    let both = both_false (bytes_eq n x) (has_name (before ++ name ∷ []) n) none in
    let more = had_none before name n both.1 in
    (neither (bytes_eq n x) (has_name before n) both.0 more.0, more.1)

none_repeated : (before ports : Words) → AreApart ports → ((k : ℕ) (p : List ℕ) → slice_get ports k ≡ Some p → has_name before p ≡ false) → repeated_after before ports ≡ None
none_repeated before [] apart new = refl
none_repeated before (p ∷ ports) apart new =
    ap (λ (b : Bool). if b then Some p else repeated_after (before ++ p ∷ []) ports) (new 0 p refl)
    ∙ none_repeated (before ++ p ∷ []) ports apart.1 (λ k n at. has_none before p n (new (suc k) n at)
    (bytes_eq-sym n p ∙ all_at (λ (other : List ℕ). bytes_eq p other ≡ false) ports k n apart.0 at))

all_so : {X : Type 0} (P Q : X → Type 0) (xs : List X) → ((x : X) → P x → Q x) → AllByRecursion P xs → AllByRecursion Q xs
all_so P Q [] f all = tt
all_so P Q (x ∷ xs) f all = (f x all.0, all_so P Q xs f all.1)

apart_from : (before ports : Words) → repeated_after before ports ≡ None → AreApart ports × AllByRecursion (λ (p : List ℕ). has_name before p ≡ false) ports
apart_from before [] none = (tt, tt)
apart_from before (p ∷ ports) none =
    let here = not_before before ports p none in
    let more = apart_from (before ++ p ∷ []) ports here.1 in (
      (all_so (λ (n : List ℕ). has_name (before ++ p ∷ []) n ≡ false) (λ (n : List ℕ). bytes_eq p n ≡ false) ports (λ n h. bytes_eq-sym p n ∙ (had_none before p n h).1) more.1, more.0),
      (here.0, all_so (λ (n : List ℕ). has_name (before ++ p ∷ []) n ≡ false) (λ (n : List ℕ). has_name before n ≡ false) ports (λ n h. (had_none before p n h).0) more.1),
    )

pub none_is : {X : Type 0} (o : Option X) → is_none o ≡ true → o ≡ None
none_is None e = refl
none_is (Some x) e = absurd (cc)

pub ports_apart : (ports : Words) → are_ports ports ≡ true → AreApart ports
ports_apart ports are = (apart_from [] ports (none_is (repeated ports) (and_right (list_all is_port_name ports) (is_none (repeated ports)) are))).0

pub ports_are : (ports : Words) → All IsPort ports → AreApart ports → are_ports ports ≡ true
ports_are ports all apart =
    and_true (list_all is_port_name ports) (is_none (repeated ports)) (ports_pass ports all) (ap is_none (none_repeated [] ports apart (λ k p at. refl)))

-- Steps.

no_input : (inputs : Words) (w : List ℕ) → list_all is_port_name inputs ≡ true → is_port_name w ≡ false → position (λ (name : List ℕ). bytes_eq name w) inputs ≡ None
no_input inputs w ports other = by (position (λ (name : List ℕ). bytes_eq name w) inputs) refl
  where
    by : (o : Option ℕ) → position (λ (name : List ℕ). bytes_eq name w) inputs ≡ o → position (λ (name : List ℕ). bytes_eq name w) inputs ≡ None
    by None e = e
    by (Some k) e =
        let found = position-Some (λ (name : List ℕ). bytes_eq name w) inputs k [] e in
        let there = slice_get-get_or inputs k [] found.0 in
        let pass : is_port_name (get_or inputs k []) ≡ true = test_at is_port_name inputs k (get_or inputs k []) ports there in
        let same : get_or inputs k [] ≡ w = (bytes_eq-Decides (get_or inputs k []) w).0 found.1 in
        absurd (let clash : true ≡ false = sym pass ∙ ap is_port_name same ∙ other in cc)

input_found : (inputs : Words) (k : ℕ) (w : List ℕ) → AreApart inputs → slice_get inputs k ≡ Some w → position (λ (name : List ℕ). bytes_eq name w) inputs ≡ Some k
input_found inputs k w apart at = by (position (λ (name : List ℕ). bytes_eq name w) inputs) refl
  where
    by : (o : Option ℕ) → position (λ (name : List ℕ). bytes_eq name w) inputs ≡ o → position (λ (name : List ℕ). bytes_eq name w) inputs ≡ Some k
    by None e =
        let none = position_none (λ (name : List ℕ). bytes_eq name w) inputs e in
        let some = any_at (λ (name : List ℕ). bytes_eq name w) inputs k w at (bytes_eq-same w) in
        absurd (let clash : true ≡ false = sym some ∙ none in cc)
    by (Some j) e =
        let found = position-Some (λ (name : List ℕ). bytes_eq name w) inputs j w e in
        let same : get_or inputs j w ≡ w = (bytes_eq-Decides (get_or inputs j w) w).0 found.1 in
        let there : slice_get inputs j ≡ Some w = slice_get-get_or inputs j w found.0 ∙ ap (λ (n : List ℕ). Some n) same in
        e ∙ ap (λ (m : ℕ). Some m) (apart_once inputs j k w apart there at)

op_again : (inputs : Words) (w : List ℕ) (s : Step) → list_all is_port_name inputs ≡ true → is_port_name w ≡ false → step_named w ≡ Some s → step_of inputs w ≡ Some s
op_again inputs w s ports other named = ap (λ (o : Option ℕ). input_or o (step_named w)) (no_input inputs w ports other) ∙ named

step_again : (inputs : Words) (s : Step) → list_all is_port_name inputs ≡ true → AreApart inputs → is_of (length inputs) s ≡ true → step_of inputs (step_word inputs s) ≡ Some s
unfolding keys.reserved_of keys.spelling_of
step_again inputs (step.Input k) ports apart of =
    let there = slice_get_there inputs k (ltb-true k (length inputs) of) in
    let word : slice_index_or inputs k [] ≡ there.0 = index_at inputs k there.0 there.1 in
    ap (step_of inputs) word ∙ ap (λ (o : Option ℕ). input_or o (step_named there.0)) (input_found inputs k there.0 apart there.1)
step_again inputs (step.Const false) ports apart of = op_again inputs (codes "0") (step.Const false) ports refl refl
step_again inputs (step.Const true) ports apart of = op_again inputs (codes "1") (step.Const true) ports refl refl
step_again inputs step.Not ports apart of = op_again inputs (codes "not") step.Not ports refl refl
step_again inputs step.And ports apart of = op_again inputs (codes "and") step.And ports refl refl
step_again inputs step.Or ports apart of = op_again inputs (codes "or") step.Or ports refl refl
step_again inputs step.Xor ports apart of = op_again inputs (codes "xor") step.Xor ports refl refl
step_again inputs step.Mux ports apart of = op_again inputs (codes "mux") step.Mux ports refl refl

steps_again : (inputs : Words) (depth : ℕ) (steps : List Step) → list_all is_port_name inputs ≡ true → AreApart inputs → leaves_one (length inputs) depth steps ≡ true
    → steps_of inputs (map (step_word inputs) steps) ≡ Some steps
steps_again inputs depth [] ports apart sound = refl
steps_again inputs depth (s ∷ steps) ports apart sound =
    let next = depth - wants s + 1 in
    let count = length inputs in
    let of = and_left (is_of count s) (nat_le (wants s) depth && (nat_le next 16 && leaves_one count next steps)) sound in
    let a = and_right (is_of count s) (nat_le (wants s) depth && (nat_le next 16 && leaves_one count next steps)) sound in
    let b = and_right (nat_le (wants s) depth) (nat_le next 16 && leaves_one count next steps) a in
    let c = and_right (nat_le next 16) (leaves_one count next steps) b in
    ap (λ (o : Option Step). put_before o (steps_of inputs (map (step_word inputs) steps))) (step_again inputs s ports apart of)
    ∙ ap (put_before (Some s)) (steps_again inputs next steps ports apart c)

-- Cells.

no_colons : (inputs : Words) → list_all is_port_name inputs ≡ true → list_all (λ w. not (is_colon w)) inputs ≡ true
no_colons [] ports = refl
no_colons (w ∷ inputs) ports =
    and_true (not (is_colon w)) (list_all (λ w. not (is_colon w)) inputs) (by (is_colon w) refl) (no_colons inputs (and_right (is_port_name w) (list_all is_port_name inputs) ports))
  where
    by : (b : Bool) → is_colon w ≡ b → not b ≡ true
    by false e = refl
    by true e =
        let same : w ≡ codes ":" = (bytes_eq-Decides w (codes ":")).0 e in
        let port : is_port_name w ≡ true = and_left (is_port_name w) (list_all is_port_name inputs) ports in
        let none : is_port_name (codes ":") ≡ false = refl in
        absurd (let clash : true ≡ false = sym port ∙ ap is_port_name same ∙ none in cc)

-- the counts of a sound gate
pub record IsGateBody (count : ℕ) (steps : List Step) : Type 0 where
  pub inputs : count ≤ 16
  pub some : 1 ≤ length steps
  pub short : length steps ≤ 64
  pub one : leaves_one count 0 steps ≡ true

pub gate_body : (count : ℕ) (steps : List Step) → is_sound_body count (body.Gate steps) ≡ true → IsGateBody count steps
gate_body count steps sound =
    let a = and_right (nat_le count 16) (nat_le 1 (length steps) && (nat_le (length steps) 64 && leaves_one count 0 steps)) sound in
    let b = and_right (nat_le 1 (length steps)) (nat_le (length steps) 64 && leaves_one count 0 steps) a in
    record {
      inputs = leb-true count 16 (and_left (nat_le count 16) (nat_le 1 (length steps) && (nat_le (length steps) 64 && leaves_one count 0 steps)) sound);
      some = leb-true 1 (length steps) (and_left (nat_le 1 (length steps)) (nat_le (length steps) 64 && leaves_one count 0 steps) a);
      short = leb-true (length steps) 64 (and_left (nat_le (length steps) 64) (leaves_one count 0 steps) b);
      one = and_right (nat_le (length steps) 64) (leaves_one count 0 steps) b;
    }

gate_again : (name output : List ℕ) (inputs : Words) (steps : List Step) → are_ports (output ∷ inputs) ≡ true → AreApart inputs → IsGateBody (length inputs) steps
    → cell_in (body_words name output inputs (body.Gate steps)) ≡ Some (cell_of name output inputs (body.Gate steps))
gate_again name output inputs steps are apart counts =
    let sts = map (step_word inputs) steps in
    let l : length sts ≡ length steps = length-map steps (step_word inputs) in
    let all : list_all is_port_name (output ∷ inputs) ≡ true = and_left (list_all is_port_name (output ∷ inputs)) (is_none (repeated (output ∷ inputs))) are in
    let ports : list_all is_port_name inputs ≡ true = and_right (is_port_name output) (list_all is_port_name inputs) all in
    let few = counts.inputs in
    let split = parted_there [] inputs sts (no_colons inputs ports) (omega arith) (rw l counts.some) (rw l counts.short) in
    let read = steps_again inputs 0 steps ports apart counts.one in
    ap (option_and_then (λ (parts : Words × Words). gate_of name (output ∷ parts.0) parts.1)) split
    ∙ ap (λ (o : Option (List Step)). option_and_then (λ steps. with_ports name (output ∷ inputs) (body.Gate steps)) (option_and_then (sound_steps (length inputs)) o)) read
    ∙ ap (λ (b : Bool). option_and_then (λ steps. with_ports name (output ∷ inputs) (body.Gate steps)) (if b then Some steps else None)) counts.one
    ∙ ap (λ (b : Bool). if b then Some (cell_of name output inputs (body.Gate steps)) else None) are

name_there : (edge : Edge) (reset : ResetTo) → flop_named (flop_name edge reset) ≡ Some (record { edge = edge; reset = reset })
name_there Rise Nothing = refl
name_there Fall Nothing = refl
name_there Rise ToZero = refl
name_there Fall ToZero = refl
name_there Rise ToOne = refl
name_there Fall ToOne = refl

pub flop_there : (kind : FlopKind) → flop_named (flop_name kind.edge kind.reset) ≡ Some kind
flop_there kind = name_there kind.edge kind.reset

flop_again : (name output : List ℕ) (inputs : Words) (kind : FlopKind) → are_ports (output ∷ inputs) ≡ true → length inputs ≡ flop_operand_count kind.reset
    → cell_in (body_words name output inputs (body.Flop kind)) ≡ Some (cell_of name output inputs (body.Flop kind))
flop_again name output inputs kind are count =
    let all : takes (output ∷ inputs) kind ≡ true = eq-eqb (suc (length inputs)) (1 + flop_operand_count kind.reset) (omega arith) in
    ap (option_and_then (flop_of name (output ∷ inputs))) (flop_there kind)
    ∙ ap (λ (b : Bool). if b then with_ports name (output ∷ inputs) (body.Flop kind) else None) all
    ∙ ap (λ (b : Bool). if b then Some (cell_of name output inputs (body.Flop kind)) else None) are

-- a sound cell is read from its words
pub cell_again : (cell : ListedCell) → IsSoundCell cell → cell_in (cell_words cell) ≡ Some cell
cell_again cell sound = by cell.body sound.body
  where
    are : are_ports (cell.output ∷ cell.inputs) ≡ true
    are = ports_are (cell.output ∷ cell.inputs) sound.ports sound.apart

    by : (b : Body) → is_sound_body (length cell.inputs) b ≡ true → cell_in (body_words cell.name cell.output cell.inputs b) ≡ Some (cell_of cell.name cell.output cell.inputs b)
    by (body.Gate steps) s = gate_again cell.name cell.output cell.inputs steps are sound.apart.1 (gate_body (length cell.inputs) steps s)
    by (body.Flop kind) s = flop_again cell.name cell.output cell.inputs kind are (eqb-true (length cell.inputs) (flop_operand_count kind.reset) s)

-- the words of a cell have the form of its line
pub cell_has_form : (cell : ListedCell) → is_sound_body (length cell.inputs) cell.body ≡ true → is_cell_line (cell_words cell) ≡ true
cell_has_form cell sound = by cell.body sound
  where
    by : (b : Body) → is_sound_body (length cell.inputs) b ≡ true → is_cell_line (body_words cell.name cell.output cell.inputs b) ≡ true
    by (body.Gate steps) s =
        let g = gate_body (length cell.inputs) steps s in
        let few = g.inputs in
        let l : length (map (step_word cell.inputs) steps) ≡ length steps = length-map steps (step_word cell.inputs) in
        is_parted [] cell.inputs (map (step_word cell.inputs) steps) (omega arith) (rw l g.some) (rw l g.short)
    by (body.Flop kind) s =
        let count = eqb-true (length cell.inputs) (flop_operand_count kind.reset) s in
        rw (flop_there kind) (eq-eqb (suc (length cell.inputs)) (1 + flop_operand_count kind.reset) (omega arith))
