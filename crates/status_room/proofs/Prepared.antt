-- What preparing for registers comes to.
use Rattle.std.proofs.Common.{◌≡◌, ℕ, ◌+◌, ◌≤◌, max, List, length, Option, Some, None, Result, Ok, Err, refl, sym, ◌∙◌, ap, subst, arith}
use Rattle.std.specs.Prelude.{MatchOption, IsOkUnless, OnOk}
use Rattle.netlist_model.specs.Lists.{NetlistView, cell_count}
use Rattle.netlist_arena.specs.Room.{too_many}
use Rattle.netlist_arena.specs.declared.room.ReserveFault.{ReserveFault}
use Rattle.netlist_arena.specs.declared.room.ReserveFault.TheVariants as reserve
use Rattle.netlist_link.specs.Drafts.{reserved}
use Rattle.netlist_link.specs.Linked.{LinkedView}
use Rattle.plan_fitting.specs.declared.fitted.Fitted.{Fitted}
use Rattle.scan_stitch.specs.written_netlists.Prepared.{room_of, ports_of, prepared}
use Rattle.status_room.specs.Prepared.{prepared_with}
use Rattle.status_room.proofs.Limits.{too_many_less}

-- Room.

-- a linked netlist with these numbers for its room
abbrev numbered : LinkedView → List (List ℕ) → ℕ → ℕ → ℕ → ℕ → ℕ → LinkedView
numbered L names cells nets ports all_cells all_nets = record L {
  arena = record L.arena { spare = record { cells = cells; nets = nets; port_bits = ports } };
  room = record { cells = all_cells; nets = all_nets };
  names = names;
}

max_more : (a less more : ℕ) → less ≤ more → max (max a more) less ≡ max a more
max_more a less more low = omega (arith, low)

max_twice : (a b : ℕ) → max (max a b) b ≡ max a b
max_twice a b = omega arith

-- room for less is there where there is room for more
prepared_twice : (f : Fitted) (extra : ℕ) (L : LinkedView) → prepared f (reserved (room_of f + extra) (room_of f + extra) (ports_of f) L) ≡ prepared_with f extra L
prepared_twice f extra L =
    let less : ℕ = room_of f in
    let more : ℕ = room_of f + extra in
    let low : less ≤ more = omega arith in
    let n : ℕ = length L.arena.lists.nets in
    let c : ℕ = cell_count L.arena.lists in
    let names : List (List ℕ) = (prepared_with f extra L).names in
    let cells = max_more L.arena.spare.cells less more low in
    let nets = max_more L.arena.spare.nets less more low in
    let ports = max_twice L.arena.spare.port_bits (ports_of f) in
    let all_cells : max (max L.room.cells (c + more)) (c + less) ≡ max L.room.cells (c + more) = max_more L.room.cells (c + less) (c + more) (omega (arith, low)) in
    let all_nets : max (max L.room.nets (n + more)) (n + less) ≡ max L.room.nets (n + more) = max_more L.room.nets (n + less) (n + more) (omega (arith, low)) in
    ap (λ (x : ℕ). numbered L names x (max (max L.arena.spare.nets more) less) (max (max L.arena.spare.port_bits (ports_of f)) (ports_of f)) (max (max L.room.cells (c + more)) (c + less))
    (max (max L.room.nets (n + more)) (n + less))) cells
    ∙ ap (λ (x : ℕ). numbered L names (max L.arena.spare.cells more) x (max (max L.arena.spare.port_bits (ports_of f)) (ports_of f)) (max (max L.room.cells (c + more)) (c + less))
    (max (max L.room.nets (n + more)) (n + less))) nets
    ∙ ap (λ (x : ℕ). numbered L names (max L.arena.spare.cells more) (max L.arena.spare.nets more) x (max (max L.room.cells (c + more)) (c + less)) (max (max L.room.nets (n + more)) (n + less))) ports
    ∙ ap (λ (x : ℕ). numbered L names (max L.arena.spare.cells more) (max L.arena.spare.nets more) (max L.arena.spare.port_bits (ports_of f)) x (max (max L.room.nets (n + more)) (n + less))) all_cells
    ∙ ap (λ (x : ℕ). numbered L names (max L.arena.spare.cells more) (max L.arena.spare.nets more) (max L.arena.spare.port_bits (ports_of f)) (max L.room.cells (c + more)) x) all_nets

-- after both steps
pub prepared_is : (f : Fitted) (extra all asked : ℕ) (L middle new : LinkedView) → all ≡ room_of f + extra → asked ≡ ports_of f → middle ≡ reserved all all asked L → new ≡ prepared f middle
    → new ≡ prepared_with f extra L
prepared_is f extra all asked L middle new all_is asked_is middle_is is =
    is ∙ ap (prepared f) middle_is ∙ ap (λ (n : ℕ). prepared f (reserved n n asked L)) all_is
    ∙ ap (λ (p : ℕ). prepared f (reserved (room_of f + extra) (room_of f + extra) p L)) asked_is ∙ prepared_twice f extra L

-- Answers.

abbrev pub IsAnswer : {T : Type 0} → Option ReserveFault → Result T ReserveFault → Type 0
IsAnswer o r = MatchOption o (IsOkUnless r reserve.OutOfMemory) (λ (fault : ReserveFault). r ≡ Err fault)

went_well : {T : Type 0} (o : Option ReserveFault) (x : T) → IsAnswer {T = T} o (Ok x) → o ≡ None
went_well None x answer = refl
went_well (Some f) x answer = absurd (cc)

-- where more was had, the answer for less is that for more
pub answer_is : {T U : Type 0} (N M : NetlistView) (less more all ports asked : ℕ) (x : U) (r : Result T ReserveFault) → M ≡ N → all ≡ more → asked ≡ ports → less ≤ more
    → IsAnswer {T = U} (too_many N all all asked) (Ok x) → IsAnswer (too_many M less less ports) r → IsAnswer (too_many N more more ports) r
answer_is {T} {U} N M less more all ports asked x r same all_is asked_is low first answer =
    let none : too_many N all all asked ≡ None = went_well (too_many N all all asked) x first in
    let Q : ℕ → ℕ → Type 0 = λ n p. too_many N n n p ≡ None in
    let none_more : Q more ports = subst (λ (p : ℕ). Q more p) asked_is (subst (λ (n : ℕ). Q n asked) all_is none) in
    let P : Option ReserveFault → Type 0 = λ o. IsAnswer o r in
    subst P (sym none_more) (subst P (too_many_less N less more ports low none_more) (subst (λ (K : NetlistView). P (too_many K less less ports)) same answer))

pub ok_is : {T : Type 0} (r : Result T ReserveFault) (A B : Type 0) → (A → B) → OnOk r A → OnOk r B
ok_is (Ok x) A B to h = to h
ok_is (Err e) A B to h = tt
