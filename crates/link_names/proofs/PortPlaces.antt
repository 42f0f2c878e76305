-- The ports of a cell, place by place.
use Rattle.std.proofs.Common.{◌≡◌, ℕ, suc, ◌+◌, ◌∙◌, true, false, List, [], ◌∷◌, ◌++◌, map, take, drop, slice_get, Some, refl, sym, arith, ap}
use Rattle.list_laws.proofs.Lists.{taken_more, left_at, map_push}
use Rattle.verilog_tree.specs.declared.tree.Link.{Link}
use Rattle.link_model.specs.declared.fault.LinkFault.TheVariants.{PortMissing}
use Rattle.link_model.specs.Faults.{is_connected}
use Rattle.link_names.specs.Tests.{missing_port}

-- one operand more
pub fed_more : {X Y : Type 0} (f : X → Y) (xs : List X) (i : ℕ) (x : X) (front new : List Y) → slice_get xs i ≡ Some x → front ≡ map f (take i xs) → new ≡ front ++ f x ∷ []
    → new ≡ map f (take (i + 1) xs)
fed_more f xs i x front new at so_far grown =
    let more : take i xs ++ x ∷ [] ≡ take (i + 1) xs = taken_more xs i x (take i xs) (take i xs ++ x ∷ []) at refl refl in
    grown ∙ ap (λ l. l ++ f x ∷ []) so_far ∙ sym (map_push f (take i xs) x) ∙ ap (map f) more

-- a port that is connected is passed, and one that isn't is told
pub missing_next : (name : List ℕ) (links : List Link) (ports : List (List ℕ)) (i : ℕ) (port : List ℕ) → slice_get ports i ≡ Some port → is_connected links port ≡ true
    → missing_port name links (drop i ports) ≡ missing_port name links ports → missing_port name links (drop (i + 1) ports) ≡ missing_port name links ports
missing_next name links ports i port at connected so_far =
    let next : i + 1 ≡ suc i = omega arith in
    let left : drop i ports ≡ port ∷ drop (suc i) ports = left_at ports i port at in
    let here : missing_port name links (port ∷ drop (suc i) ports) ≡ missing_port name links (drop (suc i) ports) = rw connected refl in
    ap (λ (k : ℕ). missing_port name links (drop k ports)) next ∙ sym here ∙ ap (missing_port name links) (sym left) ∙ so_far

pub missing_here : (name : List ℕ) (links : List Link) (ports : List (List ℕ)) (i : ℕ) (port : List ℕ) → slice_get ports i ≡ Some port → is_connected links port ≡ false
    → missing_port name links (drop i ports) ≡ missing_port name links ports → Some (PortMissing name port) ≡ missing_port name links ports
missing_here name links ports i port at left_open so_far =
    let left : drop i ports ≡ port ∷ drop (suc i) ports = left_at ports i port at in
    let here : missing_port name links (port ∷ drop (suc i) ports) ≡ Some (PortMissing name port) = rw left_open refl in
    sym here ∙ ap (missing_port name links) (sym left) ∙ so_far
