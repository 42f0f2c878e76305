-- The netlist's own ports and their pins, one by one.
use Rattle.std.proofs.Common.{◌≡◌, ℕ, zero, suc, ◌+◌, ◌<◌, ◌≤◌, List, [], ◌∷◌, ◌++◌, length, map, take, refl, ap, sym, ◌∙◌, arith, Some}
use Rattle.std.specs.Prelude.{slice_get}
use Rattle.std.specs.List.{enumerate_from}
use Rattle.std.specs.Option.{option_map}
use Rattle.list_laws.proofs.Lists.{counted-last, map_push, slice_get_there}
use Rattle.link_model.specs.Nets.{counted_from}
use Rattle.netlist_model.specs.Lists.{PortView}
use Rattle.netlist_link.specs.Linked.{LinkedView, own_ports}
use Rattle.plan_texts.specs.declared.plan.Plan.{Plan}
use Rattle.plan_fitting.specs.declared.fitted.FitPort.{FitPort}
use Rattle.plan_fitting.specs.Pins.{PinSeen}
use Rattle.plan_fitting.specs.Devices.{fit_port}
use Rattle.plan_fitting.proofs.OwnPorts.{own_there}

-- pins of the bits so far
pub pins_more : {Y : Type 0} (f : ℕ → Y) (n : ℕ) (front new : List Y) (y : Y) → front ≡ map f (counted_from 0 n) → y ≡ f n → new ≡ front ++ y ∷ [] → new ≡ map f (counted_from 0 (n + 1))
pins_more {Y} f n front new y so_far is grown =
    let next : suc n ≡ n + 1 = omega arith in
    let here : n ≡ 0 + n = omega arith in
    grown ∙ ap (λ (l : List Y). l ++ y ∷ []) so_far ∙ ap (λ (z : Y). map f (counted_from 0 n) ++ z ∷ []) is ∙ sym (map_push f (counted_from 0 n) n)
    ∙ ap (λ (k : ℕ). map f (counted_from 0 n ++ k ∷ [])) here
    ∙ ap (map f) (sym (counted-last 0 n)) ∙ ap (λ (k : ℕ). map f (counted_from 0 k)) next

-- all ports
counted-at : {X : Type 0} (from n : ℕ) (xs : List X) (x : X) → slice_get xs n ≡ Some x → take (suc n) (enumerate_from from xs) ≡ take n (enumerate_from from xs) ++ (from + n, x) ∷ []
counted-at from n [] x at = absurd (cc)
counted-at {X} from zero (y ∷ xs) x at =
    let same : y ≡ x = cc in
    let none : from + 0 ≡ from = omega arith in
    ap (λ (z : X). (from, z) ∷ []) same ∙ ap (λ (k : ℕ). (k, x) ∷ []) (sym none)
counted-at {X} from (suc n) (y ∷ xs) x at =
    let next : from + 1 + n ≡ from + suc n = omega arith in
    ap (λ (l : List (ℕ × X)). (from, y) ∷ l) (counted-at (from + 1) n xs x at ∙ ap (λ (k : ℕ). take n (enumerate_from (from + 1) xs) ++ (k, x) ∷ []) next)

pub ports_more : (L : LinkedView) (p : Plan) (seen : List PinSeen) (n : ℕ) (front new : List FitPort) (made : FitPort) → n < length (own_ports L)
    → option_map (λ (view : PortView). fit_port L p seen (n, view)) (slice_get L.arena.lists.ports n) ≡ Some made
    → front ≡ map (fit_port L p seen) (take n (enumerate_from 0 (own_ports L))) → new ≡ front ++ made ∷ []
    → new ≡ map (fit_port L p seen) (take (n + 1) (enumerate_from 0 (own_ports L)))
ports_more L p seen n front new made own is so_far grown =
    let there = slice_get_there (own_ports L) n own in
    let view = there.0 in
    let next : suc n ≡ n + 1 = omega arith in
    let number : n ≡ 0 + n = omega arith in
    let some : Some (fit_port L p seen (n, view)) ≡ Some made = ap (option_map (λ (v : PortView). fit_port L p seen (n, v))) (sym (own_there L n view there.1)) ∙ is in
    let here : fit_port L p seen (n, view) ≡ made = cc in
    let front_is : List (ℕ × PortView) = take n (enumerate_from 0 (own_ports L)) in
    grown ∙ ap (λ (l : List FitPort). l ++ made ∷ []) so_far ∙ ap (λ (f : FitPort). map (fit_port L p seen) front_is ++ f ∷ []) (sym here)
    ∙ sym (map_push (fit_port L p seen) front_is (n, view))
    ∙ ap (λ (k : ℕ). map (fit_port L p seen) (front_is ++ (k, view) ∷ [])) number
    ∙ ap (map (fit_port L p seen)) (sym (counted-at 0 n (own_ports L) view there.1))
    ∙ ap (λ (k : ℕ). map (fit_port L p seen) (take k (enumerate_from 0 (own_ports L)))) next

pub take_all : {X : Type 0} (n : ℕ) (from : ℕ) (xs : List X) → length xs ≤ n → take n (enumerate_from from xs) ≡ enumerate_from from xs
take_all zero from [] past = refl
take_all (suc n) from [] past = refl
take_all zero from (x ∷ xs) past = absurd (omega arith)
take_all {X} (suc n) from (x ∷ xs) past = ap (λ (l : List (ℕ × X)). (from, x) ∷ l) (take_all n (from + 1) xs (omega arith))
