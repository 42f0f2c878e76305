-- The first net that breaks a rule is the first that the fault's test finds.
use Rattle.std.proofs.Common.{◌≡◌, ℕ, suc, ◌+◌, ◌<◌, List, [], ◌∷◌, length, refl, ◌∙◌, ap, arith, Option, Some, None, Bool, true, false, cond}
use Rattle.std.specs.List.{zip, enumerate_from, count_by, list_any}
use Rattle.std.specs.Prelude.{nat_le}
use Rattle.std.proofs.lemmas.List.Sums.{sum_by-cons}
use Rattle.std.proofs.lemmas.Bool.Decides.{nat_tests}
use Rattle.netlist_model.specs.declared.Dir.{Dir}
use Rattle.netlist_model.specs.declared.Dir.TheVariants.{Input, Output, Inout}
use Rattle.link_model.specs.Lists.{or_else, first_in}
use Rattle.link_model.specs.Nets.{NamedNet}
use Rattle.link_model.specs.Cells.{NamedCell}
use Rattle.link_model.specs.Faults.{drives, is_read, needs_driver, driver_fault}
use Rattle.link_rules.specs.declared.drivers.uses.NetUses.{NetUses}
use Rattle.link_rules.specs.declared.drivers.rule.Rule.{Rule}
use Rattle.link_rules.specs.declared.drivers.rule.Rule.TheVariants.{OneDriver, InputsFree, Driven, WiresTwoState, BufifUnread, InoutsByBufif}
use Rattle.link_rules.specs.Uses.{uses_at, uses_among}
use Rattle.link_rules.specs.Rules.{rules, broken, wants_driver, test_of}

-- some are counted where one passes
pub counted_any : {X : Type 0} (p : X → Bool) (xs : List X) → nat_le 1 (count_by p xs) ≡ list_any p xs
counted_any p [] = refl
counted_any p (x ∷ xs) = by (p x) refl (counted_any p xs)
  where
    by : (b : Bool) → p x ≡ b → nat_le 1 (count_by p xs) ≡ list_any p xs → nat_le 1 (count_by p (x ∷ xs)) ≡ list_any p (x ∷ xs)
    by true e rest = let count = sum_by-cons (λ y. cond (p y) 1 0) x xs in grind (arith, nat_tests, e, count)
    by false e rest = let count = sum_by-cons (λ y. cond (p y) 1 0) x xs in grind (arith, nat_tests, e, count, rest)

wants_needs : (cells : List NamedCell) (net : ℕ) (dir : Option Dir) → wants_driver (is_read cells net) dir ≡ needs_driver cells net dir
wants_needs cells net (Some Input) = refl
wants_needs cells net (Some Output) = refl
wants_needs cells net (Some Inout) = refl
wants_needs cells net None = refl

broken-uses_among : (rule : Rule) (cells : List NamedCell) (number : ℕ) (net : NamedNet) → broken rule (uses_among cells number, net) ≡ test_of rule cells (number, net)
broken-uses_among OneDriver cells number net = refl
broken-uses_among InputsFree cells number net = rw counted_any refl
broken-uses_among Driven cells number net = rw (wants_needs cells number net.dir, counted_any (drives number) cells) refl
broken-uses_among WiresTwoState cells number net = refl
broken-uses_among BufifUnread cells number net = refl
broken-uses_among InoutsByBufif cells number net = refl

-- along the nets from one on
pub first_in-broken : (rule : Rule) (cells : List NamedCell) (uses : List NetUses) (nets : List NamedNet) (first : ℕ) → length uses ≡ length nets
    → ((k : ℕ) → k < length nets → uses_at uses k ≡ uses_among cells (first + k))
    → first_in (broken rule) (zip uses nets) ≡ first_in (test_of rule cells) (enumerate_from first nets)
first_in-broken rule cells [] [] first same each = refl
first_in-broken rule cells [] (n ∷ ns) first same each = absurd (omega arith)
first_in-broken rule cells (u ∷ us) [] first same each = absurd (omega arith)
first_in-broken rule cells (u ∷ us) (n ∷ ns) first same each =
    let here : u ≡ uses_among cells first = each 0 (omega arith) ∙ ap (uses_among cells) (omega arith) in
    let told : broken rule (u, n) ≡ test_of rule cells (first, n) = ap (λ (v : NetUses). broken rule (v, n)) here ∙ broken-uses_among rule cells first n in
    let rest = first_in-broken rule cells us ns (first + 1) (omega arith) (λ k h. each (suc k) (omega arith) ∙ ap (uses_among cells) (omega arith)) in
    ap (λ o. or_else o (first_in (broken rule) (zip us ns))) told ∙ ap (or_else (test_of rule cells (first, n))) rest

or_else-none : {X : Type 0} (o : Option X) → or_else o None ≡ o
or_else-none None = refl
or_else-none (Some x) = refl

-- rule by rule
pub first_rule : (cells : List NamedCell) (uses : List NetUses) (nets : List NamedNet) → length uses ≡ length nets → ((k : ℕ) → k < length nets → uses_at uses k ≡ uses_among cells k)
    → first_in (λ rule. first_in (broken rule) (zip uses nets)) rules ≡ driver_fault nets cells
first_rule cells uses nets same each =
    let at : (rule : Rule) → first_in (broken rule) (zip uses nets) ≡ first_in (test_of rule cells) (enumerate_from 0 nets) = λ rule. first_in-broken rule cells uses nets 0 same (λ k h. each k h ∙ ap (uses_among cells) (omega arith)) in
    rw (at OneDriver, at InputsFree, at Driven, at WiresTwoState, at BufifUnread, at InoutsByBufif, or_else-none (first_in (test_of InoutsByBufif cells) (enumerate_from 0 nets))) refl
