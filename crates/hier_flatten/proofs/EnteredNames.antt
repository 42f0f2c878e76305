-- Names that are entered, and nets that are named but not declared.
use Rattle.std.proofs.Common.{◌≡◌, ℕ, zero, suc, ◌+◌, ◌<◌, ◌≤◌, Bool, true, false, cond, not, if◌then◌else◌, ◌||◌, List, [], ◌∷◌, ◌++◌, length, map, take, position, Option, Some, None, refl, sym, ap, ◌∙◌, arith, ltb-true, ltb-false, append_assoc, append-nil, length-append}
use Rattle.std.specs.Prelude.{slice_get, nat_lt, is_none}
use Rattle.std.specs.List.{list_any, position_or_len}
use Rattle.std.specs.Str.{bytes_eq}
use Rattle.std.proofs.lemmas.Option.{cond_some}
use Rattle.std.proofs.lemmas.List.{take-append-le}
use Rattle.std.proofs.lemmas.List.Concat.{flat_map-append}
use Rattle.list_laws.specs.Options.{or_else}
use Rattle.list_laws.proofs.Options.{none_some}
use Rattle.list_laws.proofs.Lists.{any_at, in_front, position_none}
use Rattle.list_laws.proofs.Bytes.{bytes_eq-same}
use Rattle.texts.specs.Repeated.{has_name}
use Rattle.verilog_tree.specs.declared.tree.Range.{Range}
use Rattle.verilog_tree.specs.declared.tree.Bit.{Bit}
use Rattle.verilog_tree.specs.declared.tree.Module.{Module}
use Rattle.link_model.specs.Nets.{Declared, declared_names, declared_as}
use Rattle.hier_model.specs.declared.fault.HierFault.{HierFault}
use Rattle.hier_model.specs.declared.fault.HierFault.TheVariants as fault
use Rattle.hier_model.specs.Names.{flat_name}
use Rattle.hier_model.specs.Faults.{NameCheck, enters, refers, is_long, net_check, bad_name_after}
use Rattle.hier_flatten.specs.Nets.{range_named}
use Rattle.hier_flatten.specs.NameChecks.{seen_after, Checks, net_checks}
use Rattle.hier_flatten.proofs.Declared.{declared_range, none_declared, some_declared}
use Rattle.hier_flatten.proofs.NameLaws.{checks_behind, seen_behind}

-- Names in a table.

pub name_found : (names : List (List ℕ)) (name : List ℕ) (number : ℕ) → slice_get names number ≡ Some name → has_name names name ≡ true
name_found names name number at = any_at (bytes_eq name) names number name at (bytes_eq-same name)

pub name_absent : (names : List (List ℕ)) (name : List ℕ) → position (bytes_eq name) names ≡ None → has_name names name ≡ false
name_absent names name none = position_none (bytes_eq name) names none

place_below : {X : Type 0} (p : X → Bool) (xs : List X) (d : ℕ) → list_any p (take d xs) ≡ true → position_or_len p xs < d
place_below p [] zero any = let no : false ≡ true = any in absurd (cc)
place_below p [] (suc d) any = omega arith
place_below p (x ∷ xs) zero any = let no : false ≡ true = any in absurd (cc)
place_below p (x ∷ xs) (suc d) any = by (p x) any (place_below p xs d)
  where
    by : (b : Bool) → (b || list_any p (take d xs)) ≡ true → (list_any p (take d xs) ≡ true → position_or_len p xs < d) → cond (not b) (1 + position_or_len p xs) 0 < suc d
    by true any more = omega arith
    by false any more = let low = more any in omega (arith, low)

-- a name is among the first so many where its number is
pub name_below : (names : List (List ℕ)) (name : List ℕ) (number d : ℕ) → position (bytes_eq name) names ≡ Some number → slice_get names number ≡ Some name → nat_lt number d ≡ has_name (take d names) name
name_below names name number d place at = by (nat_lt number d) (has_name (take d names) name) refl refl
  where
    number_is : position_or_len (bytes_eq name) names ≡ number
    number_is = (cond_some (nat_lt (position_or_len (bytes_eq name) names) (length names)) (position_or_len (bytes_eq name) names) number place).1

    by : (a b : Bool) → nat_lt number d ≡ a → has_name (take d names) name ≡ b → a ≡ b
    by true true e f = refl
    by true false e f = sym (name_found (take d names) name number (in_front names d number name (ltb-true number d e) at)) ∙ f
    by false true e f = let low = place_below (bytes_eq name) names d f in let high = ltb-false number d e in absurd (omega (arith, low, high, number_is))
    by false false e f = refl

none_taken : {X : Type 0} (p : X → Bool) (xs : List X) (d : ℕ) → list_any p xs ≡ false → list_any p (take d xs) ≡ false
none_taken p [] zero none = refl
none_taken p [] (suc d) none = refl
none_taken p (x ∷ xs) zero none = refl
none_taken p (x ∷ xs) (suc d) none = by (p x) none (none_taken p xs d)
  where
    by : (b : Bool) → (b || list_any p xs) ≡ false → (list_any p xs ≡ false → list_any p (take d xs) ≡ false) → (b || list_any p (take d xs)) ≡ false
    by true none more = absurd (let no : true ≡ false = none in cc)
    by false none more = more none

pub name_never : (names : List (List ℕ)) (name : List ℕ) (d : ℕ) → position (bytes_eq name) names ≡ None → has_name (take d names) name ≡ false
name_never names name d none = none_taken (bytes_eq name) names d (name_absent names name none)

-- One name.

pub enter_fault : (declared seen : List (List ℕ)) (flat : List ℕ) → (is_long flat || has_name seen flat) ≡ true → Checks declared seen (enters flat ∷ []) (Some (fault.FlatName flat)) seen
enter_fault declared seen flat bad = record {
  fault_is = ap (λ (b : Bool). if b then Some (fault.FlatName flat) else bad_name_after declared (seen ++ flat ∷ []) []) (sym bad);
  seen_is = λ none. none_some (sym none);
}

pub enter_clear : (declared seen new : List (List ℕ)) (flat : List ℕ) → (is_long flat || has_name seen flat) ≡ false → new ≡ seen ++ flat ∷ [] → Checks declared seen (enters flat ∷ []) None new
enter_clear declared seen new flat good is = record {
  fault_is = ap (λ (b : Bool). if b then Some (fault.FlatName flat) else bad_name_after declared (seen ++ flat ∷ []) []) (sym good);
  seen_is = λ none. is;
}

-- no checks
pub check_none : (declared seen : List (List ℕ)) → Checks declared seen [] None seen
check_none declared seen = record { fault_is = refl; seen_is = λ none. refl }

-- One net.

abbrev pub net_flat : List (List ℕ) → Bit → List ℕ
net_flat at b = flat_name at b.net

pub net_known : (declared seen at : List (List ℕ)) (m : Module) (b : Bit) (range : Option Range) → range_named m b.net ≡ Some range → None ≡ bad_name_after declared seen (net_check at m b)
net_known declared seen at m b range some =
    let d = some_declared (declared_as (declared_names m) b.net) (range_named m b.net) range (declared_range m b.net) some in
    ap (λ (o : Option Declared). bad_name_after declared seen (if is_none o then refers (net_flat at b) ∷ [] else [])) (sym d.1)

net_new : (declared seen at : List (List ℕ)) (m : Module) (b : Bit) → range_named m b.net ≡ None → net_check at m b ≡ refers (net_flat at b) ∷ []
net_new declared seen at m b none =
    ap (λ (o : Option Declared). if is_none o then refers (net_flat at b) ∷ [] else []) (none_declared (declared_as (declared_names m) b.net) (range_named m b.net) (declared_range m b.net) none)

pub net_fault : (declared seen at : List (List ℕ)) (m : Module) (b : Bit) → range_named m b.net ≡ None → (is_long (net_flat at b) || has_name declared (net_flat at b)) ≡ true → Some (fault.FlatName (net_flat at b)) ≡ bad_name_after declared seen (net_check at m b)
net_fault declared seen at m b none bad =
    ap (λ (x : Bool). if x then Some (fault.FlatName (net_flat at b)) else None) (sym bad) ∙ ap (bad_name_after declared seen) (sym (net_new declared seen at m b none))

pub net_clear : (declared seen at : List (List ℕ)) (m : Module) (b : Bit) → range_named m b.net ≡ None → (is_long (net_flat at b) || has_name declared (net_flat at b)) ≡ false → None ≡ bad_name_after declared seen (net_check at m b)
net_clear declared seen at m b none good =
    ap (λ (x : Bool). if x then Some (fault.FlatName (net_flat at b)) else None) (sym good) ∙ ap (bad_name_after declared seen) (sym (net_new declared seen at m b none))

-- nets enter no name
net_enters : (seen at : List (List ℕ)) (m : Module) (b : Bit) → seen_after seen (net_check at m b) ≡ seen
net_enters seen at m b = by (is_none (declared_as (declared_names m) b.net))
  where
    by : (x : Bool) → seen_after seen (if x then refers (net_flat at b) ∷ [] else []) ≡ seen
    by true = refl
    by false = refl

pub nets_enter : (seen at : List (List ℕ)) (m : Module) (bits : List Bit) → seen_after seen (net_checks at m bits) ≡ seen
nets_enter seen at m [] = refl
nets_enter seen at m (b ∷ bits) =
    seen_behind seen (net_check at m b) (net_checks at m bits)
    ∙ ap (λ (s : List (List ℕ)). seen_after s (net_checks at m bits)) (net_enters seen at m b)
    ∙ nets_enter seen at m bits

-- the nets of some bits and then of others
pub nets_behind : (declared seen at : List (List ℕ)) (m : Module) (one other : List Bit) → bad_name_after declared seen (net_checks at m (one ++ other)) ≡ or_else (bad_name_after declared seen (net_checks at m one)) (bad_name_after declared seen (net_checks at m other))
nets_behind declared seen at m one other =
    ap (bad_name_after declared seen) (flat_map-append (net_check at m) one other)
    ∙ checks_behind declared seen (net_checks at m one) (net_checks at m other)
    ∙ ap (λ (s : List (List ℕ)). or_else (bad_name_after declared seen (net_checks at m one)) (bad_name_after declared s (net_checks at m other))) (nets_enter seen at m one)

-- what is found of nets is what their checks find
pub nets_check : (declared seen at : List (List ℕ)) (m : Module) (bits : List Bit) (f : Option HierFault) → f ≡ bad_name_after declared seen (net_checks at m bits) → Checks declared seen (net_checks at m bits) f seen
nets_check declared seen at m bits f is = record { fault_is = is; seen_is = λ none. sym (nets_enter seen at m bits) }

-- What checks enter stands behind what was seen.

pub entered : (seen : List (List ℕ)) (checks : List NameCheck) → (more : List (List ℕ)) × (seen_after seen checks ≡ seen ++ more)
entered seen [] = ([], sym (append-nil seen))
entered seen (enters name ∷ checks) = let t = entered (seen ++ name ∷ []) checks in (name ∷ t.0, t.1 ∙ append_assoc seen (name ∷ []) t.0)
entered seen (refers name ∷ checks) = entered seen checks

pub front_stays : (seen new : List (List ℕ)) (checks : List NameCheck) (d : ℕ) → d ≤ length seen → new ≡ seen_after seen checks → (take d new ≡ take d seen) × (d ≤ length new)
front_stays seen new checks d low is =
    let t = entered seen checks in
    let all : new ≡ seen ++ t.0 = is ∙ t.1 in (
      ap (take d) all ∙ take-append-le d seen t.0 low,
      (let long = ap (λ (l : List (List ℕ)). length l) all in let both = length-append seen t.0 in omega (arith, long, both, low)),
    )

pub all_entered : (seen names : List (List ℕ)) → seen_after seen (map (λ (name : List ℕ). enters name) names) ≡ seen ++ names
all_entered seen [] = sym (append-nil seen)
all_entered seen (name ∷ names) = all_entered (seen ++ name ∷ []) names ∙ append_assoc seen (name ∷ []) names
