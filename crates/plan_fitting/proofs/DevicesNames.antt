-- The names of a plan that fits: none is barred, and no two are the same.
use Rattle.std.proofs.Common.{◌≡◌, ℕ, List, [], ◌∷◌, ◌++◌, false, not, ◌||◌, None, refl, sym, ap, ◌∙◌}
use Rattle.std.specs.List.{list_any, AllByRecursion}
use Rattle.std.proofs.lemmas.List.{append_assoc}
use Rattle.list_laws.proofs.Options.{or_else-parts, not_there}
use Rattle.list_laws.proofs.Tests.{or_first, or_second, neither, not_false}
use Rattle.bsdl_lexicon.specs.Names.{is_same_name}
use Rattle.bsdl_lexicon.specs.Reserved.{is_reserved}
use Rattle.bsdl_device.specs.Runs.{is_identifier}
use Rattle.bsdl_device.specs.Checks.{is_repeated}
use Rattle.bsdl_device.specs.IsDevice.{IsDeviceName}
use Rattle.netlist_unlink.specs.netlist_link.Linked.{LinkedView}
use Rattle.texts.specs.First.{or_else}
use Rattle.texts.specs.Repeated.{has_name}
use Rattle.bsdl_lexicon.proofs.SameNames.{same_turned}
use Rattle.plan_texts.specs.declared.plan.Plan.{Plan}
use Rattle.plan_fitting.specs.Names.{net_names, cell_names, hidden_names}
use Rattle.plan_fitting.specs.Fits.{is_barred, barred_after, names_of, tap_lines, unit_names, name_fault}
use Rattle.plan_fitting.proofs.Identifiers.{is_device_name}
use Rattle.plan_fitting.proofs.Pairs.{any_across, any_front, any_back, across_same, across_turned, pair_joined}
use Rattle.plan_fitting.specs.declared.fault.FitFault.TheVariants as fault

-- a name that isn't barred
pub record IsFreeName (others before : List (List ℕ)) (name : List ℕ) : Type 0 where
  pub is : IsDeviceName name
  pub apart : list_any (is_same_name name) before ≡ false
  pub new : has_name others name ≡ false

free_name : (others before : List (List ℕ)) (name : List ℕ) → is_barred others before name ≡ false → IsFreeName others before name
free_name others before name h =
    let three = or_first (not (is_identifier name) || is_reserved name || list_any (is_same_name name) before) (has_name others name) h in
    let two = or_first (not (is_identifier name) || is_reserved name) (list_any (is_same_name name) before) three in
    record {
      is = is_device_name name (not_false (is_identifier name) (or_first (not (is_identifier name)) (is_reserved name) two)) (or_second (not (is_identifier name)) (is_reserved name) two);
      apart = or_second (not (is_identifier name) || is_reserved name) (list_any (is_same_name name) before) three;
      new = or_second (not (is_identifier name) || is_reserved name || list_any (is_same_name name) before) (has_name others name) h;
    }

-- names none of which is barred
pub record AreFreeNames (others before names : List (List ℕ)) : Type 0 where
  pub each : AllByRecursion (IsFreeName others before) names
  pub distinct : is_repeated names ≡ false

less : (others before : List (List ℕ)) (last : List ℕ) (names : List (List ℕ)) → AllByRecursion (IsFreeName others (before ++ last ∷ [])) names
    → AllByRecursion (IsFreeName others before) names × (list_any (is_same_name last) names ≡ false)
less others before last [] all = (tt, refl)
less others before last (name ∷ names) all =
    let more = less others before last names all.1 in
    let turned : is_same_name last name ≡ false = same_turned last name ∙ or_first (is_same_name name last) false (any_back (is_same_name name) before (last ∷ []) all.0.apart) in (
      (record { is = all.0.is; apart = any_front (is_same_name name) before (last ∷ []) all.0.apart; new = all.0.new }, more.0),
      neither (is_same_name last name) (list_any (is_same_name last) names) turned more.1,
    )

pub free_names : (others before names : List (List ℕ)) → barred_after others before names ≡ None → AreFreeNames others before names
free_names others before [] h = record { each = tt; distinct = refl }
free_names others before (name ∷ names) h =
    let t = not_there (is_barred others before name) (fault.PlanName name) (barred_after others (before ++ name ∷ []) names) h in
    let more = free_names others (before ++ name ∷ []) names t.1 in
    let rest = less others before name names more.each in
    record {
      each = (free_name others before name t.0, rest.0);
      distinct = neither (list_any (is_same_name name) names) (is_repeated names) rest.1 more.distinct;
    }

-- The whole.

pub record NamesFit (L : LinkedView) (p : Plan) : Type 0 where
  pub unit : AllByRecursion IsDeviceName (unit_names L p)
  pub tap : AllByRecursion IsDeviceName (names_of (tap_lines p))
  pub linkage : AllByRecursion IsDeviceName (names_of p.linkage)
  pub distinct : is_repeated (unit_names L p ++ (names_of (tap_lines p) ++ names_of p.linkage)) ≡ false
  -- no name of the test access port is a wire's, gate's, instance's or hidden bit's
  pub new : AllByRecursion (λ name. has_name (net_names L ++ (cell_names L ++ hidden_names L)) name ≡ false) (names_of (tap_lines p))

names_are : (others before names : List (List ℕ)) → AllByRecursion (IsFreeName others before) names → AllByRecursion IsDeviceName names
names_are others before [] all = tt
names_are others before (name ∷ names) all = (all.0.is, names_are others before names all.1)

names_new : (others before names : List (List ℕ)) → AllByRecursion (IsFreeName others before) names → AllByRecursion (λ name. has_name others name ≡ false) names
names_new others before [] all = tt
names_new others before (name ∷ names) all = (all.0.new, names_new others before names all.1)

names_across : (others before names : List (List ℕ)) → AllByRecursion (IsFreeName others before) names → any_across is_same_name names before ≡ false
names_across others before [] all = refl
names_across others before (name ∷ names) all = neither (list_any (is_same_name name) before) (any_across is_same_name names before) all.0.apart (names_across others before names all.1)

-- none of the names is one of those before
names_apart : (others before names : List (List ℕ)) → AllByRecursion (IsFreeName others before) names → any_across is_same_name before names ≡ false
names_apart others before names all =
    across_turned is_same_name before names (across_same (λ y x. is_same_name x y) is_same_name (λ y x. same_turned x y) names before ∙ names_across others before names all)

pub names_fit : (L : LinkedView) (p : Plan) → name_fault L p ≡ None → NamesFit L p
names_fit L p h =
    let unit = unit_names L p in
    let taps = names_of (tap_lines p) in
    let more = names_of p.linkage in
    let others = net_names L ++ (cell_names L ++ hidden_names L) in
    let first = or_else-parts (barred_after [] [] unit) (or_else (barred_after others unit taps) (barred_after [] (unit ++ taps) more)) h in
    let second = or_else-parts (barred_after others unit taps) (barred_after [] (unit ++ taps) more) first.1 in
    let a = free_names [] [] unit first.0 in
    let b = free_names others unit taps second.0 in
    let c = free_names [] (unit ++ taps) more second.1 in
    let both : is_repeated (unit ++ taps) ≡ false = pair_joined is_same_name unit taps (record { front = a.distinct; back = b.distinct; across = names_apart others unit taps b.each }) in
    let all : is_repeated ((unit ++ taps) ++ more) ≡ false = pair_joined is_same_name (unit ++ taps) more (record { front = both; back = c.distinct; across = names_apart [] (unit ++ taps) more c.each }) in
    record {
      unit = names_are [] [] unit a.each;
      tap = names_are others unit taps b.each;
      linkage = names_are [] (unit ++ taps) more c.each;
      distinct = ap is_repeated (sym (append_assoc unit taps more)) ∙ all;
      new = names_new others unit taps b.each;
    }
