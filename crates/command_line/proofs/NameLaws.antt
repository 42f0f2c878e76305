-- Outputs with names of their own have no other file's.
use Rattle.std.proofs.Common.{◌≡◌, ℕ, ◌-◌, ◌≤◌, List, [], ◌∷◌, ◌++◌, length, take, drop, slice_index_or, Bor, Bool, true, false, Option, Some, None, IfSome, inl, inr, subst, sym, refl, arith}
use Rattle.std.specs.Str.{bytes_eq}
use Rattle.std.proofs.lemmas.Slice.Eq.{bytes_eq-Decides}
use Rattle.list_laws.proofs.Lists.{front_all}
use Rattle.command_edges.specs.Names.{IsOneOf, StandOnce, names_of}
use Rattle.command_line.specs.Names.{IsNoneOf, IsRepeated, AreApart}

one_none : (name : List ℕ) (others : List (List ℕ)) → IsNoneOf name others → IsOneOf name others → ⊥
one_none name [] none one = one
one_none name (other ∷ others) none (inl same) = none.0 same
one_none name (other ∷ others) none (inr later) = one_none name others none.1 later

pub apart_none : (name : List ℕ) (reads writes : List (List ℕ)) → AreApart reads writes → IsRepeated name reads writes → ⊥
apart_none name reads [] apart repeated = repeated
apart_none name reads (output ∷ more) apart (inl (is, one)) = one_none output (reads ++ more) apart.0 one
apart_none name reads (output ∷ more) apart (inr (none, later)) = apart_none name reads more apart.1 later

-- names that stand among none of others stand among none behind them
none_behind : (name : List ℕ) (reads more : List (List ℕ)) → IsNoneOf name (reads ++ more) → IsNoneOf name more
none_behind name [] more none = none
none_behind name (read ∷ reads) more none = none_behind name reads more none.1

pub apart_once : (reads writes : List (List ℕ)) → AreApart reads writes → StandOnce writes
apart_once reads [] apart = tt
apart_once reads (output ∷ more) apart = (one_none output more (none_behind output reads more apart.0), apart_once reads more apart.1)

-- A name and two lists of names.

pub one_before : (name : List ℕ) (names others : List (List ℕ)) → IsOneOf name names → IsOneOf name (names ++ others)
one_before name [] others one = absurd one
one_before name (first ∷ names) others (inl same) = inl same
one_before name (first ∷ names) others (inr later) = inr (one_before name names others later)

pub one_behind : (name : List ℕ) (names others : List (List ℕ)) → IsOneOf name others → IsOneOf name (names ++ others)
one_behind name [] others one = one
one_behind name (first ∷ names) others one = inr (one_behind name names others one)

pub none_both : (name : List ℕ) (names others : List (List ℕ)) → IsNoneOf name names → IsNoneOf name others → IsNoneOf name (names ++ others)
none_both name [] others none too = too
none_both name (first ∷ names) others none too = (none.0, none_both name names others none.1 too)

-- Equal lists of names.

pub repeated_as : (name : List ℕ) (reads others writes more : List (List ℕ)) → reads ≡ others → writes ≡ more → IsRepeated name reads writes → IsRepeated name others more
repeated_as name reads others writes more r w is =
    subst (λ (ws : List (List ℕ)). IsRepeated name others ws) w (subst (λ (rs : List (List ℕ)). IsRepeated name rs writes) r is)

pub apart_as : (reads others writes more : List (List ℕ)) → reads ≡ others → writes ≡ more → AreApart reads writes → AreApart others more
apart_as reads others writes more r w is = subst (λ (ws : List (List ℕ)). AreApart others ws) w (subst (λ (rs : List (List ℕ)). AreApart rs writes) r is)

pub before_as : (names others library reads : List (List ℕ)) → names ≡ others → others ++ library ≡ reads → names ++ library ≡ reads
before_as names others library reads same are = subst (λ (ns : List (List ℕ)). ns ++ library ≡ reads) (sym same) are

-- A list of names, by its first and those behind it.

pub not_same : (name other : List ℕ) (test : Bool) → test ≡ bytes_eq name other → test ≡ false → name ≡ other → ⊥
not_same name other test is told same = let yes : bytes_eq name other ≡ true = (bytes_eq-Decides name other).1 same in cc (is, told, yes)

pub none_more : (name : List ℕ) (names : List (Bor (List ℕ))) (d : Bor (List ℕ)) → 1 ≤ length names → (name ≡ (slice_index_or names 0 d).now → ⊥)
    → IsNoneOf name (names_of (take (length names - 1) (drop 1 names))) → IsNoneOf name (names_of names)
none_more name [] d some other none = absurd (omega arith)
none_more name (n ∷ ns) d some other none =
    (other, subst (λ (l : List (Bor (List ℕ))). IsNoneOf name (names_of l)) (front_all ns (length (n ∷ ns) - 1) (omega arith)) none)

pub repeated_first : (reads : List (List ℕ)) (writes : List (Bor (List ℕ))) (d : Bor (List ℕ)) → 1 ≤ length writes
    → IsOneOf (slice_index_or writes 0 d).now (reads ++ names_of (take (length writes - 1) (drop 1 writes))) → IsRepeated (slice_index_or writes 0 d).now reads (names_of writes)
repeated_first reads [] d some one = absurd (omega arith)
repeated_first reads (w ∷ ws) d some one =
    inl (refl, subst (λ (l : List (Bor (List ℕ))). IsOneOf w.now (reads ++ names_of l)) (front_all ws (length (w ∷ ws) - 1) (omega arith)) one)

pub repeated_later : (r : Option (Bor (List ℕ))) (reads : List (List ℕ)) (writes : List (Bor (List ℕ))) (d : Bor (List ℕ)) → 1 ≤ length writes
    → IsNoneOf (slice_index_or writes 0 d).now (reads ++ names_of (take (length writes - 1) (drop 1 writes)))
    → IfSome r (λ name. IsRepeated name.now reads (names_of (take (length writes - 1) (drop 1 writes)))) → IfSome r (λ name. IsRepeated name.now reads (names_of writes))
repeated_later None reads writes d some none later = tt
repeated_later (Some name) reads [] d some none later = absurd (omega arith)
repeated_later (Some name) reads (w ∷ ws) d some none later =
    let all : take (length (w ∷ ws) - 1) ws ≡ ws = front_all ws (length (w ∷ ws) - 1) (omega arith) in
    inr (subst (λ (l : List (Bor (List ℕ))). IsNoneOf w.now (reads ++ names_of l)) all none, subst (λ (l : List (Bor (List ℕ))). IsRepeated name.now reads (names_of l)) all later)

pub apart_later : (reads : List (List ℕ)) (writes : List (Bor (List ℕ))) (d : Bor (List ℕ)) → 1 ≤ length writes
    → IsNoneOf (slice_index_or writes 0 d).now (reads ++ names_of (take (length writes - 1) (drop 1 writes)))
    → AreApart reads (names_of (take (length writes - 1) (drop 1 writes))) → AreApart reads (names_of writes)
apart_later reads [] d some none later = absurd (omega arith)
apart_later reads (w ∷ ws) d some none later =
    let all : take (length (w ∷ ws) - 1) ws ≡ ws = front_all ws (length (w ∷ ws) - 1) (omega arith) in
    (subst (λ (l : List (Bor (List ℕ))). IsNoneOf w.now (reads ++ names_of l)) all none, subst (λ (l : List (Bor (List ℕ))). AreApart reads (names_of l)) all later)
