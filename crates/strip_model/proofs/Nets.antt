-- The nets of the netlist with test logic: those of the core keep their bits, and those between are added ones.
use Rattle.std.proofs.Common.{◌≡◌, ◌≢◌, ℕ, suc, zero, ◌+◌, ◌<◌, ◌^◌, Bool, true, false, List, [], ◌∷◌, map, length, refl, sym, ◌∙◌, ap, Option, Some, None, slice_get, arith, eq-eqb, eqb-true, ne_eqb, ◌⊎◌, inl, inr, ◌==◌}
use Rattle.std.specs.Option.{unwrap_or, option_map}
use Rattle.std.specs.Str.{bytes_eq}
use Rattle.std.specs.Fmt.{decimal}
use Rattle.std.proofs.lemmas.Fmt.{decimal_injective}
use Rattle.std.proofs.lemmas.Slice.Eq.{bytes_eq-Decides}
use Rattle.list_laws.proofs.Lists.{begins_joined}
use Rattle.std.proofs.lemmas.Option.{slice_get_within}
use Rattle.netlist_model.specs.declared.Name.{Name}
use Rattle.netlist_model.specs.declared.Name.TheVariants.{Original, Added}
use Rattle.netlist_model.specs.declared.Feed.{Feed}
use Rattle.netlist_model.specs.declared.Feed.TheVariants.{Net, Const}
use Rattle.netlist_model.specs.Lists.{NetView}
use Rattle.verilog_tree.specs.declared.tree.Operand.TheVariants as operand
use Rattle.gate_parts.specs.Parts.{added_nets}
use Rattle.netlist_unlink.specs.Trees.{Naming, original, added, operand_of}
use Rattle.strip_model.specs.declared.Side.{Side}
use Rattle.strip_model.specs.Core.{begins, find_side, behind, core_operand, core_bit}
use Rattle.strip_model.specs.Pairs.{Pair, find_pair, once, twice}
use Rattle.strip_model.specs.Chain.{written_side}
use Rattle.strip_model.specs.NetlistsTold.{IsOwn}

-- Added nets.

pub added_at : (first count k : ℕ) → k < count → slice_get (added_nets first count) k ≡ Some (record { name = Added (first + k); index = None })
added_at first zero k low = absurd (omega arith)
added_at first (suc count) zero low = let same : first + 0 ≡ first = omega arith in rw same refl
added_at first (suc count) (suc k) low =
    let rest = added_at (suc first) count k (omega arith) in
    let same : suc first + k ≡ first + suc k = omega arith in rw (← same) rest

-- Names.

pub same_added : (prefix : List ℕ) (one other : ℕ) → one < 2 ^ 32 → other < 2 ^ 32 → added prefix 110 one ≡ added prefix 110 other → one ≡ other
same_added [] one other low high same = decimal_injective one other (omega arith) (omega arith) (cc)
same_added (p ∷ prefix) one other low high same = same_added prefix one other low high (cc)

-- bytes that don't begin with the prefix are no added name
not_added : (prefix name : List ℕ) (number : ℕ) → begins prefix name ≡ false → name ≡ added prefix 110 number → ⊥
not_added prefix name number apart is =
    let yes : begins prefix (added prefix 110 number) ≡ true = begins_joined prefix (110 ∷ decimal number) in
    let no : begins prefix (added prefix 110 number) ≡ false = ap (begins prefix) (sym is) ∙ apart in
    let bad : true ≡ false = sym yes ∙ no in cc

added_filled : (prefix : List ℕ) (number : ℕ) → [] ≡ added prefix 110 number → ⊥
added_filled [] number is = cc
added_filled (p ∷ prefix) number is = cc

bytes_apart : (xs ys : List ℕ) → xs ≢ ys → bytes_eq xs ys ≡ false
bytes_apart xs ys apart = go (bytes_eq xs ys) refl
  where
    go : (b : Bool) → bytes_eq xs ys ≡ b → bytes_eq xs ys ≡ false
    go false e = e
    go true e = absurd (apart (grind (arith, bytes_eq-Decides xs ys)))

bytes_same : (xs : List ℕ) → bytes_eq xs xs ≡ true
bytes_same xs = grind (arith, bytes_eq-Decides xs xs)

-- Finding a side by its name, and a pair by its net.

find_none : (naming : Naming) (pairs : List Pair) (name : List ℕ) → ((k : ℕ) (one : Pair) → slice_get pairs k ≡ Some one → name ≢ added naming.prefix 110 one.net)
    → find_side (map (written_side naming) pairs) name ≡ None
find_none naming [] name apart = refl
find_none naming (one ∷ pairs) name apart =
    let here = bytes_apart name (added naming.prefix 110 one.net) (apart 0 one refl) in
    let rest = find_none naming pairs name (λ k other at. apart (suc k) other at) in rw here rest

pair_none : (pairs : List Pair) (net : ℕ) → ((k : ℕ) (one : Pair) → slice_get pairs k ≡ Some one → net ≢ one.net) → find_pair net pairs ≡ None
pair_none [] net apart = refl
pair_none (one ∷ pairs) net apart =
    let here : net == one.net ≡ false = ne_eqb net one.net (apart 0 one refl) in
    let rest = pair_none pairs net (λ k other at. apart (suc k) other at) in rw here rest

find_same : (naming : Naming) (pairs : List Pair) (net : ℕ) → net < 2 ^ 32 → ((k : ℕ) (one : Pair) → slice_get pairs k ≡ Some one → one.net < 2 ^ 32)
    → find_side (map (written_side naming) pairs) (added naming.prefix 110 net) ≡ option_map (operand_of naming) (find_pair net pairs)
find_same naming [] net low few = refl
find_same naming (one ∷ pairs) net low few = by (find_same naming pairs net low (λ k other at. few (suc k) other at)) (net == one.net) refl
  where
    by : find_side (map (written_side naming) pairs) (added naming.prefix 110 net) ≡ option_map (operand_of naming) (find_pair net pairs) → (b : Bool) → net == one.net ≡ b
        → find_side (map (written_side naming) (one ∷ pairs)) (added naming.prefix 110 net) ≡ option_map (operand_of naming) (find_pair net (one ∷ pairs))
    by rest true e =
        let same : net ≡ one.net = eqb-true net one.net e in
        let here : bytes_eq (added naming.prefix 110 net) (added naming.prefix 110 one.net) ≡ true = rw same (bytes_same (added naming.prefix 110 one.net)) in
        rw (here, e) refl
    by rest false e =
        let here : bytes_eq (added naming.prefix 110 net) (added naming.prefix 110 one.net) ≡ false =
        bytes_apart (added naming.prefix 110 net) (added naming.prefix 110 one.net)
        (λ same. let n = eq-eqb net one.net (same_added naming.prefix net one.net low (few 0 one refl) same) in let bad : true ≡ false = sym n ∙ e in cc) in
        rw (here, e) rest

-- What stands behind an operand.

-- own: each net has an own name, or is an added one; and those of the pairs are added ones
pub record AreNets (naming : Naming) (pairs : List Pair) : Type 0 where
  pub each : (net : ℕ) (view : NetView) → slice_get naming.nets net ≡ Some view → IsOwn naming.table naming.prefix view.name ⊎ (view ≡ record { name = Added net; index = None })
  pub few : length naming.nets < 2 ^ 32
  pub pairs_there : (k : ℕ) (one : Pair) → slice_get pairs k ≡ Some one → slice_get naming.nets one.net ≡ Some (record { name = Added one.net; index = None })

low_net : (naming : Naming) (pairs : List Pair) → AreNets naming pairs → (net : ℕ) (view : NetView) → slice_get naming.nets net ≡ Some view → net < 2 ^ 32
low_net naming pairs are net view at =
    let within = slice_get_within naming.nets net view at in
    let few = are.few in omega (arith, within, few)

abbrev name_in : Name → Option NetView → Name
name_in other None = other
name_in other (Some view) = view.name

own_not_added : (number : ℕ) (index : Option ℕ) (n : ℕ) → ◌≡◌ {A = Option NetView} (Some (record { name = Original number; index = index })) (Some (record { name = Added n; index = None })) → ⊥
own_not_added number index n e =
    let names : Original number ≡ Added n = ap (name_in (Original number)) e in cc

pub behind_is : (naming : Naming) (pairs : List Pair) → AreNets naming pairs → (feed : Feed)
    → behind (map (written_side naming) pairs) (operand_of naming feed) ≡ operand_of naming (once pairs feed)
behind_is naming pairs are (Const value) = refl
behind_is naming pairs are (Net net) = by (slice_get naming.nets net.0) refl
  where
    S : List Side
    S = map (written_side naming) pairs

    -- a net that isn't an added one
    other : (view : Option NetView) → slice_get naming.nets net.0 ≡ view → ((number : ℕ) → view ≡ Some (record { name = Added number; index = None }) → ⊥)
        → find_pair net.0 pairs ≡ None
    other view at never = pair_none pairs net.0 (λ k one there same.
        let is = are.pairs_there k one there in
        let here : slice_get naming.nets net.0 ≡ Some (record { name = Added one.net; index = None }) = rw same is in
        never one.net (sym at ∙ here))

    own : (number : ℕ) (index : Option ℕ) → slice_get naming.nets net.0 ≡ Some (record { name = Original number; index = index })
        → begins naming.prefix (original naming.table number) ≡ false → behind S (operand_of naming (Net net)) ≡ operand_of naming (once pairs (Net net))
    own number None at apart =
        let none = other (Some (record { name = Original number; index = None })) at (own_not_added number None) in
        let miss = find_none naming pairs (original naming.table number) (λ k one there same. not_added naming.prefix (original naming.table number) one.net apart same) in
        rw (at, miss, none) (rw at refl)
    own number (Some i) at apart =
        let none = other (Some (record { name = Original number; index = Some i })) at (own_not_added number (Some i)) in
        rw (at, none) (rw at refl)

    some : (view : NetView) → slice_get naming.nets net.0 ≡ Some view → (name : Name) → view.name ≡ name → IsOwn naming.table naming.prefix name
        → behind S (operand_of naming (Net net)) ≡ operand_of naming (once pairs (Net net))
    some view at (Original number) e is = own number view.index (at ∙ ap (λ (n : Name). Some (record { name = n; index = view.index })) e) is.1
    some view at (Added number) e is = absurd is

    added_one : slice_get naming.nets net.0 ≡ Some (record { name = Added net.0; index = None }) → behind S (operand_of naming (Net net)) ≡ operand_of naming (once pairs (Net net))
    added_one at =
        let low = low_net naming pairs are net.0 (record { name = Added net.0; index = None }) at in
        let found = find_same naming pairs net.0 low (λ k one there. low_net naming pairs are one.net (record { name = Added one.net; index = None }) (are.pairs_there k one there)) in
        rw (at, found) (left (find_pair net.0 pairs))
      where
        left : (o : Option Feed) → unwrap_or (option_map (operand_of naming) o) (operand.Bit (record { net = added naming.prefix 110 net.0; index = None })) ≡ operand_of naming (unwrap_or o (Net net))
        left None = rw at refl
        left (Some feed) = refl

    by : (o : Option NetView) → slice_get naming.nets net.0 ≡ o → behind S (operand_of naming (Net net)) ≡ operand_of naming (once pairs (Net net))
    by None at =
        let none = other None at (λ n e. absurd (cc)) in
        let miss = find_none naming pairs [] (λ k one there same. added_filled naming.prefix one.net same) in
        rw (at, miss, none) (rw at refl)
    by (Some view) at = elim (are.each net.0 view at) [
      | inl is ↦ some view at view.name refl is
      | inr is ↦ added_one (at ∙ ap (λ (v : NetView). Some v) is)
    ]

-- twice
pub core_operand_is : (naming : Naming) (pairs : List Pair) → AreNets naming pairs → (feed : Feed)
    → core_operand (map (written_side naming) pairs) (operand_of naming feed) ≡ operand_of naming (twice pairs feed)
core_operand_is naming pairs are feed =
    ap (behind (map (written_side naming) pairs)) (behind_is naming pairs are feed) ∙ behind_is naming pairs are (once pairs feed)

-- a bit without a name stands behind nothing
pub no_name_behind : (naming : Naming) (pairs : List Pair) → core_bit (map (written_side naming) pairs) (record { net = []; index = None }) ≡ record { net = []; index = None }
no_name_behind naming pairs =
    let miss = find_none naming pairs [] (λ k one there same. added_filled naming.prefix one.net same) in rw miss (rw miss refl)
