-- Nets as operands.
use Rattle.std.proofs.Common.{◌≡◌, ℕ, zero, suc, ◌+◌, ◌<◌, List, [], ◌∷◌, set, take, length, refl, sym, ap, ◌∙◌, subst, arith, Option, Some, None}
use Rattle.std.specs.Prelude.{slice_get, All}
use Rattle.std.proofs.lemmas.List.Elements.{All-nil, All-cons, All-head, All-tail}
use Rattle.netlist_model.specs.declared.NetId.{NetId}
use Rattle.netlist_model.specs.declared.Feed.{Feed}
use Rattle.netlist_model.specs.declared.Feed.TheVariants.{Net}
use Rattle.netlist_model.specs.Below.{IsFeedBelow, AreFeedsBelow, IsNetBelow}
use Rattle.status_gates.specs.Wires.{net_feeds}

pub net_feeds_length : (nets : List NetId) → length (net_feeds nets) ≡ length nets
net_feeds_length [] = refl
net_feeds_length (net ∷ nets) = ap suc (net_feeds_length nets)

pub net_feeds_below : (count : ℕ) (nets : List NetId) → All (IsNetBelow count) nets → AreFeedsBelow count (net_feeds nets)
net_feeds_below count [] all = All-nil (IsFeedBelow count)
net_feeds_below count (net ∷ nets) all =
    All-cons (IsFeedBelow count) (Net net) (net_feeds nets) (All-head (IsNetBelow count) net nets all) (net_feeds_below count nets (All-tail (IsNetBelow count) net nets all))

-- One more is written.

same_net : (a b : NetId) → ◌≡◌ {A = Option NetId} (Some a) (Some b) → a ≡ b
same_net a b e = cc

same_head : (f g : Feed) (fs gs : List Feed) → ◌≡◌ {A = List Feed} (f ∷ fs) (g ∷ gs) → f ≡ g
same_head f g fs gs e = cc

same_tail : (f g : Feed) (fs gs : List Feed) → ◌≡◌ {A = List Feed} (f ∷ fs) (g ∷ gs) → fs ≡ gs
same_tail f g fs gs e = cc

written_more : (feeds : List Feed) (nets : List NetId) (p : ℕ) (net : NetId) → p < length feeds → slice_get nets p ≡ Some net → take p feeds ≡ net_feeds (take p nets)
    → take (suc p) (set feeds p (Net net)) ≡ net_feeds (take (suc p) nets)
written_more [] nets p net low at e = absurd (omega arith)
written_more (f ∷ fs) [] p net low at e = absurd (let no : ◌≡◌ {A = Option NetId} None (Some net) = at in cc)
written_more (f ∷ fs) (n ∷ ns) zero net low at e = ap (λ (x : NetId). Net x ∷ []) (sym (same_net n net at))
written_more (f ∷ fs) (n ∷ ns) (suc p) net low at e =
    let h = same_head f (Net n) (take p fs) (net_feeds (take p ns)) e in
    let t = same_tail f (Net n) (take p fs) (net_feeds (take p ns)) e in
    ap (λ (x : Feed). x ∷ take (suc p) (set fs p (Net net))) h ∙ ap (λ (xs : List Feed). Net n ∷ xs) (written_more fs ns p net (omega arith) at t)

pub written_next : (feeds : List Feed) (nets : List NetId) (p : ℕ) (net : NetId) → p < length feeds → slice_get nets p ≡ Some net → take p feeds ≡ net_feeds (take p nets)
    → take (p + 1) (set feeds p (Net net)) ≡ net_feeds (take (p + 1) nets)
written_next feeds nets p net low at e =
    let next : suc p ≡ p + 1 = omega arith in
    subst (λ (n : ℕ). take n (set feeds p (Net net)) ≡ net_feeds (take n nets)) next (written_more feeds nets p net low at e)

take_all : (nets : List NetId) → take (length nets) nets ≡ nets
take_all [] = refl
take_all (net ∷ nets) = ap (λ (xs : List NetId). net ∷ xs) (take_all nets)

pub written_all : (feeds : List Feed) (nets : List NetId) (p : ℕ) → p ≡ length nets → take p feeds ≡ net_feeds (take p nets) → take (length nets) feeds ≡ net_feeds nets
written_all feeds nets p is e =
    ap (λ (n : ℕ). take n feeds) (sym is) ∙ e ∙ ap (λ (n : ℕ). net_feeds (take n nets)) is ∙ ap net_feeds (take_all nets)
