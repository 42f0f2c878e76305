-- The direction of a net is that of the port bit which has it.
use Rattle.std.proofs.Common.{◌≡◌, ◌≢◌, ℕ, zero, suc, ◌⊎◌, true, false, List, [], ◌∷◌, refl, ap, ◌∙◌, inl, inr, arith}
use Rattle.std.specs.Prelude.{Some, None, slice_get}
use Rattle.std.proofs.lemmas.Bool.Decides.{eqb_tells}
use Rattle.netlist_model.specs.declared.NetId.{NetId}
use Rattle.netlist_model.specs.declared.Dir.{Dir}
use Rattle.netlist_model.specs.Lists.{PortView, NetlistView, bit_net, is_among, direction}
use Rattle.netlist_model.specs.Ports.{BitHasDirection, DirectionHasBit}

-- the net stands at some place of the list
record StandsIn (nets : List NetId) (net : NetId) : Type 0 where
  pub place : ℕ
  pub at : slice_get nets place ≡ Some net

same_number : (a b : NetId) → a.0 ≡ b.0 → a ≡ b
same_number a b e = let wrap : ℕ → NetId = λ n. record { 0 = n } in ap wrap e

-- the test finds the net, or it stands nowhere
among_or_not : (nets : List NetId) (net : NetId) → ((is_among net.0 nets ≡ true) × StandsIn nets net) ⊎ ((is_among net.0 nets ≡ false) × ((k : ℕ) → slice_get nets k ≢ Some net))
among_or_not [] net = inr (refl, λ k e. cc)
among_or_not (n ∷ nets) net =
    elim (eqb_tells n.0 net.0) [
      | inl h ↦ inl (rw h.0 refl, record { place = 0; at = ap (λ (x : NetId). Some x) (same_number n net h.1) })
      | inr h ↦ elim (among_or_not nets net) [
        | inl f ↦ inl (rw h.0 f.0, record { place = suc f.1.place; at = f.1.at })
        | inr none ↦ inr (rw h.0 none.0, nowhere n nets net h.1 none.1)
      ]
    ]
  where
    nowhere : (n : NetId) (nets : List NetId) (net : NetId) → n.0 ≢ net.0 → ((k : ℕ) → slice_get nets k ≢ Some net) → (k : ℕ) → slice_get (n ∷ nets) k ≢ Some net
    nowhere n nets net other none zero e = other (let same : n ≡ net = cc in ap (λ (x : NetId). x.0) same)
    nowhere n nets net other none (suc k) e = none k e

-- no other port of the list has the net
abbrev OnlyAt : List PortView → ℕ → NetId → Type 0
OnlyAt ports p net = (q k : ℕ) (other : PortView) → slice_get ports q ≡ Some other → slice_get other.nets k ≡ Some net → q ≡ p

direction_of_bit : (ports : List PortView) (p k : ℕ) (port : PortView) (net : NetId) → slice_get ports p ≡ Some port → slice_get port.nets k ≡ Some net → OnlyAt ports p net
    → direction ports net.0 ≡ Some port.dir
direction_of_bit [] p k port net stands has only = absurd (let h : None ≡ Some port = stands in cc)
direction_of_bit (x ∷ xs) zero k port net stands has only =
    let same : x ≡ port = cc in
    elim (among_or_not x.nets net) [
      | inl f ↦ rw f.0 (ap (λ (y : PortView). Some y.dir) same)
      | inr none ↦ absurd (none.1 k (ap (λ (y : PortView). slice_get y.nets k) same ∙ has))
    ]
direction_of_bit (x ∷ xs) (suc p) k port net stands has only =
    elim (among_or_not x.nets net) [
      | inl f ↦ absurd (let e = only 0 f.1.place x refl f.1.at in omega arith)
      | inr none ↦ rw none.0 (direction_of_bit xs p k port net stands has (λ q j other at here. let e = only (suc q) j other at here in omega arith))
    ]

bit_net-at : (N : NetlistView) (p k : ℕ) (port : PortView) (net : NetId) → slice_get N.ports p ≡ Some port → slice_get port.nets k ≡ Some net → bit_net N p k ≡ Some net
bit_net-at N p k port net stands has = rw stands has

pub bit_has_direction : BitHasDirection
bit_has_direction N formed dir net b =
    let only : OnlyAt N.ports b.number net = λ q k other at here.
    (formed.bits_apart q b.number k b.bit net (bit_net-at N q k other net at here) (bit_net-at N b.number b.bit b.port net b.stands b.has)).0 in
    direction_of_bit N.ports b.number b.bit b.port net b.stands b.has only ∙ ap (λ (d : Dir). Some d) b.same

-- the port that gives a net its direction
record GivesDirection (ports : List PortView) (dir : Dir) (net : NetId) : Type 0 where
  pub number : ℕ
  pub port : PortView
  pub bit : ℕ
  pub stands : slice_get ports number ≡ Some port
  pub has : slice_get port.nets bit ≡ Some net
  pub same : port.dir ≡ dir

bit_of_direction : (ports : List PortView) (dir : Dir) (net : NetId) → direction ports net.0 ≡ Some dir → GivesDirection ports dir net
bit_of_direction [] dir net e = absurd (let h : None ≡ Some dir = e in cc)
bit_of_direction (x ∷ xs) dir net e =
    elim (among_or_not x.nets net) [
      | inl f ↦ (let h = rw f.0 at e in record { number = 0; port = x; bit = f.1.place; stands = refl; has = f.1.at; same = cc h })
      | inr none ↦ (let h = rw none.0 at e in let g = bit_of_direction xs dir net h in
          record { number = suc g.number; port = g.port; bit = g.bit; stands = g.stands; has = g.has; same = g.same })
    ]

pub direction_has_bit : DirectionHasBit
direction_has_bit N dir net e =
    let g = bit_of_direction N.ports dir net e in
    record { number = g.number; port = g.port; bit = g.bit; stands = g.stands; has = g.has; same = g.same }
