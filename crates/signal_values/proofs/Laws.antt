-- The laws of the operations as lemmas, for proofs of crates above.
use Rattle.std.proofs.Common.{◌≡◌, Bool, not, ◌&&◌, ◌||◌, if◌then◌else◌, refl, arith, inl, inr}
use Rattle.signal_values.specs.declared.Sig.{Sig}
use Rattle.signal_values.specs.declared.Sig.TheVariants.{Zero, One, Unknown}
use Rattle.signal_values.specs.declared.PinSig.{PinSig}
use Rattle.signal_values.specs.declared.PinSig.TheVariants.{HighZ}
use Rattle.signal_values.specs.Values.{bit, sig_not, sig_and, sig_or, sig_xor, sig_mux, see, pin_of, join, drive}
use Rattle.signal_values.specs.Knowledge.{IsBelow, IsPinBelow}

pub below_refl : (a : Sig) → IsBelow a a
below_refl a = inr refl

pub below_trans : (a b c : Sig) → IsBelow a b → IsBelow b c → IsBelow a c
below_trans a b c h k = grind arith

pub below_antisym : (a b : Sig) → IsBelow a b → IsBelow b a → a ≡ b
below_antisym a b h k = grind arith

pub unknown_below : (a : Sig) → IsBelow Unknown a
unknown_below a = inl refl

-- a known value is below itself alone
pub above_bit : (b : Bool) (a : Sig) → IsBelow (bit b) a → a ≡ bit b
above_bit b a h = grind arith

pub pin_below_refl : (a : PinSig) → IsPinBelow a a
pin_below_refl a = inr refl

pub pin_below_trans : (a b c : PinSig) → IsPinBelow a b → IsPinBelow b c → IsPinBelow a c
pin_below_trans a b c h k = grind arith

pub below-not : (a a' : Sig) → IsBelow a a' → IsBelow (sig_not a) (sig_not a')
below-not a a' h = grind arith

pub below-and : (a a' b b' : Sig) → IsBelow a a' → IsBelow b b' → IsBelow (sig_and a b) (sig_and a' b')
below-and a a' b b' h k = grind arith

pub below-or : (a a' b b' : Sig) → IsBelow a a' → IsBelow b b' → IsBelow (sig_or a b) (sig_or a' b')
below-or a a' b b' h k = grind arith

pub below-xor : (a a' b b' : Sig) → IsBelow a a' → IsBelow b b' → IsBelow (sig_xor a b) (sig_xor a' b')
below-xor a a' b b' h k = grind arith

pub below-mux : (s s' a a' b b' : Sig) → IsBelow s s' → IsBelow a a' → IsBelow b b' → IsBelow (sig_mux s a b) (sig_mux s' a' b')
below-mux s s' a a' b b' h k l =
    below-or _ _ _ _ (below-and _ _ _ _ k (below-not _ _ h)) (below-and _ _ _ _ l h)

pub below-see : (p p' : PinSig) → IsPinBelow p p' → IsBelow (see p) (see p')
below-see p p' h = grind arith

pub below-pin_of : (a a' : Sig) → IsBelow a a' → IsPinBelow (pin_of a) (pin_of a')
below-pin_of a a' h = grind arith

pub below-join : (p p' q q' : PinSig) → IsPinBelow p p' → IsPinBelow q q' → IsPinBelow (join p q) (join p' q')
below-join p p' q q' h k = grind arith

pub below-drive : (a a' e e' : Sig) → IsBelow a a' → IsBelow e e' → IsPinBelow (drive a e) (drive a' e')
below-drive a a' e e' h k = grind arith

pub not-bit : (a : Bool) → sig_not (bit a) ≡ bit (not a)
not-bit a = grind arith

pub and-bit : (a b : Bool) → sig_and (bit a) (bit b) ≡ bit (a && b)
and-bit a b = grind arith

pub or-bit : (a b : Bool) → sig_or (bit a) (bit b) ≡ bit (a || b)
or-bit a b = grind arith

pub xor-bit : (a b : Bool) → sig_xor (bit a) (bit b) ≡ bit (if a then not b else b)
xor-bit a b = grind arith

-- under a known select a multiplexer is exact
pub mux-bit : (s : Bool) (a b : Sig) → sig_mux (bit s) a b ≡ (if s then b else a)
mux-bit s a b = grind arith

pub mux-zero : (a b : Sig) → sig_mux Zero a b ≡ a
mux-zero a b = grind arith

pub mux-one : (a b : Sig) → sig_mux One a b ≡ b
mux-one a b = grind arith

pub drive-bit : (enable : Bool) (a : Sig) → drive a (bit enable) ≡ (if enable then pin_of a else HighZ)
drive-bit enable a = grind arith

pub see-pin_of : (a : Sig) → see (pin_of a) ≡ a
see-pin_of a = grind arith

pub not-not : (a : Sig) → sig_not (sig_not a) ≡ a
not-not a = grind arith

pub and_comm : (a b : Sig) → sig_and a b ≡ sig_and b a
and_comm a b = grind arith

pub and_assoc : (a b c : Sig) → sig_and (sig_and a b) c ≡ sig_and a (sig_and b c)
and_assoc a b c = grind arith

pub or_comm : (a b : Sig) → sig_or a b ≡ sig_or b a
or_comm a b = grind arith

pub or_assoc : (a b c : Sig) → sig_or (sig_or a b) c ≡ sig_or a (sig_or b c)
or_assoc a b c = grind arith

pub xor_comm : (a b : Sig) → sig_xor a b ≡ sig_xor b a
xor_comm a b = grind arith

pub xor_assoc : (a b c : Sig) → sig_xor (sig_xor a b) c ≡ sig_xor a (sig_xor b c)
xor_assoc a b c = grind arith

pub join_comm : (p q : PinSig) → join p q ≡ join q p
join_comm p q = grind arith

pub join_assoc : (p q r : PinSig) → join (join p q) r ≡ join p (join q r)
join_assoc p q r = grind arith

pub join-high_z : (p : PinSig) → join p HighZ ≡ p
join-high_z p = grind arith
