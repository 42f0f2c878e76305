-- What known operands give.
use Rattle.std.specs.Prelude.{◌≡◌, Bool, not, ◌&&◌, ◌||◌, if◌then◌else◌}
use Rattle.signal_values.specs.declared.Sig.{Sig}
use Rattle.signal_values.specs.declared.Sig.TheVariants.{Zero, One}
use Rattle.signal_values.specs.declared.PinSig.TheVariants.{HighZ}
use Rattle.signal_values.specs.Values.{bit, sig_not, sig_and, sig_or, sig_xor, sig_mux, see, pin_of, drive}

-- own: the inverse of a known value is known
abbrev pub NotOfKnown : Type 0
NotOfKnown = (a : Bool) → sig_not (bit a) ≡ bit (not a)

-- own: both of two known values
abbrev pub AndOfKnown : Type 0
AndOfKnown = (a b : Bool) → sig_and (bit a) (bit b) ≡ bit (a && b)

-- own: either of two known values
abbrev pub OrOfKnown : Type 0
OrOfKnown = (a b : Bool) → sig_or (bit a) (bit b) ≡ bit (a || b)

-- own: one of two known values, and not both
abbrev pub XorOfKnown : Type 0
XorOfKnown = (a b : Bool) → sig_xor (bit a) (bit b) ≡ bit (if a then not b else b)

-- own: a 0 decides an `and`, on either side
abbrev pub AndOfZero : Type 0
AndOfZero = (a : Sig) → (sig_and Zero a ≡ Zero) × (sig_and a Zero ≡ Zero)

-- own: a 1 decides an `or`, on either side
abbrev pub OrOfOne : Type 0
OrOfOne = (a : Sig) → (sig_or One a ≡ One) × (sig_or a One ≡ One)

-- own: under a known select a multiplexer gives that operand, known or not
abbrev pub MuxOfKnownSelect : Type 0
MuxOfKnownSelect = (s : Bool) (a b : Sig) → sig_mux (bit s) a b ≡ (if s then b else a)

-- own: a value that is put on a pin is read there
abbrev pub SeeOfPinOf : Type 0
SeeOfPinOf = (s : Sig) → see (pin_of s) ≡ s

-- own: a driver that is known to be on gives its value, and one that is off gives high impedance
abbrev pub DriveOfKnownEnable : Type 0
DriveOfKnownEnable = (enable : Bool) (value : Sig) → drive value (bit enable) ≡ (if enable then pin_of value else HighZ)
