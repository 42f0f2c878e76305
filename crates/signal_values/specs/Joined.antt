-- Several drivers on one wire, and the letters of values.
use Rattle.std.specs.Prelude.{◌≡◌, ◌⊎◌, ◌+◌, ℕ, Some}
use Rattle.signal_values.specs.declared.PinSig.{PinSig}
use Rattle.signal_values.specs.declared.PinSig.TheVariants.{HighZ}
use Rattle.signal_values.specs.Values.{join, show_byte, pin_sig_of}

-- own: either driver may come first
abbrev pub JoinIsCommutative : Type 0
JoinIsCommutative = (a b : PinSig) → join a b ≡ join b a

-- own: three drivers may be joined in any grouping
abbrev pub JoinIsAssociative : Type 0
JoinIsAssociative = (a b c : PinSig) → join (join a b) c ≡ join a (join b c)

-- own: a second driver of the same value adds nothing
abbrev pub JoinOfEqual : Type 0
JoinOfEqual = (a : PinSig) → join a a ≡ a

-- own: a driver that is off adds nothing
abbrev pub JoinOfHighZ : Type 0
JoinOfHighZ = (a : PinSig) → (join HighZ a ≡ a) × (join a HighZ ≡ a)

-- own: the letter of a value reads as that value
abbrev pub ReadsShown : Type 0
ReadsShown = (p : PinSig) → pin_sig_of (show_byte p) ≡ Some p

-- own: a letter that reads is that of its value, or its capital
abbrev pub ReadsOnlyShown : Type 0
ReadsOnlyShown = (b : ℕ) (p : PinSig) → pin_sig_of b ≡ Some p → (b ≡ show_byte p) ⊎ (b + 32 ≡ show_byte p)
