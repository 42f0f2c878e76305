-- The values of nets and pins, and the operations on them.
use Rattle.std.specs.Prelude.{ℕ, ◌==◌, ◌||◌, Bool, true, false, Option, Some, None, if◌then◌else◌}
use Rattle.signal_values.specs.declared.Sig.{Sig}
use Rattle.signal_values.specs.declared.Sig.TheVariants.{Zero, One, Unknown}
use Rattle.signal_values.specs.declared.PinSig.{PinSig}
use Rattle.signal_values.specs.declared.PinSig.TheVariants.{Zero as PinZero, One as PinOne, Unknown as PinUnknown, HighZ}

-- own: the value of a bit
abbrev pub bit : Bool → Sig
bit false = Zero
bit true = One

-- gate level modelling: `not`
abbrev pub sig_not : Sig → Sig
sig_not Zero = One
sig_not One = Zero
sig_not Unknown = Unknown

-- gate level modelling: `and`, 0 if either side is 0, 1 if both are 1, else unknown
abbrev pub sig_and : Sig → Sig → Sig
sig_and Zero b = Zero
sig_and One b = b
sig_and Unknown Zero = Zero
sig_and Unknown One = Unknown
sig_and Unknown Unknown = Unknown

-- gate level modelling: `or`, 1 if either side is 1, 0 if both are 0, else unknown
abbrev pub sig_or : Sig → Sig → Sig
sig_or Zero b = b
sig_or One b = One
sig_or Unknown Zero = Unknown
sig_or Unknown One = One
sig_or Unknown Unknown = Unknown

-- gate level modelling: `xor`, unknown if either side is, else 1 exactly if the sides differ
abbrev pub sig_xor : Sig → Sig → Sig
sig_xor Zero b = b
sig_xor One b = sig_not b
sig_xor Unknown b = Unknown

-- own: a multiplexer as gates build it, (a and not s) or (b and s)
abbrev pub sig_mux : Sig → Sig → Sig → Sig
sig_mux s a b = sig_or (sig_and a (sig_not s)) (sig_and b s)

-- gate level modelling: a gate reads high impedance as unknown
abbrev pub see : PinSig → Sig
see PinZero = Zero
see PinOne = One
see PinUnknown = Unknown
see HighZ = Unknown

-- own: the same value at a pin
abbrev pub pin_of : Sig → PinSig
pin_of Zero = PinZero
pin_of One = PinOne
pin_of Unknown = PinUnknown

-- data types, nets with several drivers: high impedance yields, equal values stay, unequal ones are unknown
abbrev pub join : PinSig → PinSig → PinSig
join HighZ b = b
join PinZero HighZ = PinZero
join PinZero PinZero = PinZero
join PinZero PinOne = PinUnknown
join PinZero PinUnknown = PinUnknown
join PinOne HighZ = PinOne
join PinOne PinZero = PinUnknown
join PinOne PinOne = PinOne
join PinOne PinUnknown = PinUnknown
join PinUnknown b = PinUnknown

-- gate level modelling: three-state gates; the result for an unknown enable is own
abbrev pub drive : Sig → Sig → PinSig
drive value One = pin_of value
drive value Zero = HighZ
drive value Unknown = PinUnknown

-- own: the byte `0`, `1`, `x` or `z`
abbrev pub show_byte : PinSig → ℕ
show_byte PinZero = 48
show_byte PinOne = 49
show_byte PinUnknown = 120
show_byte HighZ = 122

-- own: the value of one of the bytes `0 1 x X z Z`
abbrev pub pin_sig_of : ℕ → Option PinSig
pin_sig_of b =
    if b == 48 then Some PinZero
    else if b == 49 then Some PinOne
    else if (b == 120) || (b == 88) then Some PinUnknown
    else if (b == 122) || (b == 90) then Some HighZ
    else None
