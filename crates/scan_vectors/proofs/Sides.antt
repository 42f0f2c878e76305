-- What a line may do with a bit on a side.
use Rattle.std.proofs.Common.{◌≡◌, Bool, true, false, Some, ◌⊎◌, inl, inr, refl}
use Rattle.signal_values.specs.declared.PinSig.{PinSig}
use Rattle.signal_values.specs.declared.PinSig.TheVariants.{Zero, One, Unknown, HighZ}
use Rattle.netlist_model.specs.declared.Dir.{Dir}
use Rattle.netlist_model.specs.declared.Dir.TheVariants.{Input, Output, Inout}
use Rattle.netlist_model.specs.Settled.{follows_pin}
use Rattle.netlist_model.specs.Runs.{IsKnownPin}
use Rattle.scan_vectors.specs.Starts.{takes, is_known, gives, shows}

pub known : (value : PinSig) → is_known value ≡ true → IsKnownPin value
known Zero e = inl refl
known One e = inr refl
known Unknown e = absurd (cc)
known HighZ e = absurd (cc)

pub unknown : (value : PinSig) → is_known value ≡ false → IsKnownPin value → ⊥
unknown Zero e is = cc
unknown One e is = cc
unknown Unknown e (inl is) = cc
unknown Unknown e (inr is) = cc
unknown HighZ e (inl is) = cc
unknown HighZ e (inr is) = cc

-- a bit that may be given a value
pub gives_is : (side : Dir) (control : Bool) (value : PinSig) → gives side control value ≡ true → (takes side ≡ true) × (control ≡ true → is_known value ≡ true)
gives_is Output control value e = absurd (cc)
gives_is Input true value e = (refl, λ c. e)
gives_is Input false value e = (refl, λ c. absurd (cc))
gives_is Inout true value e = (refl, λ c. e)
gives_is Inout false value e = (refl, λ c. absurd (cc))

-- and one that may not
pub gives_not : (side : Dir) (control : Bool) (value : PinSig) → gives side control value ≡ false → (side ≡ Output) ⊎ ((control ≡ true) × (is_known value ≡ false))
gives_not Output control value e = inl refl
gives_not Input true value e = inr (refl, e)
gives_not Input false value e = absurd (cc)
gives_not Inout true value e = inr (refl, e)
gives_not Inout false value e = absurd (cc)

pub takes_follows : (side : Dir) → takes side ≡ true → follows_pin (Some side) ≡ true
takes_follows Input e = refl
takes_follows Inout e = refl
takes_follows Output e = absurd (cc)

pub takes_no_output : (side : Dir) → takes side ≡ true → side ≡ Output → ⊥
takes_no_output Input e is = cc
takes_no_output Inout e is = cc
takes_no_output Output e is = cc

pub shows_no_input : (side : Dir) → shows side ≡ true → side ≡ Input → ⊥
shows_no_input Input e is = cc
shows_no_input Inout e is = cc
shows_no_input Output e is = cc

pub shows_not : (side : Dir) → shows side ≡ false → side ≡ Input
shows_not Input e = refl
shows_not Inout e = absurd (cc)
shows_not Output e = absurd (cc)
