-- Operands up to a base.
use Rattle.std.proofs.Common.{ℕ, suc, zero, ◌/◌, ◌%◌, ◌==◌, ◌≤◌, Bool, true, false, List, [], ◌∷◌}
use Rattle.netlist_model.specs.declared.NetId.{NetId}
use Rattle.netlist_model.specs.declared.Feed.{Feed}
use Rattle.netlist_model.specs.declared.Feed.TheVariants.{Net, Const}
use Rattle.gate_parts.specs.Levels.{AreFeedsUpTo}
use Rattle.register_gates.specs.Constants.{constant_bits}
use Rattle.register_gates.specs.Choices.{choice, choice_bits}

pub up_cons : (rank : ℕ → ℕ) (base : ℕ) (feed : Feed) (feeds : List Feed) → AreFeedsUpTo rank base (feed ∷ []) → AreFeedsUpTo rank base feeds → AreFeedsUpTo rank base (feed ∷ feeds)
up_cons rank base (Net net) feeds a b = (a.0, b)
up_cons rank base (Const c) feeds a b = b

pub up_head : (rank : ℕ → ℕ) (base : ℕ) (feed : Feed) (feeds : List Feed) → AreFeedsUpTo rank base (feed ∷ feeds) → AreFeedsUpTo rank base (feed ∷ [])
up_head rank base (Net net) feeds a = (a.0, tt)
up_head rank base (Const c) feeds a = tt

pub up_tail : (rank : ℕ → ℕ) (base : ℕ) (feed : Feed) (feeds : List Feed) → AreFeedsUpTo rank base (feed ∷ feeds) → AreFeedsUpTo rank base feeds
up_tail rank base (Net net) feeds a = a.1
up_tail rank base (Const c) feeds a = a

-- constants have no numbers
pub up_constants : (rank : ℕ → ℕ) (base count value : ℕ) → AreFeedsUpTo rank base (constant_bits count value)
unfolding constant_bits
up_constants rank base zero value = tt
up_constants rank base (suc count) value = up_constants rank base count (value / 2)

-- and what is captured is a constant, or one of two nets
up_choice : (rank : ℕ → ℕ) (base : ℕ) (a b : Bool) (on off : NetId) (feeds : List Feed) → rank on.0 ≤ base → rank off.0 ≤ base → AreFeedsUpTo rank base feeds
    → AreFeedsUpTo rank base (choice a b on off ∷ feeds)
up_choice rank base false false on off feeds low low' up = up
up_choice rank base false true on off feeds low low' up = (low, up)
up_choice rank base true false on off feeds low low' up = (low', up)
up_choice rank base true true on off feeds low low' up = up

pub up_choices : (rank : ℕ → ℕ) (base count code user : ℕ) (on off : NetId) → rank on.0 ≤ base → rank off.0 ≤ base → AreFeedsUpTo rank base (choice_bits count code user on off)
unfolding choice_bits
up_choices rank base zero code user on off low low' = tt
up_choices rank base (suc count) code user on off low low' =
    up_choice rank base (code % 2 == 1) (user % 2 == 1) on off (choice_bits count (code / 2) (user / 2) on off) low low' (up_choices rank base count (code / 2) (user / 2) on off low low')
