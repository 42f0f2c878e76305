-- From any bits: with TMS at 1 each state that a flip-flop stands for comes nearer to Test-Logic-Reset, and no state leads there too.
use Rattle.std.proofs.Common.{◌≡◌, ℕ, zero, suc, ◌+◌, ◌<◌, ◌≤◌, ◌⊎◌, Bool, true, false, not, ◌&&◌, ◌||◌, if◌then◌else◌, List, [], ◌∷◌, length, Some, refl, sym, ap, ◌∙◌, inl, inr, arith}
use Rattle.std.specs.Prelude.{slice_get}
use Rattle.signal_values.specs.declared.Sig.{Sig}
use Rattle.signal_values.specs.Values.{bit}
use Rattle.cell_library.specs.Flops.{reset_or}
use Rattle.cell_library.specs.Gates.{flop_of}
use Rattle.cell_library.specs.Laws.{IsKnown}
use Rattle.netlist_model.specs.declared.NetId.{NetId}
use Rattle.netlist_model.specs.Lists.{NetlistView}
use Rattle.netlist_model.specs.Settled.{IsSettled}
use Rattle.netlist_model.specs.Formed.{IsWellFormed}
use Rattle.netlist_model.specs.Contained.{HasCells}
use Rattle.netlist_model.specs.Runs.{Moment, PinEvent, IsStart}
use Rattle.test_logic.specs.declared.TapState.{TapState}
use Rattle.test_logic.specs.declared.TapState.TheVariants.{TestLogicReset, RunTestIdle, SelectDrScan, CaptureDr, ShiftDr, Exit1Dr, PauseDr, Exit2Dr, UpdateDr, SelectIrScan, CaptureIr, ShiftIr, Exit1Ir, PauseIr, Exit2Ir, UpdateIr}
use Rattle.test_logic.specs.declared.Levels.{Levels}
use Rattle.test_logic.specs.Rises.{is_rise, rises, RisesWithOnes}
use Rattle.tap_gates.specs.Controller.{tap_cells, same_state, state_net}
use Rattle.tap_gates.specs.Laws.{Carries}
use Rattle.tap_gates.specs.Home.{AreGivenBits, IsCourse, HoldsBits as HoldsSomeBits, TapFindsHome}
use Rattle.tap_gates.proofs.NextBits.{HoldsBits, is_none, none_of, next_bits}
use Rattle.tap_gates.proofs.Follows.{PartLaws, reset_to, flop_kind, reset_low, reset_high, flop_at, bits_step, step_bits}

-- how many rising edges lead from a state to Test-Logic-Reset, with TMS at 1
abbrev far : TapState → ℕ
far TestLogicReset = 0
far RunTestIdle = 3
far SelectDrScan = 2
far CaptureDr = 5
far ShiftDr = 5
far Exit1Dr = 4
far PauseDr = 5
far Exit2Dr = 4
far UpdateDr = 3
far SelectIrScan = 1
far CaptureIr = 5
far ShiftIr = 5
far Exit1Ir = 4
far PauseIr = 5
far Exit2Ir = 4
far UpdateIr = 3

-- Bits.

either : (a b : Bool) → (a || b) ≡ true → (a ≡ true) ⊎ (b ≡ true)
either true b e = inl refl
either false b e = inr e

first_true : (a b : Bool) → (a && b) ≡ true → a ≡ true
first_true true b e = refl
first_true false b e = e

never : (a : Bool) → (a && false) ≡ true → ⊥
never true e = absurd (cc)
never false e = absurd (cc)

neither : (a b : Bool) → (a || b) ≡ false → (a ≡ false) × (b ≡ false)
neither true b e = absurd (cc)
neither false b e = (refl, e)

with_one : (a : Bool) → (a && true) ≡ false → a ≡ false
with_one true e = absurd (cc)
with_one false e = refl

both : (a b : Bool) → (a && b) ≡ true → (a ≡ true) × (b ≡ true)
both true b e = (refl, e)
both false b e = absurd (cc)

record NoneOf (a b c d : Bool) : Type 0 where
  one : a ≡ false
  two : b ≡ false
  three : c ≡ false
  four : d ≡ false

none_of_four : (a b c d : Bool) → none_of a b c d ≡ true → NoneOf a b c d
none_of_four false false false false e = record { one = refl; two = refl; three = refl; four = refl }
none_of_four true b c d e = absurd (cc)
none_of_four false true c d e = absurd (cc)
none_of_four false false true d e = absurd (cc)
none_of_four false false false true e = absurd (cc)

-- sixteen bits at 0
by_state : (f : TapState → Bool) → f TestLogicReset ≡ false → f RunTestIdle ≡ false → f SelectDrScan ≡ false → f CaptureDr ≡ false → f ShiftDr ≡ false → f Exit1Dr ≡ false → f PauseDr ≡ false → f Exit2Dr ≡ false → f UpdateDr ≡ false → f SelectIrScan ≡ false → f CaptureIr ≡ false → f ShiftIr ≡ false → f Exit1Ir ≡ false → f PauseIr ≡ false → f Exit2Ir ≡ false → f UpdateIr ≡ false → (s : TapState) → f s ≡ false
by_state f e0 e1 e2 e3 e4 e5 e6 e7 e8 e9 e10 e11 e12 e13 e14 e15 TestLogicReset = e0
by_state f e0 e1 e2 e3 e4 e5 e6 e7 e8 e9 e10 e11 e12 e13 e14 e15 RunTestIdle = e1
by_state f e0 e1 e2 e3 e4 e5 e6 e7 e8 e9 e10 e11 e12 e13 e14 e15 SelectDrScan = e2
by_state f e0 e1 e2 e3 e4 e5 e6 e7 e8 e9 e10 e11 e12 e13 e14 e15 CaptureDr = e3
by_state f e0 e1 e2 e3 e4 e5 e6 e7 e8 e9 e10 e11 e12 e13 e14 e15 ShiftDr = e4
by_state f e0 e1 e2 e3 e4 e5 e6 e7 e8 e9 e10 e11 e12 e13 e14 e15 Exit1Dr = e5
by_state f e0 e1 e2 e3 e4 e5 e6 e7 e8 e9 e10 e11 e12 e13 e14 e15 PauseDr = e6
by_state f e0 e1 e2 e3 e4 e5 e6 e7 e8 e9 e10 e11 e12 e13 e14 e15 Exit2Dr = e7
by_state f e0 e1 e2 e3 e4 e5 e6 e7 e8 e9 e10 e11 e12 e13 e14 e15 UpdateDr = e8
by_state f e0 e1 e2 e3 e4 e5 e6 e7 e8 e9 e10 e11 e12 e13 e14 e15 SelectIrScan = e9
by_state f e0 e1 e2 e3 e4 e5 e6 e7 e8 e9 e10 e11 e12 e13 e14 e15 CaptureIr = e10
by_state f e0 e1 e2 e3 e4 e5 e6 e7 e8 e9 e10 e11 e12 e13 e14 e15 ShiftIr = e11
by_state f e0 e1 e2 e3 e4 e5 e6 e7 e8 e9 e10 e11 e12 e13 e14 e15 Exit1Ir = e12
by_state f e0 e1 e2 e3 e4 e5 e6 e7 e8 e9 e10 e11 e12 e13 e14 e15 PauseIr = e13
by_state f e0 e1 e2 e3 e4 e5 e6 e7 e8 e9 e10 e11 e12 e13 e14 e15 Exit2Ir = e14
by_state f e0 e1 e2 e3 e4 e5 e6 e7 e8 e9 e10 e11 e12 e13 e14 e15 UpdateIr = e15

-- none is each at 0
each_none : (f : TapState → Bool) → is_none f ≡ true → (s : TapState) → f s ≡ false
each_none f e s =
    let abc = both ((none_of (f TestLogicReset) (f RunTestIdle) (f SelectDrScan) (f CaptureDr) && none_of (f ShiftDr) (f Exit1Dr) (f PauseDr) (f Exit2Dr)) && none_of (f UpdateDr) (f SelectIrScan) (f CaptureIr) (f ShiftIr)) (none_of (f Exit1Ir) (f PauseIr) (f Exit2Ir) (f UpdateIr)) e in
    let ab = both (none_of (f TestLogicReset) (f RunTestIdle) (f SelectDrScan) (f CaptureDr) && none_of (f ShiftDr) (f Exit1Dr) (f PauseDr) (f Exit2Dr)) (none_of (f UpdateDr) (f SelectIrScan) (f CaptureIr) (f ShiftIr)) abc.0 in
    let a = both (none_of (f TestLogicReset) (f RunTestIdle) (f SelectDrScan) (f CaptureDr)) (none_of (f ShiftDr) (f Exit1Dr) (f PauseDr) (f Exit2Dr)) ab.0 in
    let q0 = none_of_four (f TestLogicReset) (f RunTestIdle) (f SelectDrScan) (f CaptureDr) a.0 in
    let q1 = none_of_four (f ShiftDr) (f Exit1Dr) (f PauseDr) (f Exit2Dr) a.1 in
    let q2 = none_of_four (f UpdateDr) (f SelectIrScan) (f CaptureIr) (f ShiftIr) ab.1 in
    let q3 = none_of_four (f Exit1Ir) (f PauseIr) (f Exit2Ir) (f UpdateIr) abc.1 in
    by_state f q0.one q0.two q0.three q0.four q1.one q1.two q1.three q1.four q2.one q2.two q2.three q2.four q3.one q3.two q3.three q3.four s

all_none : (f : TapState → Bool) → ((s : TapState) → f s ≡ false) → is_none f ≡ true
all_none f zeros = rw (zeros TestLogicReset, zeros RunTestIdle, zeros SelectDrScan, zeros CaptureDr, zeros ShiftDr, zeros Exit1Dr, zeros PauseDr, zeros Exit2Dr, zeros UpdateDr, zeros SelectIrScan, zeros CaptureIr, zeros ShiftIr, zeros Exit1Ir, zeros PauseIr, zeros Exit2Ir, zeros UpdateIr) refl

-- after so many rising edges with TMS at 1 each state whose flip-flop holds 1 is so near, and some flip-flop holds 1 after the first
record IsNear (k : ℕ) (f : TapState → Bool) : Type 0 where
  near : (s : TapState) → f s ≡ true → far s ≡ 0 ⊎ far s + k ≤ 5
  some : k ≡ 0 ⊎ is_none f ≡ false

at_first : (f : TapState → Bool) → IsNear 0 f
at_first f = record { near = λ s e. inr (far_few s); some = inl refl }
  where
    far_few : (s : TapState) → far s + 0 ≤ 5
    far_few TestLogicReset = omega arith
    far_few RunTestIdle = omega arith
    far_few SelectDrScan = omega arith
    far_few CaptureDr = omega arith
    far_few ShiftDr = omega arith
    far_few Exit1Dr = omega arith
    far_few PauseDr = omega arith
    far_few Exit2Dr = omega arith
    far_few UpdateDr = omega arith
    far_few SelectIrScan = omega arith
    far_few CaptureIr = omega arith
    far_few ShiftIr = omega arith
    far_few Exit1Ir = omega arith
    far_few PauseIr = omega arith
    far_few Exit2Ir = omega arith
    far_few UpdateIr = omega arith

come : (k a b : ℕ) → 1 ≤ a → b + 1 ≤ a → a ≡ 0 ⊎ a + k ≤ 5 → b ≡ 0 ⊎ b + suc k ≤ 5
come k a b up down (inl e) = absurd (omega arith)
come k a b up down (inr h) = inr (omega arith)

-- a state that is reached from one of these
nearer : (k : ℕ) (f : TapState → Bool) → ((s : TapState) → f s ≡ true → far s ≡ 0 ⊎ far s + k ≤ 5) → (s : TapState) → next_bits f true s ≡ true → far s ≡ 0 ⊎ far s + suc k ≤ 5
nearer k f near TestLogicReset e = inl refl
nearer k f near RunTestIdle e = absurd (never (((f TestLogicReset || f RunTestIdle) || f UpdateDr) || f UpdateIr) e)
nearer k f near SelectDrScan e = let h = first_true ((f RunTestIdle || f UpdateDr) || f UpdateIr) true e in elim (either (f RunTestIdle || f UpdateDr) (f UpdateIr) h) [ inl a3 ↦ elim (either (f RunTestIdle) (f UpdateDr) a3) [ inl a2 ↦ come k (far RunTestIdle) (far SelectDrScan) (omega arith) (omega arith) (near RunTestIdle a2) | inr b2 ↦ come k (far UpdateDr) (far SelectDrScan) (omega arith) (omega arith) (near UpdateDr b2) ] | inr b3 ↦ come k (far UpdateIr) (far SelectDrScan) (omega arith) (omega arith) (near UpdateIr b3) ]
nearer k f near CaptureDr e = absurd (never (f SelectDrScan) e)
nearer k f near ShiftDr e = absurd (never ((f CaptureDr || f ShiftDr) || f Exit2Dr) e)
nearer k f near Exit1Dr e = let h = first_true (f CaptureDr || f ShiftDr) true e in elim (either (f CaptureDr) (f ShiftDr) h) [ inl a2 ↦ come k (far CaptureDr) (far Exit1Dr) (omega arith) (omega arith) (near CaptureDr a2) | inr b2 ↦ come k (far ShiftDr) (far Exit1Dr) (omega arith) (omega arith) (near ShiftDr b2) ]
nearer k f near PauseDr e = absurd (never (f Exit1Dr || f PauseDr) e)
nearer k f near Exit2Dr e = let h = first_true (f PauseDr) true e in come k (far PauseDr) (far Exit2Dr) (omega arith) (omega arith) (near PauseDr h)
nearer k f near UpdateDr e = let h = first_true (f Exit1Dr || f Exit2Dr) true e in elim (either (f Exit1Dr) (f Exit2Dr) h) [ inl a2 ↦ come k (far Exit1Dr) (far UpdateDr) (omega arith) (omega arith) (near Exit1Dr a2) | inr b2 ↦ come k (far Exit2Dr) (far UpdateDr) (omega arith) (omega arith) (near Exit2Dr b2) ]
nearer k f near SelectIrScan e = let h = first_true (f SelectDrScan) true e in come k (far SelectDrScan) (far SelectIrScan) (omega arith) (omega arith) (near SelectDrScan h)
nearer k f near CaptureIr e = absurd (never (f SelectIrScan) e)
nearer k f near ShiftIr e = absurd (never ((f CaptureIr || f ShiftIr) || f Exit2Ir) e)
nearer k f near Exit1Ir e = let h = first_true (f CaptureIr || f ShiftIr) true e in elim (either (f CaptureIr) (f ShiftIr) h) [ inl a2 ↦ come k (far CaptureIr) (far Exit1Ir) (omega arith) (omega arith) (near CaptureIr a2) | inr b2 ↦ come k (far ShiftIr) (far Exit1Ir) (omega arith) (omega arith) (near ShiftIr b2) ]
nearer k f near PauseIr e = absurd (never (f Exit1Ir || f PauseIr) e)
nearer k f near Exit2Ir e = let h = first_true (f PauseIr) true e in come k (far PauseIr) (far Exit2Ir) (omega arith) (omega arith) (near PauseIr h)
nearer k f near UpdateIr e = let h = first_true (f Exit1Ir || f Exit2Ir) true e in elim (either (f Exit1Ir) (f Exit2Ir) h) [ inl a2 ↦ come k (far Exit1Ir) (far UpdateIr) (omega arith) (omega arith) (near Exit1Ir a2) | inr b2 ↦ come k (far Exit2Ir) (far UpdateIr) (omega arith) (omega arith) (near Exit2Ir b2) ]

some_stays : (f : TapState → Bool) (b : Bool) → is_none f ≡ b → is_none (next_bits f true) ≡ false
some_stays f b e = by_next (is_none (next_bits f true)) refl
  where
    by_next : (c : Bool) → is_none (next_bits f true) ≡ c → c ≡ false
    by_next false g = refl
    by_next true g =
        let zero_next : (s : TapState) → next_bits f true s ≡ false = each_none (next_bits f true) g in
        let n0 = with_one ((f TestLogicReset || f SelectIrScan) || is_none f) (zero_next TestLogicReset) in
        let m0 = neither (f TestLogicReset || f SelectIrScan) (is_none f) n0 in
        let p0_0 = neither (f TestLogicReset) (f SelectIrScan) m0.0 in
        let n2 = with_one ((f RunTestIdle || f UpdateDr) || f UpdateIr) (zero_next SelectDrScan) in
        let p2_0 = neither (f RunTestIdle || f UpdateDr) (f UpdateIr) n2 in
        let p2_1 = neither (f RunTestIdle) (f UpdateDr) p2_0.0 in
        let n5 = with_one (f CaptureDr || f ShiftDr) (zero_next Exit1Dr) in
        let p5_0 = neither (f CaptureDr) (f ShiftDr) n5 in
        let n7 = with_one (f PauseDr) (zero_next Exit2Dr) in
        let n8 = with_one (f Exit1Dr || f Exit2Dr) (zero_next UpdateDr) in
        let p8_0 = neither (f Exit1Dr) (f Exit2Dr) n8 in
        let n9 = with_one (f SelectDrScan) (zero_next SelectIrScan) in
        let n12 = with_one (f CaptureIr || f ShiftIr) (zero_next Exit1Ir) in
        let p12_0 = neither (f CaptureIr) (f ShiftIr) n12 in
        let n14 = with_one (f PauseIr) (zero_next Exit2Ir) in
        let n15 = with_one (f Exit1Ir || f Exit2Ir) (zero_next UpdateIr) in
        let p15_0 = neither (f Exit1Ir) (f Exit2Ir) n15 in
        let all : is_none f ≡ true = all_none f (by_state f p0_0.0 p2_1.0 n9 p5_0.0 p5_0.1 p8_0.0 n7 p8_0.1 p2_1.1 p0_0.1 p12_0.0 p12_0.1 p15_0.0 n14 p15_0.1 p2_0.1) in
        absurd (let bad : true ≡ false = sym all ∙ m0.1 in cc)

near_next : (k : ℕ) (f : TapState → Bool) → IsNear k f → IsNear (suc k) (next_bits f true)
near_next k f h = record { near = nearer k f h.near; some = inr (some_stays f (is_none f) refl) }

-- so does reset
near_reset : (k : ℕ) → IsNear k (λ s. same_state s TestLogicReset)
near_reset k = record { near = λ s e. inl (only s e); some = inr refl }
  where
    only : (s : TapState) → same_state s TestLogicReset ≡ true → far s ≡ 0
    only s e = grind arith

-- five are enough
at_home : (k : ℕ) (f : TapState → Bool) → IsNear k f → 5 ≤ k → (s : TapState) → f s ≡ same_state s TestLogicReset
at_home k f h many = λ s. by_state_home s (f s) refl
  where
    others : (s : TapState) → 1 ≤ far s → f s ≡ false
    others s up = by_bit (f s) refl
      where
        by_bit : (b : Bool) → f s ≡ b → f s ≡ false
        by_bit false e = e
        by_bit true e = absurd (elim (h.near s e) [ inl z ↦ (let bad : far s ≡ 0 = z in omega arith) | inr l ↦ (let bad : far s + k ≤ 5 = l in omega arith) ])

    home_bit : f TestLogicReset ≡ true
    home_bit = by_bit (f TestLogicReset) refl
      where
        by_bit : (b : Bool) → f TestLogicReset ≡ b → f TestLogicReset ≡ true
        by_bit true e = e
        by_bit false e =
            let all : is_none f ≡ true = all_none f (by_state f e (others RunTestIdle (omega arith)) (others SelectDrScan (omega arith)) (others CaptureDr (omega arith)) (others ShiftDr (omega arith)) (others Exit1Dr (omega arith)) (others PauseDr (omega arith)) (others Exit2Dr (omega arith)) (others UpdateDr (omega arith)) (others SelectIrScan (omega arith)) (others CaptureIr (omega arith)) (others ShiftIr (omega arith)) (others Exit1Ir (omega arith)) (others PauseIr (omega arith)) (others Exit2Ir (omega arith)) (others UpdateIr (omega arith))) in
            absurd (elim h.some [ inl z ↦ omega arith | inr n ↦ (let bad : true ≡ false = sym all ∙ n in cc) ])

    by_state_home : (s : TapState) (b : Bool) → f s ≡ b → f s ≡ same_state s TestLogicReset
    by_state_home TestLogicReset b e = home_bit
    by_state_home RunTestIdle b e = others RunTestIdle (omega arith)
    by_state_home SelectDrScan b e = others SelectDrScan (omega arith)
    by_state_home CaptureDr b e = others CaptureDr (omega arith)
    by_state_home ShiftDr b e = others ShiftDr (omega arith)
    by_state_home Exit1Dr b e = others Exit1Dr (omega arith)
    by_state_home PauseDr b e = others PauseDr (omega arith)
    by_state_home Exit2Dr b e = others Exit2Dr (omega arith)
    by_state_home UpdateDr b e = others UpdateDr (omega arith)
    by_state_home SelectIrScan b e = others SelectIrScan (omega arith)
    by_state_home CaptureIr b e = others CaptureIr (omega arith)
    by_state_home ShiftIr b e = others ShiftIr (omega arith)
    by_state_home Exit1Ir b e = others Exit1Ir (omega arith)
    by_state_home PauseIr b e = others PauseIr (omega arith)
    by_state_home Exit2Ir b e = others Exit2Ir (omega arith)
    by_state_home UpdateIr b e = others UpdateIr (omega arith)

-- Along a course.

there : (events : List PinEvent) (t : ℕ) → t < length events → (event : PinEvent) × (slice_get events t ≡ Some event)
there [] t low = absurd (omega arith)
there (event ∷ events) zero low = (event, refl)
there (event ∷ events) (suc t) low = there events t (omega arith)

settled_at : (N : NetlistView) (events : List PinEvent) (moment : ℕ → Moment) → IsCourse N events moment → (t : ℕ) → t ≤ length events
    → IsSettled N (moment t).pins (moment t).state (moment t).value
settled_at N events moment course zero below = course.settled
settled_at N events moment course (suc t) below = let event = there events t (omega arith) in (course.steps t event.0 event.1).settled

near_then : (f : TapState → Bool) (before after : Levels) (k : ℕ) → IsNear k f → (is_rise before after ≡ true → before.tms ≡ true)
    → IsNear (if is_rise before after then suc k else k) (bits_step f before after)
near_then f before after k near ones = by_levels before.tck after.tck after.trst before.tms ones
  where
    by_levels : (a b c t : Bool) → ((not a && b) ≡ true → t ≡ true)
        → IsNear (if not a && b then suc k else k) (λ s. if c then (if a then f s else (if b then next_bits f t s else f s)) else same_state s TestLogicReset)
    by_levels a b false t high = near_reset _
    by_levels true b true t high = near
    by_levels false true true true high = near_next k f near
    by_levels false true true false high = absurd (let bad : false ≡ true = high refl in cc)
    by_levels false false true t high = near

-- the bits at a moment
record BitsAt (first : ℕ) (levels : ℕ → Levels) (m : Moment) (t : ℕ) : Type 0 where
  bits : TapState → Bool
  held : HoldsBits first bits m
  near : IsNear (rises levels t) bits

along : PartLaws → (N : NetlistView) (first number : ℕ) (tck tms trst : NetId) (events : List PinEvent) (moment : ℕ → Moment) (levels : ℕ → Levels) → IsWellFormed N
    → HasCells N (tap_cells first number tck tms trst) → IsCourse N events moment → HoldsSomeBits first (moment 0)
    → ((t : ℕ) → t ≤ length events → Carries tck tms trst (levels t) (moment t)) → (t : ℕ) → t ≤ length events → RisesWithOnes levels t → BitsAt first levels (moment t) t
along by N first number tck tms trst events moment levels formed has course held carried zero below ones =
    let f : TapState → Bool = λ s. (held.each s).known in
    record { bits = f; held = record { each = λ s. (held.each s).same }; near = at_first f }
along by N first number tck tms trst events moment levels formed has course held carried (suc t) below ones =
    let before : t ≤ length events = omega arith in
    let past : RisesWithOnes levels t = λ u h e. ones u (omega arith) e in
    let now = along by N first number tck tms trst events moment levels formed has course held carried t before past in
    let event = there events t (omega arith) in record {
      bits = bits_step now.bits (levels t) (levels (suc t));
      held = step_bits by N first number tck tms trst event.0 now.bits (levels t) (levels (suc t)) (moment t) (moment (suc t)) formed has (settled_at N events moment course t before)
          (course.steps t event.0 event.1) (carried t before) (carried (suc t) below) now.held;
      near = near_then now.bits (levels t) (levels (suc t)) (rises levels t) now.near (λ e. ones t (omega arith) e);
    }

-- at a start
known_bit : (s : TapState) (b : Bool) (x : Sig) → IsKnown x → IsKnown (reset_or (reset_to s) (bit b) x)
known_bit s true x known = record { known = known.known; same = reset_high s x ∙ known.same }
known_bit s false x known = record { known = same_state s TestLogicReset; same = reset_low s x }

start_bit : PartLaws → (N : NetlistView) (first number : ℕ) (tck tms trst : NetId) (given : ℕ → Sig) (levels : Levels) (m : Moment) → IsWellFormed N
    → HasCells N (tap_cells first number tck tms trst) → IsStart N given m → Carries tck tms trst levels m → AreGivenBits N first given → (s : TapState)
    → IsKnown (m.value (state_net first s).0)
start_bit by N first number tck tms trst given levels m formed has start carried bits s =
    let on = flop_at by N first number tck tms trst formed has s in
    let h : m.value (state_net first s).0 ≡ reset_or (reset_to s) (m.value trst.0) (given on.has.number) = by.starts N _ _ (state_net first s).0 on given m start in
    let known = bits s on.has.number (record on.cell { name = on.has.name }) (flop_kind s) on.has.live (ap (flop_of N.library) on.kind_is) on.output in
    let bit_known = known_bit s levels.trst (given on.has.number) known in
    record { known = bit_known.known; same = h ∙ ap (λ (x : Sig). reset_or (reset_to s) x (given on.has.number)) carried.reset ∙ bit_known.same }

pub finds_home : PartLaws → TapFindsHome
finds_home by first number tck tms trst = record {
  starts = λ N given levels m formed has start carried bits. record { each = λ s. start_bit by N first number tck tms trst given levels m formed has start carried bits s };
  home = λ N events moment levels formed has course held carried t below ones many.
      let now = along by N first number tck tms trst events moment levels formed has course held carried t below ones in
      record { each = λ s. now.held.each s ∙ ap bit (at_home (rises levels t) now.bits now.near many s) };
  leaves_none = λ N event before after m m' formed has settled step carried carried' rise off held high.
      let f : TapState → Bool = λ s. false in
      let now = step_bits by N first number tck tms trst event f before after m m' formed has settled step carried carried' (record { each = held.each }) in
      record { each = λ s. now.each s ∙ ap bit (goes_home before after s rise off high) };
  stays_none = λ N event before after m m' formed has settled step carried carried' rise off held low.
      let f : TapState → Bool = λ s. false in
      let now = step_bits by N first number tck tms trst event f before after m m' formed has settled step carried carried' (record { each = held.each }) in
      record { each = λ s. now.each s ∙ ap bit (stays before after s rise off low) };
}
  where
    by_rise : (a b c t : Bool) (s : TapState) → (not a && b) ≡ true → c ≡ true
        → (if c then (if a then false else (if b then next_bits (λ x. false) t s else false)) else same_state s TestLogicReset) ≡ next_bits (λ x. false) t s
    by_rise false true true t s e off = refl
    by_rise true b c t s e off = absurd (cc)
    by_rise false false c t s e off = absurd (cc)
    by_rise false true false t s e off = absurd (cc)

    from_none : (t : Bool) (s : TapState) → next_bits (λ x. false) t s ≡ (if t then same_state s TestLogicReset else false)
    from_none t s = grind arith

    goes_home : (before after : Levels) (s : TapState) → is_rise before after ≡ true → after.trst ≡ true → before.tms ≡ true → bits_step (λ x. false) before after s ≡ same_state s TestLogicReset
    goes_home before after s rise off high =
        by_rise before.tck after.tck after.trst before.tms s rise off ∙ ap (λ (t : Bool). next_bits (λ x. false) t s) high ∙ from_none true s

    stays : (before after : Levels) (s : TapState) → is_rise before after ≡ true → after.trst ≡ true → before.tms ≡ false → bits_step (λ x. false) before after s ≡ false
    stays before after s rise off low =
        by_rise before.tck after.tck after.trst before.tms s rise off ∙ ap (λ (t : Bool). next_bits (λ x. false) t s) low ∙ from_none false s
