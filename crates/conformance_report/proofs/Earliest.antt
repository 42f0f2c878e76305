-- The first line that is wrong: the lesser of the first that breaks a rule on events and the first that breaks that of the test access port.
use Rattle.std.proofs.Common.{◌≡◌, ℕ, ◌<◌, ◌≤◌, inl, inr, min, Option, Some, None, MatchOption, refl, sym, subst, ◌∙◌, arith}
use Rattle.std.specs.Prelude.{slice_get}
use Rattle.std.proofs.lemmas.Bool.{cases_lt}
use Rattle.std.proofs.lemmas.Option.{same_Some}
use Rattle.netlist_link.specs.Linked.{LinkedView}
use Rattle.bsdl_device.specs.declared.values.Device.{Device}
use Rattle.scan_vectors.specs.declared.lines.Lines.{Lines}
use Rattle.scan_vectors.specs.Rules.{AreLegal, AreIllegalAt, IsFirstBroken}
use Rattle.scan_vectors.specs.Rules.AreIllegalAt.{broken, unstarted}
use Rattle.scan_vectors.specs.Scripts.{IsSpelled}
use Rattle.conformance_report.specs.Rules.{KeepsTapRule, IsWrong, IsFirstWrong, IsIllegalAt}
use Rattle.conformance_report.specs.Firsts.{IsFirstTapBroken, lesser}
use Rattle.conformance_report.proofs.Numbers.{AreNumbered, ascend_at, ascend_apart, spelled_numbered}

-- where no rule on events is broken, the line that breaks that of the test access port is the first
pub tap_first : (L : LinkedView) (d : Device) (lines : Lines) (number : ℕ) → AreLegal L lines → IsFirstTapBroken d lines number → IsIllegalAt L d lines number
tap_first L d lines number legal tap =
    let first : IsFirstWrong L d lines.list tap.place = record { here = inr tap.here; first = earliest } in
    IsIllegalAt.wrong first tap.number_is
  where
    earliest : (earlier : ℕ) → earlier < tap.place → IsWrong L d lines.list earlier → ⊥
    earliest earlier less (inl is) = legal.unbroken earlier is
    earliest earlier less (inr is) = tap.first earlier less is

-- where that of the test access port is kept, the first is that which breaks a rule on events
event_first : (L : LinkedView) (d : Device) (lines : Lines) (number : ℕ) → KeepsTapRule d lines.list → AreIllegalAt L lines number → IsIllegalAt L d lines number
event_first L d lines number kept (broken {place} first numbered) =
    let wrong : IsFirstWrong L d lines.list place = record { here = inl first.here; first = earliest } in
    IsIllegalAt.wrong wrong numbered
  where
    earliest : (earlier : ℕ) → earlier < place → IsWrong L d lines.list earlier → ⊥
    earliest earlier less (inl is) = first.first earlier less is
    earliest earlier less (inr is) = kept earlier is
event_first L d lines number kept (unstarted none lacks) = IsIllegalAt.unstarted free lacks
  where
    free : (place : ℕ) → IsWrong L d lines.list place → ⊥
    free place (inl is) = none place is
    free place (inr is) = kept place is

-- the two first lines, in either order
both_broken : (L : LinkedView) (d : Device) (lines : Lines) (place number line : ℕ) → AreNumbered lines → IsFirstTapBroken d lines line → IsFirstBroken L lines.list place
    → slice_get lines.numbers place ≡ Some number → IsIllegalAt L d lines (min line number)
both_broken L d lines place number line are tap first numbered = elim (cases_lt tap.place place) [
  | inl before ↦
      let less = ascend_apart 0 lines.end lines.numbers tap.place place line number are.ascend before tap.number_is numbered in
      let same : line ≡ min line number = grind arith in
      let wrong : IsFirstWrong L d lines.list tap.place = record { here = inr tap.here; first = tap_earliest before } in
      subst (IsIllegalAt L d lines) same (IsIllegalAt.wrong wrong tap.number_is)
  | inr behind ↦
      let less : number ≤ line = at_most behind in
      let same : number ≡ min line number = grind arith in
      let wrong : IsFirstWrong L d lines.list place = record { here = inl first.here; first = event_earliest behind } in
      subst (IsIllegalAt L d lines) same (IsIllegalAt.wrong wrong numbered)
]
  where
    tap_earliest : tap.place < place → (earlier : ℕ) → earlier < tap.place → IsWrong L d lines.list earlier → ⊥
    tap_earliest before earlier less (inl is) = first.first earlier (omega (arith, less, before)) is
    tap_earliest before earlier less (inr is) = tap.first earlier less is

    event_earliest : place ≤ tap.place → (earlier : ℕ) → earlier < place → IsWrong L d lines.list earlier → ⊥
    event_earliest behind earlier less (inl is) = first.first earlier less is
    event_earliest behind earlier less (inr is) = tap.first earlier (omega (arith, less, behind)) is

    at_most : place ≤ tap.place → number ≤ line
    at_most behind = elim (cases_lt place tap.place) [
      | inl less ↦ (let apart = ascend_apart 0 lines.end lines.numbers place tap.place number line are.ascend less numbered tap.number_is in omega (arith, apart))
      | inr same ↦
          let equal : place ≡ tap.place = omega (arith, behind, same) in
          let found : Some number ≡ Some line = sym numbered ∙ subst (λ (k : ℕ). slice_get lines.numbers place ≡ slice_get lines.numbers k) equal refl ∙ tap.number_is in
          let one : number ≡ line = same_Some number line found in omega (arith, one)
    ]

-- the first line where one breaks the rule of the test access port, and the lines are illegal without it
tap_or_event : (L : LinkedView) (d : Device) (lines : Lines) (line number : ℕ) → AreNumbered lines → IsFirstTapBroken d lines line → AreIllegalAt L lines number
    → IsIllegalAt L d lines (min line number)
tap_or_event L d lines line number are tap (broken {place} first numbered) = both_broken L d lines place number line are tap first numbered
tap_or_event L d lines line number are tap (unstarted none lacks) =
    let below = (ascend_at 0 lines.end lines.numbers tap.place line are.ascend tap.number_is).1 in
    let same : line ≡ min line lines.end = grind arith in
    let wrong : IsFirstWrong L d lines.list tap.place = record { here = inr tap.here; first = earliest } in
    subst (IsIllegalAt L d lines) same (IsIllegalAt.wrong wrong tap.number_is)
  where
    earliest : (earlier : ℕ) → earlier < tap.place → IsWrong L d lines.list earlier → ⊥
    earliest earlier less (inl is) = none earlier is
    earliest earlier less (inr is) = tap.first earlier less is

pub lesser_first : (L : LinkedView) (d : Device) (lines : Lines) (first : Option ℕ) (number : ℕ) → IsSpelled lines → MatchOption first (KeepsTapRule d lines.list) (IsFirstTapBroken d lines)
    → AreIllegalAt L lines number → IsIllegalAt L d lines (lesser first number)
lesser_first L d lines None number spelled kept bad = event_first L d lines number kept bad
lesser_first L d lines (Some line) number spelled tap bad = tap_or_event L d lines line number (spelled_numbered lines spelled) tap bad
