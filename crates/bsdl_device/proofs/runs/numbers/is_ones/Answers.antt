use Rattle.std.proofs.Common.{◌≡◌, ℕ, ◌-◌, ◌<◌, ◌≤◌, ◌^◌, ◌==◌, Bool, true, false, refl, arith, eqb-true, leb-true}
use Rattle.std.proofs.Math.Dec.{leb}
use Rattle.std.proofs.Math.Pow.{pow_mono}
use Rattle.bsdl_device.proofs.runs.numbers.is_ones.Goals as goal

too_long : (len value : ℕ) → value < 2 ^ 32 → 32 < len → leb len 32 ≡ value == 2 ^ len - 1
too_long len value fits long = by (leb len 32) (value == 2 ^ len - 1) refl refl
  where
    by : (s t : Bool) → leb len 32 ≡ s → (value == 2 ^ len - 1) ≡ t → s ≡ t
    by true t e f = let short : len ≤ 32 = leb-true len 32 e in absurd (omega arith)
    by false true e f =
        let same : value ≡ 2 ^ len - 1 = eqb-true value (2 ^ len - 1) f in
        let large : 2 ^ 33 ≤ 2 ^ len = let more : 33 ≤ len = omega arith in pow_mono more in
        absurd (omega arith)
    by false false e f = refl

pub returns-else-bits-le32 : goal.returns-else-bits-le32
returns-else-bits-le32 c = too_long c.args.bits.len c.args.bits.value (omega arith) c.if-bits-le32.false
