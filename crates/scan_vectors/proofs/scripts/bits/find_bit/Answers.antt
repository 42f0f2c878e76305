use Rattle.std.proofs.Common.{refl}
use Rattle.scan_vectors.proofs.Named.{only_found}
use Rattle.scan_vectors.proofs.scripts.bits.find_bit.Goals as goal

pub bit_at-requires : goal.bit_at-requires
bit_at-requires c = (c.args.word.now, (c.find_pin.ensures c.in-Some.pin).0 c.in-Some.is)

pub returns-in-Some : goal.returns-in-Some
returns-in-Some c =
    let finds = c.in-Some.ensures in
    c.bit_at.ensures.same c.args.word.now ((finds c.in-Some.pin).0 refl) (λ other named. only_found c.in-Some.pin other ((finds other).1 named))
