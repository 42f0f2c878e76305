use Rattle.std.proofs.Common.{refl, subst, arith}
use Rattle.list_laws.proofs.Options.{some_same}
use Rattle.event_parts.specs.Pairs.{IsPair}
use Rattle.event_parts.proofs.counted_cells.pairs.pair_of.Goals as goal

pub returns-in-And : goal.returns-in-And
returns-in-And c = λ pair is. subst (IsPair c.args.library.now c.args.kind) (some_same _ pair _ refl is) (rw c.in-And.is (record { below = omega arith; kind_is = refl; gate = refl; plain = refl }))

pub returns-in-Or : goal.returns-in-Or
returns-in-Or c = λ pair is. subst (IsPair c.args.library.now c.args.kind) (some_same _ pair _ refl is) (rw c.in-Or.is (record { below = omega arith; kind_is = refl; gate = refl; plain = refl }))

pub returns-in-Nand : goal.returns-in-Nand
returns-in-Nand c = λ pair is. subst (IsPair c.args.library.now c.args.kind) (some_same _ pair _ refl is) (rw c.in-Nand.is (record { below = omega arith; kind_is = refl; gate = refl; plain = refl }))

pub returns-in-Nor : goal.returns-in-Nor
returns-in-Nor c = λ pair is. subst (IsPair c.args.library.now c.args.kind) (some_same _ pair _ refl is) (rw c.in-Nor.is (record { below = omega arith; kind_is = refl; gate = refl; plain = refl }))

pub returns-in-Xor : goal.returns-in-Xor
returns-in-Xor c = λ pair is. subst (IsPair c.args.library.now c.args.kind) (some_same _ pair _ refl is) (rw c.in-Xor.is (record { below = omega arith; kind_is = refl; gate = refl; plain = refl }))

pub returns-in-Xnor : goal.returns-in-Xnor
returns-in-Xnor c = λ pair is. subst (IsPair c.args.library.now c.args.kind) (some_same _ pair _ refl is) (rw c.in-Xnor.is (record { below = omega arith; kind_is = refl; gate = refl; plain = refl }))

pub returns-in-Listed : goal.returns-in-Listed
returns-in-Listed c = λ pair is. rw c.in-Listed.is (c.listed_pair.ensures pair is)
