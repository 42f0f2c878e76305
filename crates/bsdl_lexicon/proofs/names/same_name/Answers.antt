use Rattle.std.proofs.Common.{◌∙◌, sym, arith, refl}
use Rattle.bsdl_lexicon.specs.Names.{same_name}
use Rattle.bsdl_lexicon.proofs.SameNames.{is_same_name-true, is_same_name-false, differs_at, same_whole}
use Rattle.bsdl_lexicon.proofs.names.same_name.Goals as goal

apart : (c : goal.Then-lower) → same_name c.args.a.now c.args.b.now → ⊥
apart c = differs_at c.args.a.now c.args.b.now c.loop-i.i c.loop-i-test.true (omega arith) (λ e. c.if-lower.true (c.lower.ensures ∙ e ∙ sym c.lower-in-loop-i.ensures))

pub returns-then-lower-clause-test : goal.returns-then-lower-clause-test
returns-then-lower-clause-test c = sym (is_same_name-false c.args.a.now c.args.b.now (apart c))

pub returns-then-lower-clause-same : goal.returns-then-lower-clause-same
returns-then-lower-clause-same c = (λ never. cc, λ same. absurd (apart c same))

pub returns-clause-test : goal.returns-clause-test
returns-clause-test c = sym (is_same_name-true c.args.a.now c.args.b.now (same_whole c.args.a.now c.args.b.now c.loop-i.i (omega arith) (omega arith) c.loop-i.invariant))

pub returns-clause-same : goal.returns-clause-same
returns-clause-same c = (λ yes. same_whole c.args.a.now c.args.b.now c.loop-i.i (omega arith) (omega arith) c.loop-i.invariant, λ same. refl)
