-- That canonical texts of plans spell them. Own.
use Rattle.plan_texts.specs.declared.plan.Plan.{Plan}
use Rattle.plan_texts.specs.Grammar.{SpellsPlan}
use Rattle.plan_texts.specs.Canonical.{IsPlan, canonical_plan}

-- where some bytes do
abbrev pub CanonicalPlansSpell : Type 0
CanonicalPlansSpell = (p : Plan) → IsPlan p → SpellsPlan (canonical_plan p) p
