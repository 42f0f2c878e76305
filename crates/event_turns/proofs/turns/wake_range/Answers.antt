use Rattle.std.proofs.Common.{◌∙◌, sym, ap, inl, inr, arith, slice_index}
use Rattle.std.proofs.lemmas.Bool.{cases_eq}
use Rattle.event_turns.proofs.turns.wake_range.Goals as goal

pub push-requires : goal.push-requires
push-requires c =
    let below = c.requires.room c.loop-k.k (record { from = omega (arith, c.loop-k.auto.k); to = omega arith }) in
    rw c.loop-k.invariant.long below

pub loop-k-preserved : goal.loop-k-preserved
loop-k-preserved c =
    let p = c.push.ensures in
    let i = c.loop-k.invariant in
    let readers = c.args.readers.now in
    record {
      long = p.long ∙ i.long;
      old = λ turn is. (p.each turn).1 (inr (i.old turn is));
      new = λ k from below.
          elim (cases_eq k c.loop-k.k) [
            | inl e ↦ (p.each (slice_index readers k)).1 (inl (ap (slice_index readers) e))
            | inr ne ↦ (p.each (slice_index readers k)).1 (inr (i.new k from (omega arith)))
          ];
      only = λ turn is.
          elim ((p.each turn).0 is) [
            | inl e ↦ inr (c.loop-k.k, omega (arith, c.loop-k.auto.k), omega arith, sym e)
            | inr was ↦ elim (i.only turn was) [
              | inl o ↦ inl o
              | inr k ↦ inr (k.0, k.1, (let below = k.2 in omega arith), k.3)
            ]
          ];
    }

pub returns-clause-new : goal.returns-clause-new
returns-clause-new c = λ k range. c.loop-k.invariant.new k range.from (let to = range.to in omega (arith, c.loop-k-test.false))

pub returns-clause-only : goal.returns-clause-only
returns-clause-only c = λ turn is.
    elim (c.loop-k.invariant.only turn is) [
      | inl o ↦ inl o
      | inr k ↦ inr (k.0, record { from = k.1; to = (let below = k.2 in omega (arith, c.loop-k.auto.k-end, c.requires.rising)) }, k.3)
    ]
