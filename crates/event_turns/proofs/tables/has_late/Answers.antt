use Rattle.std.proofs.Common.{◌∙◌, sym, ap, inl, inr, arith}
use Rattle.std.proofs.lemmas.Bool.{cases_eq}
use Rattle.std.proofs.lemmas.Option.{slice_get-get_or, slice_get_within}
use Rattle.list_laws.proofs.Options.{some_same}
use Rattle.event_turns.specs.Tables.{feed_late, late_at}
use Rattle.event_turns.proofs.Classes.{late_found, none_found}
use Rattle.event_turns.proofs.tables.has_late.Goals as goal

pub returns-then-is_late : goal.returns-then-is_late
returns-then-is_late c =
    sym (late_found (late_at c.args.late.now) c.args.feeds.now c.loop-feed.feed-index _ (slice_get-get_or c.args.feeds.now c.loop-feed.feed-index _ c.loop-feed-test.true) (sym c.is_late.ensures ∙ c.if-is_late.true))

pub loop-feed-preserved : goal.loop-feed-preserved
loop-feed-preserved c = λ k feed below at.
    elim (cases_eq k c.loop-feed.feed-index) [
      | inl same ↦ (let here = slice_get-get_or c.args.feeds.now c.loop-feed.feed-index _ c.loop-feed-test.true in
          let one = some_same feed _ _ (rw same at at) here in
          ap (feed_late (late_at c.args.late.now)) one ∙ sym c.is_late.ensures ∙ c.if-is_late.false)
      | inr apart ↦ c.loop-feed.invariant k feed (omega arith) at
    ]

pub returns : goal.returns
returns c = sym (none_found (late_at c.args.late.now) c.args.feeds.now (λ k feed at.
    c.loop-feed.invariant k feed (let within = slice_get_within c.args.feeds.now k feed at in omega (arith, c.loop-feed-test.false)) at))
