use Rattle.std.proofs.Common.{◌≡◌, ◌<◌, ◌≤◌, ◌+◌, ◌++◌, ◌∷◌, [], get_or, Option, Some, None, sym, ap, ◌∙◌, inl, inr, arith}
use Rattle.std.specs.Prelude.{slice_get, ℕ}
use Rattle.std.proofs.lemmas.Bool.{cases_eq}
use Rattle.std.proofs.lemmas.Option.{slice_get-get_or, slice_get_within}
use Rattle.list_laws.proofs.Options.{some_same}
use Rattle.event_parts.specs.KeysLaws.{IsKey}
use Rattle.event_parts.proofs.Walks.{key_cases, last_same, last_new, link_before, link_here}
use Rattle.event_parts.proofs.keys.link_all.Goals as goal

pub loop-place-preserved : goal.loop-place-preserved
loop-place-preserved c =
    let i = c.loop-place.invariant in
    let keys = c.args.keys.now in
    let p = c.loop-place.place in
    let x : Option ℕ = get_or c.args.keys.now c.loop-place.place None in
    let at : slice_get c.args.keys.now c.loop-place.place ≡ Some x = slice_get-get_or c.args.keys.now c.loop-place.place None c.loop-place-test.true in
    let pushed : c.push.new.self.items ≡ c.loop-place.links.items ++ c.note-link.result ∷ [] = c.in_ok-push.ensures.items in
    record {
      long = c.note-link.ensures.long ∙ i.long;
      heads = λ key.
          elim (key_cases x key) [
            | inl e ↦ rw (c.note-link.ensures.same key e) (last_new keys key p (at ∙ ap (λ (o : Option ℕ). Some o) e))
            | inr ne ↦ rw (c.note-link.ensures.others key ne) (last_same keys key p _ (λ is. ne (some_same x (Some key) _ at is)) (i.heads key))
          ];
      links = λ place key below is.
          elim (cases_eq place p) [
            | inl e ↦ (let here : IsKey keys p key = rw e at is in
                let same : x ≡ Some key = some_same x (Some key) _ at here in
                let link = link_here c.loop-place.links.items c.note-link.result place (e ∙ sym i.count) in
                rw (pushed, link, c.note-link.ensures.was key same, e) (i.heads key))
            | inr ne ↦ (let count = i.count in
                let link = link_before c.loop-place.links.items c.note-link.result place (omega arith) in
                rw (pushed, link) (i.links place key (omega arith) is))
          ];
      count = (let n = c.in_ok-push.ensures.len in let count = i.count in omega arith);
    }

pub returns-clause-links : goal.returns-clause-links
returns-clause-links c = λ place key is.
    c.loop-place.invariant.links place key (let within = slice_get_within c.args.keys.now place (Some key) is in omega (arith, c.loop-place-test.false)) is
