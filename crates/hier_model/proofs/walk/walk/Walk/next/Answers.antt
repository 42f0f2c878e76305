use Rattle.std.proofs.Common.{◌∙◌, sym, refl}
use Rattle.hier_model.proofs.Steps.{length-nil, goes_end, goes_keep, goes_open}
use Rattle.hier_model.proofs.walk.walk.Walk.next.Goals as goal

pub returns-in_default-clause-goes : goal.returns-in_default-clause-goes
returns-in_default-clause-goes c = λ levels walks. goes_end levels _ _ (length-nil _ (sym c.args.self.now.frames.ok.0 ∙ c.in_default.ensures.cases.0))

pub returns-in_default-split_first-clause-goes : goal.returns-in_default-split_first-clause-goes
returns-in_default-split_first-clause-goes c = λ levels walks. c.close.ensures.goes levels c.args.self.now walks refl refl c.in-Some.ensures.items

pub returns-in_default-open-clause-goes : goal.returns-in_default-open-clause-goes
returns-in_default-open-clause-goes c = λ levels walks. goes_keep levels _ _ c.pop.new.self.items c.in-Some.frame _ c.in-Some-split_first.item.now _ walks c.in-Some.ensures.items c.in-Some-split_first.ensures.cases.0 refl refl (sym c.in_default-open.ensures) c.in_ok-push.ensures.items refl refl (c.len-depth.ensures ∙ c.args.self.now.path.ok.0) refl refl

pub returns-clause-goes : goal.returns-clause-goes
returns-clause-goes c = λ levels walks. goes_open levels _ _ c.pop.new.self.items _ c.in-Some.frame _ _ c.in-Some-split_first.item.now (record { instance = c.in-Some-open.instance; parent = c.in-Some.frame.within }) c.in-Some-open.child.now c.as_bytes.result _ walks c.in-Some.ensures.items c.in-Some-split_first.ensures.cases.0 refl refl (sym c.in-Some-open.ensures) refl refl refl c.as_slice.ensures c.as_bytes.ensures c.in_ok-push-3.ensures.items c.in_ok-push.ensures.items refl c.in_ok-push-2.ensures.items (c.len-depth.ensures ∙ c.args.self.now.path.ok.0) refl refl
