use Rattle.std.proofs.Common.{ℕ, ◌-◌, List, length, take, Bor, refl, sym, ap, ◌∙◌}
use Rattle.hier_model.proofs.Steps.{goes_first, goes_close}
use Rattle.hier_model.proofs.walk.walk.Walk.close.Goals as goal

pub returns-in_default-clause-goes : goal.returns-in_default-clause-goes
returns-in_default-clause-goes c = λ levels old walks modules path frames. goes_first levels old _ c.args.self.now.frames.items c.args.frame walks frames c.requires c.in_default.is

pub returns-clause-goes : goal.returns-clause-goes
returns-clause-goes c = λ levels old walks modules path frames.
    goes_close levels old _ c.args.self.now.frames.items c.args.frame c.in-Some.opened _ walks frames c.requires c.in-Some.is refl (sym modules)
    (c.pop.ensures.rest ∙ ap (λ (n : ℕ). take (n - 1) c.args.self.now.path.items) c.args.self.now.path.ok.0 ∙ ap (λ (l : List (Bor (List ℕ))). take (length l - 1) l) (sym path))
    (c.len.ensures ∙ c.pop.new.self.ok.0) refl refl
