use Rattle.std.proofs.Common.{◌≡◌, ℕ, ◌∙◌, drop, ap, sym, arith}
use Rattle.std.specs.List.{position_from}
use Rattle.std.proofs.lemmas.Iterator.Adapters.{position_from-zero}
use Rattle.texts.proofs.first_faults.places.first_places.Goals as goal

pub returns : goal.returns
returns g c = λ k.
    let all : c.loop-place.place ≡ 0 = omega arith in
    c.loop-place.invariant k
    ∙ ap (λ (n : ℕ). position_from (g.K.PartialEq.eq k) n (drop n c.args.keys.now)) all
    ∙ sym (position_from-zero (g.K.PartialEq.eq k) c.args.keys.now)
