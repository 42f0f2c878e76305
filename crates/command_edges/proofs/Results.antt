-- What holds of results.
use Rattle.std.specs.Prelude.{Result, Ok, Err, IfErr}

pub err_weaker : {A E : Type 0} (r : Result A E) (P Q : E → Type 0) → ((f : E) → P f → Q f) → IfErr r P → IfErr r Q
err_weaker (Ok a) P Q more h = tt
err_weaker (Err e) P Q more h = more e h
