-- What a put gives to a sink. Own.
use Rattle.std.specs.Prelude.{◌≡◌, ℕ, ◌≤◌, List, take, Option, Result, OnErr, OnOk}
use Rattle.edge_io.specs.Shelf.{Rose, appended}

-- What was given goes on with the text; where the put failed, with a front of it, and the sink's count of
-- faults rose or stands at its last value.
pub record Puts {S T E : Type 0} (given : S → Option (List ℕ)) (faults : S → ℕ) (old new : S) (text : List ℕ)
    (result : Result T E) : Type 0 where
  pub ok : OnOk result (given new ≡ appended text (given old))
  pub fault : OnErr result ((k : ℕ) × (given new ≡ appended (take k text) (given old)))
  pub cause : OnErr result (Rose (faults old) (faults new))
  pub later : faults old ≤ faults new
