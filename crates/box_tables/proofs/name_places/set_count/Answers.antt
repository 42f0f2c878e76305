use Rattle.std.proofs.Common.{ℕ, Option, ap, ◌∙◌}
use Rattle.std.specs.Prelude.{unwrap_or}
use Rattle.list_laws.proofs.Bytes.{bytes_eq-sym}
use Rattle.box_tables.proofs.Places.{lent}
use Rattle.box_tables.proofs.Tallies.{chosen}
use Rattle.box_tables.proofs.name_places.set_count.Goals as goal

pub returns : goal.returns
returns c = λ other.
    ap (λ (o : Option ℕ). unwrap_or o 0) (c.in_ok-insert.ensures.updates.0 (lent other))
    ∙ chosen _ _ c.args.count _ (bytes_eq-sym c.args.name.now other)
