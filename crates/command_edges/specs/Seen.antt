-- What a command saw of its shelf and its sink, before and after. Own.
use Rattle.std.specs.Prelude.{◌≡◌, ℕ, ◌⊎◌, List, take, Bool, Option}
use Rattle.edge_io.specs.Shelf.{Access, Rose, RoseAt, told_if}

-- What is held under each name; what was written there, where the shelf tells it; and the counts of faults of
-- reads and of writes.
pub record ShelfSeen : Type 0 where
  pub tells : Bool
  pub held : List ℕ → Option (List ℕ)
  pub held_after : List ℕ → Option (List ℕ)
  pub written : List ℕ → Option (List ℕ)
  pub written_after : List ℕ → Option (List ℕ)
  pub faults : Access → List ℕ → ℕ
  pub faults_after : Access → List ℕ → ℕ

-- What was given, and the count of faults.
pub record SinkSeen : Type 0 where
  pub given : Option (List ℕ)
  pub given_after : Option (List ℕ)
  pub faults : ℕ
  pub faults_after : ℕ

-- what is seen of a shelf, by its meanings
abbrev pub shelf_seen : {S : Type 0} → Bool → (S → List ℕ → Option (List ℕ)) → (S → List ℕ → Option (List ℕ))
    → (S → Access → List ℕ → ℕ) → S → S → ShelfSeen
shelf_seen tells held written faults old new = record {
  tells = tells;
  held = held old;
  held_after = held new;
  written = written old;
  written_after = written new;
  faults = faults old;
  faults_after = faults new;
}

-- what is seen of a sink, by its meanings
abbrev pub sink_seen : {O : Type 0} → (O → Option (List ℕ)) → (O → ℕ) → O → O → SinkSeen
sink_seen given faults old new = record {
  given = given old;
  given_after = given new;
  faults = faults old;
  faults_after = faults new;
}

-- the count of faults of reads under a name rose, or stands at its last value
abbrev pub ReadRose : ShelfSeen → List ℕ → Type 0
ReadRose shelf name = RoseAt shelf.faults shelf.faults_after Access.reading name

-- the count of faults of writes under a name rose, or stands at its last value
abbrev pub WriteRose : ShelfSeen → List ℕ → Type 0
WriteRose shelf name = RoseAt shelf.faults shelf.faults_after Access.writing name

-- the sink's count of faults rose, or stands at its last value
abbrev pub SinkRose : SinkSeen → Type 0
SinkRose sink = Rose sink.faults sink.faults_after

-- what is written under the name is as before, or a front of the text
abbrev pub IsCutOff : List ℕ → List ℕ → ShelfSeen → Type 0
IsCutOff name text shelf = (shelf.written_after name ≡ shelf.written name) ⊎ ((k : ℕ) × (shelf.written_after name ≡ told_if shelf.tells (take k text)))
