use Rattle.std.specs.Prelude.{◌≡◌, ℕ, ◌+◌, ◌-◌, ◌≤◌, ◌^◌, max, min, List, ◌++◌, take, drop, length, Option, Some, None, Bool, IsTrue, IsSome, if◌then◌else◌}
use Rattle.std.specs.Option.{option_map}

-- own: the count rose, or stands at its last value, that of a u64
abbrev pub Rose : ℕ → ℕ → Type 0
Rose before now = min (before + 1) (2 ^ 64 - 1) ≤ now

-- own: what a call does under its name: it reads, or it writes (a start or an append)
pub data Access : Type 0 where
  reading : Access
  writing : Access

-- own: the count of the calls of this kind under a name rose, or stands at its last value
abbrev pub RoseAt : (Access → List ℕ → ℕ) → (Access → List ℕ → ℕ) → Access → List ℕ → Type 0
RoseAt before now access name = Rose (before access name) (now access name)

-- own: no count fell
abbrev pub NoneFell : (Access → List ℕ → ℕ) → (Access → List ℕ → ℕ) → Type 0
NoneFell before now = (access : Access) (name : List ℕ) → before access name ≤ now access name

-- own: the count after one more fault, which stays at its last value
abbrev pub raised : ℕ → ℕ
raised faults = max faults (min (faults + 1) (2 ^ 64 - 1))

-- own: each name is told the same before and after
abbrev pub SameTold : {T : Type 0} → (List ℕ → Option T) → (List ℕ → Option T) → Type 0
SameTold old new = (name : List ℕ) → new name ≡ old name

-- own: a fact of the bytes, where they are told
abbrev pub WhereTold : Option (List ℕ) → (List ℕ → Type 0) → Type 0
WhereTold None P = Unit {0}
WhereTold (Some bytes) P = P bytes

-- own: n bytes of the text from this place on were read; none only at the end, or where none were asked for
pub record Reads (at n : ℕ) (into text : List ℕ) : Type 0 where
  pub bytes : take n into ≡ take n (drop at text)
  pub stops : n ≡ 0 → min (length into) (length text - at) ≡ 0

-- own: what one name is told changes so, and what other names are told stays
pub record ChangesOne {T : Type 0} (old new : List ℕ → Option T) (name : List ℕ) (change : Option T → Option T → Type 0) : Type 0 where
  pub there : change (old name) (new name)
  pub others : (other : List ℕ) → (other ≡ name → ⊥) → new other ≡ old other

-- own: what is told goes on with this piece; what isn't told stays so
abbrev pub appended : List ℕ → Option (List ℕ) → Option (List ℕ)
appended piece told = option_map (λ bytes. bytes ++ piece) told

-- own: told, by a shelf that tells
abbrev pub told_if : Bool → List ℕ → Option (List ℕ)
told_if tells bytes = if tells then Some bytes else None

-- own: the name was started, where the shelf tells what was written
abbrev pub StartedIfTold : Bool → Option (List ℕ) → Type 0
StartedIfTold tells told = IsTrue tells → IsSome told
