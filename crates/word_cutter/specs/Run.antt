use Rattle.std.specs.Prelude.{◌≡◌, ℕ, ◌+◌, ◌<◌, ◌≤◌, List, [], ◌∷◌, length, take, slice_index, Option, Some, None, option_and_then, Result, Ok, Err}
use Rattle.word_cutter.specs.declared.fault.CutFault.{CutFault}
use Rattle.word_cutter.specs.declared.fault.CutFault.TheVariants.{BadByte, OutOfMemory}

-- A machine that takes a text byte by byte (own): its step takes a byte's place, the state and the byte.

-- the state after these bytes, the first of them at this place
abbrev pub run : {S : Type 0} → (ℕ → S → ℕ → Option S) → ℕ → S → List ℕ → Option S
run step at s [] = Some s
run step at s (b ∷ bytes) = option_and_then (λ t. run step (at + 1) t bytes) (step at s b)

-- the machine takes so many bytes, and not the one after them
pub record Stops {S : Type 0} (step : ℕ → S → ℕ → Option S) (at : ℕ) (s : S) (bytes : List ℕ) (count : ℕ) : Type 0 where
  pub within : count < length bytes
  pub state : S
  pub ran : run step at s (take count bytes) ≡ Some state
  pub stops : step (at + count) state (slice_index bytes count) ≡ None

-- the fault of one byte, at this place
abbrev pub IsStepFault : {S : Type 0} → CutFault → ℕ → Option S → Type 0
IsStepFault OutOfMemory at s = Unit {0}
IsStepFault (BadByte place) at s = (place ≡ at) × (s ≡ None)

-- the fault of these bytes, the first of them at this place
abbrev pub IsRefusal : {S : Type 0} → (ℕ → S → ℕ → Option S) → ℕ → S → List ℕ → CutFault → Type 0
IsRefusal step at s bytes OutOfMemory = Unit {0}
IsRefusal step at s bytes (BadByte place) = (count : ℕ) × (place ≡ at + count) × Stops step at s bytes count

-- some bytes at the front of these, the first of them at this place, are taken, and this is the state after them
abbrev pub Takes : {S : Type 0} → (ℕ → S → ℕ → Option S) → ℕ → S → List ℕ → S → Result ℕ CutFault → Type 0
Takes step at s bytes after (Ok count) = (0 < count) × (count ≤ length bytes) × (run step at s (take count bytes) ≡ Some after)
Takes step at s bytes after (Err e) = IsRefusal step at s bytes e

-- no fault has come, and the machine was fed these bytes
pub record FedAs {S : Type 0} (step : ℕ → S → ℕ → Option S) (start : S) (fault : Option CutFault) (at : ℕ) (s : S) (bytes : List ℕ) : Type 0 where
  pub no_fault : fault ≡ None
  pub at_is : at ≡ length bytes
  pub ran : run step 0 start bytes ≡ Some s
