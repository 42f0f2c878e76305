-- The names of a device's ports have no bracket.
use Rattle.std.proofs.Common.{◌≡◌, ℕ, ◌==◌, true, false, List, [], ◌∷◌, arith}
use Rattle.std.specs.Prelude.{IsTrue}
use Rattle.std.specs.List.{AllByRecursion}
use Rattle.bsdl_lexicon.specs.Bytes.{is_letter, is_name_byte}
use Rattle.bsdl_lexicon.specs.Pieces.{IsIdentifier}
use Rattle.program_runs.specs.ScriptsWords.{IsPlain}

letter_plain : (b : ℕ) → is_letter b ≡ true → b == 91 ≡ false
letter_plain b h = grind arith

byte_plain : (b : ℕ) → is_name_byte b ≡ true → b == 91 ≡ false
byte_plain b h = grind arith

bytes_plain : (bytes : List ℕ) → AllByRecursion (λ c. IsTrue (is_name_byte c)) bytes → IsPlain bytes
bytes_plain [] all = tt
bytes_plain (b ∷ bytes) all = (byte_plain b all.0, bytes_plain bytes all.1)

pub identifier_plain : (name : List ℕ) → IsIdentifier name → IsPlain name
identifier_plain [] is = absurd is
identifier_plain (b ∷ bytes) is = (letter_plain b is.0, bytes_plain bytes is.1)
