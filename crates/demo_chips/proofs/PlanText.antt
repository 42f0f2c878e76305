-- The canonical text of the plan spells it.
use Rattle.std.proofs.Common.{◌≡◌, ℕ, Bool, true, false, List, [], ◌∷◌, codes, map, Some, None, refl, ap}
use Rattle.std.specs.Prelude.{All, ◌&&◌, not}
use Rattle.std.specs.Fmt.{digits}
use Rattle.std.specs.List.{list_all}
use Rattle.std.proofs.lemmas.List.Elements.{All-nil, All-cons}
use Rattle.list_laws.proofs.Tests.{and_left, and_right, not_true}
use Rattle.cell_library.specs.declared.codes.BoundaryKind.TheVariants.{Bc1}
use Rattle.word_cutter.specs.LinesWords.{is_line_end, is_blank_byte, is_kept}
use Rattle.word_cutter.specs.Rows.{IsWordByte, IsWord, IsRow}
use Rattle.word_cutter.specs.LinesLaws.{RowsReadBack}
use Rattle.bsdl_device.specs.Canonical.{bits_text}
use Rattle.bsdl_device.specs.Runs.{is_pattern}
use Rattle.plan_texts.specs.declared.plan.PinLine.{PinLine}
use Rattle.plan_texts.specs.Forms.{is_name, is_pin}
use Rattle.plan_texts.specs.Grammar.{PlanSource, OpcodeWords, IsOpcode, IsPinLine, IsSource}
use Rattle.plan_texts.specs.Canonical.{canonical_rows}
use Rattle.demo_chips.specs.Plans as plans
use Rattle.demo_chips.specs.PlansLaws.{PlanIsSpelled}

-- The rows are of words.

abbrev byte_right : ℕ → Bool
byte_right b = not (is_blank_byte b) && not (is_line_end b)

abbrev word_right : List ℕ → Bool
word_right [] = false
word_right (b ∷ bytes) = list_all byte_right (b ∷ bytes)

abbrev row_right : List (List ℕ) → Bool
row_right words = is_kept words && list_all word_right words

byte_is : (b : ℕ) → byte_right b ≡ true → IsWordByte b
byte_is b h = record {
  no_blank = not_true (is_blank_byte b) (and_left (not (is_blank_byte b)) (not (is_line_end b)) h);
  no_end = not_true (is_line_end b) (and_right (not (is_blank_byte b)) (not (is_line_end b)) h);
}

all_are : {X : Type 0} (test : X → Bool) (P : X → Type 0) → ((x : X) → test x ≡ true → P x) → (xs : List X) → list_all test xs ≡ true → All P xs
all_are test P each [] h = All-nil P
all_are test P each (x ∷ xs) h = All-cons P x xs (each x (and_left (test x) (list_all test xs) h)) (all_are test P each xs (and_right (test x) (list_all test xs) h))

word_is : (word : List ℕ) → word_right word ≡ true → IsWord word
word_is [] h = absurd (cc)
word_is (b ∷ bytes) h = record { some = λ e. absurd (cc); each = all_are byte_right IsWordByte byte_is (b ∷ bytes) h }

row_is : (words : List (List ℕ)) → row_right words ≡ true → IsRow words
row_is words h = record {
  kept = and_left (is_kept words) (list_all word_right words) h;
  each = all_are word_right IsWord word_is words (and_right (is_kept words) (list_all word_right words) h);
}

rows_are : All IsRow (canonical_rows plans.demo_plan)
unfolding digits bits_text
rows_are = all_are row_right IsRow row_is (canonical_rows plans.demo_plan) refl

-- What is written.

abbrev opcode : List ℕ → List ℕ → OpcodeWords
opcode name bits = record { name = name; bits = bits }

abbrev opcode_words : List OpcodeWords
opcode_words =
    opcode (codes "BYPASS") (codes "1111") ∷ opcode (codes "EXTEST") (codes "0000") ∷ opcode (codes "SAMPLE") (codes "0001") ∷ opcode (codes "PRELOAD") (codes "0001")
    ∷ opcode (codes "IDCODE") (codes "0010") ∷ opcode (codes "HIGHZ") (codes "0011") ∷ opcode (codes "CLAMP") (codes "0100") ∷ []

abbrev source : PlanSource
source = record {
  version = codes "1";
  entity = codes "demo_chip";
  «package» = codes "PK";
  prefix = codes "bs_";
  tck = plans.demo_plan.tck;
  tms = plans.demo_plan.tms;
  tdi = plans.demo_plan.tdi;
  tdo = plans.demo_plan.tdo;
  trst = plans.demo_plan.trst;
  clock = codes "10";
  length = codes "4";
  capture = codes "0001";
  opcodes = opcode_words;
  idcode = Some (record { version = codes "0001"; part = codes "0000000000000001"; manufacturer = codes "00000000001"; mark = codes "1" });
  usercode = None;
  control = Bc1;
  pins = plans.pin_lines;
  linkage = [];
}

abbrev opcode_right : OpcodeWords → Bool
opcode_right o = is_name o.name && is_pattern o.bits

opcode_is : (o : OpcodeWords) → opcode_right o ≡ true → IsOpcode o
opcode_is o h = record { name = and_left (is_name o.name) (is_pattern o.bits) h; bits = and_right (is_name o.name) (is_pattern o.bits) h }

source_is : IsSource source
unfolding digits
source_is = record {
  version = refl;
  entity = refl;
  «package» = refl;
  prefix = refl;
  tck = record { name = refl; pin = refl };
  tms = record { name = refl; pin = refl };
  tdi = record { name = refl; pin = refl };
  tdo = record { name = refl; pin = refl };
  trst = record { name = refl; pin = refl };
  clock = refl;
  length = refl;
  capture = refl;
  some = λ e. absurd (cc);
  opcodes = all_are opcode_right IsOpcode opcode_is opcode_words refl;
  idcode = record { version = refl; part = refl; manufacturer = refl; mark = refl };
  usercode = tt;
  control = tt;
  pins = all_are (λ (p : PinLine). is_pin p.pin) IsPinLine (λ p h. h) plans.pin_lines refl;
  linkage = All-nil _;
}

pub plan_is_spelled : RowsReadBack → PlanIsSpelled
unfolding digits bits_text
plan_is_spelled law = record {
  source = source;
  lines_are = ap (map (λ (row : ℕ × List (List ℕ)). row.1)) (law (canonical_rows plans.demo_plan) rows_are).kept;
  forms = source_is;
  rules = refl;
  plan_is = refl;
}
