use Rattle.std.specs.Prelude.{ℕ, Bool, List, [], ◌∷◌, codes, if◌then◌else◌, ◌==◌}
use Rattle.std.specs.List.{list_any}
use Rattle.bsdl_lexicon.specs.Names.{is_same_name}

-- The reserved words by their first letter, as `is_reserved` looks them up.

abbrev pub with_a : List (List ℕ)
with_a = codes "abs" ∷ codes "access" ∷ codes "after" ∷ codes "alias" ∷ codes "all" ∷ codes "and" ∷ codes "architecture" ∷ codes "array" ∷ codes "assert" ∷ codes "attribute" ∷ []

abbrev pub with_b : List (List ℕ)
with_b = codes "begin" ∷ codes "block" ∷ codes "body" ∷ codes "buffer" ∷ codes "bus" ∷ []

abbrev pub with_c : List (List ℕ)
with_c = codes "case" ∷ codes "component" ∷ codes "configuration" ∷ codes "constant" ∷ []

abbrev pub with_d : List (List ℕ)
with_d = codes "disconnect" ∷ codes "downto" ∷ []

abbrev pub with_e : List (List ℕ)
with_e = codes "else" ∷ codes "elsif" ∷ codes "end" ∷ codes "entity" ∷ codes "exit" ∷ []

abbrev pub with_f : List (List ℕ)
with_f = codes "file" ∷ codes "for" ∷ codes "function" ∷ []

abbrev pub with_g : List (List ℕ)
with_g = codes "generate" ∷ codes "generic" ∷ codes "group" ∷ codes "guarded" ∷ []

abbrev pub with_i : List (List ℕ)
with_i = codes "if" ∷ codes "impure" ∷ codes "in" ∷ codes "inertial" ∷ codes "inout" ∷ codes "is" ∷ []

abbrev pub with_l : List (List ℕ)
with_l = codes "label" ∷ codes "library" ∷ codes "linkage" ∷ codes "literal" ∷ codes "loop" ∷ []

abbrev pub with_m : List (List ℕ)
with_m = codes "map" ∷ codes "mod" ∷ []

abbrev pub with_n : List (List ℕ)
with_n = codes "nand" ∷ codes "new" ∷ codes "next" ∷ codes "nor" ∷ codes "not" ∷ codes "null" ∷ []

abbrev pub with_o : List (List ℕ)
with_o = codes "of" ∷ codes "on" ∷ codes "open" ∷ codes "or" ∷ codes "others" ∷ codes "out" ∷ []

abbrev pub with_p : List (List ℕ)
with_p = codes "package" ∷ codes "port" ∷ codes "postponed" ∷ codes "procedure" ∷ codes "process" ∷ codes "pure" ∷ []

abbrev pub with_r : List (List ℕ)
with_r = codes "range" ∷ codes "record" ∷ codes "register" ∷ codes "reject" ∷ codes "rem" ∷ codes "report" ∷ codes "return" ∷ codes "rol" ∷ codes "ror" ∷ []

abbrev pub with_s : List (List ℕ)
with_s = codes "select" ∷ codes "severity" ∷ codes "shared" ∷ codes "signal" ∷ codes "sla" ∷ codes "sll" ∷ codes "sra" ∷ codes "srl" ∷ codes "subtype" ∷ []

abbrev pub with_t : List (List ℕ)
with_t = codes "then" ∷ codes "to" ∷ codes "transport" ∷ codes "type" ∷ []

abbrev pub with_u : List (List ℕ)
with_u = codes "unaffected" ∷ codes "units" ∷ codes "until" ∷ codes "use" ∷ []

abbrev pub with_v : List (List ℕ)
with_v = codes "variable" ∷ []

abbrev pub with_w : List (List ℕ)
with_w = codes "wait" ∷ codes "when" ∷ codes "while" ∷ codes "with" ∷ []

abbrev pub with_x : List (List ℕ)
with_x = codes "xnor" ∷ codes "xor" ∷ []

-- those that begin by this letter, which is in lower case
abbrev pub reserved_with : ℕ → List (List ℕ)
reserved_with first =
    if first == 97 then with_a else
    if first == 98 then with_b else
    if first == 99 then with_c else
    if first == 100 then with_d else
    if first == 101 then with_e else
    if first == 102 then with_f else
    if first == 103 then with_g else
    if first == 105 then with_i else
    if first == 108 then with_l else
    if first == 109 then with_m else
    if first == 110 then with_n else
    if first == 111 then with_o else
    if first == 112 then with_p else
    if first == 114 then with_r else
    if first == 115 then with_s else
    if first == 116 then with_t else
    if first == 117 then with_u else
    if first == 118 then with_v else
    if first == 119 then with_w else
    if first == 120 then with_x else []

-- whether the name is one of these
abbrev pub is_among : List (List ℕ) → List ℕ → Bool
is_among words name = list_any (is_same_name name) words
