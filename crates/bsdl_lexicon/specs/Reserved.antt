use Rattle.std.specs.Prelude.{ℕ, Bool, List, [], ◌∷◌, map, codes}
use Rattle.std.specs.List.{list_any}
use Rattle.bsdl_lexicon.specs.Names.{is_same_name}

-- the reserved words (VHDL-93, lexical elements: reserved words)
abbrev pub reserved_words : List (List ℕ)
reserved_words =
    map codes ("abs" ∷ "access" ∷ "after" ∷ "alias" ∷ "all" ∷ "and" ∷ "architecture" ∷ "array" ∷ "assert" ∷
    "attribute" ∷ "begin" ∷ "block" ∷ "body" ∷ "buffer" ∷ "bus" ∷ "case" ∷ "component" ∷ "configuration" ∷ "constant" ∷
    "disconnect" ∷ "downto" ∷ "else" ∷ "elsif" ∷ "end" ∷ "entity" ∷ "exit" ∷ "file" ∷ "for" ∷ "function" ∷ "generate" ∷
    "generic" ∷ "group" ∷ "guarded" ∷ "if" ∷ "impure" ∷ "in" ∷ "inertial" ∷ "inout" ∷ "is" ∷ "label" ∷ "library" ∷
    "linkage" ∷ "literal" ∷ "loop" ∷ "map" ∷ "mod" ∷ "nand" ∷ "new" ∷ "next" ∷ "nor" ∷ "not" ∷ "null" ∷ "of" ∷ "on" ∷
    "open" ∷ "or" ∷ "others" ∷ "out" ∷ "package" ∷ "port" ∷ "postponed" ∷ "procedure" ∷ "process" ∷ "pure" ∷ "range" ∷
    "record" ∷ "register" ∷ "reject" ∷ "rem" ∷ "report" ∷ "return" ∷ "rol" ∷ "ror" ∷ "select" ∷ "severity" ∷ "shared" ∷
    "signal" ∷ "sla" ∷ "sll" ∷ "sra" ∷ "srl" ∷ "subtype" ∷ "then" ∷ "to" ∷ "transport" ∷ "type" ∷ "unaffected" ∷
    "units" ∷ "until" ∷ "use" ∷ "variable" ∷ "wait" ∷ "when" ∷ "while" ∷ "with" ∷ "xnor" ∷ "xor" ∷ [])

-- whether the identifier is one of them, in any case of its letters
unfoldable pub is_reserved : List ℕ → Bool
is_reserved name = list_any (is_same_name name) reserved_words
