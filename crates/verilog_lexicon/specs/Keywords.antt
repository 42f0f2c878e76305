use Rattle.std.specs.Prelude.{ℕ, List, [], ◌∷◌, Option, codes}
use Rattle.std.specs.List.{find}
use Rattle.std.specs.Option.{option_map_or}
use Rattle.std.specs.Str.{bytes_eq}
use Rattle.verilog_lexicon.specs.declared.word.Word.{Word}
use Rattle.verilog_lexicon.specs.declared.word.Word.TheVariants as word
use Rattle.verilog_lexicon.specs.declared.reserved.Reserved.{Reserved}
use Rattle.verilog_lexicon.specs.declared.reserved.Reserved.TheVariants as key

-- the bytes of a reserved word (IEEE Std 1364-2001, the annex on key words)
unfoldable pub spelling_of : Reserved → List ℕ
spelling_of key.Always = codes "always"
spelling_of key.And = codes "and"
spelling_of key.Assign = codes "assign"
spelling_of key.Automatic = codes "automatic"
spelling_of key.Begin = codes "begin"
spelling_of key.Buf = codes "buf"
spelling_of key.Bufif0 = codes "bufif0"
spelling_of key.Bufif1 = codes "bufif1"
spelling_of key.Case = codes "case"
spelling_of key.Casex = codes "casex"
spelling_of key.Casez = codes "casez"
spelling_of key.Cell = codes "cell"
spelling_of key.Cmos = codes "cmos"
spelling_of key.Config = codes "config"
spelling_of key.Deassign = codes "deassign"
spelling_of key.Default = codes "default"
spelling_of key.Defparam = codes "defparam"
spelling_of key.Design = codes "design"
spelling_of key.Disable = codes "disable"
spelling_of key.Edge = codes "edge"
spelling_of key.Else = codes "else"
spelling_of key.End = codes "end"
spelling_of key.Endcase = codes "endcase"
spelling_of key.Endconfig = codes "endconfig"
spelling_of key.Endfunction = codes "endfunction"
spelling_of key.Endgenerate = codes "endgenerate"
spelling_of key.Endmodule = codes "endmodule"
spelling_of key.Endprimitive = codes "endprimitive"
spelling_of key.Endspecify = codes "endspecify"
spelling_of key.Endtable = codes "endtable"
spelling_of key.Endtask = codes "endtask"
spelling_of key.Event = codes "event"
spelling_of key.For = codes "for"
spelling_of key.Force = codes "force"
spelling_of key.Forever = codes "forever"
spelling_of key.Fork = codes "fork"
spelling_of key.Function = codes "function"
spelling_of key.Generate = codes "generate"
spelling_of key.Genvar = codes "genvar"
spelling_of key.Highz0 = codes "highz0"
spelling_of key.Highz1 = codes "highz1"
spelling_of key.If = codes "if"
spelling_of key.Ifnone = codes "ifnone"
spelling_of key.Incdir = codes "incdir"
spelling_of key.Include = codes "include"
spelling_of key.Initial = codes "initial"
spelling_of key.Inout = codes "inout"
spelling_of key.Input = codes "input"
spelling_of key.Instance = codes "instance"
spelling_of key.Integer = codes "integer"
spelling_of key.Join = codes "join"
spelling_of key.Large = codes "large"
spelling_of key.Liblist = codes "liblist"
spelling_of key.Library = codes "library"
spelling_of key.Localparam = codes "localparam"
spelling_of key.Macromodule = codes "macromodule"
spelling_of key.Medium = codes "medium"
spelling_of key.Module = codes "module"
spelling_of key.Nand = codes "nand"
spelling_of key.Negedge = codes "negedge"
spelling_of key.Nmos = codes "nmos"
spelling_of key.Nor = codes "nor"
spelling_of key.Noshowcancelled = codes "noshowcancelled"
spelling_of key.Not = codes "not"
spelling_of key.Notif0 = codes "notif0"
spelling_of key.Notif1 = codes "notif1"
spelling_of key.Or = codes "or"
spelling_of key.Output = codes "output"
spelling_of key.Parameter = codes "parameter"
spelling_of key.Pmos = codes "pmos"
spelling_of key.Posedge = codes "posedge"
spelling_of key.Primitive = codes "primitive"
spelling_of key.Pull0 = codes "pull0"
spelling_of key.Pull1 = codes "pull1"
spelling_of key.Pulldown = codes "pulldown"
spelling_of key.Pullup = codes "pullup"
spelling_of key.PulsestyleOndetect = codes "pulsestyle_ondetect"
spelling_of key.PulsestyleOnevent = codes "pulsestyle_onevent"
spelling_of key.Rcmos = codes "rcmos"
spelling_of key.Real = codes "real"
spelling_of key.Realtime = codes "realtime"
spelling_of key.Reg = codes "reg"
spelling_of key.Release = codes "release"
spelling_of key.Repeat = codes "repeat"
spelling_of key.Rnmos = codes "rnmos"
spelling_of key.Rpmos = codes "rpmos"
spelling_of key.Rtran = codes "rtran"
spelling_of key.Rtranif0 = codes "rtranif0"
spelling_of key.Rtranif1 = codes "rtranif1"
spelling_of key.Scalared = codes "scalared"
spelling_of key.Showcancelled = codes "showcancelled"
spelling_of key.Signed = codes "signed"
spelling_of key.Small = codes "small"
spelling_of key.Specify = codes "specify"
spelling_of key.Specparam = codes "specparam"
spelling_of key.Strong0 = codes "strong0"
spelling_of key.Strong1 = codes "strong1"
spelling_of key.Supply0 = codes "supply0"
spelling_of key.Supply1 = codes "supply1"
spelling_of key.Table = codes "table"
spelling_of key.Task = codes "task"
spelling_of key.Time = codes "time"
spelling_of key.Tran = codes "tran"
spelling_of key.Tranif0 = codes "tranif0"
spelling_of key.Tranif1 = codes "tranif1"
spelling_of key.Tri = codes "tri"
spelling_of key.Tri0 = codes "tri0"
spelling_of key.Tri1 = codes "tri1"
spelling_of key.Triand = codes "triand"
spelling_of key.Trior = codes "trior"
spelling_of key.Trireg = codes "trireg"
spelling_of key.Unsigned = codes "unsigned"
spelling_of key.Use = codes "use"
spelling_of key.Vectored = codes "vectored"
spelling_of key.Wait = codes "wait"
spelling_of key.Wand = codes "wand"
spelling_of key.Weak0 = codes "weak0"
spelling_of key.Weak1 = codes "weak1"
spelling_of key.While = codes "while"
spelling_of key.Wire = codes "wire"
spelling_of key.Wor = codes "wor"
spelling_of key.Xnor = codes "xnor"
spelling_of key.Xor = codes "xor"

-- all of them
abbrev pub reserved_words : List Reserved
reserved_words =
    key.Always ∷ key.And ∷ key.Assign ∷ key.Automatic ∷ key.Begin ∷ key.Buf ∷ key.Bufif0 ∷ key.Bufif1 ∷ key.Case ∷
    key.Casex ∷ key.Casez ∷ key.Cell ∷ key.Cmos ∷ key.Config ∷ key.Deassign ∷ key.Default ∷ key.Defparam ∷ key.Design ∷
    key.Disable ∷ key.Edge ∷ key.Else ∷ key.End ∷ key.Endcase ∷ key.Endconfig ∷ key.Endfunction ∷ key.Endgenerate ∷
    key.Endmodule ∷ key.Endprimitive ∷ key.Endspecify ∷ key.Endtable ∷ key.Endtask ∷ key.Event ∷ key.For ∷ key.Force ∷
    key.Forever ∷ key.Fork ∷ key.Function ∷ key.Generate ∷ key.Genvar ∷ key.Highz0 ∷ key.Highz1 ∷ key.If ∷ key.Ifnone ∷
    key.Incdir ∷ key.Include ∷ key.Initial ∷ key.Inout ∷ key.Input ∷ key.Instance ∷ key.Integer ∷ key.Join ∷ key.Large ∷
    key.Liblist ∷ key.Library ∷ key.Localparam ∷ key.Macromodule ∷ key.Medium ∷ key.Module ∷ key.Nand ∷ key.Negedge ∷
    key.Nmos ∷ key.Nor ∷ key.Noshowcancelled ∷ key.Not ∷ key.Notif0 ∷ key.Notif1 ∷ key.Or ∷ key.Output ∷ key.Parameter ∷
    key.Pmos ∷ key.Posedge ∷ key.Primitive ∷ key.Pull0 ∷ key.Pull1 ∷ key.Pulldown ∷ key.Pullup ∷
    key.PulsestyleOndetect ∷ key.PulsestyleOnevent ∷ key.Rcmos ∷ key.Real ∷ key.Realtime ∷ key.Reg ∷ key.Release ∷
    key.Repeat ∷ key.Rnmos ∷ key.Rpmos ∷ key.Rtran ∷ key.Rtranif0 ∷ key.Rtranif1 ∷ key.Scalared ∷ key.Showcancelled ∷
    key.Signed ∷ key.Small ∷ key.Specify ∷ key.Specparam ∷ key.Strong0 ∷ key.Strong1 ∷ key.Supply0 ∷ key.Supply1 ∷
    key.Table ∷ key.Task ∷ key.Time ∷ key.Tran ∷ key.Tranif0 ∷ key.Tranif1 ∷ key.Tri ∷ key.Tri0 ∷ key.Tri1 ∷
    key.Triand ∷ key.Trior ∷ key.Trireg ∷ key.Unsigned ∷ key.Use ∷ key.Vectored ∷ key.Wait ∷ key.Wand ∷ key.Weak0 ∷
    key.Weak1 ∷ key.While ∷ key.Wire ∷ key.Wor ∷ key.Xnor ∷ key.Xor ∷ []

-- the reserved word with these bytes
unfoldable pub reserved_of : List ℕ → Option Reserved
reserved_of bytes = find (λ r. bytes_eq bytes (spelling_of r)) reserved_words

-- the word that a simple name's bytes are
unfoldable pub name_word : List ℕ → Word
name_word bytes = option_map_or (λ r. word.Reserved r) (reserved_of bytes) (word.Name bytes)
