use Rattle.std.specs.Prelude.{ℕ, List, [], ◌∷◌, Option, if◌then◌else◌, ◌==◌}
use Rattle.std.specs.List.{find}
use Rattle.std.specs.Str.{bytes_eq}
use Rattle.verilog_lexicon.specs.declared.reserved.Reserved.{Reserved}
use Rattle.verilog_lexicon.specs.declared.reserved.Reserved.TheVariants as key
use Rattle.verilog_lexicon.specs.Keywords.{spelling_of}

-- The reserved words by their first letter, as `reserved_of` looks them up.

abbrev pub with_a : List Reserved
with_a = key.Always ∷ key.And ∷ key.Assign ∷ key.Automatic ∷ []

abbrev pub with_b : List Reserved
with_b = key.Begin ∷ key.Buf ∷ key.Bufif0 ∷ key.Bufif1 ∷ []

abbrev pub with_c : List Reserved
with_c = key.Case ∷ key.Casex ∷ key.Casez ∷ key.Cell ∷ key.Cmos ∷ key.Config ∷ []

abbrev pub with_d : List Reserved
with_d = key.Deassign ∷ key.Default ∷ key.Defparam ∷ key.Design ∷ key.Disable ∷ []

abbrev pub with_e : List Reserved
with_e =
    key.Edge ∷ key.Else ∷ key.End ∷ key.Endcase ∷ key.Endconfig ∷ key.Endfunction ∷ key.Endgenerate ∷ key.Endmodule ∷
    key.Endprimitive ∷ key.Endspecify ∷ key.Endtable ∷ key.Endtask ∷ key.Event ∷ []

abbrev pub with_f : List Reserved
with_f = key.For ∷ key.Force ∷ key.Forever ∷ key.Fork ∷ key.Function ∷ []

abbrev pub with_g : List Reserved
with_g = key.Generate ∷ key.Genvar ∷ []

abbrev pub with_h : List Reserved
with_h = key.Highz0 ∷ key.Highz1 ∷ []

abbrev pub with_i : List Reserved
with_i = key.If ∷ key.Ifnone ∷ key.Incdir ∷ key.Include ∷ key.Initial ∷ key.Inout ∷ key.Input ∷ key.Instance ∷ key.Integer ∷ []

abbrev pub with_j : List Reserved
with_j = key.Join ∷ []

abbrev pub with_l : List Reserved
with_l = key.Large ∷ key.Liblist ∷ key.Library ∷ key.Localparam ∷ []

abbrev pub with_m : List Reserved
with_m = key.Macromodule ∷ key.Medium ∷ key.Module ∷ []

abbrev pub with_n : List Reserved
with_n = key.Nand ∷ key.Negedge ∷ key.Nmos ∷ key.Nor ∷ key.Noshowcancelled ∷ key.Not ∷ key.Notif0 ∷ key.Notif1 ∷ []

abbrev pub with_o : List Reserved
with_o = key.Or ∷ key.Output ∷ []

abbrev pub with_p : List Reserved
with_p =
    key.Parameter ∷ key.Pmos ∷ key.Posedge ∷ key.Primitive ∷ key.Pull0 ∷ key.Pull1 ∷ key.Pulldown ∷ key.Pullup ∷
    key.PulsestyleOndetect ∷ key.PulsestyleOnevent ∷ []

abbrev pub with_r : List Reserved
with_r =
    key.Rcmos ∷ key.Real ∷ key.Realtime ∷ key.Reg ∷ key.Release ∷ key.Repeat ∷ key.Rnmos ∷ key.Rpmos ∷ key.Rtran ∷
    key.Rtranif0 ∷ key.Rtranif1 ∷ []

abbrev pub with_s : List Reserved
with_s =
    key.Scalared ∷ key.Showcancelled ∷ key.Signed ∷ key.Small ∷ key.Specify ∷ key.Specparam ∷ key.Strong0 ∷
    key.Strong1 ∷ key.Supply0 ∷ key.Supply1 ∷ []

abbrev pub with_t : List Reserved
with_t =
    key.Table ∷ key.Task ∷ key.Time ∷ key.Tran ∷ key.Tranif0 ∷ key.Tranif1 ∷ key.Tri ∷ key.Tri0 ∷ key.Tri1 ∷
    key.Triand ∷ key.Trior ∷ key.Trireg ∷ []

abbrev pub with_u : List Reserved
with_u = key.Unsigned ∷ key.Use ∷ []

abbrev pub with_v : List Reserved
with_v = key.Vectored ∷ []

abbrev pub with_w : List Reserved
with_w = key.Wait ∷ key.Wand ∷ key.Weak0 ∷ key.Weak1 ∷ key.While ∷ key.Wire ∷ key.Wor ∷ []

abbrev pub with_x : List Reserved
with_x = key.Xnor ∷ key.Xor ∷ []

-- those that begin with this byte
abbrev pub words_with : ℕ → List Reserved
words_with first =
    if first == 97 then with_a else
    if first == 98 then with_b else
    if first == 99 then with_c else
    if first == 100 then with_d else
    if first == 101 then with_e else
    if first == 102 then with_f else
    if first == 103 then with_g else
    if first == 104 then with_h else
    if first == 105 then with_i else
    if first == 106 then with_j else
    if first == 108 then with_l else
    if first == 109 then with_m else
    if first == 110 then with_n else
    if first == 111 then with_o else
    if first == 112 then with_p else
    if first == 114 then with_r else
    if first == 115 then with_s else
    if first == 116 then with_t else
    if first == 117 then with_u else
    if first == 118 then with_v else
    if first == 119 then with_w else
    if first == 120 then with_x else []

-- the one of these words that has these bytes
abbrev pub spelled_by : List ℕ → List Reserved → Option Reserved
spelled_by bytes words = find (λ r. bytes_eq bytes (spelling_of r)) words
