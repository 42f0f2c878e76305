use Rattle.std.proofs.Common.{◌≡◌, ◌↔◌, ◌<◌, ◌≤◌, ℕ, List, [], ◌∷◌, Option, Some, None, Bool, true, false, length, get_or, refl, sym, ap, subst, ◌∙◌, arith}
use Rattle.std.specs.Prelude.{nat_le, find, cond}
use Rattle.std.specs.Str.{bytes_eq}
use Rattle.std.proofs.lemmas.Slice.Eq.{bytes_eq-Decides}
use Rattle.std.proofs.lemmas.Bool.{leb-true}
use Rattle.verilog_lexicon.specs.declared.reserved.Reserved.{Reserved}
use Rattle.verilog_lexicon.specs.declared.reserved.Reserved.TheVariants as key
use Rattle.verilog_lexicon.specs.Keywords.{spelling_of, reserved_of, reserved_words}

-- each reserved word is found by its spelling
pub reserved_of-spelling_of : (r : Reserved) → reserved_of (spelling_of r) ≡ Some r
unfolding reserved_of spelling_of
reserved_of-spelling_of key.Always = refl
reserved_of-spelling_of key.And = refl
reserved_of-spelling_of key.Assign = refl
reserved_of-spelling_of key.Automatic = refl
reserved_of-spelling_of key.Begin = refl
reserved_of-spelling_of key.Buf = refl
reserved_of-spelling_of key.Bufif0 = refl
reserved_of-spelling_of key.Bufif1 = refl
reserved_of-spelling_of key.Case = refl
reserved_of-spelling_of key.Casex = refl
reserved_of-spelling_of key.Casez = refl
reserved_of-spelling_of key.Cell = refl
reserved_of-spelling_of key.Cmos = refl
reserved_of-spelling_of key.Config = refl
reserved_of-spelling_of key.Deassign = refl
reserved_of-spelling_of key.Default = refl
reserved_of-spelling_of key.Defparam = refl
reserved_of-spelling_of key.Design = refl
reserved_of-spelling_of key.Disable = refl
reserved_of-spelling_of key.Edge = refl
reserved_of-spelling_of key.Else = refl
reserved_of-spelling_of key.End = refl
reserved_of-spelling_of key.Endcase = refl
reserved_of-spelling_of key.Endconfig = refl
reserved_of-spelling_of key.Endfunction = refl
reserved_of-spelling_of key.Endgenerate = refl
reserved_of-spelling_of key.Endmodule = refl
reserved_of-spelling_of key.Endprimitive = refl
reserved_of-spelling_of key.Endspecify = refl
reserved_of-spelling_of key.Endtable = refl
reserved_of-spelling_of key.Endtask = refl
reserved_of-spelling_of key.Event = refl
reserved_of-spelling_of key.For = refl
reserved_of-spelling_of key.Force = refl
reserved_of-spelling_of key.Forever = refl
reserved_of-spelling_of key.Fork = refl
reserved_of-spelling_of key.Function = refl
reserved_of-spelling_of key.Generate = refl
reserved_of-spelling_of key.Genvar = refl
reserved_of-spelling_of key.Highz0 = refl
reserved_of-spelling_of key.Highz1 = refl
reserved_of-spelling_of key.If = refl
reserved_of-spelling_of key.Ifnone = refl
reserved_of-spelling_of key.Incdir = refl
reserved_of-spelling_of key.Include = refl
reserved_of-spelling_of key.Initial = refl
reserved_of-spelling_of key.Inout = refl
reserved_of-spelling_of key.Input = refl
reserved_of-spelling_of key.Instance = refl
reserved_of-spelling_of key.Integer = refl
reserved_of-spelling_of key.Join = refl
reserved_of-spelling_of key.Large = refl
reserved_of-spelling_of key.Liblist = refl
reserved_of-spelling_of key.Library = refl
reserved_of-spelling_of key.Localparam = refl
reserved_of-spelling_of key.Macromodule = refl
reserved_of-spelling_of key.Medium = refl
reserved_of-spelling_of key.Module = refl
reserved_of-spelling_of key.Nand = refl
reserved_of-spelling_of key.Negedge = refl
reserved_of-spelling_of key.Nmos = refl
reserved_of-spelling_of key.Nor = refl
reserved_of-spelling_of key.Noshowcancelled = refl
reserved_of-spelling_of key.Not = refl
reserved_of-spelling_of key.Notif0 = refl
reserved_of-spelling_of key.Notif1 = refl
reserved_of-spelling_of key.Or = refl
reserved_of-spelling_of key.Output = refl
reserved_of-spelling_of key.Parameter = refl
reserved_of-spelling_of key.Pmos = refl
reserved_of-spelling_of key.Posedge = refl
reserved_of-spelling_of key.Primitive = refl
reserved_of-spelling_of key.Pull0 = refl
reserved_of-spelling_of key.Pull1 = refl
reserved_of-spelling_of key.Pulldown = refl
reserved_of-spelling_of key.Pullup = refl
reserved_of-spelling_of key.PulsestyleOndetect = refl
reserved_of-spelling_of key.PulsestyleOnevent = refl
reserved_of-spelling_of key.Rcmos = refl
reserved_of-spelling_of key.Real = refl
reserved_of-spelling_of key.Realtime = refl
reserved_of-spelling_of key.Reg = refl
reserved_of-spelling_of key.Release = refl
reserved_of-spelling_of key.Repeat = refl
reserved_of-spelling_of key.Rnmos = refl
reserved_of-spelling_of key.Rpmos = refl
reserved_of-spelling_of key.Rtran = refl
reserved_of-spelling_of key.Rtranif0 = refl
reserved_of-spelling_of key.Rtranif1 = refl
reserved_of-spelling_of key.Scalared = refl
reserved_of-spelling_of key.Showcancelled = refl
reserved_of-spelling_of key.Signed = refl
reserved_of-spelling_of key.Small = refl
reserved_of-spelling_of key.Specify = refl
reserved_of-spelling_of key.Specparam = refl
reserved_of-spelling_of key.Strong0 = refl
reserved_of-spelling_of key.Strong1 = refl
reserved_of-spelling_of key.Supply0 = refl
reserved_of-spelling_of key.Supply1 = refl
reserved_of-spelling_of key.Table = refl
reserved_of-spelling_of key.Task = refl
reserved_of-spelling_of key.Time = refl
reserved_of-spelling_of key.Tran = refl
reserved_of-spelling_of key.Tranif0 = refl
reserved_of-spelling_of key.Tranif1 = refl
reserved_of-spelling_of key.Tri = refl
reserved_of-spelling_of key.Tri0 = refl
reserved_of-spelling_of key.Tri1 = refl
reserved_of-spelling_of key.Triand = refl
reserved_of-spelling_of key.Trior = refl
reserved_of-spelling_of key.Trireg = refl
reserved_of-spelling_of key.Unsigned = refl
reserved_of-spelling_of key.Use = refl
reserved_of-spelling_of key.Vectored = refl
reserved_of-spelling_of key.Wait = refl
reserved_of-spelling_of key.Wand = refl
reserved_of-spelling_of key.Weak0 = refl
reserved_of-spelling_of key.Weak1 = refl
reserved_of-spelling_of key.While = refl
reserved_of-spelling_of key.Wire = refl
reserved_of-spelling_of key.Wor = refl
reserved_of-spelling_of key.Xnor = refl
reserved_of-spelling_of key.Xor = refl

-- a word that is found among some is spelled by the bytes
found_among : (bytes : List ℕ) (words : List Reserved) (r : Reserved) → find (λ (w : Reserved). bytes_eq bytes (spelling_of w)) words ≡ Some r → bytes ≡ spelling_of r
found_among bytes [] r is = absurd (cc)
found_among bytes (word ∷ words) r is = step (bytes_eq bytes (spelling_of word)) refl (found_among bytes words r) is
  where
    step : (same : Bool) → bytes_eq bytes (spelling_of word) ≡ same
        → (find (λ (w : Reserved). bytes_eq bytes (spelling_of w)) words ≡ Some r → bytes ≡ spelling_of r)
        → cond same (Some word) (find (λ (w : Reserved). bytes_eq bytes (spelling_of w)) words) ≡ Some r → bytes ≡ spelling_of r
    step true same more it =
        let one : word ≡ r = cc in
        subst (λ (z : Reserved). bytes ≡ spelling_of z) one ((bytes_eq-Decides bytes (spelling_of word)).0 same)
    step false same more it = more it

-- what is found is spelled by the bytes
reserved_of-found : (bytes : List ℕ) (r : Reserved) → reserved_of bytes ≡ Some r → bytes ≡ spelling_of r
unfolding reserved_of
reserved_of-found bytes r is = found_among bytes reserved_words r is

-- a reserved word is found for its own bytes, and for no others
pub found_by_bytes : (bytes : List ℕ) (r : Reserved) → (reserved_of bytes ≡ Some r) ↔ (bytes ≡ spelling_of r)
found_by_bytes bytes r = (reserved_of-found bytes r, λ is. ap reserved_of is ∙ reserved_of-spelling_of r)

-- the second byte of a reserved word is a small letter
second_is_letter : (r : Reserved) → nat_le 97 (get_or (spelling_of r) 1 0) ≡ true
unfolding spelling_of
second_is_letter key.Always = refl
second_is_letter key.And = refl
second_is_letter key.Assign = refl
second_is_letter key.Automatic = refl
second_is_letter key.Begin = refl
second_is_letter key.Buf = refl
second_is_letter key.Bufif0 = refl
second_is_letter key.Bufif1 = refl
second_is_letter key.Case = refl
second_is_letter key.Casex = refl
second_is_letter key.Casez = refl
second_is_letter key.Cell = refl
second_is_letter key.Cmos = refl
second_is_letter key.Config = refl
second_is_letter key.Deassign = refl
second_is_letter key.Default = refl
second_is_letter key.Defparam = refl
second_is_letter key.Design = refl
second_is_letter key.Disable = refl
second_is_letter key.Edge = refl
second_is_letter key.Else = refl
second_is_letter key.End = refl
second_is_letter key.Endcase = refl
second_is_letter key.Endconfig = refl
second_is_letter key.Endfunction = refl
second_is_letter key.Endgenerate = refl
second_is_letter key.Endmodule = refl
second_is_letter key.Endprimitive = refl
second_is_letter key.Endspecify = refl
second_is_letter key.Endtable = refl
second_is_letter key.Endtask = refl
second_is_letter key.Event = refl
second_is_letter key.For = refl
second_is_letter key.Force = refl
second_is_letter key.Forever = refl
second_is_letter key.Fork = refl
second_is_letter key.Function = refl
second_is_letter key.Generate = refl
second_is_letter key.Genvar = refl
second_is_letter key.Highz0 = refl
second_is_letter key.Highz1 = refl
second_is_letter key.If = refl
second_is_letter key.Ifnone = refl
second_is_letter key.Incdir = refl
second_is_letter key.Include = refl
second_is_letter key.Initial = refl
second_is_letter key.Inout = refl
second_is_letter key.Input = refl
second_is_letter key.Instance = refl
second_is_letter key.Integer = refl
second_is_letter key.Join = refl
second_is_letter key.Large = refl
second_is_letter key.Liblist = refl
second_is_letter key.Library = refl
second_is_letter key.Localparam = refl
second_is_letter key.Macromodule = refl
second_is_letter key.Medium = refl
second_is_letter key.Module = refl
second_is_letter key.Nand = refl
second_is_letter key.Negedge = refl
second_is_letter key.Nmos = refl
second_is_letter key.Nor = refl
second_is_letter key.Noshowcancelled = refl
second_is_letter key.Not = refl
second_is_letter key.Notif0 = refl
second_is_letter key.Notif1 = refl
second_is_letter key.Or = refl
second_is_letter key.Output = refl
second_is_letter key.Parameter = refl
second_is_letter key.Pmos = refl
second_is_letter key.Posedge = refl
second_is_letter key.Primitive = refl
second_is_letter key.Pull0 = refl
second_is_letter key.Pull1 = refl
second_is_letter key.Pulldown = refl
second_is_letter key.Pullup = refl
second_is_letter key.PulsestyleOndetect = refl
second_is_letter key.PulsestyleOnevent = refl
second_is_letter key.Rcmos = refl
second_is_letter key.Real = refl
second_is_letter key.Realtime = refl
second_is_letter key.Reg = refl
second_is_letter key.Release = refl
second_is_letter key.Repeat = refl
second_is_letter key.Rnmos = refl
second_is_letter key.Rpmos = refl
second_is_letter key.Rtran = refl
second_is_letter key.Rtranif0 = refl
second_is_letter key.Rtranif1 = refl
second_is_letter key.Scalared = refl
second_is_letter key.Showcancelled = refl
second_is_letter key.Signed = refl
second_is_letter key.Small = refl
second_is_letter key.Specify = refl
second_is_letter key.Specparam = refl
second_is_letter key.Strong0 = refl
second_is_letter key.Strong1 = refl
second_is_letter key.Supply0 = refl
second_is_letter key.Supply1 = refl
second_is_letter key.Table = refl
second_is_letter key.Task = refl
second_is_letter key.Time = refl
second_is_letter key.Tran = refl
second_is_letter key.Tranif0 = refl
second_is_letter key.Tranif1 = refl
second_is_letter key.Tri = refl
second_is_letter key.Tri0 = refl
second_is_letter key.Tri1 = refl
second_is_letter key.Triand = refl
second_is_letter key.Trior = refl
second_is_letter key.Trireg = refl
second_is_letter key.Unsigned = refl
second_is_letter key.Use = refl
second_is_letter key.Vectored = refl
second_is_letter key.Wait = refl
second_is_letter key.Wand = refl
second_is_letter key.Weak0 = refl
second_is_letter key.Weak1 = refl
second_is_letter key.While = refl
second_is_letter key.Wire = refl
second_is_letter key.Wor = refl
second_is_letter key.Xnor = refl
second_is_letter key.Xor = refl

none_if_not_some : (found : Option Reserved) → ((r : Reserved) → found ≡ Some r → ⊥) → found ≡ None
none_if_not_some None never = refl
none_if_not_some (Some r) never = absurd (never r refl)

-- so bytes with another second byte, or with none, aren't a reserved word
pub none_without_letter : (bytes : List ℕ) → get_or bytes 1 0 < 97 → reserved_of bytes ≡ None
none_without_letter bytes low =
    none_if_not_some (reserved_of bytes) (λ r is.
    let same : bytes ≡ spelling_of r = reserved_of-found bytes r is in
    let high : 97 ≤ get_or (spelling_of r) 1 0 = leb-true 97 (get_or (spelling_of r) 1 0) (second_is_letter r) in
    let here : 97 ≤ get_or bytes 1 0 = subst (λ (l : List ℕ). 97 ≤ get_or l 1 0) (sym same) high in
    omega arith)

no_second : (bytes : List ℕ) → length bytes < 2 → get_or bytes 1 0 < 97
no_second [] short = omega arith
no_second (x ∷ []) short = omega arith
no_second (x ∷ y ∷ bytes) short = absurd (omega arith)

pub none_too_short : (bytes : List ℕ) → length bytes < 2 → reserved_of bytes ≡ None
none_too_short bytes short = none_without_letter bytes (no_second bytes short)
