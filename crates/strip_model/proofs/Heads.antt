-- The names of declarations, read off their nets.
use Rattle.std.proofs.Common.{◌≡◌, ℕ, suc, ◌+◌, ◌-◌, Bool, true, false, ◌||◌, List, [], ◌∷◌, ◌++◌, map, refl, ap, ◌∙◌, Option, Some, None, arith}
use Rattle.std.specs.Str.{bytes_eq}
use Rattle.list_laws.proofs.Bytes.{bytes_eq-same}
use Rattle.texts.proofs.Tables.{not_before}
use Rattle.link_model.specs.Lists.{has_name, repeated_after}
use Rattle.verilog_tree.specs.declared.tree.Range.{Range}
use Rattle.link_model.specs.Nets.{NetDeclaration, NamedNet, counted_from, net_at, nets_in, width}

-- the last name that came is this one
abbrev same_name : Option (List ℕ) → List ℕ → Bool
same_name None name = false
same_name (Some last) name = bytes_eq name last

abbrev step : Bool → List ℕ → List (List ℕ) → List (List ℕ)
step true name rest = rest
step false name rest = name ∷ rest

-- the names of nets, each but where it came just before
abbrev pub heads : Option (List ℕ) → List NamedNet → List (List ℕ)
heads last [] = []
heads last (n ∷ ns) = step (same_name last n.name) n.name (heads (Some n.name) ns)

run : (d : NetDeclaration) (places : List ℕ) (rest : List NamedNet) → heads (Some d.name) (map (net_at d) places ++ rest) ≡ heads (Some d.name) rest
run d [] rest = refl
run d (k ∷ places) rest = ap (λ (b : Bool). step b d.name (heads (Some d.name) (map (net_at d) places ++ rest))) (bytes_eq-same d.name) ∙ run d places rest

-- a declaration has a bit
has_bit : (r : Option Range) → (k : ℕ) × (width r ≡ suc k)
has_bit None = (0, refl)
has_bit (Some r) = ((r.left - r.right) + (r.right - r.left), omega arith)

head_of : (d : NetDeclaration) (last : Option (List ℕ)) (rest : List NamedNet) → same_name last d.name ≡ false
    → heads last (map (net_at d) (counted_from 0 (width d.range)) ++ rest) ≡ d.name ∷ heads (Some d.name) rest
head_of d last rest h =
    let bit = has_bit d.range in
    ap (λ (w : ℕ). heads last (map (net_at d) (counted_from 0 w) ++ rest)) bit.1
    ∙ ap (λ (b : Bool). step b d.name (heads (Some d.name) (map (net_at d) (counted_from 1 bit.0) ++ rest))) h
    ∙ ap (λ (l : List (List ℕ)). d.name ∷ l) (run d (counted_from 1 bit.0) rest)

-- no declaration has the name of the one before
abbrev pub Apart : Option (List ℕ) → List NetDeclaration → Type 0
Apart last [] = Unit {0}
Apart last (d ∷ ds) = (same_name last d.name ≡ false) × Apart (Some d.name) ds

pub heads_are : (last : Option (List ℕ)) (ds : List NetDeclaration) → Apart last ds → heads last (nets_in ds) ≡ map (λ (d : NetDeclaration). d.name) ds
heads_are last [] a = refl
heads_are last (d ∷ ds) a = head_of d last (nets_in ds) a.0 ∙ ap (λ (l : List (List ℕ)). d.name ∷ l) (heads_are (Some d.name) ds a.1)

left_false : (a b : Bool) → (a || b) ≡ false → a ≡ false
left_false false b h = refl
left_false true b h = absurd (let bad : true ≡ false = h in cc)

right_false : (a b : Bool) → (a || b) ≡ false → b ≡ false
right_false false b h = h
right_false true b h = absurd (let bad : true ≡ false = h in cc)

last_differs : (before : List (List ℕ)) (last name : List ℕ) → has_name (before ++ last ∷ []) name ≡ false → bytes_eq name last ≡ false
last_differs [] last name h = left_false (bytes_eq name last) false h
last_differs (x ∷ before) last name h = last_differs before last name (right_false (bytes_eq name x) (has_name (before ++ last ∷ []) name) h)

apart_after : (before : List (List ℕ)) (last : List ℕ) (ds : List NetDeclaration) → repeated_after (before ++ last ∷ []) (map (λ (d : NetDeclaration). d.name) ds) ≡ None → Apart (Some last) ds
apart_after before last [] h = tt
apart_after before last (d ∷ ds) h =
    let new = not_before (before ++ last ∷ []) (map (λ (d : NetDeclaration). d.name) ds) d.name h in
    (last_differs before last d.name new.0, apart_after (before ++ last ∷ []) d.name ds new.1)

pub apart : (ds : List NetDeclaration) → repeated_after [] (map (λ (d : NetDeclaration). d.name) ds) ≡ None → Apart None ds
apart [] h = tt
apart (d ∷ ds) h = (refl, apart_after [] d.name ds (not_before [] (map (λ (d : NetDeclaration). d.name) ds) d.name h).1)
