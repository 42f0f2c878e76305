-- Declarations of ports are read from their words alone, and from all of them.
use Rattle.std.proofs.Common.{◌≡◌, ℕ, Bool, true, false, cond, IsTrue, List, [], ◌∷◌, map, Option, Some, None, refl, ap, subst, ◌∙◌, inl, inr, ◌⊎◌}
use Rattle.std.specs.Prelude.{option_and_then, codes}
use Rattle.std.specs.Str.{bytes_eq}
use Rattle.std.proofs.lemmas.Slice.Eq.{bytes_eq-Decides}
use Rattle.bsdl_lexicon.specs.declared.token.BsdlToken.{BsdlToken}
use Rattle.bsdl_lexicon.specs.declared.token.BsdlToken.TheVariants as word
use Rattle.bsdl_lexicon.specs.Names.{lower, is_same_name}
use Rattle.bsdl_lexicon.specs.Words.{key_in, integer_in}
use Rattle.bsdl_device.specs.declared.values.PortMode.{PortMode}
use Rattle.bsdl_device.specs.declared.values.PortMode.TheVariants as mode
use Rattle.bsdl_device.specs.declared.values.Stop.{Stop}
use Rattle.bsdl_device.specs.declared.values.Stop.TheVariants as stop
use Rattle.bsdl_device.specs.declared.written.Direction.{Direction}
use Rattle.bsdl_device.specs.declared.written.Direction.TheVariants as direction
use Rattle.bsdl_device.specs.declared.written.WrittenRange.{WrittenRange}
use Rattle.bsdl_device.specs.Shape.{Pattern, KeyWord, IntegerOf, Fits, mode_word, direction_word, stop_word, is_ordered}
use Rattle.bsdl_device.specs.Readers.{take_at}
use Rattle.bsdl_device.specs.Files.{or_next, mode_in, direction_in, stop_in, bounded, bound_in, range_at}
use Rattle.bsdl_device.proofs.Exact.{Exact, Anything}
use Rattle.bsdl_device.proofs.Matched.{Spelled, spelled_take, spelled_take_such, spelled_pair, spelled_made}
use Rattle.bsdl_device.proofs.Views.{Free, integer_law, seen}

-- one key word is no other
pub key_differs : (a b : List ℕ) → is_same_name a b ≡ false → (w : BsdlToken) → key_in a w ≡ Some tt → key_in b w ≡ None
key_differs a b other (word.Name n) h = go (is_same_name n a) refl h
  where
    go : (t : Bool) → is_same_name n a ≡ t → seen t ≡ Some tt → key_in b (word.Name n) ≡ None
    go true e k =
        let same : map lower n ≡ map lower a = (bytes_eq-Decides (map lower n) (map lower a)).0 e in
        ap (λ (l : List ℕ). seen (bytes_eq l (map lower b))) same ∙ ap (λ (t : Bool). seen t) other
    go false e k = absurd (cc)
key_differs a b other (word.Integer v) h = absurd (cc)
key_differs a b other (word.Real r) h = absurd (cc)
key_differs a b other (word.Quoted q) h = absurd (cc)
key_differs a b other (word.Symbol u) h = absurd (cc)
key_differs a b other word.Becomes h = absurd (cc)

-- Key words that tell a value.

or_next_there : {X : Type 0} (o : Option (Unit {0})) (x y : X) (next : Option X) → or_next o x next ≡ Some y → ((o ≡ Some tt) × (x ≡ y)) ⊎ (next ≡ Some y)
or_next_there None x y next h = inr h
or_next_there (Some u) x y next h = inl (refl, cc)

or_next_first : {X : Type 0} (o : Option (Unit {0})) (x : X) (next : Option X) → o ≡ Some tt → or_next o x next ≡ Some x
or_next_first o x next h = ap (λ (q : Option (Unit {0})). or_next q x next) h

or_next_other : {X : Type 0} (o : Option (Unit {0})) (x : X) (next : Option X) → o ≡ None → or_next o x next ≡ next
or_next_other o x next h = ap (λ (q : Option (Unit {0})). or_next q x next) h

direction_there : (d : Direction) (w : BsdlToken) → direction_in w ≡ Some d → key_in (direction_word d) w ≡ Some tt
direction_there d w h = go (or_next_there (key_in (codes "to") w) direction.To d (or_next (key_in (codes "downto") w) direction.Downto None) h)
  where
    P : Direction → Type 0
    P e = key_in (direction_word e) w ≡ Some tt

    last : ((key_in (codes "downto") w ≡ Some tt) × (direction.Downto ≡ d)) ⊎ (None ≡ Some d) → key_in (direction_word d) w ≡ Some tt
    last (inl (k, e)) = subst P e k
    last (inr none) = absurd (cc)

    go : ((key_in (codes "to") w ≡ Some tt) × (direction.To ≡ d)) ⊎ (or_next (key_in (codes "downto") w) direction.Downto None ≡ Some d) → key_in (direction_word d) w ≡ Some tt
    go (inl (k, e)) = subst P e k
    go (inr next) = last (or_next_there (key_in (codes "downto") w) direction.Downto d None next)

direction_back : (d : Direction) (w : BsdlToken) → key_in (direction_word d) w ≡ Some tt → direction_in w ≡ Some d
direction_back direction.To w h = or_next_first (key_in (codes "to") w) direction.To (or_next (key_in (codes "downto") w) direction.Downto None) h
direction_back direction.Downto w h =
    or_next_other (key_in (codes "to") w) direction.To (or_next (key_in (codes "downto") w) direction.Downto None) (key_differs (codes "downto") (codes "to") refl w h)
    ∙ or_next_first (key_in (codes "downto") w) direction.Downto None h

pub direction_law : Exact BsdlToken Direction (λ ws. take_at direction_in ws) (Spelled Fits Free (λ d. KeyWord (direction_word d) ∷ [])) Anything
direction_law = spelled_take Fits direction_in (λ d. KeyWord (direction_word d)) direction_there direction_back

stop_there : (s : Stop) (w : BsdlToken) → stop_in w ≡ Some s → key_in (stop_word s) w ≡ Some tt
stop_there s w h = go (or_next_there (key_in (codes "LOW") w) stop.Low s (or_next (key_in (codes "BOTH") w) stop.Both None) h)
  where
    P : Stop → Type 0
    P e = key_in (stop_word e) w ≡ Some tt

    last : ((key_in (codes "BOTH") w ≡ Some tt) × (stop.Both ≡ s)) ⊎ (None ≡ Some s) → key_in (stop_word s) w ≡ Some tt
    last (inl (k, e)) = subst P e k
    last (inr none) = absurd (cc)

    go : ((key_in (codes "LOW") w ≡ Some tt) × (stop.Low ≡ s)) ⊎ (or_next (key_in (codes "BOTH") w) stop.Both None ≡ Some s) → key_in (stop_word s) w ≡ Some tt
    go (inl (k, e)) = subst P e k
    go (inr next) = last (or_next_there (key_in (codes "BOTH") w) stop.Both s None next)

stop_back : (s : Stop) (w : BsdlToken) → key_in (stop_word s) w ≡ Some tt → stop_in w ≡ Some s
stop_back stop.Low w h = or_next_first (key_in (codes "LOW") w) stop.Low (or_next (key_in (codes "BOTH") w) stop.Both None) h
stop_back stop.Both w h =
    or_next_other (key_in (codes "LOW") w) stop.Low (or_next (key_in (codes "BOTH") w) stop.Both None) (key_differs (codes "BOTH") (codes "LOW") refl w h)
    ∙ or_next_first (key_in (codes "BOTH") w) stop.Both None h

pub stop_law : Exact BsdlToken Stop (λ ws. take_at stop_in ws) (Spelled Fits Free (λ s. KeyWord (stop_word s) ∷ [])) Anything
stop_law = spelled_take Fits stop_in (λ s. KeyWord (stop_word s)) stop_there stop_back

-- Modes.

mode_there : (m : PortMode) (w : BsdlToken) → mode_in w ≡ Some m → key_in (mode_word m) w ≡ Some tt
mode_there m w h = step0 h
  where
    P : PortMode → Type 0
    P e = key_in (mode_word e) w ≡ Some tt

    step3 : (or_next (key_in (codes "linkage") w) mode.Linkage None) ≡ Some m → key_in (mode_word m) w ≡ Some tt
    step3 e = case3 (or_next_there (key_in (codes "linkage") w) mode.Linkage m None e)
      where
        case3 : ((key_in (codes "linkage") w ≡ Some tt) × (mode.Linkage ≡ m)) ⊎ (None ≡ Some m) → key_in (mode_word m) w ≡ Some tt
        case3 (inl (k, is)) = subst P is k
        case3 (inr next) = absurd (cc)

    step2 : (or_next (key_in (codes "inout") w) mode.Inout (or_next (key_in (codes "linkage") w) mode.Linkage None)) ≡ Some m → key_in (mode_word m) w ≡ Some tt
    step2 e = case2 (or_next_there (key_in (codes "inout") w) mode.Inout m (or_next (key_in (codes "linkage") w) mode.Linkage None) e)
      where
        case2 : ((key_in (codes "inout") w ≡ Some tt) × (mode.Inout ≡ m)) ⊎ ((or_next (key_in (codes "linkage") w) mode.Linkage None) ≡ Some m) → key_in (mode_word m) w ≡ Some tt
        case2 (inl (k, is)) = subst P is k
        case2 (inr next) = step3 next

    step1 : (or_next (key_in (codes "out") w) mode.Output (or_next (key_in (codes "inout") w) mode.Inout (or_next (key_in (codes "linkage") w) mode.Linkage None))) ≡ Some m → key_in (mode_word m) w ≡ Some tt
    step1 e = case1 (or_next_there (key_in (codes "out") w) mode.Output m (or_next (key_in (codes "inout") w) mode.Inout (or_next (key_in (codes "linkage") w) mode.Linkage None)) e)
      where
        case1 : ((key_in (codes "out") w ≡ Some tt) × (mode.Output ≡ m)) ⊎ ((or_next (key_in (codes "inout") w) mode.Inout (or_next (key_in (codes "linkage") w) mode.Linkage None)) ≡ Some m) → key_in (mode_word m) w ≡ Some tt
        case1 (inl (k, is)) = subst P is k
        case1 (inr next) = step2 next

    step0 : (or_next (key_in (codes "in") w) mode.Input (or_next (key_in (codes "out") w) mode.Output (or_next (key_in (codes "inout") w) mode.Inout (or_next (key_in (codes "linkage") w) mode.Linkage None)))) ≡ Some m → key_in (mode_word m) w ≡ Some tt
    step0 e = case0 (or_next_there (key_in (codes "in") w) mode.Input m (or_next (key_in (codes "out") w) mode.Output (or_next (key_in (codes "inout") w) mode.Inout (or_next (key_in (codes "linkage") w) mode.Linkage None))) e)
      where
        case0 : ((key_in (codes "in") w ≡ Some tt) × (mode.Input ≡ m)) ⊎ ((or_next (key_in (codes "out") w) mode.Output (or_next (key_in (codes "inout") w) mode.Inout (or_next (key_in (codes "linkage") w) mode.Linkage None))) ≡ Some m) → key_in (mode_word m) w ≡ Some tt
        case0 (inl (k, is)) = subst P is k
        case0 (inr next) = step1 next

mode_back : (m : PortMode) (w : BsdlToken) → key_in (mode_word m) w ≡ Some tt → mode_in w ≡ Some m
mode_back mode.Input w h =
    or_next_first (key_in (codes "in") w) mode.Input (or_next (key_in (codes "out") w) mode.Output (or_next (key_in (codes "inout") w) mode.Inout (or_next (key_in (codes "linkage") w) mode.Linkage None))) h
mode_back mode.Output w h =
    or_next_other (key_in (codes "in") w) mode.Input (or_next (key_in (codes "out") w) mode.Output (or_next (key_in (codes "inout") w) mode.Inout (or_next (key_in (codes "linkage") w) mode.Linkage None))) (key_differs (codes "out") (codes "in") refl w h)
    ∙ or_next_first (key_in (codes "out") w) mode.Output (or_next (key_in (codes "inout") w) mode.Inout (or_next (key_in (codes "linkage") w) mode.Linkage None)) h
mode_back mode.Inout w h =
    or_next_other (key_in (codes "in") w) mode.Input (or_next (key_in (codes "out") w) mode.Output (or_next (key_in (codes "inout") w) mode.Inout (or_next (key_in (codes "linkage") w) mode.Linkage None))) (key_differs (codes "inout") (codes "in") refl w h)
    ∙ or_next_other (key_in (codes "out") w) mode.Output (or_next (key_in (codes "inout") w) mode.Inout (or_next (key_in (codes "linkage") w) mode.Linkage None)) (key_differs (codes "inout") (codes "out") refl w h)
    ∙ or_next_first (key_in (codes "inout") w) mode.Inout (or_next (key_in (codes "linkage") w) mode.Linkage None) h
mode_back mode.Linkage w h =
    or_next_other (key_in (codes "in") w) mode.Input (or_next (key_in (codes "out") w) mode.Output (or_next (key_in (codes "inout") w) mode.Inout (or_next (key_in (codes "linkage") w) mode.Linkage None))) (key_differs (codes "linkage") (codes "in") refl w h)
    ∙ or_next_other (key_in (codes "out") w) mode.Output (or_next (key_in (codes "inout") w) mode.Inout (or_next (key_in (codes "linkage") w) mode.Linkage None)) (key_differs (codes "linkage") (codes "out") refl w h)
    ∙ or_next_other (key_in (codes "inout") w) mode.Inout (or_next (key_in (codes "linkage") w) mode.Linkage None) (key_differs (codes "linkage") (codes "inout") refl w h)
    ∙ or_next_first (key_in (codes "linkage") w) mode.Linkage None h

pub mode_law : Exact BsdlToken PortMode (λ ws. take_at mode_in ws) (Spelled Fits Free (λ m. KeyWord (mode_word m) ∷ [])) Anything
mode_law = spelled_take Fits mode_in (λ m. KeyWord (mode_word m)) mode_there mode_back

-- Ranges.

abbrev range_with : ℕ → Direction → ℕ → WrittenRange
range_with left d right = record { left = left; direction = d; right = right }

abbrev pub IsRange : WrittenRange → Type 0
IsRange r = IsTrue (is_ordered r)

bound_there : (left : ℕ) (d : Direction) (x : ℕ) (w : BsdlToken) → bound_in left d w ≡ Some x → IsRange (range_with left d x) × (integer_in w ≡ Some x)
bound_there left d x w h = go (integer_in w) refl h
  where
    chosen : (v : ℕ) (b : Bool) → is_ordered (range_with left d v) ≡ b → cond b (Some v) None ≡ Some x → integer_in w ≡ Some v → IsRange (range_with left d x) × (integer_in w ≡ Some x)
    chosen v true e k i =
        let same : v ≡ x = cc in
        (subst (λ (n : ℕ). IsRange (range_with left d n)) same e, i ∙ ap (λ (n : ℕ). Some n) same)
    chosen v false e k i = absurd (cc)

    go : (o : Option ℕ) → integer_in w ≡ o → option_and_then (bounded left d) o ≡ Some x → IsRange (range_with left d x) × (integer_in w ≡ Some x)
    go None i k = absurd (cc)
    go (Some v) i k = chosen v (is_ordered (range_with left d v)) refl k i

bound_back : (left : ℕ) (d : Direction) (x : ℕ) (w : BsdlToken) → IsRange (range_with left d x) → integer_in w ≡ Some x → bound_in left d w ≡ Some x
bound_back left d x w ordered i =
    ap (λ (o : Option ℕ). option_and_then (bounded left d) o) i ∙ ap (λ (b : Bool). chosen b) ordered
  where
    chosen : Bool → Option ℕ
    chosen b = cond b (Some x) None

abbrev pub range_words : WrittenRange → List Pattern
range_words r = IntegerOf r.left ∷ KeyWord (direction_word r.direction) ∷ IntegerOf r.right ∷ []

pub range_law : Exact BsdlToken WrittenRange (λ ws. range_at ws) (Spelled Fits IsRange range_words) Anything
range_law =
    let make : ℕ × (Direction × ℕ) → WrittenRange = λ z. record { left = z.0; direction = z.1.0; right = z.1.1 } in
    let part : WrittenRange → ℕ × (Direction × ℕ) = λ r. (r.left, (r.direction, r.right)) in
    spelled_made Fits IsRange range_words make part (λ r. refl) (λ x h. h.1.1) (λ y h. (tt, (tt, h))) (λ x. refl) (λ y. refl)
    (spelled_pair Fits Free (λ left z. Unit {0} × IsRange (range_with left z.0 z.1)) (λ left. IntegerOf left ∷ []) (λ left z. KeyWord (direction_word z.0) ∷ IntegerOf z.1 ∷ []) integer_law
    (λ left. spelled_pair Fits Free (λ d right. IsRange (range_with left d right)) (λ d. KeyWord (direction_word d) ∷ []) (λ d right. IntegerOf right ∷ []) direction_law
    (λ d. spelled_take_such Fits (λ right. IsRange (range_with left d right)) (bound_in left d) (λ right. IntegerOf right) (bound_there left d) (bound_back left d)) (λ x y b l m t. tt)) (λ x y b l m t. tt))
