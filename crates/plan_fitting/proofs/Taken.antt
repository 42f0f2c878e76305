-- What the lines of a plan that fits take: no bit and no physical pin twice.
use Rattle.std.proofs.Common.{◌≡◌, ℕ, List, [], ◌∷◌, ◌++◌, Bool, false, ◌||◌, map, length, None, refl, sym, ap, ◌∙◌, arith}
use Rattle.std.specs.List.{list_any}
use Rattle.std.proofs.lemmas.List.{append-nil}
use Rattle.list_laws.proofs.Tests.{or_first, or_second, neither}
use Rattle.list_laws.proofs.Options.{not_there}
use Rattle.bsdl_lexicon.specs.Names.{is_same_name}
use Rattle.bsdl_device.specs.Checks.{any_pair, is_repeated}
use Rattle.netlist_model.specs.declared.PinBit.{PinBit}
use Rattle.bsdl_lexicon.proofs.SameNames.{same_turned}
use Rattle.plan_texts.specs.declared.plan.Plan.{Plan}
use Rattle.plan_texts.specs.declared.plan.TapLine.{TapLine}
use Rattle.plan_texts.specs.declared.plan.PinLine.{PinLine}
use Rattle.plan_fitting.specs.declared.fault.FitFault.TheVariants as fault
use Rattle.plan_fitting.specs.Pins.{PinSeen, same_bit}
use Rattle.plan_fitting.specs.Fits.{Taken, PhysicalPin, PortBit, same_taken, told, tap_lines, taken_alone, taken_by, all_taken, twice_after, twice_fault}
use Rattle.plan_fitting.proofs.Pairs.{any_front, any_back, pair_same}

-- the earlier one is the later one again
abbrev again : Taken → Taken → Bool
again early late = same_taken late early

taken_apart : (before list : List Taken) → twice_after before list ≡ None → (any_pair again list ≡ false) × (list_any (λ early. list_any (again early) list) before ≡ false)
taken_apart before [] h = (refl, none before)
  where
    none : (xs : List Taken) → list_any (λ early. list_any (again early) []) xs ≡ false
    none [] = refl
    none (x ∷ xs) = none xs
taken_apart before (one ∷ list) h =
    let t = not_there (list_any (same_taken one) before) (fault.PlanTwice (told one)) (twice_after (before ++ one ∷ []) list) h in
    let more = taken_apart (before ++ one ∷ []) list t.1 in
    let here : list_any (again one) list ≡ false = or_first (list_any (again one) list) false (any_back (λ early. list_any (again early) list) before (one ∷ []) more.1) in (
      neither (list_any (again one) list) (any_pair again list) here more.0,
      one_more before t.0 (any_front (λ early. list_any (again early) list) before (one ∷ []) more.1),
    )
  where
    one_more : (xs : List Taken) → list_any (same_taken one) xs ≡ false → list_any (λ early. list_any (again early) list) xs ≡ false → list_any (λ early. list_any (again early) (one ∷ list)) xs ≡ false
    one_more [] a b = refl
    one_more (x ∷ xs) a b =
        neither (same_taken one x || list_any (again x) list) (list_any (λ early. list_any (again early) (one ∷ list)) xs)
        (neither (same_taken one x) (list_any (again x) list) (or_first (same_taken one x) (list_any (same_taken one) xs) a) (or_first (list_any (again x) list) (list_any (λ early. list_any (again early) list) xs) b))
        (one_more xs (or_second (same_taken one x) (list_any (same_taken one) xs) a) (or_second (list_any (again x) list) (list_any (λ early. list_any (again early) list) xs) b))

-- Physical pins.

abbrev pins_among : List Taken → List (List ℕ)
pins_among [] = []
pins_among (PhysicalPin pin ∷ list) = pin ∷ pins_among list
pins_among (PortBit bit word ∷ list) = pins_among list

pins-append : (xs ys : List Taken) → pins_among (xs ++ ys) ≡ pins_among xs ++ pins_among ys
pins-append [] ys = refl
pins-append (PhysicalPin pin ∷ xs) ys = ap (λ (l : List (List ℕ)). pin ∷ l) (pins-append xs ys)
pins-append (PortBit bit word ∷ xs) ys = pins-append xs ys

pins_alone : (lines : List TapLine) → pins_among (map taken_alone lines) ≡ map (λ (line : TapLine). line.pin) lines
pins_alone [] = refl
pins_alone (line ∷ lines) = ap (λ (l : List (List ℕ)). line.pin ∷ l) (pins_alone lines)

pins_by : (lines : List PinLine) (seen : List PinSeen) → length seen ≡ length lines → pins_among (taken_by lines seen) ≡ map (λ (line : PinLine). line.pin) lines
pins_by [] seen many = refl
pins_by (line ∷ lines) [] many = absurd (omega arith)
pins_by (line ∷ lines) (one ∷ seen) many = ap (λ (l : List (List ℕ)). line.pin ∷ l) (pins_by lines seen (omega arith))

pin_none : (pin : List ℕ) (list : List Taken) → list_any (again (PhysicalPin pin)) list ≡ false → list_any (λ other. is_same_name other pin) (pins_among list) ≡ false
pin_none pin [] h = refl
pin_none pin (PhysicalPin other ∷ list) h =
    neither (is_same_name other pin) (list_any (λ o. is_same_name o pin) (pins_among list)) (or_first (is_same_name other pin) (list_any (again (PhysicalPin pin)) list) h)
    (pin_none pin list (or_second (is_same_name other pin) (list_any (again (PhysicalPin pin)) list) h))
pin_none pin (PortBit bit word ∷ list) h = pin_none pin list h

pins_apart : (list : List Taken) → any_pair again list ≡ false → any_pair (λ early late. is_same_name late early) (pins_among list) ≡ false
pins_apart [] h = refl
pins_apart (PhysicalPin pin ∷ list) h =
    neither (list_any (λ other. is_same_name other pin) (pins_among list)) (any_pair (λ early late. is_same_name late early) (pins_among list))
    (pin_none pin list (or_first (list_any (again (PhysicalPin pin)) list) (any_pair again list) h))
    (pins_apart list (or_second (list_any (again (PhysicalPin pin)) list) (any_pair again list) h))
pins_apart (PortBit bit word ∷ list) h = pins_apart list (or_second (list_any (again (PortBit bit word)) list) (any_pair again list) h)

-- Bits.

abbrev bits_among : List Taken → List PinBit
bits_among [] = []
bits_among (PhysicalPin pin ∷ list) = bits_among list
bits_among (PortBit bit word ∷ list) = bit ∷ bits_among list

bits-append : (xs ys : List Taken) → bits_among (xs ++ ys) ≡ bits_among xs ++ bits_among ys
bits-append [] ys = refl
bits-append (PhysicalPin pin ∷ xs) ys = bits-append xs ys
bits-append (PortBit bit word ∷ xs) ys = ap (λ (l : List PinBit). bit ∷ l) (bits-append xs ys)

bits_alone : (lines : List TapLine) → bits_among (map taken_alone lines) ≡ []
bits_alone [] = refl
bits_alone (line ∷ lines) = bits_alone lines

bits_by : (lines : List PinLine) (seen : List PinSeen) → length seen ≡ length lines → bits_among (taken_by lines seen) ≡ map (λ (one : PinSeen). one.pin) seen
bits_by [] [] many = refl
bits_by [] (one ∷ seen) many = absurd (omega arith)
bits_by (line ∷ lines) [] many = absurd (omega arith)
bits_by (line ∷ lines) (one ∷ seen) many = ap (λ (l : List PinBit). one.pin ∷ l) (bits_by lines seen (omega arith))

bit_none : (bit : PinBit) (word : List ℕ) (list : List Taken) → list_any (again (PortBit bit word)) list ≡ false → list_any (λ other. same_bit other bit) (bits_among list) ≡ false
bit_none bit word [] h = refl
bit_none bit word (PhysicalPin pin ∷ list) h = bit_none bit word list h
bit_none bit word (PortBit other name ∷ list) h =
    neither (same_bit other bit) (list_any (λ o. same_bit o bit) (bits_among list)) (or_first (same_bit other bit) (list_any (again (PortBit bit word)) list) h)
    (bit_none bit word list (or_second (same_bit other bit) (list_any (again (PortBit bit word)) list) h))

bits_apart : (list : List Taken) → any_pair again list ≡ false → any_pair (λ early late. same_bit late early) (bits_among list) ≡ false
bits_apart [] h = refl
bits_apart (PhysicalPin pin ∷ list) h = bits_apart list (or_second (list_any (again (PhysicalPin pin)) list) (any_pair again list) h)
bits_apart (PortBit bit word ∷ list) h =
    neither (list_any (λ other. same_bit other bit) (bits_among list)) (any_pair (λ early late. same_bit late early) (bits_among list))
    (bit_none bit word list (or_first (list_any (again (PortBit bit word)) list) (any_pair again list) h))
    (bits_apart list (or_second (list_any (again (PortBit bit word)) list) (any_pair again list) h))

-- The whole.

pub record TakenOnce (p : Plan) (seen : List PinSeen) : Type 0 where
  pub pins : is_repeated (map (λ (line : TapLine). line.pin) (tap_lines p) ++ (map (λ (line : PinLine). line.pin) p.pins ++ map (λ (line : TapLine). line.pin) p.linkage)) ≡ false
  pub bits : any_pair (λ early late. same_bit late early) (map (λ (one : PinSeen). one.pin) seen) ≡ false

pub taken_once : (p : Plan) (seen : List PinSeen) → length seen ≡ length p.pins → twice_fault p seen ≡ None → TakenOnce p seen
taken_once p seen many h =
    let taps = map taken_alone (tap_lines p) in
    let by = taken_by p.pins seen in
    let more = map taken_alone p.linkage in
    let apart = (taken_apart [] (all_taken p seen) h).0 in
    let pins : pins_among (all_taken p seen) ≡ map (λ (line : TapLine). line.pin) (tap_lines p) ++ (map (λ (line : PinLine). line.pin) p.pins ++ map (λ (line : TapLine). line.pin) p.linkage) =
    pins-append taps (by ++ more)
    ∙ ap (λ (l : List (List ℕ)). l ++ pins_among (by ++ more)) (pins_alone (tap_lines p))
    ∙ ap (λ (l : List (List ℕ)). map (λ (line : TapLine). line.pin) (tap_lines p) ++ l)
    (pins-append by more
    ∙ ap (λ (l : List (List ℕ)). l ++ pins_among more) (pins_by p.pins seen many)
    ∙ ap (λ (l : List (List ℕ)). map (λ (line : PinLine). line.pin) p.pins ++ l) (pins_alone p.linkage)) in
    let bits : bits_among (by ++ more) ≡ map (λ (one : PinSeen). one.pin) seen ++ [] =
    bits-append by more
    ∙ ap (λ (l : List PinBit). l ++ bits_among more) (bits_by p.pins seen many)
    ∙ ap (λ (l : List PinBit). map (λ (one : PinSeen). one.pin) seen ++ l) (bits_alone p.linkage) in
    record {
      pins = pair_same is_same_name (λ early late. is_same_name late early) same_turned (map (λ (line : TapLine). line.pin) (tap_lines p) ++ (map (λ (line : PinLine). line.pin) p.pins ++ map (λ (line : TapLine). line.pin) p.linkage))
          ∙ ap (any_pair (λ early late. is_same_name late early)) (sym pins) ∙ pins_apart (all_taken p seen) apart;
      bits = ap (any_pair (λ early late. same_bit late early)) (sym (bits ∙ append-nil (map (λ (one : PinSeen). one.pin) seen))) ∙ bits_apart (all_taken p seen) apart;
    }
