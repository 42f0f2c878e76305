use Rattle.std.proofs.Common.{◌≡◌, ℕ, ◌+◌, ◌-◌, ◌<◌, ◌≤◌, List, [], ◌∷◌, ◌++◌, length, take, drop, get_or, Option, Some, None, suc, zero, refl, sym, ap, subst, ◌∙◌, arith, length-append, length-drop}
use Rattle.std.specs.Prelude.{option_and_then}
use Rattle.std.proofs.Math.Seq.{take-add, take-append_seam, drop-append_seam}
use Rattle.std.proofs.lemmas.List.{take_rest, take_more, length-take-le, get_or-drop}
use Rattle.std.proofs.lemmas.Option.{same_Some}
use Rattle.word_cutter.specs.declared.fault.CutFault.{CutFault}
use Rattle.word_cutter.specs.declared.fault.CutFault.TheVariants.{BadByte, OutOfMemory}
use Rattle.word_cutter.specs.Run.{run, Stops, IsRefusal, IsStepFault, FedAs}

pub and_then_assoc : {A B C : Type 0} (f : A → Option B) (g : B → Option C) (o : Option A) → option_and_then g (option_and_then f o) ≡ option_and_then (λ x. option_and_then g (f x)) o
and_then_assoc f g None = refl
and_then_assoc f g (Some x) = refl

pub and_then_same : {A B : Type 0} (f g : A → Option B) (o : Option A) → ((x : A) → f x ≡ g x) → option_and_then f o ≡ option_and_then g o
and_then_same f g None h = refl
and_then_same f g (Some x) h = h x

-- a run over two texts, one after the other
pub run_append : {S : Type 0} (step : ℕ → S → ℕ → Option S) (xs ys : List ℕ) (at : ℕ) (s : S) → run step at s (xs ++ ys) ≡ option_and_then (λ t. run step (at + length xs) t ys) (run step at s xs)
run_append step [] ys at s = ap (λ (x : ℕ). run step x s ys) (omega arith)
run_append step (x ∷ xs) ys at s =
    and_then_same (λ t. run step (at + 1) t (xs ++ ys)) (λ t. option_and_then (λ u. run step (at + length (x ∷ xs)) u ys) (run step (at + 1) t xs)) (step at s x)
    (λ t. run_append step xs ys (at + 1) t ∙ ap (λ (k : ℕ). option_and_then (λ u. run step k u ys) (run step (at + 1) t xs)) (omega arith))
    ∙ sym (and_then_assoc (λ t. run step (at + 1) t xs) (λ u. run step (at + length (x ∷ xs)) u ys) (step at s x))

-- a run goes on where another one ended
pub run_on : {S : Type 0} (step : ℕ → S → ℕ → Option S) (xs ys : List ℕ) (at : ℕ) (s t u : S) → run step at s xs ≡ Some t → run step (at + length xs) t ys ≡ Some u → run step at s (xs ++ ys) ≡ Some u
run_on step xs ys at s t u ran more = run_append step xs ys at s ∙ ap (option_and_then (λ v. run step (at + length xs) v ys)) ran ∙ more

-- so within a piece
pub run_further : {S : Type 0} (step : ℕ → S → ℕ → Option S) (piece : List ℕ) (i n at : ℕ) (s t u : S) → i ≤ length piece → run step at s (take i piece) ≡ Some t → run step (at + i) t (take n (drop i piece)) ≡ Some u → run step at s (take (i + n) piece) ≡ Some u
run_further step piece i n at s t u within ran more =
    ap (run step at s) (take-add i n piece)
    ∙ run_on step (take i piece) (take n (drop i piece)) at s t u ran
    (ap (λ (k : ℕ). run step (at + k) t (take n (drop i piece))) (length-take-le i piece within) ∙ more)

-- a byte at which the machine stops after some bytes
pub stops_further : {S : Type 0} (step : ℕ → S → ℕ → Option S) (piece : List ℕ) (i n at : ℕ) (s t : S) → i ≤ length piece → run step at s (take i piece) ≡ Some t → Stops step (at + i) t (drop i piece) n → Stops step at s piece (i + n)
stops_further step piece i n at s t within ran stops = record {
  within = omega (arith, stops.within, length-drop i piece);
  state = stops.state;
  ran = run_further step piece i n at s t stops.state within ran stops.ran;
  stops = ap (λ (k : ℕ). step k stops.state (get_or piece (i + n) 0)) (omega arith) ∙ ap (step (at + i + n) stops.state) (sym (get_or-drop i piece n 0)) ∙ stops.stops;
}

pub refusal_further : {S : Type 0} (step : ℕ → S → ℕ → Option S) (piece : List ℕ) (i at : ℕ) (s t : S) (e : CutFault) → i ≤ length piece → run step at s (take i piece) ≡ Some t → IsRefusal step (at + i) t (drop i piece) e → IsRefusal step at s piece e
refusal_further step piece i at s t OutOfMemory within ran is = tt
refusal_further step piece i at s t (BadByte place) within ran is =
    (i + is.0, is.1 ∙ omega arith, stops_further step piece i is.0 at s t within ran is.2)

-- the bytes of a cutter and those of the next piece

pub fed_on : {S : Type 0} (step : ℕ → S → ℕ → Option S) (start s t : S) (fault after : Option CutFault) (at place : ℕ) (bytes piece : List ℕ) → FedAs step start fault at s bytes → after ≡ fault → place ≡ at + length piece → run step at s piece ≡ Some t → FedAs step start after place t (bytes ++ piece)
fed_on step start s t fault after at place bytes piece fed same there ran = record {
  no_fault = same ∙ fed.no_fault;
  at_is = there ∙ ap (λ (k : ℕ). k + length piece) fed.at_is ∙ sym (length-append bytes piece);
  ran = run_on step bytes piece 0 start s t fed.ran (let there : 0 + length bytes ≡ at = omega (arith, fed.at_is) in ap (λ (k : ℕ). run step k s piece) there ∙ ran);
}

pub refusal_on : {S : Type 0} (step : ℕ → S → ℕ → Option S) (start s : S) (fault : Option CutFault) (at : ℕ) (bytes piece : List ℕ) (e : CutFault) → FedAs step start fault at s bytes → IsRefusal step at s piece e → IsRefusal step 0 start (bytes ++ piece) e
refusal_on step start s fault at bytes piece e fed is =
    refusal_further step (bytes ++ piece) (length bytes) 0 start s e (omega (arith, length-append bytes piece))
    (ap (run step 0 start) (take-append_seam bytes piece) ∙ fed.ran)
    (subst (λ (l : List ℕ). IsRefusal step (0 + length bytes) s l e) (sym (drop-append_seam bytes piece)) (let there : at ≡ 0 + length bytes = omega (arith, fed.at_is) in subst (λ (k : ℕ). IsRefusal step k s piece e) there is))

-- a loop over a piece, by runs of the rest

pub loop_goes : {S : Type 0} (step : ℕ → S → ℕ → Option S) (piece : List ℕ) (i n at here : ℕ) (s t u : S) → i ≤ length piece → here ≡ at + i → run step at s (take i piece) ≡ Some t → run step here t (take n (take (length piece - i) (drop i piece))) ≡ Some u → run step at s (take (i + n) piece) ≡ Some u
loop_goes step piece i n at here s t u within place ran more =
    run_further step piece i n at s t u within ran
    (ap (λ (k : ℕ). run step k t (take n (drop i piece))) (sym place) ∙ ap (λ (l : List ℕ). run step here t (take n l)) (sym (take_rest piece i)) ∙ more)

pub loop_stops : {S : Type 0} (step : ℕ → S → ℕ → Option S) (piece : List ℕ) (i at here : ℕ) (s t : S) (e : CutFault) → i ≤ length piece → here ≡ at + i → run step at s (take i piece) ≡ Some t → IsRefusal step here t (take (length piece - i) (drop i piece)) e → IsRefusal step at s piece e
loop_stops step piece i at here s t e within place ran is =
    refusal_further step piece i at s t e within ran
    (subst (λ (l : List ℕ). IsRefusal step (at + i) t l e) (take_rest piece i) (subst (λ (k : ℕ). IsRefusal step k t (take (length piece - i) (drop i piece)) e) place is))

and_then_some : {S : Type 0} (o : Option S) → option_and_then (λ v. Some v) o ≡ o
and_then_some None = refl
and_then_some (Some x) = refl

-- one byte more of a piece
pub run_byte : {S : Type 0} (step : ℕ → S → ℕ → Option S) (piece : List ℕ) (n at : ℕ) (s t : S) → n < length piece → run step at s (take n piece) ≡ Some t → run step at s (take (n + 1) piece) ≡ step (at + n) t (get_or piece n 0)
run_byte step piece n at s t within ran =
    ap (run step at s) (take_more piece n 0 within)
    ∙ run_append step (take n piece) (get_or piece n 0 ∷ []) at s
    ∙ ap (option_and_then (λ v. run step (at + length (take n piece)) v (get_or piece n 0 ∷ []))) ran
    ∙ ap (λ (k : ℕ). run step (at + k) t (get_or piece n 0 ∷ [])) (length-take-le n piece (omega arith))
    ∙ and_then_some (step (at + n) t (get_or piece n 0))

-- a byte at which the machine stops
pub refusal_at : {S : Type 0} (step : ℕ → S → ℕ → Option S) (piece : List ℕ) (n at : ℕ) (s t : S) (e : CutFault) → n < length piece → run step at s (take n piece) ≡ Some t → IsStepFault e (at + n) (step (at + n) t (get_or piece n 0)) → IsRefusal step at s piece e
refusal_at step piece n at s t OutOfMemory within ran is = tt
refusal_at step piece n at s t (BadByte place) within ran is = (n, is.0, record { within = within; state = t; ran = ran; stops = is.1 })

-- two states that go on alike with the first byte of a piece

pub run_alike : {S : Type 0} (step : ℕ → S → ℕ → Option S) (piece : List ℕ) (n at : ℕ) (s t : S) → 0 < n → n ≤ length piece → step at s (get_or piece 0 0) ≡ step at t (get_or piece 0 0) → run step at s (take n piece) ≡ run step at t (take n piece)
run_alike step [] n at s t some within same = absurd (omega arith)
run_alike step (b ∷ bytes) zero at s t some within same = absurd (omega arith)
run_alike step (b ∷ bytes) (suc n) at s t some within same = ap (option_and_then (λ u. run step (at + 1) u (take n bytes))) same

pub refusal_alike : {S : Type 0} (step : ℕ → S → ℕ → Option S) (piece : List ℕ) (at : ℕ) (s t : S) (e : CutFault) → step at s (get_or piece 0 0) ≡ step at t (get_or piece 0 0) → IsRefusal step at t piece e → IsRefusal step at s piece e
refusal_alike step piece at s t OutOfMemory same is = tt
refusal_alike step piece at s t (BadByte place) same is = (is.0, is.1, stops_alike is.0 is.2) where
  stops_alike : (n : ℕ) → Stops step at t piece n → Stops step at s piece n
  stops_alike zero stops =
      let here : t ≡ stops.state = same_Some t stops.state stops.ran in
      record { within = stops.within; state = s; ran = refl; stops = (let there : at + 0 ≡ at = omega arith in ap (λ (k : ℕ). step k s (get_or piece 0 0)) there ∙ same ∙ ap (λ (u : _). step at u (get_or piece 0 0)) here ∙ ap (λ (k : ℕ). step k stops.state (get_or piece 0 0)) (sym there) ∙ stops.stops) }
  stops_alike (suc n) stops = record { within = stops.within; state = stops.state; ran = run_alike step piece (suc n) at s t (omega arith) (omega (arith, stops.within)) same ∙ stops.ran; stops = stops.stops }

-- the first byte of a piece

pub run_one : {S : Type 0} (step : ℕ → S → ℕ → Option S) (piece : List ℕ) (at : ℕ) (s : S) → 0 < length piece → run step at s (take 1 piece) ≡ step at s (get_or piece 0 0)
run_one step [] at s some = absurd (omega arith)
run_one step (b ∷ bytes) at s some = and_then_some (step at s b)

pub refusal_one : {S : Type 0} (step : ℕ → S → ℕ → Option S) (piece : List ℕ) (at : ℕ) (s : S) (e : CutFault) → 0 < length piece → IsStepFault e at (step at s (get_or piece 0 0)) → IsRefusal step at s piece e
refusal_one step piece at s OutOfMemory some is = tt
refusal_one step piece at s (BadByte place) some is =
    let there : at + 0 ≡ at = omega arith in
    (0, is.0 ∙ sym there, record { within = some; state = s; ran = refl; stops = ap (λ (k : ℕ). step k s (get_or piece 0 0)) there ∙ is.1 })
