-- What is put of the bits that may read anew: all that changed, in the order of the bits.
use Rattle.std.proofs.Common.{◌≡◌, ◌≢◌, ◌⊎◌, ◌==◌, ℕ, zero, suc, ◌+◌, ◌-◌, ◌<◌, ◌≤◌, true, List, [], ◌∷◌, ◌++◌, length, map, take, drop, set, Option, Some, refl, sym, ◌∙◌, ap, inl, inr, arith, append-nil, append_assoc}
use Rattle.std.specs.List.{slice_get, flat_map}
use Rattle.std.proofs.lemmas.Bool.Decides.{eqb_tells}
use Rattle.std.proofs.lemmas.Option.{slice_get_within}
use Rattle.list_laws.proofs.Lists.{left_at, front_all, none_left, map_push, slice_get_there}
use Rattle.edge_io.specs.Shelf.{appended}
use Rattle.signal_values.specs.declared.PinSig.{PinSig}
use Rattle.signal_values.specs.declared.PinSig.TheVariants.{Zero as PinZero, One as PinOne, Unknown as PinUnknown, HighZ as PinHighZ}
use Rattle.signal_values.specs.Values.{show_byte}
use Rattle.netlist_model.specs.declared.NetId.{NetId}
use Rattle.netlist_model.specs.Lists.{NetlistView}
use Rattle.netlist_model.specs.Runs.{Moment, reading_at}
use Rattle.netlist_link.specs.Linked.{LinkedView}
use Rattle.event_sim.specs.Sims.{IsIn, Pops}
use Rattle.sim_runs.specs.declared.shown.Shown.{Shown}
use Rattle.sim_runs.specs.Outputs.{changed_line}
use Rattle.sim_runs.specs.Shown.{shown_nets}
use Rattle.sim_runs.specs.Bits.{AreBits, AreNoted, IsToldBefore, net_at, bit_line, bits_text, told_at, told_of}
use Rattle.sim_runs.proofs.Lists.{front_next, flat_map-push}

-- two pins are one or differ
sig_or_not : (a b : PinSig) → (a ≡ b) ⊎ (a ≢ b)
sig_or_not PinZero PinZero = inl refl
sig_or_not PinZero PinOne = inr (λ e. cc)
sig_or_not PinZero PinUnknown = inr (λ e. cc)
sig_or_not PinZero PinHighZ = inr (λ e. cc)
sig_or_not PinOne PinZero = inr (λ e. cc)
sig_or_not PinOne PinOne = inl refl
sig_or_not PinOne PinUnknown = inr (λ e. cc)
sig_or_not PinOne PinHighZ = inr (λ e. cc)
sig_or_not PinUnknown PinZero = inr (λ e. cc)
sig_or_not PinUnknown PinOne = inr (λ e. cc)
sig_or_not PinUnknown PinUnknown = inl refl
sig_or_not PinUnknown PinHighZ = inr (λ e. cc)
sig_or_not PinHighZ PinZero = inr (λ e. cc)
sig_or_not PinHighZ PinOne = inr (λ e. cc)
sig_or_not PinHighZ PinUnknown = inr (λ e. cc)
sig_or_not PinHighZ PinHighZ = inl refl

-- the bits below a place were told, and what is left in the queue begins there
pub record IsToldUpTo (L : LinkedView) (before after : Moment) (bits : List Shown) (old : List (Option PinSig)) (noted changed : List ℕ) (told : List (Option PinSig)) (given now : Option (List ℕ)) (passed : ℕ) : Type 0 where
  pub upto : ℕ
  pub few : upto ≤ length bits
  pub passes : passed ≤ upto
  pub left : (place : ℕ) → IsIn changed place → upto ≤ place
  pub still : (place : ℕ) → upto ≤ place → IsIn noted place → IsIn changed place
  pub told_is : told ≡ told_of (told_at L.arena.lists after) (take upto bits) ++ drop upto old
  pub given_is : now ≡ appended (bits_text L (told_at L.arena.lists before) after (take upto bits)) given

-- bits from one place to another read as before
abbrev pub ReadSame : NetlistView → Moment → Moment → List Shown → ℕ → ℕ → Type 0
ReadSame N before after bits from to = (k : ℕ) (bit : Shown) → from ≤ k → k < to → slice_get bits k ≡ Some bit → reading_at N before bit.net.0 ≡ reading_at N after bit.net.0

mapped_get : {X Y : Type 0} (f : X → Y) (xs : List X) (k : ℕ) (x : X) → slice_get xs k ≡ Some x → slice_get (map f xs) k ≡ Some (f x)
mapped_get f [] k x at = absurd (cc)
mapped_get {Y = Y} f (y ∷ ys) zero x at = let same : y ≡ x = cc in ap (λ z. Some (f z)) same
mapped_get f (y ∷ ys) (suc k) x at = mapped_get f ys k x at

-- one bit that reads as before
told_one : (N : NetlistView) (before after : Moment) (bits : List Shown) (old : List (Option PinSig)) (k : ℕ) (bit : Shown) → slice_get bits k ≡ Some bit → old ≡ told_of (told_at N before) bits
    → reading_at N before bit.net.0 ≡ reading_at N after bit.net.0
    → told_of (told_at N after) (take k bits) ++ drop k old ≡ told_of (told_at N after) (take (k + 1) bits) ++ drop (k + 1) old
told_one N before after bits old k bit at is same =
    let f : Shown → Option PinSig = λ b. told_at N after b.net.0 in
    let g : Shown → Option PinSig = λ b. told_at N before b.net.0 in
    let there : slice_get old k ≡ Some (g bit) = ap (λ (l : List (Option PinSig)). slice_get l k) is ∙ mapped_get g bits k bit at in
    let rest : drop k old ≡ g bit ∷ drop (suc k) old = left_at old k (g bit) there in
    let own : g bit ≡ f bit = ap (λ (p : PinSig). Some p) same in
    ap (λ (l : List (Option PinSig)). map f (take k bits) ++ l) (rest ∙ ap (λ (o : Option PinSig). o ∷ drop (suc k) old) own)
    ∙ sym (append_assoc (map f (take k bits)) (f bit ∷ []) (drop (suc k) old))
    ∙ ap (λ (l : List (Option PinSig)). l ++ drop (suc k) old) (sym (map_push f (take k bits) bit) ∙ ap (map f) (front_next bits k bit at))
    ∙ ap (λ (n : ℕ). map f (take (k + 1) bits) ++ drop n old) (let e : suc k ≡ k + 1 = omega arith in e)

same_byte : (p : PinSig) → (show_byte p == show_byte p) ≡ true
same_byte p = elim (eqb_tells (show_byte p) (show_byte p)) [ inl same ↦ same.0 | inr apart ↦ absurd (apart.1 refl) ]

no_line : (L : LinkedView) (before after : Moment) (bit : Shown) → reading_at L.arena.lists before bit.net.0 ≡ reading_at L.arena.lists after bit.net.0 → bit_line L (told_at L.arena.lists before) after bit ≡ []
no_line L before after bit same =
    ap (λ (p : PinSig). changed_line L bit.net p (reading_at L.arena.lists after bit.net.0)) same ∙ rw (same_byte (reading_at L.arena.lists after bit.net.0)) refl

text_one : (L : LinkedView) (before after : Moment) (bits : List Shown) (k : ℕ) (bit : Shown) → slice_get bits k ≡ Some bit → reading_at L.arena.lists before bit.net.0 ≡ reading_at L.arena.lists after bit.net.0
    → bits_text L (told_at L.arena.lists before) after (take k bits) ≡ bits_text L (told_at L.arena.lists before) after (take (k + 1) bits)
text_one L before after bits k bit at same =
    let f : Shown → List ℕ = bit_line L (told_at L.arena.lists before) after in
    sym (append-nil (flat_map f (take k bits))) ∙ ap (λ (l : List ℕ). flat_map f (take k bits) ++ l) (sym (no_line L before after bit same))
    ∙ sym (flat_map-push f (take k bits) bit) ∙ ap (λ (bs : List Shown). flat_map f bs) (front_next bits k bit at)

-- and more of them
told_more : (N : NetlistView) (before after : Moment) (bits : List Shown) (old : List (Option PinSig)) (from n : ℕ) → from + n ≤ length bits → old ≡ told_of (told_at N before) bits → ReadSame N before after bits from (from + n)
    → told_of (told_at N after) (take from bits) ++ drop from old ≡ told_of (told_at N after) (take (from + n) bits) ++ drop (from + n) old
told_more N before after bits old from zero few is same = (let e : from ≡ from + 0 = omega arith in ap (λ (k : ℕ). told_of (told_at N after) (take k bits) ++ drop k old) e)
told_more N before after bits old from (suc n) few is same =
    let bit = slice_get_there bits (from + n) (omega arith) in
    told_more N before after bits old from n (omega arith) is (λ k b low high at. same k b low (omega arith) at)
    ∙ told_one N before after bits old (from + n) bit.0 bit.1 is (same (from + n) bit.0 (omega arith) (omega arith) bit.1)
    ∙ (let e : from + n + 1 ≡ from + suc n = omega arith in ap (λ (k : ℕ). told_of (told_at N after) (take k bits) ++ drop k old) e)

text_more : (L : LinkedView) (before after : Moment) (bits : List Shown) (from n : ℕ) → from + n ≤ length bits → ReadSame L.arena.lists before after bits from (from + n)
    → bits_text L (told_at L.arena.lists before) after (take from bits) ≡ bits_text L (told_at L.arena.lists before) after (take (from + n) bits)
text_more L before after bits from zero few same = (let e : from ≡ from + 0 = omega arith in ap (λ (k : ℕ). bits_text L (told_at L.arena.lists before) after (take k bits)) e)
text_more L before after bits from (suc n) few same =
    let bit = slice_get_there bits (from + n) (omega arith) in
    text_more L before after bits from n (omega arith) (λ k b low high at. same k b low (omega arith) at)
    ∙ text_one L before after bits (from + n) bit.0 bit.1 (same (from + n) bit.0 (omega arith) (omega arith) bit.1)
    ∙ (let e : from + n + 1 ≡ from + suc n = omega arith in ap (λ (k : ℕ). bits_text L (told_at L.arena.lists before) after (take k bits)) e)

-- up to a place before which nothing is queued
pub record IsToldTo (L : LinkedView) (before after : Moment) (bits : List Shown) (old told : List (Option PinSig)) (given now : Option (List ℕ)) (place : ℕ) : Type 0 where
  pub told_is : told ≡ told_of (told_at L.arena.lists after) (take place bits) ++ drop place old
  pub given_is : now ≡ appended (bits_text L (told_at L.arena.lists before) after (take place bits)) given

pub told_to : (L : LinkedView) (before after : Moment) (bits : List Shown) (old : List (Option PinSig)) (noted changed : List ℕ) (told : List (Option PinSig)) (given now : Option (List ℕ)) (passed place : ℕ)
    → IsToldBefore L.arena.lists before after bits old noted → (up : IsToldUpTo L before after bits old noted changed told given now passed) → up.upto ≤ place → place ≤ length bits → ((k : ℕ) → IsIn changed k → place ≤ k)
    → IsToldTo L before after bits old told given now place
told_to L before after bits old noted changed told given now passed place was up low high least = record {
  told_is = up.told_is ∙ told_more L.arena.lists before after bits old up.upto n (omega arith) was.told_is same ∙ ap (λ (k : ℕ). told_of (told_at L.arena.lists after) (take k bits) ++ drop k old) sum;
  given_is = up.given_is ∙ ap (λ (l : List ℕ). appended l given) (text_more L before after bits up.upto n (omega arith) same ∙ ap (λ (k : ℕ). bits_text L (told_at L.arena.lists before) after (take k bits)) sum);
}
  where
    n : ℕ
    n = place - up.upto

    sum : up.upto + (place - up.upto) ≡ place
    sum = omega arith

    same : ReadSame L.arena.lists before after bits up.upto (up.upto + (place - up.upto))
    same k bit from to at =
        elim (sig_or_not (reading_at L.arena.lists before bit.net.0) (reading_at L.arena.lists after bit.net.0)) [
          | inl one ↦ one
          | inr apart ↦ absurd (let here = least k (up.still k from (was.noted k bit at apart)) in omega arith)
        ]

-- nothing that is left is a bit
pub record AllTold (L : LinkedView) (before after : Moment) (bits : List Shown) (told : List (Option PinSig)) (given now : Option (List ℕ)) : Type 0 where
  pub told_is : told ≡ told_of (told_at L.arena.lists after) bits
  pub given_is : now ≡ appended (bits_text L (told_at L.arena.lists before) after bits) given

pub all_told : (L : LinkedView) (before after : Moment) (bits : List Shown) (old : List (Option PinSig)) (noted changed : List ℕ) (told : List (Option PinSig)) (given now : Option (List ℕ)) (passed : ℕ)
    → length old ≡ length bits → IsToldBefore L.arena.lists before after bits old noted → IsToldUpTo L before after bits old noted changed told given now passed → ((k : ℕ) → IsIn changed k → length bits ≤ k)
    → AllTold L before after bits told given now
all_told L before after bits old noted changed told given now passed long was up least =
    let to = told_to L before after bits old noted changed told given now passed (length bits) was up up.few (omega arith) least in
    let front = front_all bits (length bits) (omega arith) in
    let rest = none_left old (length bits) (omega arith) in
    record {
      told_is = to.told_is ∙ ap (λ (bs : List Shown). told_of (told_at L.arena.lists after) bs ++ drop (length bits) old) front
          ∙ ap (λ (l : List (Option PinSig)). told_of (told_at L.arena.lists after) bits ++ l) rest ∙ append-nil (told_of (told_at L.arena.lists after) bits);
      given_is = to.given_is ∙ ap (λ (bs : List Shown). appended (bits_text L (told_at L.arena.lists before) after bs) given) front;
    }

pub none_told : (L : LinkedView) (before after : Moment) (bits : List Shown) (old : List (Option PinSig)) (noted : List ℕ) (given : Option (List ℕ)) → given ≡ appended [] given
    → IsToldUpTo L before after bits old noted noted old given given 0
none_told L before after bits old noted given none = record {
  upto = 0;
  few = omega arith;
  passes = omega arith;
  left = λ place is. omega arith;
  still = λ place low is. is;
  told_is = refl;
  given_is = none;
}

-- the bits that an event notes, by their nets
pub noted_bits : (S L : LinkedView) (before after : Moment) (bits : List Shown) (changed : List ℕ) → S ≡ L → AreBits L.arena.lists bits
    → ((place : ℕ) (net : NetId) → slice_get (shown_nets S.arena.lists) place ≡ Some net → reading_at S.arena.lists before net.0 ≢ reading_at S.arena.lists after net.0 → IsIn changed place)
    → AreNoted L.arena.lists before after bits changed
noted_bits S L before after bits changed same are each place bit at anew =
    let here : (place : ℕ) (net : NetId) → slice_get (shown_nets L.arena.lists) place ≡ Some net → reading_at L.arena.lists before net.0 ≢ reading_at L.arena.lists after net.0 → IsIn changed place = rw same at each in
    here place bit.net (ap (λ (l : List NetId). slice_get l place) (sym are.nets) ∙ mapped_get net_at bits place bit at) anew

-- one bit more was taken out of the queue and told
pub told_further : (L : LinkedView) (before after : Moment) (bits : List Shown) (old : List (Option PinSig)) (noted changed changed' : List ℕ) (told told' : List (Option PinSig)) (given now now' : Option (List ℕ)) (passed place : ℕ) (bit : Shown)
    → IsToldBefore L.arena.lists before after bits old noted → (up : IsToldUpTo L before after bits old noted changed told given now passed) → Pops place changed changed' → slice_get bits place ≡ Some bit
    → told' ≡ told_of (told_at L.arena.lists after) (take (place + 1) bits) ++ drop (place + 1) old → now' ≡ appended (bits_text L (told_at L.arena.lists before) after (take (place + 1) bits)) given
    → IsToldUpTo L before after bits old noted changed' told' given now' (passed + 1)
told_further L before after bits old noted changed changed' told told' given now now' passed place bit was up pops at told_is given_is = record {
  upto = place + 1;
  few = (let within = slice_get_within bits place bit at in omega arith);
  passes = (let low = up.left place pops.least.set in let p = up.passes in omega arith);
  left = λ other there. (let both = (pops.each other).0 there in let least = pops.least.least other both.1 in let ne = both.0 in omega arith);
  still = λ other late is. (let low = up.left place pops.least.set in (pops.each other).1 ((λ e. omega arith), up.still other (omega arith) is));
  told_is = told_is;
  given_is = given_is;
}
