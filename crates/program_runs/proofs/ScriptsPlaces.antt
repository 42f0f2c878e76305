-- Where the starts of a program stand among its lines.
use Rattle.std.proofs.Common.{◌≡◌, ◌⊎◌, ℕ, zero, suc, ◌+◌, ◌-◌, ◌<◌, ◌≤◌, Bool, true, false, List, [], ◌∷◌, ◌++◌, map, length, slice_get, if◌then◌else◌, Option, Some, None, option_map, refl, sym, ap, ◌∙◌, inl, inr, arith}
use Rattle.std.specs.List.{flat_map, enumerate_from}
use Rattle.std.proofs.lemmas.Bool.{cases_lt}
use Rattle.std.proofs.lemmas.List.{length-map}
use Rattle.std.proofs.lemmas.Option.{slice_get-map, slice_get_within}
use Rattle.list_laws.proofs.Lists.{slice_get-append_left, slice_get-append_right}
use Rattle.list_laws.proofs.Options.{some_same}
use Rattle.bsdl_device.specs.declared.values.DevPort.{DevPort}
use Rattle.bsdl_device.specs.declared.values.Device.{Device}
use Rattle.bsdl_device.specs.Ports.{indices}
use Rattle.scan_vectors.specs.declared.lines.Line.{Line}
use Rattle.scan_vectors.specs.declared.lines.Line.TheVariants.{Start}
use Rattle.scan_programs.specs.Pins.{bit_word, start_value, takes_start, starts_of, starts}

-- how many starts a port has
abbrev pub starts_count : DevPort → ℕ
starts_count p = if takes_start p then length (indices p.range) else 0

-- how many the ports before this one have
abbrev pub starts_before : List DevPort → ℕ → ℕ
starts_before [] n = 0
starts_before (p ∷ ps) zero = 0
starts_before (p ∷ ps) (suc n) = starts_count p + starts_before ps n

-- the line is the start of a bit of one of these ports, of which the first has this place, and stands at its place among the starts
pub record IsPlaced (B : Device) (first : ℕ) (ps : List DevPort) (k : ℕ) (line : Line) : Type 0 where
  pub number : ℕ
  pub port : DevPort
  pub bit : ℕ
  pub index : Option ℕ
  pub there : slice_get ps number ≡ Some port
  pub takes : takes_start port ≡ true
  pub at : slice_get (indices port.range) bit ≡ Some index
  pub line_is : line ≡ Start (bit_word port.name index) (start_value B (first + number) port)
  pub stands : k ≡ starts_before ps number + bit

-- One port.

count_by : (B : Device) (place : ℕ) (p : DevPort) (b : Bool) → length (if b then map (λ index. Start (bit_word p.name index) (start_value B place p)) (indices p.range) else []) ≡ (if b then length (indices p.range) else 0)
count_by B place p true = length-map (indices p.range) (λ index. Start (bit_word p.name index) (start_value B place p))
count_by B place p false = refl

count_is : (B : Device) (place : ℕ) (p : DevPort) → length (starts_of B (place, p)) ≡ starts_count p
count_is B place p = count_by B place p (takes_start p)

record IsOwn (B : Device) (place : ℕ) (p : DevPort) (k : ℕ) (line : Line) : Type 0 where
  index : Option ℕ
  takes : takes_start p ≡ true
  at : slice_get (indices p.range) k ≡ Some index
  line_is : line ≡ Start (bit_word p.name index) (start_value B place p)

index_by : (B : Device) (place : ℕ) (p : DevPort) (k : ℕ) (line : Line) (o : Option (Option ℕ)) → takes_start p ≡ true → slice_get (indices p.range) k ≡ o
    → option_map (λ index. Start (bit_word p.name index) (start_value B place p)) o ≡ Some line → IsOwn B place p k line
index_by B place p k line None takes e h = absurd (cc)
index_by B place p k line (Some index) takes e h =
    let one : Line = Start (bit_word p.name index) (start_value B place p) in
    record { index = index; takes = takes; at = e; line_is = sym (some_same one line (Some one) refl h) }

own_by : (B : Device) (place : ℕ) (p : DevPort) (k : ℕ) (line : Line) (b : Bool) → takes_start p ≡ b
    → slice_get (if b then map (λ index. Start (bit_word p.name index) (start_value B place p)) (indices p.range) else []) k ≡ Some line → IsOwn B place p k line
own_by B place p k line false takes h = absurd (cc)
own_by B place p k line true takes h =
    index_by B place p k line (slice_get (indices p.range) k) takes refl (sym (slice_get-map (λ index. Start (bit_word p.name index) (start_value B place p)) (indices p.range) k) ∙ h)

own_there : (B : Device) (place : ℕ) (p : DevPort) (k : ℕ) (index : Option ℕ) (b : Bool) → b ≡ true → slice_get (indices p.range) k ≡ Some index
    → slice_get (if b then map (λ index. Start (bit_word p.name index) (start_value B place p)) (indices p.range) else []) k ≡ Some (Start (bit_word p.name index) (start_value B place p))
own_there B place p k index false takes at = absurd (cc)
own_there B place p k index true takes at =
    slice_get-map (λ i. Start (bit_word p.name i) (start_value B place p)) (indices p.range) k ∙ ap (option_map (λ i. Start (bit_word p.name i) (start_value B place p))) at

-- All ports.

further : (B : Device) (first : ℕ) (p : DevPort) (ps : List DevPort) (k j : ℕ) (line : Line) → k ≡ starts_count p + j → IsPlaced B (first + 1) ps j line → IsPlaced B first (p ∷ ps) k line
further B first p ps k j line e is = record {
  number = suc is.number;
  port = is.port;
  bit = is.bit;
  index = is.index;
  there = is.there;
  takes = is.takes;
  at = is.at;
  line_is = is.line_is ∙ ap (λ (n : ℕ). Start (bit_word is.port.name is.index) (start_value B n is.port)) (let at : (first + 1) + is.number ≡ first + suc is.number = omega arith in at);
  stands = let s : j ≡ starts_before ps is.number + is.bit = is.stands in omega (arith, e, s);
}

placed_by : (B : Device) (first : ℕ) (ps : List DevPort) (k : ℕ) (line : Line) → slice_get (flat_map (starts_of B) (enumerate_from first ps)) k ≡ Some line → IsPlaced B first ps k line
placed_by B first [] k line h = absurd (cc)
placed_by B first (p ∷ ps) k line h = by (cases_lt k (length (starts_of B (first, p)))) (λ j e. placed_by B (first + 1) ps j line e)
  where
    by : (k < length (starts_of B (first, p))) ⊎ (length (starts_of B (first, p)) ≤ k)
        → ((j : ℕ) → slice_get (flat_map (starts_of B) (enumerate_from (first + 1) ps)) j ≡ Some line → IsPlaced B (first + 1) ps j line) → IsPlaced B first (p ∷ ps) k line
    by (inl low) more =
        let here : slice_get (starts_of B (first, p)) k ≡ Some line =
        sym (slice_get-append_left (starts_of B (first, p)) (flat_map (starts_of B) (enumerate_from (first + 1) ps)) k low) ∙ h in
        let own = own_by B first p k line (takes_start p) refl here in
        record {
          number = 0;
          port = p;
          bit = k;
          index = own.index;
          there = refl;
          takes = own.takes;
          at = own.at;
          line_is = own.line_is ∙ ap (λ (n : ℕ). Start (bit_word p.name own.index) (start_value B n p)) (let at : first ≡ first + 0 = omega arith in at);
          stands = let at : k ≡ 0 + k = omega arith in at;
        }
    by (inr high) more =
        let n = length (starts_of B (first, p)) in
        let at : k ≡ length (starts_of B (first, p)) + (k - length (starts_of B (first, p))) = omega (arith, high) in
        let rest : slice_get (flat_map (starts_of B) (enumerate_from (first + 1) ps)) (k - n) ≡ Some line =
        sym (slice_get-append_right (starts_of B (first, p)) (flat_map (starts_of B) (enumerate_from (first + 1) ps)) k (k - n) at) ∙ h in
        further B first p ps k (k - n) line (at ∙ ap (λ (m : ℕ). m + (k - n)) (count_is B first p)) (more (k - n) rest)

pub listed_by : (B : Device) (first : ℕ) (ps : List DevPort) (number : ℕ) (port : DevPort) (bit : ℕ) (index : Option ℕ) → slice_get ps number ≡ Some port → takes_start port ≡ true
    → slice_get (indices port.range) bit ≡ Some index
    → slice_get (flat_map (starts_of B) (enumerate_from first ps)) (starts_before ps number + bit) ≡ Some (Start (bit_word port.name index) (start_value B (first + number) port))
listed_by B first [] number port bit index there takes at = absurd (cc)
listed_by B first (p ∷ ps) zero port bit index there takes at =
    let same : p ≡ port = some_same p port (Some p) refl there in
    let here : slice_get (starts_of B (first, p)) bit ≡ Some (Start (bit_word p.name index) (start_value B first p)) =
    own_there B first p bit index (takes_start p) (ap takes_start same ∙ takes) (ap (λ (q : DevPort). slice_get (indices q.range) bit) same ∙ at) in
    let low = slice_get_within (starts_of B (first, p)) bit (Start (bit_word p.name index) (start_value B first p)) here in
    let zero_is : 0 + bit ≡ bit = omega arith in
    let first_is : first ≡ first + 0 = omega arith in
    ap (slice_get (starts_of B (first, p) ++ flat_map (starts_of B) (enumerate_from (first + 1) ps))) zero_is
    ∙ slice_get-append_left (starts_of B (first, p)) (flat_map (starts_of B) (enumerate_from (first + 1) ps)) bit low
    ∙ here
    ∙ ap (λ (q : DevPort). Some (Start (bit_word q.name index) (start_value B first q))) same
    ∙ ap (λ (n : ℕ). Some (Start (bit_word port.name index) (start_value B n port))) first_is
listed_by B first (p ∷ ps) (suc number) port bit index there takes at =
    let more = listed_by B (first + 1) ps number port bit index there takes at in
    let count : length (starts_of B (first, p)) ≡ starts_count p = count_is B first p in
    let place : starts_count p + starts_before ps number + bit ≡ length (starts_of B (first, p)) + (starts_before ps number + bit) = omega (arith, count) in
    let next : (first + 1) + number ≡ first + suc number = omega arith in
    slice_get-append_right (starts_of B (first, p)) (flat_map (starts_of B) (enumerate_from (first + 1) ps)) (starts_count p + starts_before ps number + bit) (starts_before ps number + bit) place
    ∙ more
    ∙ ap (λ (n : ℕ). Some (Start (bit_word port.name index) (start_value B n port))) next

-- The starts of a device.

pub placed : (B : Device) (k : ℕ) (line : Line) → slice_get (starts B) k ≡ Some line → IsPlaced B 0 B.ports k line
unfolding starts
placed B k line h = placed_by B 0 B.ports k line h

pub listed : (B : Device) (number : ℕ) (port : DevPort) (bit : ℕ) (index : Option ℕ) → slice_get B.ports number ≡ Some port → takes_start port ≡ true → slice_get (indices port.range) bit ≡ Some index
    → slice_get (starts B) (starts_before B.ports number + bit) ≡ Some (Start (bit_word port.name index) (start_value B (0 + number) port))
unfolding starts
listed B number port bit index there takes at = listed_by B 0 B.ports number port bit index there takes at
