-- Laws of bits in words of 64.
use Rattle.std.proofs.Common.{◌≡◌, ◌≢◌, ◌↔◌, ◌⊎◌, inl, inr, ◌∙◌, sym, ap, refl, ℕ, ◌<◌, ◌≤◌, ◌+◌, ◌*◌, ◌/◌, ◌%◌, ◌^◌, ◌-◌, List, ◌++◌, length, get_or, w64, arith, get_or-set_other, get_or-set_same, bit_and}
use Rattle.std.proofs.Math.Seq.{take-append_seam}
use Rattle.std.proofs.Math.ListN.{take, set, replicate, length-set, length-replicate}
use Rattle.std.proofs.lemmas.List.{get_or-replicate, get_or_past}
use Rattle.std.proofs.lemmas.Bool.{cases_eq, cases_lt}
use Rattle.std.specs.Int.{bit_at, bit_not, trailing_zeros}
use Rattle.std.specs.Int.RustNames.{bit_or}
use Rattle.std.proofs.lemmas.Nat.Bits.{bit_at-zero, bit_at_set_same, bit_at_set_other, bit_at_clear_same, bit_at_clear_other, bit_at-trailing_zeros}
use Rattle.event_parts.specs.QueuesLaws.{bit_of, IsIn, SetsBit, HasBit, ClearsBit, Sums, IsLeast, Pushes, Pops}

-- a word with a bit isn't 0
pub some_word : (word place : ℕ) → bit_at word place ≡ 1 → 0 < word
some_word word place is =
    elim (cases_lt 0 word) [
      | inl some ↦ some
      | inr none ↦ (let zero_is : word ≡ 0 = omega arith in
          let clear = bit_at-zero place in
          let one : bit_at 0 place ≡ 1 = rw zero_is at is in
          absurd (let no : 0 ≡ 1 = sym clear ∙ one in omega arith))
    ]

-- a bit by its word and its place there
pub bit_here : (words : List ℕ) (number place at : ℕ) → number / 64 ≡ place → number % 64 ≡ at → bit_of words number ≡ bit_at (get_or words place 0) at
bit_here words number place at e f = rw (e, f) refl

-- a bit of a word that was written
pub bit_written : (words : List ℕ) (place word number : ℕ) → place < length words → number / 64 ≡ place → bit_of (set words place word) number ≡ bit_at word (number % 64)
bit_written words place word number inside e = bit_here (set words place word) number place (number % 64) e refl ∙ ap (λ (w : ℕ). bit_at w (number % 64)) (get_or-set_same words place word 0 inside)

-- a bit of another word
pub bit_kept : (words : List ℕ) (place word number : ℕ) → number / 64 ≢ place → bit_of (set words place word) number ≡ bit_of words number
bit_kept words place word number ne = ap (λ (w : ℕ). bit_at w (number % 64)) (get_or-set_other words place (number / 64) word 0 ne)

apart : (number other : ℕ) → other ≢ number → other / 64 ≡ number / 64 → other % 64 ≢ number % 64
apart number other ne e = λ f. ne (omega arith)

-- a bit is set
pub sets : (words : List ℕ) (number : ℕ) → number < 64 * length words
    → SetsBit number words (set words (number / 64) (bit_or (get_or words (number / 64) 0) (1 * 2 ^ (number % 64) % 2 ^ 64)))
sets words number room =
    let inside : number / 64 < length words = omega arith in
    let within : number % 64 < 64 = omega arith in
    let word = bit_or (get_or words (number / 64) 0) (1 * 2 ^ (number % 64) % 2 ^ 64) in
    let same : bit_of (set words (number / 64) word) number ≡ 1 = bit_written words (number / 64) word number inside refl ∙ bit_at_set_same w64 (get_or words (number / 64) 0) (number % 64) within in
    record {
      long = length-set words (number / 64) word;
      same = same;
      others = λ other ne.
          elim (cases_eq (other / 64) (number / 64)) [
            | inl e ↦ bit_written words (number / 64) word other inside e ∙ bit_at_set_other w64 (get_or words (number / 64) 0) (number % 64) within (other % 64) (apart number other ne e)
                ∙ sym (bit_here words other (number / 64) (other % 64) e refl)
            | inr n ↦ bit_kept words (number / 64) word other n
          ];
      some = some_word (get_or (set words (number / 64) word) (number / 64) 0) (number % 64) same;
      words = λ place ne. get_or-set_other words (number / 64) place word 0 ne;
    }

-- a bit is cleared
pub clears : (words : List ℕ) (number : ℕ) → number < 64 * length words
    → ClearsBit number words (set words (number / 64) (bit_and (get_or words (number / 64) 0) (bit_not w64 (1 * 2 ^ (number % 64) % 2 ^ 64))))
clears words number room =
    let inside : number / 64 < length words = omega arith in
    let within : number % 64 < 64 = omega arith in
    let word = bit_and (get_or words (number / 64) 0) (bit_not w64 (1 * 2 ^ (number % 64) % 2 ^ 64)) in
    record {
      long = length-set words (number / 64) word;
      same = bit_written words (number / 64) word number inside refl ∙ bit_at_clear_same w64 (get_or words (number / 64) 0) (number % 64) within;
      others = λ other ne.
          elim (cases_eq (other / 64) (number / 64)) [
            | inl e ↦ (let here : other % 64 < 64 = omega arith in
                bit_written words (number / 64) word other inside e ∙ bit_at_clear_other w64 (get_or words (number / 64) 0) (number % 64) within (other % 64) here (apart number other ne e)
                ∙ sym (bit_here words other (number / 64) (other % 64) e refl))
            | inr n ↦ bit_kept words (number / 64) word other n
          ];
      words = λ place ne. get_or-set_other words (number / 64) place word 0 ne;
    }

-- the lowest bit of a word
pub low_there : (place at : ℕ) → at < 64 → (place * 64 + at) / 64 ≡ place
low_there place at h = omega arith

pub low_at : (place at : ℕ) → at < 64 → (place * 64 + at) % 64 ≡ at
low_at place at h = omega arith

-- a word that isn't 0 is one of the list
pub inside : (words : List ℕ) (place : ℕ) → 0 < get_or words place 0 → place < length words
inside words place some =
    elim (cases_lt place (length words)) [
      | inl below ↦ below
      | inr past ↦ absurd (let none = get_or_past words place 0 past in omega arith)
    ]

pub trailing_small : (words : List ℕ) (place : ℕ) → 0 < get_or words place 0 → get_or words place 0 < 2 ^ 64 → trailing_zeros w64 (get_or words place 0) < 64
trailing_small words place some small = (bit_at-trailing_zeros w64 (get_or words place 0) some small).0

pub low_set : (words : List ℕ) (place : ℕ) → 0 < get_or words place 0 → get_or words place 0 < 2 ^ 64
    → bit_of words (place * 64 + trailing_zeros w64 (get_or words place 0)) ≡ 1
low_set words place some small =
    let t = bit_at-trailing_zeros w64 (get_or words place 0) some small in
    let at = trailing_zeros w64 (get_or words place 0) in
    bit_here words (place * 64 + at) place at (low_there place at t.0) (low_at place at t.0) ∙ t.1

pub low_least : (words : List ℕ) (place : ℕ) → 0 < get_or words place 0 → get_or words place 0 < 2 ^ 64
    → (other : ℕ) → other / 64 ≡ place → bit_of words other ≡ 1 → place * 64 + trailing_zeros w64 (get_or words place 0) ≤ other
low_least words place some small other e is =
    let t = bit_at-trailing_zeros w64 (get_or words place 0) some small in
    elim (cases_lt (other % 64) (trailing_zeros w64 (get_or words place 0))) [
      | inl below ↦ (let none = t.2 (other % 64) below in
          let one = sym (bit_here words other place (other % 64) e refl) ∙ is in
          absurd (let no : 0 ≡ 1 = sym none ∙ one in omega arith))
      | inr above ↦ omega arith
    ]

-- where a bit and the one over its word are set, the words over the others still tell of them
pub sums_set : (up new down after : List ℕ) (number : ℕ) → Sums up down → HasBit (number / 64) up new → SetsBit number down after → Sums new after
sums_set up new down after number sums noted set_is = record {
  room = (let a = noted.long in let b = set_is.long in let r = sums.room in omega arith);
  each = λ place.
      elim (cases_eq place (number / 64)) [
        | inl here ↦ (let one : bit_of new place ≡ 1 = rw here noted.same in
            let some : 0 < get_or after place 0 = rw here set_is.some in
            (λ _. some, λ _. one))
        | inr ne ↦ rw (noted.others place ne, set_is.words place ne) (sums.each place)
      ];
}

-- the same, where the bit over the word is cleared too if the word has no other
pub sums_cleared_word : (up new down after : List ℕ) (number : ℕ) → Sums up down → ClearsBit (number / 64) up new → ClearsBit number down after → get_or after (number / 64) 0 ≡ 0 → Sums new after
sums_cleared_word up new down after number sums noted cleared none = record {
  room = (let a = noted.long in let b = cleared.long in let r = sums.room in omega arith);
  each = λ place.
      elim (cases_eq place (number / 64)) [
        | inl here ↦ (let zero_bit : bit_of new place ≡ 0 = rw here noted.same in
            let zero_word : get_or after place 0 ≡ 0 = rw here none in
            (λ one. absurd (let no : 0 ≡ 1 = sym zero_bit ∙ one in omega arith), λ some. absurd (let no = zero_word in omega arith)))
        | inr ne ↦ rw (noted.others place ne, cleared.words place ne) (sums.each place)
      ];
}

pub sums_cleared_bit : (up down after : List ℕ) (number : ℕ) → Sums up down → number < 64 * length down → ClearsBit number down after → 0 < get_or after (number / 64) 0 → 0 < get_or down (number / 64) 0 → Sums up after
sums_cleared_bit up down after number sums room cleared some was = record {
  room = (let b = cleared.long in let r = sums.room in omega arith);
  each = λ place.
      elim (cases_eq place (number / 64)) [
        | inl here ↦ (let one : bit_of up place ≡ 1 = (sums.each place).1 (rw here was) in
            let after_some : 0 < get_or after place 0 = rw here some in
            (λ _. after_some, λ _. one))
        | inr ne ↦ rw (cleared.words place ne) (sums.each place)
      ];
}

-- the least of a list and its words
pub least_below : (up down : List ℕ) (place number : ℕ) → Sums up down → IsLeast up place → number / 64 ≡ place → bit_of down number ≡ 1
    → ((other : ℕ) → other / 64 ≡ place → bit_of down other ≡ 1 → number ≤ other) → IsLeast down number
least_below up down place number sums first here is least = record {
  set = is;
  least = λ other there.
      let some = some_word (get_or down (other / 64) 0) (other % 64) there in
      let not_before = first.least (other / 64) ((sums.each (other / 64)).1 some) in
      elim (cases_eq (other / 64) place) [
        | inl e ↦ least other e there
        | inr n ↦ omega arith
      ];
}

-- the least of the uppermost list
pub least_top : (words : List ℕ) (first number : ℕ) → ((place : ℕ) → 0 < get_or words place 0 → first ≤ place) → number / 64 ≡ first → bit_of words number ≡ 1
    → ((other : ℕ) → other / 64 ≡ first → bit_of words other ≡ 1 → number ≤ other) → IsLeast words number
least_top words first number before here is least = record {
  set = is;
  least = λ other there.
      let some = some_word (get_or words (other / 64) 0) (other % 64) there in
      let not_before = before (other / 64) some in
      elim (cases_eq (other / 64) first) [
        | inl e ↦ least other e there
        | inr n ↦ omega arith
      ];
}

-- where no word over others is there, nothing is
pub none_below : (up down : List ℕ) → Sums up down → ((place : ℕ) → get_or up place 0 ≡ 0) → (place : ℕ) → get_or down place 0 ≡ 0
none_below up down sums none place =
    elim (cases_lt 0 (get_or down place 0)) [
      | inl some ↦ (let over = some_word (get_or up (place / 64) 0) (place % 64) ((sums.each place).1 some) in
          absurd (let no = none (place / 64) in omega arith))
      | inr not ↦ omega arith
    ]

pub none_in : (words : List ℕ) → ((place : ℕ) → get_or words place 0 ≡ 0) → (number : ℕ) → IsIn words number → ⊥
none_in words none number is = (let some = some_word (get_or words (number / 64) 0) (number % 64) is in let no = none (number / 64) in omega arith)

-- what is pushed
pub pushed : (number : ℕ) (old new : List ℕ) → SetsBit number old new → Pushes number old new
pushed number old new set_is = record {
  long = set_is.long;
  each = λ other.
      elim (cases_eq other number) [
        | inl here ↦ (λ _. inl here, λ _. rw here set_is.same)
        | inr ne ↦ (λ is. inr (sym (set_is.others other ne) ∙ is), λ either. elim either [ inl e ↦ absurd (ne e) | inr is ↦ set_is.others other ne ∙ is ])
      ];
}

-- what is popped
pub popped : (number : ℕ) (old new : List ℕ) → IsLeast old number → number < 64 * length old → ClearsBit number old new → Pops number old new
popped number old new least below cleared = record {
  long = cleared.long;
  least = least;
  below = below;
  each = λ other.
      elim (cases_eq other number) [
        | inl here ↦ (λ is. absurd (let no : 0 ≡ 1 = sym cleared.same ∙ rw here at is in omega arith), λ both. absurd (both.0 here))
        | inr ne ↦ (λ is. (ne, sym (cleared.others other ne) ∙ is), λ both. cleared.others other ne ∙ both.1)
      ];
}

-- a word that has a bit after one was cleared had one before
pub some_word_before : (down after : List ℕ) (number : ℕ) → ClearsBit number down after → 0 < get_or after (number / 64) 0 → get_or after (number / 64) 0 < 2 ^ 64
    → 0 < get_or down (number / 64) 0
some_word_before down after number cleared some small =
    let place = number / 64 in
    let t = bit_at-trailing_zeros w64 (get_or after place 0) some small in
    let bit = place * 64 + trailing_zeros w64 (get_or after place 0) in
    let is = low_set after place some small in
    let there : bit / 64 ≡ place = low_there place (trailing_zeros w64 (get_or after place 0)) t.0 in
    let ne : bit ≢ number = λ e. (let one : bit_of after number ≡ 1 = rw e at is in let no : 0 ≡ 1 = sym cleared.same ∙ one in omega arith) in
    let was = sym (cleared.others bit ne) ∙ is in
    some_word (get_or down place 0) (bit % 64) (rw there at was)

-- where nothing is set
abbrev pub zeros : ℕ → List ℕ
zeros a = replicate a 0

pub zero_word : (a place : ℕ) → get_or (zeros a) place 0 ≡ 0
zero_word a place =
    elim (cases_lt place a) [
      | inl below ↦ get_or-replicate a place 0 0 below
      | inr past ↦ get_or_past (replicate a 0) place 0 (simp length-replicate past)
    ]

pub zero_bit : (a number : ℕ) → bit_of (zeros a) number ≡ 1 → ⊥
zero_bit a number one =
    let none = zero_word a (number / 64) in
    let clear = bit_at-zero (number % 64) in
    let is : bit_at 0 (number % 64) ≡ 1 = rw none at one in
    (let no : 0 ≡ 1 = sym clear ∙ is in omega arith)

zeros_room : (a b : ℕ) → b ≤ 64 * a → length (zeros b) ≤ 64 * length (zeros a)
zeros_room a b room = simp length-replicate room

-- where nothing is set, words over words tell so
pub sums_zero : (a b : ℕ) → b ≤ 64 * a → Sums (zeros a) (zeros b)
sums_zero a b room = record {
  room = zeros_room a b room;
  each = λ place. (λ one. absurd (zero_bit a place one), λ some. absurd (let none = zero_word b place in omega arith));
}

pub least_within : (words : List ℕ) (number : ℕ) → IsLeast words number → number < 64 * length words
least_within words number least =
    let below = inside words (number / 64) (some_word (get_or words (number / 64) 0) (number % 64) least.set) in
    omega arith

-- a list that was written whole
pub whole_front : (n : ℕ) (xs ys : List ℕ) → n ≡ length xs → take n (xs ++ ys) ≡ xs
whole_front n xs ys e = ap (λ (k : ℕ). take k (xs ++ ys)) e ∙ take-append_seam xs ys
