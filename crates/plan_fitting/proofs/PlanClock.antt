-- The clock and the length of the instruction register of a plan that some text spells.
use Rattle.std.proofs.Common.{◌≡◌, ℕ, ◌+◌, ◌≤◌, List, [], ◌∷◌, ◌++◌, true, length, codes, refl, sym, subst, arith, leb-true, length-append, inl}
use Rattle.std.specs.Prelude.{◌&&◌, nat_le, IsTrue}
use Rattle.std.specs.List.{list_all, AllByRecursion}
use Rattle.list_laws.proofs.Tests.{and_left, and_right}
use Rattle.bsdl_lexicon.specs.Bytes.{is_digit}
use Rattle.bsdl_lexicon.specs.Pieces.{IsReal}
use Rattle.bsdl_device.specs.Runs.{is_integer, value_after}
use Rattle.plan_texts.specs.declared.plan.Plan.{Plan}
use Rattle.plan_texts.specs.Forms.{is_clock}
use Rattle.plan_texts.specs.Meaning.{plan_of}
use Rattle.plan_texts.specs.Grammar.{PlanSource, IsSource, written_of}
use Rattle.plan_texts.specs.Canonical.{IsPlan}

each_digit : (bytes : List ℕ) → list_all is_digit bytes ≡ true → AllByRecursion (λ c. IsTrue (is_digit c)) bytes
each_digit [] h = tt
each_digit (b ∷ bytes) h = (and_left (is_digit b) (list_all is_digit bytes) h, each_digit bytes (and_right (is_digit b) (list_all is_digit bytes) h))

real_clock : (clock : List ℕ) → is_clock clock ≡ true → IsReal (clock ++ codes ".0e6")
real_clock clock h =
    let short : length clock ≤ 4 = leb-true (length clock) 4 (and_left (nat_le (length clock) 4) (is_integer clock) h) in
    let number = and_right (nat_le (length clock) 4) (is_integer clock) h in
    let many = and_left (nat_le 1 (length clock) && nat_le (length clock) 9) (list_all is_digit clock) number in
    let some : 1 ≤ length clock = leb-true 1 (length clock) (and_left (nat_le 1 (length clock)) (nat_le (length clock) 9) many) in
    let whole : length (clock ++ codes ".0e6") ≡ length clock + 4 = length-append clock (codes ".0e6") in
    record {
      whole = clock;
      fraction = codes "0";
      exponent = codes "e6";
      text = refl;
      whole_digits = (omega arith, each_digit clock (and_right (nat_le 1 (length clock) && nat_le (length clock) 9) (list_all is_digit clock) number));
      fraction_digits = (omega arith, (refl, tt));
      exponent_is = (refl, inl (omega arith, (refl, tt)));
      short = omega arith;
    }

pub record HasRegister (p : Plan) : Type 0 where
  pub clock : IsReal (p.clock ++ codes ".0e6")
  pub least : 2 ≤ p.length
  pub most : p.length ≤ 32

source_has_register : (s : PlanSource) → IsSource s → HasRegister (plan_of (written_of s))
source_has_register s is =
    let n = value_after 10 0 s.length in
    let two = and_left (is_integer s.length && nat_le 2 n) (nat_le n 32) is.length in
    record {
      clock = real_clock s.clock is.clock;
      least = leb-true 2 n (and_right (is_integer s.length) (nat_le 2 n) two);
      most = leb-true n 32 (and_right (is_integer s.length && nat_le 2 n) (nat_le n 32) is.length);
    }

pub plans_have_registers : (p : Plan) → IsPlan p → HasRegister p
plans_have_registers p (bytes, spells) = subst HasRegister (sym spells.plan_is) (source_has_register spells.source spells.forms)
