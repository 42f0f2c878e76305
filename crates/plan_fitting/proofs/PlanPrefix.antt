-- The prefix of a plan that some text spells, and the kind of its control cells.
use Rattle.std.proofs.Common.{◌≡◌, ℕ, List, [], ◌∷◌, true, length, refl, sym, subst, arith, leb-true}
use Rattle.std.specs.Prelude.{◌==◌, ◌||◌, ◌&&◌, nat_le}
use Rattle.std.specs.List.{list_all}
use Rattle.list_laws.proofs.Tests.{and_left, and_right, and_true}
use Rattle.bsdl_lexicon.specs.Bytes as bsdl
use Rattle.verilog_lexicon.specs.Bytes as verilog
use Rattle.netlist_unlink.specs.Prefixes.{IsPrefix}
use Rattle.plan_texts.specs.declared.plan.Plan.{Plan}
use Rattle.plan_texts.specs.Forms.{begins_prefix, is_prefix}
use Rattle.plan_texts.specs.Grammar.{IsControl}
use Rattle.plan_texts.specs.Canonical.{IsPlan}

first_byte : (b : ℕ) → (bsdl.is_letter b || b == 95) ≡ true → verilog.is_letter b ≡ true
first_byte b h = grind arith

next_byte : (b : ℕ) → bsdl.is_name_byte b ≡ true → (verilog.is_letter b || verilog.is_digit b) ≡ true
next_byte b h = grind arith

next_bytes : (bytes : List ℕ) → list_all bsdl.is_name_byte bytes ≡ true → list_all (λ byte. verilog.is_letter byte || verilog.is_digit byte) bytes ≡ true
next_bytes [] h = refl
next_bytes (b ∷ bytes) h =
    and_true (verilog.is_letter b || verilog.is_digit b) (list_all (λ byte. verilog.is_letter byte || verilog.is_digit byte) bytes)
    (next_byte b (and_left (bsdl.is_name_byte b) (list_all bsdl.is_name_byte bytes) h)) (next_bytes bytes (and_right (bsdl.is_name_byte b) (list_all bsdl.is_name_byte bytes) h))

prefix_is : (word : List ℕ) → is_prefix word ≡ true → IsPrefix word
prefix_is [] h = absurd (cc)
prefix_is (b ∷ bytes) h =
    let front = and_left (begins_prefix (b ∷ bytes) && list_all bsdl.is_name_byte (b ∷ bytes)) (nat_le (length (b ∷ bytes)) 32) h in
    let all = and_right (begins_prefix (b ∷ bytes)) (list_all bsdl.is_name_byte (b ∷ bytes)) front in
    record {
      first = b;
      rest = bytes;
      is = refl;
      letter = first_byte b (and_left (begins_prefix (b ∷ bytes)) (list_all bsdl.is_name_byte (b ∷ bytes)) front);
      word = next_bytes bytes (and_right (bsdl.is_name_byte b) (list_all bsdl.is_name_byte bytes) all);
      short = leb-true (length (b ∷ bytes)) 32 (and_right (begins_prefix (b ∷ bytes) && list_all bsdl.is_name_byte (b ∷ bytes)) (nat_le (length (b ∷ bytes)) 32) h);
    }

pub plans_have_prefixes : (p : Plan) → IsPlan p → IsPrefix p.prefix
plans_have_prefixes p (bytes, spells) = subst (λ (q : Plan). IsPrefix q.prefix) (sym spells.plan_is) (prefix_is spells.source.prefix spells.forms.prefix)

pub plans_have_controls : (p : Plan) → IsPlan p → IsControl p.control
plans_have_controls p (bytes, spells) = subst (λ (q : Plan). IsControl q.control) (sym spells.plan_is) spells.forms.control
