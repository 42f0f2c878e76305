-- Nets that an item names, behind the item's own name.
use Rattle.std.proofs.Common.{◌≡◌, ℕ, ◌≤◌, Bool, true, false, ◌||◌, List, [], ◌∷◌, ◌++◌, length, take, Option, Some, None, Result, refl, sym, ap, ◌∙◌, append-nil}
use Rattle.std.specs.Prelude.{is_some, IfOk}
use Rattle.std.proofs.lemmas.Result.{IfOk-weaker}
use Rattle.list_laws.specs.Options.{or_else}
use Rattle.texts.specs.Repeated.{has_name}
use Rattle.verilog_tree.specs.declared.tree.Range.{Range}
use Rattle.verilog_tree.specs.declared.tree.Bit.{Bit}
use Rattle.verilog_tree.specs.declared.tree.Module.{Module}
use Rattle.hier_model.specs.declared.fault.HierFault.{HierFault}
use Rattle.hier_model.specs.declared.fault.HierFault.TheVariants as fault
use Rattle.hier_model.specs.Names.{flat_name}
use Rattle.hier_model.specs.Faults.{NameCheck, is_long, net_check, bad_name_after}
use Rattle.hier_flatten.specs.Nets.{range_named}
use Rattle.hier_flatten.specs.NameChecks.{Checks, net_checks}
use Rattle.hier_flatten.proofs.NameLaws.{goes_on}
use Rattle.hier_flatten.proofs.EnteredNames.{net_known, net_fault, net_clear, nets_behind, nets_check, front_stays}

-- One net.

-- one that its module declares
pub refer_known : (declared seen at : List (List ℕ)) (m : Module) (b : Bit) (name : List ℕ) (found : Option (Option Range)) → found ≡ range_named m name → name ≡ b.net → is_some found ≡ true → None ≡ bad_name_after declared seen (net_check at m b)
refer_known declared seen at m b name None is same there = absurd (let no : false ≡ true = there in cc)
refer_known declared seen at m b name (Some range) is same there = net_known declared seen at m b range (ap (range_named m) (sym same) ∙ sym is)

undeclared : (m : Module) (b : Bit) (name : List ℕ) (found : Option (Option Range)) → found ≡ range_named m name → name ≡ b.net → is_some found ≡ false → range_named m b.net ≡ None
undeclared m b name None is same absent = ap (range_named m) (sym same) ∙ sym is
undeclared m b name (Some range) is same absent = absurd (let no : true ≡ false = absent in cc)

barred : (declared : List (List ℕ)) (flat name bytes : List ℕ) (bad found : Bool) → flat ≡ name → bytes ≡ flat → bad ≡ (is_long bytes || has_name declared bytes) → bad ≡ found → (is_long name || has_name declared name) ≡ found
barred declared flat name bytes bad found same read is b = ap (λ (x : List ℕ). is_long x || has_name declared x) (sym same ∙ sym read) ∙ sym is ∙ b

pub refer_bad : (declared seen at : List (List ℕ)) (m : Module) (b : Bit) (name net flat bytes : List ℕ) (found : Option (Option Range)) (bad : Bool) → found ≡ range_named m name → name ≡ b.net → is_some found ≡ false
    → net ≡ b.net → flat ≡ flat_name at net → bytes ≡ flat → bad ≡ (is_long bytes || has_name declared bytes) → bad ≡ true → Some (fault.FlatName flat) ≡ bad_name_after declared seen (net_check at m b)
refer_bad declared seen at m b name net flat bytes found bad is same absent net_is flat_is read long b_is =
    let whole : flat ≡ flat_name at b.net = flat_is ∙ ap (flat_name at) net_is in
    ap (λ (x : List ℕ). Some (fault.FlatName x)) whole
    ∙ net_fault declared seen at m b (undeclared m b name found is same absent) (barred declared flat (flat_name at b.net) bytes bad true whole read long b_is)

pub refer_good : (declared seen at : List (List ℕ)) (m : Module) (b : Bit) (name net flat bytes : List ℕ) (found : Option (Option Range)) (bad : Bool) → found ≡ range_named m name → name ≡ b.net → is_some found ≡ false
    → net ≡ b.net → flat ≡ flat_name at net → bytes ≡ flat → bad ≡ (is_long bytes || has_name declared bytes) → bad ≡ false → None ≡ bad_name_after declared seen (net_check at m b)
refer_good declared seen at m b name net flat bytes found bad is same absent net_is flat_is read long b_is =
    net_clear declared seen at m b (undeclared m b name found is same absent) (barred declared flat (flat_name at b.net) bytes bad false (flat_is ∙ ap (flat_name at) net_is) read long b_is)

-- A net, and others behind it.

pub one_net : (declared seen at : List (List ℕ)) (m : Module) (b : Bit) → bad_name_after declared seen (net_check at m b) ≡ bad_name_after declared seen (net_checks at m (b ∷ []))
one_net declared seen at m b = ap (bad_name_after declared seen) (sym (append-nil (net_check at m b)))

-- an operand that is a bit
pub one_bit : {E : Type 0} (declared seen at : List (List ℕ)) (m : Module) (b : Bit) (r : Result (Option HierFault) E) → IfOk r (λ found. found ≡ bad_name_after declared seen (net_check at m b)) → IfOk r (λ found. found ≡ bad_name_after declared seen (net_checks at m (b ∷ [])))
one_bit declared seen at m b r is =
    IfOk-weaker r (λ (found : Option HierFault). found ≡ bad_name_after declared seen (net_check at m b)) (λ (found : Option HierFault). found ≡ bad_name_after declared seen (net_checks at m (b ∷ [])))
    (λ found e. e ∙ one_net declared seen at m b) is

pub bit_stops : (declared seen at : List (List ℕ)) (m : Module) (b : Bit) (bits : List Bit) (f : HierFault) → Some f ≡ bad_name_after declared seen (net_check at m b) → Some f ≡ bad_name_after declared seen (net_checks at m (b ∷ bits))
bit_stops declared seen at m b bits f is =
    ap (λ (o : Option HierFault). or_else o (bad_name_after declared seen (net_checks at m bits))) (is ∙ one_net declared seen at m b)
    ∙ sym (nets_behind declared seen at m (b ∷ []) bits)

pub bit_then : (declared seen at : List (List ℕ)) (m : Module) (b : Bit) (bits : List Bit) (found : Option HierFault) → None ≡ bad_name_after declared seen (net_check at m b) → found ≡ bad_name_after declared seen (net_checks at m bits)
    → found ≡ bad_name_after declared seen (net_checks at m (b ∷ bits))
bit_then declared seen at m b bits found none is =
    is
    ∙ ap (λ (o : Option HierFault). or_else o (bad_name_after declared seen (net_checks at m bits))) (none ∙ one_net declared seen at m b)
    ∙ sym (nets_behind declared seen at m (b ∷ []) bits)

-- An item: its name is entered, then its nets are looked at.

pub item_found : (old mid at : List (List ℕ)) (d : ℕ) (m : Module) (own : List NameCheck) (bits : List Bit) (found : Option HierFault) → d ≤ length old → Checks (take d old) old own None mid → found ≡ bad_name_after (take d mid) mid (net_checks at m bits)
    → Checks (take d old) old (own ++ net_checks at m bits) found mid
item_found old mid at d m own bits found low c is =
    let t = front_stays old mid own d low (c.seen_is refl) in
    goes_on (take d old) old own (net_checks at m bits) mid mid found c
    (nets_check (take d old) mid at m bits found (is ∙ ap (λ (front : List (List ℕ)). bad_name_after front mid (net_checks at m bits)) t.0))

-- the last look is the result
pub item_ends : {E : Type 0} (old mid at : List (List ℕ)) (d : ℕ) (m : Module) (own : List NameCheck) (bits : List Bit) (r : Result (Option HierFault) E) → d ≤ length old → Checks (take d old) old own None mid
    → IfOk r (λ found. found ≡ bad_name_after (take d mid) mid (net_checks at m bits)) → IfOk r (λ found. Checks (take d old) old (own ++ net_checks at m bits) found mid)
item_ends old mid at d m own bits r low c is =
    IfOk-weaker r (λ (found : Option HierFault). found ≡ bad_name_after (take d mid) mid (net_checks at m bits)) (λ (found : Option HierFault). Checks (take d old) old (own ++ net_checks at m bits) found mid)
    (λ found e. item_found old mid at d m own bits found low c e) is

-- behind its output
pub inputs_end : {E : Type 0} (old mid at : List (List ℕ)) (d : ℕ) (m : Module) (own : List NameCheck) (b : Bit) (bits : List Bit) (r : Result (Option HierFault) E) → d ≤ length old → Checks (take d old) old own None mid
    → None ≡ bad_name_after (take d mid) mid (net_check at m b) → IfOk r (λ found. found ≡ bad_name_after (take d mid) mid (net_checks at m bits)) → IfOk r (λ found. Checks (take d old) old (own ++ net_checks at m (b ∷ bits)) found mid)
inputs_end old mid at d m own b bits r low c none is =
    item_ends old mid at d m own (b ∷ bits) r low c
    (IfOk-weaker r (λ (found : Option HierFault). found ≡ bad_name_after (take d mid) mid (net_checks at m bits)) (λ (found : Option HierFault). found ≡ bad_name_after (take d mid) mid (net_checks at m (b ∷ bits)))
    (λ found e. bit_then (take d mid) mid at m b bits found none e) is)
