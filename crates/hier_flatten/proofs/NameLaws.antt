-- Checks of flat names, one part behind another.
use Rattle.std.proofs.Common.{◌≡◌, ℕ, Bool, true, false, if◌then◌else◌, ◌||◌, List, [], ◌∷◌, ◌++◌, Option, Some, None, refl, sym, ap, ◌∙◌}
use Rattle.list_laws.specs.Options.{or_else}
use Rattle.list_laws.proofs.Options.{none_some}
use Rattle.texts.specs.Repeated.{has_name}
use Rattle.hier_model.specs.declared.fault.HierFault.{HierFault}
use Rattle.hier_model.specs.declared.fault.HierFault.TheVariants as fault
use Rattle.hier_model.specs.Faults.{NameCheck, enters, refers, is_long, bad_name_after}
use Rattle.hier_flatten.specs.NameChecks.{seen_after, Checks}

after_or : (b : Bool) (f : HierFault) (rest other : Option HierFault) → or_else (if b then Some f else rest) other ≡ (if b then Some f else or_else rest other)
after_or true f rest other = refl
after_or false f rest other = refl

-- the first fault of two parts
pub checks_behind : (declared seen : List (List ℕ)) (one other : List NameCheck) → bad_name_after declared seen (one ++ other) ≡ or_else (bad_name_after declared seen one) (bad_name_after declared (seen_after seen one) other)
checks_behind declared seen [] other = refl
checks_behind declared seen (enters name ∷ one) other =
    ap (λ (o : Option HierFault). if is_long name || has_name seen name then Some (fault.FlatName name) else o) (checks_behind declared (seen ++ name ∷ []) one other)
    ∙ sym (after_or (is_long name || has_name seen name) (fault.FlatName name) (bad_name_after declared (seen ++ name ∷ []) one) (bad_name_after declared (seen_after (seen ++ name ∷ []) one) other))
checks_behind declared seen (refers name ∷ one) other =
    ap (λ (o : Option HierFault). if is_long name || has_name declared name then Some (fault.FlatName name) else o) (checks_behind declared seen one other)
    ∙ sym (after_or (is_long name || has_name declared name) (fault.FlatName name) (bad_name_after declared seen one) (bad_name_after declared (seen_after seen one) other))

pub seen_behind : (seen : List (List ℕ)) (one other : List NameCheck) → seen_after seen (one ++ other) ≡ seen_after (seen_after seen one) other
seen_behind seen [] other = refl
seen_behind seen (enters name ∷ one) other = seen_behind (seen ++ name ∷ []) one other
seen_behind seen (refers name ∷ one) other = seen_behind seen one other

-- a part that is at fault ends the checks
pub stops : (declared old : List (List ℕ)) (one other : List NameCheck) (f : HierFault) (new last : List (List ℕ)) → Checks declared old one (Some f) new → Checks declared old (one ++ other) (Some f) last
stops declared old one other f new last c = record {
  fault_is = ap (λ (o : Option HierFault). or_else o (bad_name_after declared (seen_after old one) other)) c.fault_is ∙ sym (checks_behind declared old one other);
  seen_is = λ none. none_some (sym none);
}

-- one that isn't goes on with the next
pub goes_on : (declared old : List (List ℕ)) (one other : List NameCheck) (mid new : List (List ℕ)) (found : Option HierFault) → Checks declared old one None mid → Checks declared mid other found new → Checks declared old (one ++ other) found new
goes_on declared old one other mid new found c d =
    let same : mid ≡ seen_after old one = c.seen_is refl in record {
      fault_is = d.fault_is
          ∙ ap (λ (l : List (List ℕ)). bad_name_after declared l other) same
          ∙ ap (λ (o : Option HierFault). or_else o (bad_name_after declared (seen_after old one) other)) c.fault_is
          ∙ sym (checks_behind declared old one other);
      seen_is = λ none. d.seen_is none ∙ ap (λ (l : List (List ℕ)). seen_after l other) same ∙ sym (seen_behind old one other);
    }
