-- What a sink was given through one that gathers.
use Rattle.std.proofs.Common.{◌≡◌, ◌≤◌, ℕ, List, [], length, take, Option, Some, None, refl, sym, ap, subst, ◌∙◌, arith}
use Rattle.std.proofs.Math.Seq.{take-length}
use Rattle.edge_io.specs.Shelf.{Rose, appended}
use Rattle.output_lines.specs.GatheredLaws.{HasGrown}
use Rattle.output_lines.proofs.GatheredFronts.{given_front}
use Rattle.sim_runs.proofs.Texts.{IsFront, appended-none}

-- nothing was given yet
pub grown_first : (first now : Option (List ℕ)) → now ≡ first → HasGrown first now
grown_first first now is = subst (λ (o : Option (List ℕ)). HasGrown first o) (sym is) (own first)
  where
    own : (o : Option (List ℕ)) → HasGrown o o
    own None = refl
    own (Some a) = ap (λ (l : List ℕ). Some l) (take-length a)

-- a front of the text was given and gathered
pub front_gathered : (first told now : Option (List ℕ)) (page rest text : List ℕ) (k : ℕ) → told ≡ first → page ≡ [] → HasGrown first now
    → appended rest now ≡ appended (take k text) (appended page told) → IsFront text told now
front_gathered first told now page rest text k begun empty grown is =
    given_front told now rest text k (subst (λ (o : Option (List ℕ)). HasGrown o now) (sym begun) grown)
    (is ∙ ap (λ (l : List ℕ). appended (take k text) (appended l told)) empty ∙ ap (λ (o : Option (List ℕ)). appended (take k text) o) (sym (appended-none told)))

-- all of it was, and handing it on failed
pub whole_gathered : (first told now : Option (List ℕ)) (page rest text : List ℕ) → told ≡ first → page ≡ [] → HasGrown first now
    → appended rest now ≡ appended text (appended page told) → IsFront text told now
whole_gathered first told now page rest text begun empty grown is =
    front_gathered first told now page rest text (length text) begun empty grown (is ∙ ap (λ (l : List ℕ). appended l (appended page told)) (sym (take-length text)))

-- all of it was, and was handed on
pub all_gathered : (told now : Option (List ℕ)) (page rest text : List ℕ) → page ≡ [] → rest ≡ []
    → appended rest now ≡ appended text (appended page told) → now ≡ appended text told
all_gathered told now page rest text empty none is =
    appended-none now ∙ ap (λ (l : List ℕ). appended l now) (sym none) ∙ is ∙ ap (λ (l : List ℕ). appended text (appended l told)) empty
    ∙ ap (λ (o : Option (List ℕ)). appended text o) (sym (appended-none told))

-- a count that rose later
pub rose_later : (old mid new : ℕ) → old ≤ mid → Rose mid new → Rose old new
rose_later old mid new later rose = grind arith
