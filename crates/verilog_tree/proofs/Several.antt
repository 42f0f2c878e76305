-- Several modules are read from their words alone, and their faults stand where they must.
use Rattle.std.proofs.Common.{◌≡◌, ℕ, zero, suc, ◌+◌, ◌-◌, ◌<◌, ◌≤◌, List, [], ◌∷◌, ◌++◌, length, take, Option, Some, None, refl, sym, ap, subst, ◌∙◌, arith, append_assoc, append-nil, length-append}
use Rattle.std.specs.List.{flat_map, AllByRecursion}
use Rattle.std.proofs.lemmas.List.{append_cancel_right}
use Rattle.std.proofs.Math.Seq.{take-append_seam}
use Rattle.verilog_lexicon.proofs.list_laws.Options.{none_some}
use Rattle.verilog_lexicon.specs.declared.word.Word.{Word}
use Rattle.verilog_tree.specs.Sources.{Source}
use Rattle.verilog_tree.specs.WrittenWords.{source_words}
use Rattle.verilog_tree.specs.Trees.{IsSource}
use Rattle.verilog_tree.specs.Reader.{Read, done, fault, after, to_end, module_at, more_modules, modules_at}
use Rattle.verilog_tree.specs.ReadingLaws.{text_words, BegunText, IsTextFaultWord, ReadsEachText, ReadsOnlyTexts, FaultsAtTextFaultWord}
use Rattle.verilog_tree.proofs.Readers.{Law, Then, got, stays, law_weaker, law_map, law_after, law_fault, law_enough}
use Rattle.verilog_tree.proofs.CompleteItems.{module_again}
use Rattle.verilog_tree.proofs.ReadingWhole.{Whole, Ends, module_law, ends_after, take_past}

-- A part up to the end of the words.

to_end_word : {X : Type 0} (none : X) (r : List Word → Read X) (p : List Word) (w : Word) (new : List Word) → to_end none r (p ++ w ∷ new) ≡ r (p ++ w ∷ new)
to_end_word none r [] w new = refl
to_end_word none r (v ∷ p) w new = refl

law_to_end : {X : Type 0} {r : List Word → Read X} {S : X → List Word → Type 0} (none : X) → S none [] → Law X r S → Law X (λ ws. to_end none r ws) S
law_to_end {X = X} {r = r} {S = S} none good l = record {
  sound = sound;
  local = local;
  begins = begins;
  some = (none, [], good);
}
  where
    sound : (ws : List Word) (x : X) (left : List Word) → to_end none r ws ≡ (Some x, left) → (p : List Word) × (ws ≡ p ++ left) × S x p
    sound [] x left h =
        let e = got h in
        let is : none ≡ x = cc in
        let P : X → Type 0 = λ y. S y [] in
        ([], stays h, subst P is good)
    sound (w ∷ ws) x left h = l.sound (w ∷ ws) x left h

    local : (ws : List Word) (o : Option X) (w : Word) (left : List Word) → to_end none r ws ≡ (o, w ∷ left) → (p : List Word) × (ws ≡ p ++ w ∷ left) × ((new : List Word) → to_end none r (p ++ w ∷ new) ≡ (o, w ∷ new))
    local [] o w left h = let e = stays h in absurd (cc)
    local (v ∷ vs) o w left h = let s = l.local (v ∷ vs) o w left h in (s.0, s.1, λ new. to_end_word none r s.0 w new ∙ s.2 new)

    begins : (ws left : List Word) → to_end none r ws ≡ (None, left) → (p : List Word) × (t : List Word) × (x : X) × (ws ≡ p ++ left) × S x (p ++ t)
    begins [] left h = none_some (sym (got h))
    begins (v ∷ vs) left h = l.begins (v ∷ vs) left h

ends_to_end : {X : Type 0} (none : X) {r : List Word → Read X} → Ends X r → Ends X (λ ws. to_end none r ws)
ends_to_end none ends [] x left h = sym (stays h)
ends_to_end none ends (w ∷ ws) x left h = ends (w ∷ ws) x left h

ends_map : {X Y : Type 0} (r : List Word → Read X) (f : X → Y) → Ends X r → Ends Y (λ ws. after (r ws) (λ x a. done (f x) a))
ends_map {X = X} {Y = Y} r f ends ws y left h = go (r ws) refl h
  where
    go : (read : Read X) → r ws ≡ read → after read (λ x a. done (f x) a) ≡ (Some y, left) → left ≡ []
    go (None, a) e h2 = none_some (got h2)
    go (Some x, a) e h2 = sym (stays h2) ∙ ends ws x a e

-- The words of several modules.

abbrev Several : List Source → List Word → Type 0
Several ss p = (p ≡ flat_map source_words ss) × AllByRecursion IsSource ss

several_more : (ss : List Source) (p : List Word) → Then Whole (λ (s : Source) y q. (later : List Source) × Several later q × (y ≡ s ∷ later)) ss p → Several ss p
several_more ss p (s, a, b, w, (later, t, is), join) = (rw (is, join, w.0, t.0) refl, rw is (w.1, t.1))

law_more : (n : ℕ) → Law (List Source) (λ ws. more_modules n ws) Several
law_more zero = law_to_end [] (refl, tt) (law_fault ([], [], (refl, tt)))
law_more (suc n) = law_to_end [] (refl, tt) (law_weaker (law_after module_law (λ s. law_map (λ later. s ∷ later) (law_more n))) several_more)

ends_more : (n : ℕ) → Ends (List Source) (λ ws. more_modules n ws)
ends_more zero = ends_to_end [] (λ ws x left h. none_some (got {a = ws} {b = left} h))
ends_more (suc n) = ends_to_end [] (ends_after (λ ws. module_at ws) (λ s. ends_map (λ ws. more_modules n ws) (λ later. s ∷ later) (ends_more n)))

pub module_shorter : (ws : List Word) (s : Source) (a : List Word) → module_at ws ≡ (Some s, a) → length a < length ws
module_shorter ws s a h =
    let t = module_law.sound ws s a h in
    omega (arith, ap (λ (l : List Word). length l) t.1, ap (λ (l : List Word). length l) t.2.0, length-append t.0 a)

more_enough : (m n : ℕ) (ws : List Word) → length ws ≤ m → length ws ≤ n → more_modules m ws ≡ more_modules n ws
more_enough zero zero ws a b = refl
more_enough zero (suc n) [] a b = refl
more_enough zero (suc n) (w ∷ ws) a b = absurd (omega arith)
more_enough (suc m) zero [] a b = refl
more_enough (suc m) zero (w ∷ ws) a b = absurd (omega arith)
more_enough (suc m) (suc n) [] a b = refl
more_enough (suc m) (suc n) (w ∷ ws) a b = go (module_at (w ∷ ws)) refl (λ l short. more_enough m n l (omega arith) (omega arith))
  where
    by : ℕ → Read Source → Read (List Source)
    by k read = after read (λ s c. after (more_modules k c) (λ later d. done (s ∷ later) d))

    go : (read : Read Source) → module_at (w ∷ ws) ≡ read → ((l : List Word) → length l < length (w ∷ ws) → more_modules m l ≡ more_modules n l) → by m read ≡ by n read
    go (None, c) e again = refl
    go (Some s, c) e again = ap (λ (z : Read (List Source)). after z (λ later d. done (s ∷ later) d)) (again c (module_shorter (w ∷ ws) s c e))

-- some modules, of which there is one at least
abbrev Texts : Source × List Source → List Word → Type 0
Texts x p = Several (x.0 ∷ x.1) p

modules_law : Law (Source × List Source) (λ ws. modules_at ws) Texts
unfolding modules_at
modules_law = law_weaker (law_after module_law (λ s. law_map (λ later. (s, later)) (law_enough (λ n ws. more_modules n ws) (λ ws. length ws) law_more more_enough))) spelled
  where
    spelled : (x : Source × List Source) (p : List Word) → Then Whole (λ (s : Source) (y : Source × List Source) q. (later : List Source) × Several later q × (y ≡ (s, later))) x p → Texts x p
    spelled x p (s, a, b, w, (later, t, is), join) = (rw (is, join, w.0, t.0) refl, rw is (w.1, t.1))

modules_end : Ends (Source × List Source) (λ ws. modules_at ws)
unfolding modules_at
modules_end = ends_after (λ ws. module_at ws) (λ s. ends_map (λ ws. more_modules (length ws) ws) (λ later. (s, later)) (λ ws. ends_more (length ws) ws))

pub reads_only_texts : ReadsOnlyTexts
reads_only_texts ws first more left h =
    let e = modules_end ws (first, more) left h in
    let t = modules_law.sound ws (first, more) left h in
    (e, t.1 ∙ ap (λ (l : List Word). t.0 ++ l) e ∙ append-nil t.0 ∙ t.2.0, t.2.1)

-- Modules are read again.

more_again : (ss : List Source) (n : ℕ) → length ss ≤ n → AllByRecursion IsSource ss → more_modules n (flat_map source_words ss) ≡ (Some ss, [])
more_again [] zero enough keep = refl
more_again [] (suc n) enough keep = refl
more_again (s ∷ ss) zero enough keep = absurd (omega arith)
more_again (s ∷ ss) (suc n) enough keep = rw (module_again s (flat_map source_words ss) keep.0, more_again ss n (omega arith) keep.1) refl

texts_long : (ss : List Source) → length ss ≤ length (flat_map source_words ss)
texts_long [] = omega arith
texts_long (s ∷ ss) = omega (arith, texts_long ss, length-append (source_words s) (flat_map source_words ss))

pub reads_each_text : ReadsEachText
unfolding modules_at
reads_each_text first more keep = rw (module_again first (flat_map source_words more) keep.0, more_again more (length (flat_map source_words more)) (texts_long more) keep.1) refl

-- The fault's word.

begun_there : (ws left : List Word) → modules_at ws ≡ (None, left) → (p : List Word) × (ws ≡ p ++ left) × BegunText p
begun_there ws left h =
    let b = modules_law.begins ws left h in
    (b.0, b.3, record { first = b.2.0; others = b.2.1; keep = b.4.1; more = b.1; begins = sym b.4.0 })

-- words that go on with the word of the fault begin no text of modules
not_begun : (p : List Word) (w : Word) (left : List Word) → modules_at (p ++ w ∷ left) ≡ (None, w ∷ left) → (next : List Word) → BegunText (p ++ w ∷ next) → ⊥
not_begun p w left h next b =
    let t = modules_law.local (p ++ w ∷ left) None w left h in
    let same : p ≡ t.0 = append_cancel_right p t.0 (w ∷ left) t.1 in
    let words : text_words b.first b.others ≡ t.0 ++ w ∷ (next ++ b.more) = b.begins ∙ append_assoc p (w ∷ next) b.more ∙ ap (λ (q : List Word). q ++ w ∷ (next ++ b.more)) same in
    none_some (got (sym (t.2 (next ++ b.more)) ∙ sym (ap (λ (q : List Word). modules_at q) words) ∙ reads_each_text b.first b.others b.keep))

greatest_there : (p left : List Word) → modules_at (p ++ left) ≡ (None, left) → (v : ℕ) → length p < v → v ≤ length (p ++ left) → BegunText (take v (p ++ left)) → ⊥
greatest_there p [] h v above within b = omega (arith, length-append p [])
greatest_there p (w ∷ left) h v above within b =
    let n : ℕ = v - suc (length p) in
    let is : take v (p ++ w ∷ left) ≡ p ++ w ∷ take n left = take_past p w left v n (omega arith) in
    let P : List Word → Type 0 = λ l. BegunText l in
    not_begun p w left h (take n left) (subst P is b)

fault_word : (p left : List Word) → modules_at (p ++ left) ≡ (None, left) → BegunText p → IsTextFaultWord (p ++ left) (length p)
fault_word p left h b = record {
  within = omega (arith, length-append p left);
  begun = let P : List Word → Type 0 = λ l. BegunText l in subst P (sym (take-append_seam p left)) b;
  greatest = greatest_there p left h;
}

pub faults_at_text_fault_word : FaultsAtTextFaultWord
faults_at_text_fault_word ws left h =
    let t = begun_there ws left h in
    let here : modules_at (t.0 ++ left) ≡ (None, left) = ap (λ (l : List Word). modules_at l) (sym t.1) ∙ h in
    let count : length t.0 ≡ length ws - length left = omega (arith, ap (λ (l : List Word). length l) t.1, length-append t.0 left) in
    let P : ℕ → Type 0 = λ u. IsTextFaultWord ws u in
    let Q : List Word → Type 0 = λ l. IsTextFaultWord l (length t.0) in
    subst P count (subst Q (sym t.1) (fault_word t.0 left here t.2))
