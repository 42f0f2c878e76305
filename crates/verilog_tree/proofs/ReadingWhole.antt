-- A whole module is read from its words alone, and its faults stand where they must.
use Rattle.std.proofs.Common.{◌≡◌, ℕ, suc, ◌+◌, ◌-◌, ◌<◌, ◌≤◌, List, [], ◌∷◌, ◌++◌, length, take, Option, Some, None, refl, sym, ap, subst, ◌∙◌, arith, append_assoc, append-nil, length-append}
use Rattle.std.specs.List.{flat_map}
use Rattle.std.specs.Option.{option_and_then}
use Rattle.std.proofs.lemmas.List.{append_cancel_right}
use Rattle.std.proofs.Math.Seq.{take-append_seam, take-append-add}
use Rattle.verilog_lexicon.proofs.list_laws.Options.{none_some}
use Rattle.verilog_lexicon.specs.declared.word.Word.{Word}
use Rattle.verilog_lexicon.specs.declared.word.Word.TheVariants as word
use Rattle.verilog_lexicon.specs.declared.reserved.Reserved.{Reserved}
use Rattle.verilog_lexicon.specs.declared.reserved.Reserved.TheVariants as key
use Rattle.verilog_lexicon.specs.declared.symbol.Symbol.TheVariants.{Semicolon}
use Rattle.verilog_lexicon.specs.Words.{reserved_in}
use Rattle.verilog_tree.specs.Sources.{Header, ItemSource, Source}
use Rattle.verilog_tree.specs.WrittenWords.{header_words, item_words, source_words}
use Rattle.verilog_tree.specs.Trees.{header_names, IsSource}
use Rattle.verilog_tree.specs.Heads.{is_module}
use Rattle.verilog_tree.specs.Reader.{Read, done, after, end_at, module_at, source_at}
use Rattle.verilog_tree.specs.ReadingLaws.{Begun, IsFaultWord, ReadsEachSource, ReadsOnlySources, FaultsAtFaultWord}
use Rattle.verilog_tree.proofs.Readers.{Law, Seen, Then, Behind, got, stays, reading, law_weaker, law_done, law_map, law_after, law_word}
use Rattle.verilog_tree.proofs.ReadingLists.{name_seen, symbol_seen}
use Rattle.verilog_tree.proofs.Parts.{some_name, header_law}
use Rattle.verilog_tree.proofs.Items.{Items, items_law}

-- The end of the words.

end_law : Law (Unit {0}) (λ ws. end_at ws) (λ _ p. p ≡ [])
end_law = record {
  sound = sound;
  local = local;
  begins = begins;
  some = (tt, [], refl);
}
  where
    sound : (ws : List Word) (x : Unit {0}) (left : List Word) → end_at ws ≡ (Some x, left) → (p : List Word) × (ws ≡ p ++ left) × (p ≡ [])
    sound [] x left h = ([], stays h, refl)
    sound (w ∷ ws) x left h = none_some (got h)

    local : (ws : List Word) (o : Option (Unit {0})) (w : Word) (left : List Word) → end_at ws ≡ (o, w ∷ left) → (p : List Word) × (ws ≡ p ++ w ∷ left) × ((new : List Word) → end_at (p ++ w ∷ new) ≡ (o, w ∷ new))
    local [] o w left h = let e = stays h in absurd (cc)
    local (v ∷ ws) o w left h = ([], stays h, λ new. reading (got h) refl)

    begins : (ws left : List Word) → end_at ws ≡ (None, left) → (p : List Word) × (t : List Word) × (x : Unit {0}) × (ws ≡ p ++ left) × (p ++ t ≡ [])
    begins [] left h = none_some (sym (got h))
    begins (w ∷ ws) left h = ([], [], tt, stays h, refl)

module_only : (k : Reserved) (x : Unit {0}) → is_module k ≡ Some x → k ≡ key.Module
module_only key.Module x h = refl
module_only _ x h = none_some h

module_seen : Seen (Unit {0}) (λ w. option_and_then is_module (reserved_in w)) (λ _. word.Reserved key.Module)
module_seen = record { is = is }
  where
    is : (w : Word) (x : Unit {0}) → option_and_then is_module (reserved_in w) ≡ Some x → w ≡ word.Reserved key.Module
    is (word.Name n) x h = none_some h
    is (word.Reserved k) x h = ap (λ (z : Reserved). word.Reserved z) (module_only k x h)
    is (word.Number v) x h = none_some h
    is (word.Const v) x h = none_some h
    is (word.Symbol s) x h = none_some h

abbrev source_of : List ℕ → Header → List ItemSource → Source
source_of name header items = record { name = name; header = header; items = items }

-- a whole module that keeps the rules
abbrev pub Whole : Source → List Word → Type 0
Whole s p = (p ≡ source_words s) × IsSource s

last_words : (a : List Word) (w : Word) (b c : List Word) → a ++ w ∷ (b ++ c) ≡ (a ++ w ∷ b) ++ c
last_words a w b c = sym (append_assoc a (w ∷ b) c)

pub module_law : Law Source (λ ws. module_at ws) Whole
unfolding module_at
module_law =
    law_weaker (law_word module_seen tt (λ _. law_word name_seen some_name (λ name. law_after header_law (λ header. law_word (symbol_seen Semicolon) tt (λ _. law_map (λ items. source_of name header items) (items_law (header_names header))))))) spelled
  where
    spelled : (s : Source) (p : List Word) → Behind (λ (u : Unit {0}). word.Reserved key.Module) (λ u. Behind (λ (name : List ℕ). word.Name name) (λ name. Then (λ (header : Header) q. q ≡ header_words header) (λ header. Behind (λ (u2 : Unit {0}). word.Symbol Semicolon) (λ u2 z q. (items : List ItemSource) × Items (header_names header) items q × (z ≡ source_of name header items))))) s p → Whole s p
    spelled s p (u, a, (name, b, (header, c, d, t, (u2, e, (items, m, is), e4), join), e2), e1) = (
      rw (is, e1, e2, join, t, e4, m.0) (ap (λ (q : List Word). word.Reserved key.Module ∷ word.Name name ∷ q) (last_words (header_words header) (word.Symbol Semicolon) (flat_map item_words items) (word.Reserved key.Endmodule ∷ []))),
      rw is (record { fits = m.1; declares = m.2; complete = m.3 }),
    )

source_law : Law Source (λ ws. source_at ws) Whole
unfolding source_at
source_law = law_weaker (law_after module_law (λ s. law_after end_law (λ _. law_done s))) spelled
  where
    spelled : (s : Source) (p : List Word) → Then Whole (λ (t : Source). Then (λ (u : Unit {0}) q. q ≡ []) (λ u z q. (z ≡ t) × (q ≡ []))) s p → Whole s p
    spelled s p (t, a, b, w, (u, c, d, nil, (is, none), join2), join) = (
      rw (is, join, w.0, join2, nil, none) (append-nil (source_words t)),
      rw is w.1,
    )

-- Nothing is left behind a module.

abbrev pub Ends : (X : Type 0) → (List Word → Read X) → Type 0
Ends X r = (ws : List Word) (x : X) (left : List Word) → r ws ≡ (Some x, left) → left ≡ []

pub ends_after : {X Y : Type 0} (r : List Word → Read X) {next : X → List Word → Read Y} → ((x : X) → Ends Y (next x)) → Ends Y (λ ws. after (r ws) next)
ends_after {X = X} {Y = Y} r {next = next} ends ws y left h = go (r ws) h
  where
    go : (read : Read X) → after read next ≡ (Some y, left) → left ≡ []
    go (None, a) e = none_some (got e)
    go (Some x, a) e = ends x a y left e

ends_end : (s : Source) → Ends Source (λ ws. after (end_at ws) (λ _ a. done s a))
ends_end s [] x left h = sym (stays h)
ends_end s (w ∷ ws) x left h = none_some (got h)

source_ends : Ends Source (λ ws. source_at ws)
unfolding source_at
source_ends = ends_after (λ ws. module_at ws) (λ s. ends_end s)

pub reads_only_sources : ReadsOnlySources
reads_only_sources ws s left h =
    let e = source_ends ws s left h in
    let t = source_law.sound ws s left h in
    (e, t.1 ∙ ap (λ (l : List Word). t.0 ++ l) e ∙ append-nil t.0 ∙ t.2.0, t.2.1)

-- The fault's word.

begun_there : (ws left : List Word) → source_at ws ≡ (None, left) → (p : List Word) × (ws ≡ p ++ left) × Begun p
begun_there ws left h =
    let b = source_law.begins ws left h in
    (b.0, b.3, record { source = b.2; keeps = b.4.1; more = b.1; begins = sym b.4.0 })

-- words that go on with the word of the fault begin no module
not_begun : ReadsEachSource → (p : List Word) (w : Word) (left : List Word) → source_at (p ++ w ∷ left) ≡ (None, w ∷ left) → (next : List Word) → Begun (p ++ w ∷ next) → ⊥
not_begun reads p w left h next b =
    let t = source_law.local (p ++ w ∷ left) None w left h in
    let same : p ≡ t.0 = append_cancel_right p t.0 (w ∷ left) t.1 in
    let words : source_words b.source ≡ t.0 ++ w ∷ (next ++ b.more) = b.begins ∙ append_assoc p (w ∷ next) b.more ∙ ap (λ (q : List Word). q ++ w ∷ (next ++ b.more)) same in
    none_some (got (sym (t.2 (next ++ b.more)) ∙ sym (ap (λ (q : List Word). source_at q) words) ∙ reads b.source b.keeps))

-- the words before the fault's word, it, and some that follow
pub take_past : (p : List Word) (w : Word) (left : List Word) (v n : ℕ) → v ≡ length p + suc n → take v (p ++ w ∷ left) ≡ p ++ w ∷ take n left
take_past p w left v n e = ap (λ (k : ℕ). take k (p ++ w ∷ left)) e ∙ take-append-add p (w ∷ left) (suc n)

greatest_there : ReadsEachSource → (p left : List Word) → source_at (p ++ left) ≡ (None, left) → (v : ℕ) → length p < v → v ≤ length (p ++ left) → Begun (take v (p ++ left)) → ⊥
greatest_there reads p [] h v above within b = omega (arith, length-append p [])
greatest_there reads p (w ∷ left) h v above within b =
    let n : ℕ = v - suc (length p) in
    let is : take v (p ++ w ∷ left) ≡ p ++ w ∷ take n left = take_past p w left v n (omega arith) in
    let P : List Word → Type 0 = λ l. Begun l in
    not_begun reads p w left h (take n left) (subst P is b)

fault_word : ReadsEachSource → (p left : List Word) → source_at (p ++ left) ≡ (None, left) → Begun p → IsFaultWord (p ++ left) (length p)
fault_word reads p left h b = record {
  within = omega (arith, length-append p left);
  begun = let P : List Word → Type 0 = λ l. Begun l in subst P (sym (take-append_seam p left)) b;
  greatest = greatest_there reads p left h;
}

pub faults_at_fault_word : ReadsEachSource → FaultsAtFaultWord
faults_at_fault_word reads ws left h =
    let t = begun_there ws left h in
    let here : source_at (t.0 ++ left) ≡ (None, left) = ap (λ (l : List Word). source_at l) (sym t.1) ∙ h in
    let count : length t.0 ≡ length ws - length left = omega (arith, ap (λ (l : List Word). length l) t.1, length-append t.0 left) in
    let P : ℕ → Type 0 = λ u. IsFaultWord ws u in
    let Q : List Word → Type 0 = λ l. IsFaultWord l (length t.0) in
    subst P count (subst Q (sym t.1) (fault_word reads t.0 left here t.2))
