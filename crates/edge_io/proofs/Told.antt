use Rattle.std.proofs.Common.{◌≡◌, ℕ, ◌≤◌, List, length, ◌+◌, ◌-◌, ◌++◌, take, drop, Option, Some, None, subst, sym, ap, ◌∙◌, arith, length-append, length-drop, append_assoc, Bool, true, false, refl}
use Rattle.std.proofs.Math.Seq.{take-add, take-length}
use Rattle.std.proofs.lemmas.List.{length-take}
use Rattle.edge_io.specs.Shelf.{WhereTold, Reads, ChangesOne, appended, told_if}

-- the text so far is the front of what is told
abbrev pub IsFront : List ℕ → Option (List ℕ) → Type 0
IsFront text told = WhereTold told (λ bytes. (text ≡ take (length text) bytes) × (length text ≤ length bytes))

front_more : (bytes text more into : List ℕ) (n : ℕ) → n ≤ length into → (text ≡ take (length text) bytes) × (length text ≤ length bytes) → take n into ≡ take n (drop (length text) bytes) → more ≡ text ++ take n into → (more ≡ take (length more) bytes) × (length more ≤ length bytes)
front_more bytes text more into n within front read more_is =
    let len_read : length (take n into) ≡ n = omega (arith, length-take n into) in
    let len_more : length more ≡ length text + n = omega (arith, ap length more_is, length-append text (take n into)) in
    let room : n ≤ length bytes - length text = omega (arith, ap length read, length-take n (drop (length text) bytes), length-drop (length text) bytes) in (
      more_is ∙ ap (λ x. text ++ x) read ∙ ap (λ x. x ++ take n (drop (length text) bytes)) front.0 ∙ sym (take-add (length text) n bytes) ∙ ap (λ k. take k bytes) (sym len_more),
      omega arith,
    )

-- a piece that was read goes on with the front
pub IsFront-more : (told now : Option (List ℕ)) (text more into : List ℕ) (n : ℕ) → n ≤ length into → IsFront text told → now ≡ told → WhereTold now (Reads (length text) n into) → more ≡ text ++ take n into → IsFront more told
IsFront-more None now text more into n within front same read more_is = tt
IsFront-more (Some bytes) now text more into n within front same read more_is =
    front_more bytes text more into n within front ((subst (λ (o : Option (List ℕ)). WhereTold o (Reads (length text) n into)) same read).bytes) more_is

rest_whole : (text : List ℕ) (at : ℕ) → take (length text - at) (drop at text) ≡ drop at text
rest_whole text at = ap (λ k. take k (drop at text)) (sym (length-drop at text)) ∙ take-length (drop at text)

-- the front of a text, and then a piece of the rest
front_rest : (text : List ℕ) (at n : ℕ) → take at text ++ take n (take (length text - at) (drop at text)) ≡ take (at + n) text
front_rest text at n = ap (λ (l : List ℕ). take at text ++ take n l) (rest_whole text at) ∙ sym (take-add at n text)

-- what was given so far goes on with a piece of the rest
pub appended-more : (told : Option (List ℕ)) (text : List ℕ) (at n : ℕ) → appended (take n (take (length text - at) (drop at text))) (appended (take at text) told) ≡ appended (take (at + n) text) told
appended-more None text at n = refl
appended-more (Some bytes) text at n = ap (λ (l : List ℕ). Some l) (append_assoc bytes (take at text) (take n (take (length text - at) (drop at text))) ∙ ap (λ (l : List ℕ). bytes ++ l) (front_rest text at n))

-- what was written so far goes on with a piece of the rest
pub told_if-more : (tells : Bool) (text : List ℕ) (at n : ℕ) → appended (take n (take (length text - at) (drop at text))) (told_if tells (take at text)) ≡ told_if tells (take (at + n) text)
told_if-more true text at n = ap (λ (l : List ℕ). Some l) (front_rest text at n)
told_if-more false text at n = refl

-- the same of a shelf, at one name
pub ChangesOne-more : (tells : Bool) (old mid new : List ℕ → Option (List ℕ)) (name text : List ℕ) (at n : ℕ) → ChangesOne old mid name (λ before after. after ≡ told_if tells (take at text)) → ChangesOne mid new name (λ before after. after ≡ appended (take n (take (length text - at) (drop at text))) before) → ChangesOne old new name (λ before after. after ≡ told_if tells (take (at + n) text))
ChangesOne-more tells old mid new name text at n first then = record {
  there = then.there ∙ ap (appended (take n (take (length text - at) (drop at text)))) first.there ∙ told_if-more tells text at n;
  others = λ q ne. then.others q ne ∙ first.others q ne;
}
