-- The entries of the design's own registers are cut off where they begin.
use Rattle.std.proofs.Common.{◌≡◌, ℕ, ◌+◌, ◌==◌, Bool, true, false, List, [], ◌∷◌, ◌++◌, length, take, drop, Option, Some, None, refl, sym, ap, subst, ◌∙◌, append-nil}
use Rattle.std.specs.Prelude.{◌&&◌, not, option_and_then, if◌then◌else◌}
use Rattle.std.specs.List.{list_all, list_any}
use Rattle.std.specs.Option.{option_map}
use Rattle.std.proofs.lemmas.List.Folds.{list_all-append}
use borrow.Author.Tests.{eqb-true}
use Rattle.list_laws.proofs.Tests.{neither, and_left, and_right, not_true}
use Rattle.bsdl_device.specs.declared.written.File.{File}
use Rattle.bsdl_device.specs.declared.entries.AccessEntry.{AccessEntry}
use Rattle.bsdl_device.specs.Patterns.{MatchesBy, each_after, separated_by, is_filled}
use Rattle.bsdl_device.specs.Runs.{ContentWord, Run, Other, ContentPattern, KeyRun, IdentifierRun, NameRun, PinRun, IntegerRun, BitsRun, MarkByte, Fits, mark_in, content_words, comma}
use Rattle.bsdl_device.specs.Shape.{joined}
use Rattle.bsdl_device.specs.Grammar.{access_words, accesses_words}
use Rattle.bsdl_device.specs.Spelled.{HoldAccess}
use Rattle.bsdl_device.proofs.Matched.{Split, matches_append, matches_split}
use Rattle.bsdl_device.specs.declared.registers.values.RegisterEntry.{RegisterEntry}
use Rattle.bsdl_device.specs.Entries.{entry_words, extended_words, HoldExtended}
use Rattle.bsdl_contents.specs.declared.entries.parted.OwnEntries.{OwnEntries}
use Rattle.bsdl_contents.specs.OwnPlaces.{place_from}
use Rattle.bsdl_contents.specs.EntriesReader.{entries_in}
use Rattle.bsdl_contents.specs.BaseFile.{own_at, own_in, with_access, IsParted}
use Rattle.bsdl_contents.proofs.Cuts.{Alone, CutAt, words_cut, cut_words, is_other, has_byte, none_in}
use Rattle.bsdl_contents.proofs.OwnPlaces.{CommaAt, comma_at, place_there, place_none, before_place, behind_place}
use Rattle.bsdl_contents.proofs.EntriesEntryLaws.{AreEntries, entries_sound, entries_complete}

comma_alone : Alone 44
comma_alone = record { apart = refl; unblank = refl }

bracket_alone : Alone 91
bracket_alone = record { apart = refl; unblank = refl }

-- Patterns without a `[`.

abbrev is_plain : ContentPattern → Bool
is_plain (KeyRun wanted) = true
is_plain (IdentifierRun name) = true
is_plain (NameRun name) = true
is_plain (PinRun pin) = true
is_plain (IntegerRun value) = true
is_plain (BitsRun bits) = true
is_plain (MarkByte m) = not (m == 91)

abbrev marked : Bool → Option (Unit {0})
marked t = if t then Some tt else None

mark_is : (m o : ℕ) → mark_in m (Other o) ≡ Some tt → o ≡ m
mark_is m o h = go (o == m) refl h
  where
    go : (t : Bool) → (o == m) ≡ t → marked t ≡ Some tt → o ≡ m
    go true e k = eqb-true o m e
    go false e k = absurd (cc)

one_plain : (p : ContentPattern) (w : ContentWord) → is_plain p ≡ true → Fits p w → is_other 91 w ≡ false
one_plain p (Run r) h f = refl
one_plain (KeyRun wanted) (Other b) h f = absurd (cc)
one_plain (IdentifierRun name) (Other b) h f = absurd (cc)
one_plain (NameRun name) (Other b) h f = absurd (cc)
one_plain (PinRun pin) (Other b) h f = absurd (cc)
one_plain (IntegerRun value) (Other b) h f = absurd (cc)
one_plain (BitsRun bits) (Other b) h f = absurd (cc)
one_plain (MarkByte m) (Other b) h f = ap (λ (n : ℕ). n == 91) (mark_is m b f) ∙ not_true (m == 91) h

unmarked : (ps : List ContentPattern) (ws : List ContentWord) → list_all is_plain ps ≡ true → MatchesBy Fits ps ws → list_any (is_other 91) ws ≡ false
unmarked [] [] h m = refl
unmarked [] (w ∷ ws) h m = absurd m
unmarked (p ∷ ps) [] h m = absurd m
unmarked (p ∷ ps) (w ∷ ws) h m =
    neither (is_other 91 w) (list_any (is_other 91) ws) (one_plain p w (and_left (is_plain p) (list_all is_plain ps) h) m.0) (unmarked ps ws (and_right (is_plain p) (list_all is_plain ps) h) m.1)

both_plain : (xs ys : List ContentPattern) → list_all is_plain xs ≡ true → list_all is_plain ys ≡ true → list_all is_plain (xs ++ ys) ≡ true
both_plain xs ys h k = list_all-append is_plain xs ys ∙ ap (λ (b : Bool). b && list_all is_plain ys) h ∙ k

after_plain : {A : Type 0} (words : A → List ContentPattern) → ((x : A) → list_all is_plain (words x) ≡ true) → (xs : List A) → list_all is_plain (each_after comma words xs) ≡ true
after_plain words each [] = refl
after_plain words each (x ∷ xs) = both_plain (words x) (each_after comma words xs) (each x) (after_plain words each xs)

separated_plain : {A : Type 0} (words : A → List ContentPattern) → ((x : A) → list_all is_plain (words x) ≡ true) → (xs : List A) → list_all is_plain (separated_by comma words xs) ≡ true
separated_plain words each [] = refl
separated_plain words each (x ∷ xs) = both_plain (words x) (each_after comma words xs) (each x) (after_plain words each xs)

accesses_plain : (list : List AccessEntry) → list_all is_plain (accesses_words list) ≡ true
accesses_plain list = separated_plain access_words (λ a. both_plain (separated_by comma (λ name. IdentifierRun name ∷ []) a.instructions) (MarkByte 41 ∷ []) (separated_plain (λ name. IdentifierRun name ∷ []) (λ name. refl) a.instructions) refl) list

-- Without entries of the design's own there is no `[`.
none_own : (bytes : List ℕ) (list : List AccessEntry) → MatchesBy Fits (extended_words list []) (content_words bytes) → own_in bytes ≡ None
none_own bytes list m =
    let plain : MatchesBy Fits (accesses_words list) (content_words bytes) = subst (λ (ps : List ContentPattern). MatchesBy Fits ps (content_words bytes)) (append-nil (accesses_words list)) m in
    ap (option_and_then (own_at bytes)) (place_none bytes None 0 (none_in 91 bracket_alone bytes (unmarked (accesses_words list) (content_words bytes) (accesses_plain list) plain)))

-- With some, they are found, and the profile's stand before them.

record Found (bytes : List ℕ) (list : List AccessEntry) (entries : List RegisterEntry) : Type 0 where
  place : ℕ
  found : own_in bytes ≡ Some (let own : OwnEntries = record { place = place; entries = entries } in own)
  front : MatchesBy Fits (accesses_words list) (content_words (take place bytes))

some_own : (bytes : List ℕ) (list : List AccessEntry) (e : RegisterEntry) (es : List RegisterEntry) → MatchesBy Fits (extended_words list (e ∷ es)) (content_words bytes) → Found bytes list (e ∷ es)
some_own bytes list e es m =
    let s : Split ContentPattern ContentWord Fits (accesses_words list) (each_after comma entry_words (e ∷ es)) (content_words bytes) = matches_split Fits (accesses_words list) (each_after comma entry_words (e ∷ es)) (content_words bytes) m in
    by s.before s.behind s.first s.second s.are
  where
    here : (A ws : List ContentWord) (r : List ℕ) → MatchesBy Fits (accesses_words list) A → MatchesBy Fits (separated_by comma entry_words (e ∷ es)) (Run r ∷ Other 91 ∷ ws) → content_words bytes ≡ A ++ Other 44 ∷ Run r ∷ Other 91 ∷ ws → Found bytes list (e ∷ es)
    here A ws r f g are =
        let c : CutAt 44 bytes A (Run r ∷ Other 91 ∷ ws) = cut_words 44 comma_alone bytes A (Run r ∷ Other 91 ∷ ws) are in
        let d : CutAt 91 c.b (Run r ∷ []) ws = cut_words 91 bracket_alone c.b (Run r ∷ []) ws c.back in
        let whole : bytes ≡ c.a ++ 44 ∷ (d.a ++ 91 ∷ d.b) = c.is ∙ ap (λ (l : List ℕ). c.a ++ 44 ∷ l) d.is in
        let no_bracket : has_byte 91 c.a ≡ false = none_in 91 bracket_alone c.a (ap (list_any (is_other 91)) c.front ∙ unmarked (accesses_words list) A (accesses_plain list) f) in
        let no_more : has_byte 91 d.a ≡ false = none_in 91 bracket_alone d.a (ap (list_any (is_other 91)) d.front) in
        let no_comma : has_byte 44 d.a ≡ false = none_in 44 comma_alone d.a (ap (list_any (is_other 44)) d.front) in
        let at : place_from None 0 bytes ≡ Some (0 + length c.a) = ap (place_from None 0) whole ∙ place_there c.a d.a d.b None 0 no_bracket no_more no_comma in
        let read : entries_in (content_words (drop (0 + length c.a + 1) bytes)) ≡ Some (e ∷ es) =
        ap (λ (l : List ℕ). entries_in (content_words l)) (behind_place bytes c.a c.b 44 (0 + length c.a) c.is refl) ∙ ap (λ (l : List ContentWord). entries_in l) c.back ∙ entries_complete (Run r ∷ Other 91 ∷ ws) (e ∷ es) refl g in
        record {
          place = 0 + length c.a;
          found = ap (option_and_then (own_at bytes)) at ∙ ap (option_map (λ (es : List RegisterEntry). let own : OwnEntries = record { place = 0 + length c.a; entries = es } in own)) read;
          front = subst (λ (l : List ContentWord). MatchesBy Fits (accesses_words list) l) (sym (ap content_words (before_place bytes c.a c.b 44 (0 + length c.a) c.is refl) ∙ c.front)) f;
        }

    by : (A ws : List ContentWord) → MatchesBy Fits (accesses_words list) A → MatchesBy Fits (comma ∷ separated_by comma entry_words (e ∷ es)) ws → content_words bytes ≡ A ++ ws → Found bytes list (e ∷ es)
    by A [] f g are = absurd g
    by A (Run r ∷ ws) f g are = absurd (let no : None ≡ Some tt = g.0 in cc)
    by A (Other o ∷ []) f g are = absurd g.1
    by A (Other o ∷ Other p ∷ ws) f g are = absurd (let no : None ≡ Some e.name = g.1.0 in cc)
    by A (Other o ∷ Run r ∷ []) f g are = absurd g.1.1
    by A (Other o ∷ Run r ∷ Run q ∷ ws) f g are = absurd (let no : None ≡ Some tt = g.1.1.0 in cc)
    by A (Other o ∷ Run r ∷ Other p ∷ ws) f g are =
        let first : o ≡ 44 = mark_is 44 o g.0 in
        let third : p ≡ 91 = mark_is 91 p g.1.1.0 in
        here A ws r f (subst (λ (n : ℕ). MatchesBy Fits (separated_by comma entry_words (e ∷ es)) (Run r ∷ Other n ∷ ws)) third g.1)
        (are ∙ ap (λ (n : ℕ). A ++ Other n ∷ Run r ∷ Other p ∷ ws) first ∙ ap (λ (n : ℕ). A ++ Other 44 ∷ Run r ∷ Other n ∷ ws) third)

-- What is found, by its parts.

pub record OwnParts (bytes : List ℕ) (own : OwnEntries) : Type 0 where
  pub place : place_from None 0 bytes ≡ Some own.place
  pub entries : entries_in (content_words (drop (own.place + 1) bytes)) ≡ Some own.entries

pub own_parts : (bytes : List ℕ) (own : OwnEntries) → own_in bytes ≡ Some own → OwnParts bytes own
own_parts bytes own h = go (place_from None 0 bytes) refl h
  where
    at : (k : ℕ) → place_from None 0 bytes ≡ Some k → (o : Option (List RegisterEntry)) → entries_in (content_words (drop (k + 1) bytes)) ≡ o → option_map (λ (es : List RegisterEntry). let own : OwnEntries = record { place = k; entries = es } in own) o ≡ Some own → OwnParts bytes own
    at k e None f h = absurd (cc)
    at k e (Some es) f h =
        let made : OwnEntries = record { place = k; entries = es } in
        let same : made ≡ own = cc in
        let parts : OwnParts bytes made = record { place = e; entries = f } in
        subst (λ (o : OwnEntries). OwnParts bytes o) same parts

    go : (o : Option ℕ) → place_from None 0 bytes ≡ o → option_and_then (own_at bytes) o ≡ Some own → OwnParts bytes own
    go None e h = absurd (cc)
    go (Some k) e h = at k e (entries_in (content_words (drop (k + 1) bytes))) refl h

-- the profile's entries and those that were found
rejoined : (bytes : List ℕ) (own : OwnEntries) (list : List AccessEntry) → own_in bytes ≡ Some own → MatchesBy Fits (accesses_words list) (content_words (take own.place bytes)) → MatchesBy Fits (extended_words list own.entries) (content_words bytes)
rejoined bytes own list h m =
    let parts : OwnParts bytes own = own_parts bytes own h in
    let c : CommaAt bytes 0 own.place = comma_at bytes own.place parts.place in
    let before : MatchesBy Fits (accesses_words list) (content_words c.a) = subst (λ (l : List ℕ). MatchesBy Fits (accesses_words list) (content_words l)) (before_place bytes c.a c.b 44 own.place c.is c.there) m in
    let s : AreEntries own.entries (content_words (drop (own.place + 1) bytes)) = entries_sound (content_words (drop (own.place + 1) bytes)) own.entries parts.entries in
    let behind : MatchesBy Fits (separated_by comma entry_words own.entries) (content_words c.b) = subst (λ (l : List ℕ). MatchesBy Fits (separated_by comma entry_words own.entries) (content_words l)) (behind_place bytes c.a c.b 44 own.place c.is c.there) s.spelled in
    subst (λ (l : List ContentWord). MatchesBy Fits (extended_words list own.entries) l) (sym (ap content_words c.is ∙ words_cut 44 comma_alone c.a c.b))
    (matches_append Fits (accesses_words list) (each_after comma entry_words own.entries) (content_words c.a) (Other 44 ∷ content_words c.b) before (with_comma own.entries (content_words c.b) s.filled behind))
  where
    with_comma : (es : List RegisterEntry) (ws : List ContentWord) → is_filled es ≡ true → MatchesBy Fits (separated_by comma entry_words es) ws → MatchesBy Fits (each_after comma entry_words es) (Other 44 ∷ ws)
    with_comma [] ws some m = absurd (cc)
    with_comma (e ∷ es) ws some m = (refl, m)

-- The file.

pub parted_none : (f : File) → own_in (joined f.access.strings) ≡ None → IsParted f (record { file = f; entries = [] })
parted_none f none = record {
  same = refl;
  many = refl;
  to = λ list h. record { is = h.is; hold = subst (λ (ps : List ContentPattern). MatchesBy Fits ps (content_words (joined f.access.strings))) (sym (append-nil (accesses_words list))) h.hold };
  from = from;
  only = only;
}
  where
    only : (list : List AccessEntry) (others : List RegisterEntry) → HoldExtended f.access.strings list others → others ≡ []
    only list [] h = refl
    only list (e ∷ es) h =
        let found : Found (joined f.access.strings) list (e ∷ es) = some_own (joined f.access.strings) list e es h.hold in
        let made : OwnEntries = record { place = found.place; entries = e ∷ es } in
        let no : None ≡ Some made = sym none ∙ found.found in
        absurd (cc)

    from : (list : List AccessEntry) (others : List RegisterEntry) → HoldExtended f.access.strings list others → HoldAccess f.access.strings list
    from list others h =
        let here : HoldExtended f.access.strings list [] = subst (λ (es : List RegisterEntry). HoldExtended f.access.strings list es) (only list others h) h in
        record { is = here.is; hold = subst (λ (ps : List ContentPattern). MatchesBy Fits ps (content_words (joined f.access.strings))) (append-nil (accesses_words list)) here.hold }

pub parted_some : (f : File) (own : OwnEntries) (strings : List (List ℕ)) → own_in (joined f.access.strings) ≡ Some own → joined strings ≡ take own.place (joined f.access.strings) → length strings ≡ length f.access.strings → IsParted f (record { file = with_access f strings; entries = own.entries })
parted_some f own strings some are many = record {
  same = refl;
  many = many;
  to = λ list h. record { is = h.is; hold = rejoined (joined f.access.strings) own list some (subst (λ (l : List ℕ). MatchesBy Fits (accesses_words list) (content_words l)) are h.hold) };
  from = λ list others h. (both list others h).1;
  only = λ list others h. (both list others h).0;
}
  where
    both : (list : List AccessEntry) (others : List RegisterEntry) → HoldExtended f.access.strings list others → (others ≡ own.entries) × HoldAccess strings list
    both list [] h =
        let no : None ≡ Some own = sym (none_own (joined f.access.strings) list h.hold) ∙ some in
        absurd (cc)
    both list (e ∷ es) h =
        let found : Found (joined f.access.strings) list (e ∷ es) = some_own (joined f.access.strings) list e es h.hold in
        let made : OwnEntries = record { place = found.place; entries = e ∷ es } in
        let option : Some made ≡ Some own = sym found.found ∙ some in
        let same : made ≡ own = cc in (
          ap (λ (o : OwnEntries). o.entries) same,
          record { is = h.is; hold = subst (λ (l : List ℕ). MatchesBy Fits (accesses_words list) (content_words l)) (ap (λ (o : OwnEntries). take o.place (joined f.access.strings)) same ∙ sym are) found.front },
        )
