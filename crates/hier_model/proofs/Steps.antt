-- One step of the walk.
use Rattle.std.proofs.Common.{◌≡◌, ℕ, suc, zero, ◌-◌, IsTrue, List, [], ◌∷◌, ◌++◌, length, take, Option, Some, None, refl, sym, ap, subst, ◌∙◌, arith, append_assoc, append-nil, length-append, Bor}
use Rattle.std.proofs.lemmas.List.{length-map, take-map, map-append}
use Rattle.std.proofs.Math.Seq.{take-length, take-append_seam}
use Rattle.std.specs.List.{list_all}
use Rattle.std.specs.Option.{option_map_or}
use Rattle.list_laws.proofs.Tests.{and_left, and_right}
use Rattle.verilog_tree.specs.declared.tree.Item.{Item}
use Rattle.verilog_tree.specs.declared.tree.Module.{Module}
use Rattle.hier_model.specs.declared.walk.walk.Opened.{Opened}
use Rattle.hier_model.specs.declared.walk.walk.Frame.{Frame}
use Rattle.hier_model.specs.declared.walk.walk.Step.{Step}
use Rattle.hier_model.specs.declared.walk.walk.Walk.{Walk}
use Rattle.hier_model.specs.Visits.{keeps, opens, closes, Visit, visit, opened_by, visits, item_passes, has_levels}
use Rattle.hier_model.specs.Walks.{texts, at_of, closing, items_left, left_of, path_of, Fits, OpenedBehind, Walks, left_in, turn_of, Goes, ended, went, Begins}
use Rattle.hier_model.proofs.Frames.{level_at, PassesAt, fits_last, fits_push, level_push, path_push, left_none, left_push, behind_last, behind_same, behind_push, behind_none}

pub length-nil : {X : Type 0} (xs : List X) → length xs ≡ 0 → xs ≡ []
length-nil [] e = refl
length-nil (x ∷ xs) e = absurd (omega (arith, e))

-- a state of the walk by its parts
pub record IsAt (levels : ℕ) (modules : List Module) (path : List (List ℕ)) (frames : List Frame) : Type 0 where
  pub fits : Fits levels modules frames
  pub behind : OpenedBehind frames
  pub path_is : path ≡ path_of [] frames

-- At the end of a frame.

pub none_left : (levels : ℕ) (modules : List Module) (path : List (List ℕ)) (fs : List Frame) (g : Frame) → IsAt levels modules path (fs ++ g ∷ []) → g.left.now ≡ [] → g.opened ≡ None → left_of levels modules [] (fs ++ g ∷ []) ≡ []
none_left levels modules path fs g w none first = let t = fits_last levels modules fs g w.fits in by t.0 t.1 (behind_none fs g first w.behind)
  where
    by : (n : ℕ) → level_at levels fs ≡ suc n → fs ≡ [] → left_of levels modules [] (fs ++ g ∷ []) ≡ []
    by n level only = left_push levels modules [] fs g n level ∙ rw (none, first, only, left_none levels modules []) refl

pub closes_left : (levels : ℕ) (modules : List Module) (path : List (List ℕ)) (fs : List Frame) (g : Frame) (o : Opened) → IsAt levels modules path (fs ++ g ∷ []) → g.left.now ≡ [] → g.opened ≡ Some o
    → left_of levels modules [] (fs ++ g ∷ []) ≡ visit (path_of [] fs) o.parent.now (closes o.instance.now g.within.now) ∷ left_of levels modules [] fs
closes_left levels modules path fs g o w none is = let t = fits_last levels modules fs g w.fits in by t.0 t.1
  where
    by : (n : ℕ) → level_at levels fs ≡ suc n → left_of levels modules [] (fs ++ g ∷ []) ≡ visit (path_of [] fs) o.parent.now (closes o.instance.now g.within.now) ∷ left_of levels modules [] fs
    by n level = left_push levels modules [] fs g n level ∙ rw (none, is) refl

pub closes_at : (levels : ℕ) (modules : List Module) (path new : List (List ℕ)) (fs : List Frame) (g : Frame) → IsAt levels modules path (fs ++ g ∷ []) → new ≡ path_of [] fs → IsAt levels modules new fs
closes_at levels modules path new fs g w is = record {
  fits = (fits_last levels modules fs g w.fits).3;
  behind = behind_last fs g w.behind;
  path_is = is;
}

-- An item that stays.

pub keeps_left : (levels : ℕ) (modules : List Module) (path : List (List ℕ)) (fs : List Frame) (g h : Frame) (i : Item) (rest : List Item) → IsAt levels modules path (fs ++ g ∷ []) → g.left.now ≡ i ∷ rest → h.left.now ≡ rest → h.opened ≡ g.opened → h.within.now ≡ g.within.now → opened_by modules i ≡ None
    → left_of levels modules [] (fs ++ g ∷ []) ≡ visit path g.within.now (keeps i) ∷ left_of levels modules [] (fs ++ h ∷ [])
keeps_left levels modules path fs g h i rest w left left_h opened within none = let t = fits_last levels modules fs g w.fits in by t.0 t.1 (w.path_is ∙ path_push [] fs g)
  where
    by : (n : ℕ) → level_at levels fs ≡ suc n → path ≡ at_of (path_of [] fs) g → left_of levels modules [] (fs ++ g ∷ []) ≡ visit path g.within.now (keeps i) ∷ left_of levels modules [] (fs ++ h ∷ [])
    by n level here =
        let new : left_of levels modules [] (fs ++ h ∷ []) ≡ (items_left n modules (at_of (path_of [] fs) g) g.within.now rest ++ closing (path_of [] fs) g) ++ left_of levels modules [] fs = left_push levels modules [] fs h n level ∙ rw (left_h, opened, within) refl in
        left_push levels modules [] fs g n level ∙ rw (left, none, here, new) refl

passes_rest : (n : ℕ) (modules : List Module) (g h : Frame) (i : Item) (rest : List Item) → PassesAt n modules g → g.left.now ≡ i ∷ rest → h.left.now ≡ rest → PassesAt n modules h
passes_rest n modules g h i rest passes left left_h = rw left_h (and_right (item_passes (λ c. has_levels n modules c) modules i) _ (rw left at passes))

passes_first : (n : ℕ) (modules : List Module) (g : Frame) (i : Item) (rest : List Item) → PassesAt n modules g → g.left.now ≡ i ∷ rest → IsTrue (item_passes (λ c. has_levels n modules c) modules i)
passes_first n modules g i rest passes left = and_left _ (list_all (item_passes (λ c. has_levels n modules c) modules) rest) (rw left at passes)

pub keeps_at : (levels : ℕ) (modules : List Module) (path : List (List ℕ)) (fs : List Frame) (g h : Frame) (i : Item) (rest : List Item) → IsAt levels modules path (fs ++ g ∷ []) → g.left.now ≡ i ∷ rest → h.left.now ≡ rest → h.opened ≡ g.opened → IsAt levels modules path (fs ++ h ∷ [])
keeps_at levels modules path fs g h i rest w left left_h opened =
    let t = fits_last levels modules fs g w.fits in record {
      fits = fits_push levels modules fs h t.0 t.3 t.1 (passes_rest t.0 modules g h i rest t.2 left left_h);
      behind = behind_same fs g h opened w.behind;
      path_is = w.path_is ∙ path_push [] fs g ∙ ap (λ (o : Option Opened). option_map_or (λ (p : Opened). path_of [] fs ++ p.instance.now.name ∷ []) o (path_of [] fs)) (sym opened) ∙ sym (path_push [] fs h);
    }

-- An instance of a module.

pub opens_left : (levels : ℕ) (modules : List Module) (path : List (List ℕ)) (fs : List Frame) (g h k : Frame) (i : Item) (rest : List Item) (o : Opened) (child : Module) → IsAt levels modules path (fs ++ g ∷ []) → g.left.now ≡ i ∷ rest → h.left.now ≡ rest → h.opened ≡ g.opened → h.within.now ≡ g.within.now
    → opened_by modules i ≡ Some (o.instance.now, child) → k.opened ≡ Some o → o.parent.now ≡ g.within.now → k.within.now ≡ child → k.left.now ≡ child.items
    → left_of levels modules [] (fs ++ g ∷ []) ≡ visit path g.within.now (opens o.instance.now child) ∷ left_of levels modules [] ((fs ++ h ∷ []) ++ k ∷ [])
opens_left levels modules path fs g h k i rest o child w left left_h opened within some opened_k parent within_k left_k =
    let t = fits_last levels modules fs g w.fits in
    by t.0 t.1 (rw some at (passes_first t.0 modules g i rest t.2 left))
  where
    at : List (List ℕ)
    at = at_of (path_of [] fs) g

    by : (n : ℕ) → level_at levels fs ≡ suc n → IsTrue (has_levels n modules child) → left_of levels modules [] (fs ++ g ∷ []) ≡ visit path g.within.now (opens o.instance.now child) ∷ left_of levels modules [] ((fs ++ h ∷ []) ++ k ∷ [])
    by zero level has = absurd (cc)
    by (suc n) level has =
        let here : path ≡ at = w.path_is ∙ path_push [] fs g in
        let same : at_of (path_of [] fs) h ≡ at = ap (λ (q : Option Opened). option_map_or (λ (p : Opened). path_of [] fs ++ p.instance.now.name ∷ []) q (path_of [] fs)) opened in
        let below : List Visit = visits (suc n) modules (at ++ o.instance.now.name ∷ []) child in
        let close : List Visit = visit at g.within.now (closes o.instance.now child) ∷ [] in
        let more : List Visit = items_left (suc n) modules at g.within.now rest in
        let end : List Visit = closing (path_of [] fs) g in
        let others : List Visit = left_of levels modules [] fs in
        let old : left_of levels modules [] (fs ++ g ∷ []) ≡ ((visit at g.within.now (opens o.instance.now child) ∷ (below ++ close) ++ more) ++ end) ++ others = left_push levels modules [] fs g (suc n) level ∙ rw (left, some) refl in
        let next : left_of levels modules [] (fs ++ h ∷ []) ≡ (more ++ end) ++ others = left_push levels modules [] fs h (suc n) level ∙ rw (left_h, opened, within) refl in
        let last : left_of levels modules [] ((fs ++ h ∷ []) ++ k ∷ []) ≡ (below ++ close) ++ ((more ++ end) ++ others) =
        left_push levels modules [] (fs ++ h ∷ []) k n (level_push levels fs h (suc n) level) ∙ rw (path_push [] fs h, same, next, opened_k, parent, within_k, left_k) refl in
        let joined : ((below ++ close) ++ more) ++ end ++ others ≡ (below ++ close) ++ ((more ++ end) ++ others) = simp append_assoc in
        old ∙ rw (here, last) (ap (λ (l : List Visit). visit at g.within.now (opens o.instance.now child) ∷ l) joined)

pub opens_at : (levels : ℕ) (modules : List Module) (path new : List (List ℕ)) (fs : List Frame) (g h k : Frame) (i : Item) (rest : List Item) (o : Opened) (child : Module) → IsAt levels modules path (fs ++ g ∷ []) → g.left.now ≡ i ∷ rest → h.left.now ≡ rest → h.opened ≡ g.opened
    → opened_by modules i ≡ Some (o.instance.now, child) → k.opened ≡ Some o → k.left.now ≡ child.items → new ≡ path ++ o.instance.now.name ∷ []
    → IsAt levels modules new ((fs ++ h ∷ []) ++ k ∷ [])
opens_at levels modules path new fs g h k i rest o child w left left_h opened some opened_k left_k is =
    let t = fits_last levels modules fs g w.fits in
    let a = keeps_at levels modules path fs g h i rest w left left_h opened in
    by t.0 t.1 (rw some at (passes_first t.0 modules g i rest t.2 left)) a
  where
    by : (n : ℕ) → level_at levels fs ≡ suc n → IsTrue (has_levels n modules child) → IsAt levels modules path (fs ++ h ∷ []) → IsAt levels modules new ((fs ++ h ∷ []) ++ k ∷ [])
    by zero level has a = absurd (cc)
    by (suc n) level has a = record {
      fits = fits_push levels modules (fs ++ h ∷ []) k n a.fits (level_push levels fs h (suc n) level) (rw left_k has);
      behind = behind_push fs h k (rw opened_k refl) a.behind;
      path_is = is ∙ ap (λ (p : List (List ℕ)). p ++ o.instance.now.name ∷ []) a.path_is ∙ sym (path_push [] (fs ++ h ∷ []) k ∙ rw opened_k refl);
    }

-- The state of the walk, as its steps see it.

at_walk : (levels : ℕ) (w : Walk) → Walks levels w → (frames : List Frame) → w.frames.items ≡ frames → IsAt levels w.modules.now (texts w.path.items) frames
at_walk levels w walks frames is =
    let P : List Frame → Type 0 = λ fs. IsAt levels w.modules.now (texts w.path.items) fs in
    subst P is (record { fits = walks.fits; behind = walks.behind; path_is = walks.path_is })

walk_at : (levels : ℕ) (modules : List Module) (w : Walk) (frames : List Frame) → w.modules.now ≡ modules → w.frames.items ≡ frames → IsAt levels modules (texts w.path.items) frames → Walks levels w
walk_at levels modules w frames same is a = record {
  fits = rw (same, is) a.fits;
  behind = rw is a.behind;
  path_is = rw is a.path_is;
}

left_at : (levels : ℕ) (modules : List Module) (w : Walk) (frames : List Frame) → w.modules.now ≡ modules → w.frames.items ≡ frames → left_in levels w ≡ left_of levels modules [] frames
left_at levels modules w frames same is = rw (same, is) refl

take_all : (path : List (Bor (List ℕ))) (depth : ℕ) → depth ≡ length path → take depth (texts path) ≡ texts path
take_all path depth is = ap (λ (n : ℕ). take n (texts path)) (is ∙ sym (length-map path (λ (name : Bor (List ℕ)). name.now))) ∙ take-length (texts path)

pub goes_end : (levels : ℕ) (old new : Walk) → old.frames.items ≡ [] → Goes levels old new None
goes_end levels old new none = ended (left_at levels old.modules.now old [] refl none ∙ left_none levels old.modules.now [])

pub goes_first : (levels : ℕ) (old new : Walk) (fs : List Frame) (g : Frame) → Walks levels old → old.frames.items ≡ fs ++ g ∷ [] → length g.left.now ≡ 0 → g.opened ≡ None → Goes levels old new None
goes_first levels old new fs g walks is none first = ended (left_at levels old.modules.now old (fs ++ g ∷ []) refl is ∙ none_left levels old.modules.now (texts old.path.items) fs g (at_walk levels old walks (fs ++ g ∷ []) is) (length-nil g.left.now none) first)

popped : (old new : List (Bor (List ℕ))) (path : List (List ℕ)) (name : List ℕ) → texts old ≡ path ++ name ∷ [] → new ≡ take (length old - 1) old → texts new ≡ path
popped old new path name was is =
    let count : length old - 1 ≡ length path = omega (arith, ap (λ (l : List (List ℕ)). length l) was, length-map old (λ (n : Bor (List ℕ)). n.now), length-append path (name ∷ [])) in
    ap texts is ∙ ap (λ (n : ℕ). texts (take n old)) count ∙ sym (take-map (λ (n : Bor (List ℕ)). n.now) (length path) old) ∙ ap (λ (l : List (List ℕ)). take (length path) l) was ∙ take-append_seam path (name ∷ [])

pub goes_close : (levels : ℕ) (old new : Walk) (fs : List Frame) (g : Frame) (o : Opened) (s : Step) → Walks levels old → old.frames.items ≡ fs ++ g ∷ [] → length g.left.now ≡ 0 → g.opened ≡ Some o
    → new.frames.items ≡ fs → new.modules.now ≡ old.modules.now → new.path.items ≡ take (length old.path.items - 1) old.path.items → s.depth ≡ length new.path.items → s.within.now ≡ o.parent.now → turn_of s.turn ≡ closes o.instance.now g.within.now
    → Goes levels old new (Some s)
goes_close levels old new fs g o s walks is none opened frames modules path depth within turn =
    let a = at_walk levels old walks (fs ++ g ∷ []) is in
    let here : texts new.path.items ≡ path_of [] fs = popped old.path.items new.path.items (path_of [] fs) o.instance.now.name (a.path_is ∙ path_push [] fs g ∙ rw opened refl) path in
    went (
    left_at levels old.modules.now old (fs ++ g ∷ []) refl is
    ∙ closes_left levels old.modules.now (texts old.path.items) fs g o a (length-nil g.left.now none) opened
    ∙ rw (take_all new.path.items s.depth depth, here, within, turn, left_at levels old.modules.now new fs modules frames) refl)
    (walk_at levels old.modules.now new fs modules frames (closes_at levels old.modules.now (texts old.path.items) (texts new.path.items) fs g a here))
    (rw turn (sym (take_all new.path.items s.depth depth)))

pub goes_keep : (levels : ℕ) (old new : Walk) (fs : List Frame) (g h : Frame) (i : Item) (s : Step) → Walks levels old → old.frames.items ≡ fs ++ g ∷ [] → g.left.now ≡ i ∷ h.left.now → h.opened ≡ g.opened → h.within ≡ g.within → opened_by old.modules.now i ≡ None
    → new.frames.items ≡ fs ++ h ∷ [] → new.modules.now ≡ old.modules.now → new.path.items ≡ old.path.items → s.depth ≡ length old.path.items → s.within ≡ g.within → turn_of s.turn ≡ keeps i
    → Goes levels old new (Some s)
goes_keep levels old new fs g h i s walks is left opened within none frames modules path depth there turn =
    let a = at_walk levels old walks (fs ++ g ∷ []) is in
    went (
    left_at levels old.modules.now old (fs ++ g ∷ []) refl is
    ∙ keeps_left levels old.modules.now (texts old.path.items) fs g h i h.left.now a left refl opened (ap (λ (b : Bor Module). b.now) within) none
    ∙ rw (path, take_all old.path.items s.depth depth, there, turn, left_at levels old.modules.now new (fs ++ h ∷ []) modules frames) refl)
    (walk_at levels old.modules.now new (fs ++ h ∷ []) modules frames (rw path (keeps_at levels old.modules.now (texts old.path.items) fs g h i h.left.now a left refl opened)))
    (rw (turn, path) (sym (take_all old.path.items s.depth depth)))

pub goes_open : (levels : ℕ) (old new : Walk) (fs mid : List Frame) (g h k : Frame) (i : Item) (o : Opened) (child : Module) (name : Bor (List ℕ)) (s : Step) → Walks levels old → old.frames.items ≡ fs ++ g ∷ [] → g.left.now ≡ i ∷ h.left.now → h.opened ≡ g.opened → h.within ≡ g.within
    → opened_by old.modules.now i ≡ Some (o.instance.now, child) → k.opened ≡ Some o → o.parent ≡ g.within → k.within.now ≡ child → k.left.now ≡ child.items → name.now ≡ o.instance.now.name
    → new.frames.items ≡ mid ++ k ∷ [] → mid ≡ fs ++ h ∷ [] → new.modules.now ≡ old.modules.now → new.path.items ≡ old.path.items ++ name ∷ [] → s.depth ≡ length old.path.items → s.within ≡ g.within → turn_of s.turn ≡ opens o.instance.now child
    → Goes levels old new (Some s)
goes_open levels old new fs mid g h k i o child name s walks is left opened within some opened_k parent within_k left_k named frames_mid mid_is modules path depth there turn =
    let frames : new.frames.items ≡ (fs ++ h ∷ []) ++ k ∷ [] = frames_mid ∙ ap (λ (l : List Frame). l ++ k ∷ []) mid_is in
    let a = at_walk levels old walks (fs ++ g ∷ []) is in
    let grown : texts new.path.items ≡ texts old.path.items ++ o.instance.now.name ∷ [] = ap texts path ∙ map-append (λ (n : Bor (List ℕ)). n.now) old.path.items (name ∷ []) ∙ rw named refl in
    let front : take s.depth (texts new.path.items) ≡ texts old.path.items =
    ap (λ (l : List (List ℕ)). take s.depth l) grown ∙ ap (λ (n : ℕ). take n (texts old.path.items ++ o.instance.now.name ∷ [])) (depth ∙ sym (length-map old.path.items (λ (n : Bor (List ℕ)). n.now))) ∙ take-append_seam (texts old.path.items) (o.instance.now.name ∷ []) in
    went (
    left_at levels old.modules.now old (fs ++ g ∷ []) refl is
    ∙ opens_left levels old.modules.now (texts old.path.items) fs g h k i h.left.now o child a left refl opened (ap (λ (b : Bor Module). b.now) within) some opened_k (ap (λ (b : Bor Module). b.now) parent) within_k left_k
    ∙ rw (front, there, turn, left_at levels old.modules.now new ((fs ++ h ∷ []) ++ k ∷ []) modules frames) refl)
    (walk_at levels old.modules.now new ((fs ++ h ∷ []) ++ k ∷ []) modules frames (opens_at levels old.modules.now (texts old.path.items) (texts new.path.items) fs g h k i h.left.now o child a left refl opened some opened_k left_k grown))
    (rw (turn, front) grown)

-- The beginning.

pub begins : (modules : List Module) (top : Module) (w : Walk) (none : List Frame) (f : Frame) → w.modules.now ≡ modules → w.path.items ≡ [] → w.frames.items ≡ none ++ f ∷ [] → none ≡ [] → f.opened ≡ None → f.within.now ≡ top → f.left.now ≡ top.items → Begins modules top w
begins modules top w before f same none is_behind nothing first within left = record {
  modules_are = same;
  walks = walks;
  all = all;
}
  where
    is : w.frames.items ≡ f ∷ []
    is = is_behind ∙ ap (λ (fs : List Frame). fs ++ f ∷ []) nothing

    walks : (levels : ℕ) → IsTrue (has_levels levels modules top) → Walks levels w
    walks zero has = absurd (cc)
    walks (suc n) has = record {
      fits = rw (same, is, left) (has, tt);
      behind = rw is (first, tt);
      path_is = rw (none, is, first) refl;
    }

    all : (levels : ℕ) → IsTrue (has_levels levels modules top) → left_in levels w ≡ visits levels modules [] top
    all zero has = absurd (cc)
    all (suc n) has = left_at (suc n) modules w (f ∷ []) same is ∙ left_push (suc n) modules [] [] f n refl ∙ rw (first, within, left, left_none (suc n) modules []) (append-nil (visits (suc n) modules [] top ++ []) ∙ append-nil (visits (suc n) modules [] top))
