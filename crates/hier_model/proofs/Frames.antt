-- Lists of frames: what a frame at the end adds.
use Rattle.std.proofs.Common.{◌≡◌, ℕ, suc, zero, IsTrue, List, [], ◌∷◌, ◌++◌, None, IsSome, refl, sym, ap, subst, ◌∙◌, arith, append_assoc, append-nil}
use Rattle.std.specs.List.{list_all, AllByRecursion}
use Rattle.verilog_tree.specs.declared.tree.Module.{Module}
use Rattle.hier_model.specs.declared.walk.walk.Frame.{Frame}
use Rattle.hier_model.specs.Visits.{Visit, item_passes, has_levels}
use Rattle.hier_model.specs.Walks.{at_of, closing, items_left, left_of, path_of, Fits, OpenedBehind}

-- the levels that are left behind these frames
abbrev pub level_at : ℕ → List Frame → ℕ
level_at levels [] = levels
level_at zero (f ∷ fs) = zero
level_at (suc levels) (f ∷ fs) = level_at levels fs

abbrev pub PassesAt : ℕ → List Module → Frame → Type 0
PassesAt n modules g = IsTrue (list_all (item_passes (λ c. has_levels n modules c) modules) g.left.now)

pub fits_last : (levels : ℕ) (modules : List Module) (fs : List Frame) (g : Frame) → Fits levels modules (fs ++ g ∷ []) → (n : ℕ) × (level_at levels fs ≡ suc n) × PassesAt n modules g × Fits levels modules fs
fits_last zero modules [] g h = absurd h
fits_last (suc n) modules [] g h = (n, refl, h.0, tt)
fits_last zero modules (f ∷ fs) g h = absurd h
fits_last (suc levels) modules (f ∷ fs) g h = let t = fits_last levels modules fs g h.1 in (t.0, t.1, t.2, (h.0, t.3))

pub fits_push : (levels : ℕ) (modules : List Module) (fs : List Frame) (g : Frame) (n : ℕ) → Fits levels modules fs → level_at levels fs ≡ suc n → PassesAt n modules g → Fits levels modules (fs ++ g ∷ [])
fits_push zero modules [] g n fits is passes = absurd (cc)
fits_push (suc levels) modules [] g n fits is passes =
    let same : levels ≡ n = omega (arith, is) in
    let P : ℕ → Type 0 = λ k. PassesAt k modules g in
    (subst P (sym same) passes, tt)
fits_push zero modules (f ∷ fs) g n fits is passes = absurd fits
fits_push (suc levels) modules (f ∷ fs) g n fits is passes = (fits.0, fits_push levels modules fs g n fits.1 is passes)

pub level_push : (levels : ℕ) (fs : List Frame) (g : Frame) (n : ℕ) → level_at levels fs ≡ suc n → level_at levels (fs ++ g ∷ []) ≡ n
level_push zero [] g n is = absurd (cc)
level_push (suc levels) [] g n is = omega (arith, is)
level_push zero (f ∷ fs) g n is = absurd (cc)
level_push (suc levels) (f ∷ fs) g n is = level_push levels fs g n is

pub path_push : (at : List (List ℕ)) (fs : List Frame) (g : Frame) → path_of at (fs ++ g ∷ []) ≡ at_of (path_of at fs) g
path_push at [] g = refl
path_push at (f ∷ fs) g = path_push (at_of at f) fs g

pub left_none : (levels : ℕ) (modules : List Module) (at : List (List ℕ)) → left_of levels modules at [] ≡ []
left_none zero modules at = refl
left_none (suc levels) modules at = refl

-- what is left of a frame with so many levels below it
abbrev pub own_left : ℕ → List Module → List (List ℕ) → Frame → List Visit
own_left n modules at g = items_left n modules (at_of at g) g.within.now g.left.now ++ closing at g

pub left_push : (levels : ℕ) (modules : List Module) (at : List (List ℕ)) (fs : List Frame) (g : Frame) (n : ℕ) → level_at levels fs ≡ suc n → left_of levels modules at (fs ++ g ∷ []) ≡ own_left n modules (path_of at fs) g ++ left_of levels modules at fs
left_push zero modules at [] g n is = absurd (cc)
left_push (suc levels) modules at [] g n is =
    let same : levels ≡ n = omega (arith, is) in
    ap (λ (l : List Visit). l ++ own_left levels modules at g) (left_none levels modules (at_of at g)) ∙ ap (λ (k : ℕ). own_left k modules at g) same ∙ sym (append-nil (own_left n modules at g))
left_push zero modules at (f ∷ fs) g n is = absurd (cc)
left_push (suc levels) modules at (f ∷ fs) g n is =
    ap (λ (l : List Visit). l ++ own_left levels modules at f) (left_push levels modules (at_of at f) fs g n is)
    ∙ append_assoc (own_left n modules (path_of (at_of at f) fs) g) (left_of levels modules (at_of at f) fs) (own_left levels modules at f)

-- Frames but the first are opened.

abbrev Opened : List Frame → Type 0
Opened fs = AllByRecursion (λ (g : Frame). IsSome g.opened) fs

opened_push : (fs : List Frame) (g : Frame) → Opened fs → IsSome g.opened → Opened (fs ++ g ∷ [])
opened_push [] g all is = (is, tt)
opened_push (f ∷ fs) g all is = (all.0, opened_push fs g all.1 is)

opened_last : (fs : List Frame) (g : Frame) → Opened (fs ++ g ∷ []) → Opened fs × IsSome g.opened
opened_last [] g all = (tt, all.0)
opened_last (f ∷ fs) g all = let t = opened_last fs g all.1 in ((all.0, t.0), t.1)

pub behind_last : (fs : List Frame) (g : Frame) → OpenedBehind (fs ++ g ∷ []) → OpenedBehind fs
behind_last [] g h = tt
behind_last (f ∷ fs) g h = (h.0, (opened_last fs g h.1).0)

-- a frame with the same opening in the last one's place
pub behind_same : (fs : List Frame) (g h : Frame) → h.opened ≡ g.opened → OpenedBehind (fs ++ g ∷ []) → OpenedBehind (fs ++ h ∷ [])
behind_same [] g h same is = (same ∙ is.0, tt)
behind_same (f ∷ fs) g h same is =
    let t = opened_last fs g is.1 in
    let P : Type 0 = Opened (fs ++ h ∷ []) in
    (is.0, opened_push fs h t.0 (rw same t.1))

pub behind_push : (fs : List Frame) (g h : Frame) → IsSome h.opened → OpenedBehind (fs ++ g ∷ []) → OpenedBehind ((fs ++ g ∷ []) ++ h ∷ [])
behind_push [] g h some is = (is.0, (some, tt))
behind_push (f ∷ fs) g h some is = (is.0, opened_push (fs ++ g ∷ []) h is.1 some)

-- a last frame that wasn't opened is the only one
pub behind_none : (fs : List Frame) (g : Frame) → g.opened ≡ None → OpenedBehind (fs ++ g ∷ []) → fs ≡ []
behind_none [] g none is = refl
behind_none (f ∷ fs) g none is = let t = opened_last fs g is.1 in absurd (cc)
