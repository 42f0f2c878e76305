-- Own: the list of what is left to do, against the flat order.
use Rattle.std.specs.Prelude.{◌≡◌, ℕ, zero, suc, ◌-◌, List, [], ◌∷◌, ◌++◌, take, Option, Some, None, IsTrue, IsSome}
use Rattle.std.specs.List.{flat_map, list_all, AllByRecursion}
use Rattle.std.specs.Option.{option_map_or}
use Rattle.verilog_tree.specs.declared.tree.Item.{Item}
use Rattle.verilog_tree.specs.declared.tree.Module.{Module}
use Rattle.hier_model.specs.declared.walk.walk.Opened.{Opened}
use Rattle.hier_model.specs.declared.walk.walk.Frame.{Frame}
use Rattle.hier_model.specs.declared.walk.walk.Step.{Step}
use Rattle.hier_model.specs.declared.walk.walk.Walk.{Walk}
use Rattle.hier_model.specs.declared.walk.walk.Turn as code
use Rattle.hier_model.specs.declared.walk.walk.Turn.TheVariants.{Keeps, Opens, Closes}
pub use Rattle.hier_model.specs.WalkNames.{texts}
use Rattle.hier_model.specs.Visits.{Turn, keeps, opens, closes, Visit, visit, item_visits, visits, item_passes, has_levels}

-- the occurrence of a frame, behind that of the one below it
abbrev pub at_of : List (List ℕ) → Frame → List (List ℕ)
at_of at f = option_map_or (λ (o : Opened). at ++ o.instance.now.name ∷ []) f.opened at

-- what comes once the frame's items are gone through
abbrev pub closing : List (List ℕ) → Frame → List Visit
closing at f = option_map_or (λ (o : Opened). visit at o.parent.now (closes o.instance.now f.within.now) ∷ []) f.opened []

-- what is left of these items
abbrev pub items_left : ℕ → List Module → List (List ℕ) → Module → List Item → List Visit
items_left levels modules at m left = flat_map (item_visits (λ a c. visits levels modules a c) modules at m) left

-- what is left, the last frame's first
abbrev pub left_of : ℕ → List Module → List (List ℕ) → List Frame → List Visit
left_of levels modules at [] = []
left_of zero modules at (f ∷ fs) = []
left_of (suc levels) modules at (f ∷ fs) = left_of levels modules (at_of at f) fs ++ (items_left levels modules (at_of at f) f.within.now f.left.now ++ closing at f)

-- the occurrence of the last frame
abbrev pub path_of : List (List ℕ) → List Frame → List (List ℕ)
path_of at [] = at
path_of at (f ∷ fs) = path_of (at_of at f) fs

-- the levels suffice for what is left
abbrev pub Fits : ℕ → List Module → List Frame → Type 0
Fits levels modules [] = Unit {0}
Fits zero modules (f ∷ fs) = ⊥
Fits (suc levels) modules (f ∷ fs) = IsTrue (list_all (item_passes (λ c. has_levels levels modules c) modules) f.left.now) × Fits levels modules fs

-- each frame but the first was opened
abbrev pub OpenedBehind : List Frame → Type 0
OpenedBehind [] = Unit {0}
OpenedBehind (f ∷ fs) = (f.opened ≡ None) × AllByRecursion (λ (g : Frame). IsSome g.opened) fs

pub record Walks (levels : ℕ) (w : Walk) : Type 0 where
  pub fits : Fits levels w.modules.now w.frames.items
  pub behind : OpenedBehind w.frames.items
  pub path_is : texts w.path.items ≡ path_of [] w.frames.items

abbrev pub left_in : ℕ → Walk → List Visit
left_in levels w = left_of levels w.modules.now [] w.frames.items

abbrev pub turn_of : code.Turn → Turn
turn_of (Keeps i) = keeps i.now
turn_of (Opens i m) = opens i.now m.now
turn_of (Closes i m) = closes i.now m.now

-- a step as a visit, where the walk's path is this
abbrev pub visit_of : List (List ℕ) → Step → Visit
visit_of path s = visit (take s.depth path) s.within.now (turn_of s.turn)

-- where the path stands behind a visit
abbrev pub path_after : List (List ℕ) → Turn → List (List ℕ)
path_after at (keeps i) = at
path_after at (opens i child) = at ++ i.name ∷ []
path_after at (closes i child) = at

-- What comes next was the first that was left.
pub data Goes (levels : ℕ) (old new : Walk) : Option Step → Type 0 where
  ended : left_in levels old ≡ [] → Goes levels old new None
  went : {s : Step} → left_in levels old ≡ visit_of (texts new.path.items) s ∷ left_in levels new → Walks levels new
      → texts new.path.items ≡ path_after (take s.depth (texts new.path.items)) (turn_of s.turn) → Goes levels old new (Some s)

pub record Begins (modules : List Module) (top : Module) (w : Walk) : Type 0 where
  pub modules_are : w.modules.now ≡ modules
  pub walks : (levels : ℕ) → IsTrue (has_levels levels modules top) → Walks levels w
  pub all : (levels : ℕ) → IsTrue (has_levels levels modules top) → left_in levels w ≡ visits levels modules [] top

-- own: a step of every walk that has these modules, this path, and these frames with one more behind them
abbrev pub GoesFrom : Walk → Frame → Walk → Option Step → Type 0
GoesFrom before frame after step = (levels : ℕ) (old : Walk) → Walks levels old → old.modules.now ≡ before.modules.now → old.path.items ≡ before.path.items
    → old.frames.items ≡ before.frames.items ++ frame ∷ [] → Goes levels old after step
