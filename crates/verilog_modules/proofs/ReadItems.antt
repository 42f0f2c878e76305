-- The loop over the items of a module, against their reading.
use Rattle.std.proofs.Common.{◌≡◌, ℕ, suc, zero, Bool, true, false, ◌<◌, List, [], ◌∷◌, ◌++◌, length, Option, Some, None, is_some, cond, refl, sym, ap, subst, ◌∙◌, arith, append_assoc, append-nil, Result, Ok, Err, IsErrAnd}
use Rattle.std.specs.Option.{option_map_or}
use Rattle.std.specs.List.{flat_map}
use Rattle.verilog_lexicon.specs.declared.word.Word.{Word}
use Rattle.verilog_lexicon.specs.Words.{front, rest}
use Rattle.verilog_tree.specs.declared.tree.Port.{Port}
use Rattle.verilog_tree.specs.Sources.{ItemSource}
use Rattle.verilog_tree.specs.Trees.{declared_by, item_wires, item_items}
use Rattle.verilog_tree.specs.Reader.{Read, done, fault, after, item_at, items_from, is_end, is_none_left, left_after}
use Rattle.verilog_modules.specs.declared.fault.ParseFault.{ParseFault}
use Rattle.verilog_modules.specs.declared.fault.ParseFault.TheVariants as error
use Rattle.verilog_modules.specs.declared.items.Body.{Body}
use Rattle.verilog_modules.specs.Tables.{Tracks}
use Rattle.verilog_modules.specs.Items.{AddsItem, AddsItems, GivesItem, GivesBody}

some_there : {X : Type 0} (o : Option X) → is_some o ≡ true → (x : X) × (o ≡ Some x)
some_there None h = absurd (cc)
some_there (Some x) h = (x, refl)

none_there : {X : Type 0} (o : Option X) → is_some o ≡ false → o ≡ None
none_there None h = refl
none_there (Some x) h = absurd (cc)

-- A word that is seen is there.
pub length-front : {X : Type 0} (view : Word → Option X) (ws : List Word) → is_some (front view ws) ≡ true → 0 < length ws
length-front view [] h = absurd (cc)
length-front view (w ∷ ws) h = omega arith

-- The loop stands at ws, and the items that it still reads complete the module's.
pub record ReadsOn (ports : List Port) (old now : Body) (ws : List Word) (all : Read (List ItemSource)) : Type 0 where
  pub names_left : List (List ℕ)
  pub declared : List Port
  pub fuel : ℕ
  pub enough : length ws < fuel
  pub tracks : Tracks names_left declared now.declarations
  pub complete : (new : Body) (left : List Word) → AddsItems declared now new left (items_from fuel names_left ws) → AddsItems ports old new left all
  pub faulty : (left : List Word) → items_from fuel names_left ws ≡ (None, left) → all ≡ (None, left)

pub reads_on-start : (names : List (List ℕ)) (ports : List Port) (old : Body) (ws : List Word) → Tracks names ports old.declarations → ReadsOn ports old old ws (items_from (suc (length ws)) names ws)
reads_on-start names ports old ws tracks = record {
  names_left = names;
  declared = ports;
  fuel = suc (length ws);
  enough = omega arith;
  tracks = tracks;
  complete = λ new left d. d;
  faulty = λ left h. h;
}

-- what is read where the module doesn't end
items_from-item : (fuel : ℕ) (names_left : List (List ℕ)) (ws : List Word) (read : Read ItemSource) → is_some (front is_end ws) ≡ false → item_at names_left ws ≡ read
    → items_from (suc fuel) names_left ws ≡ after read (λ item a. after (items_from fuel (left_after item names_left) a) (λ items b. done (item ∷ items) b))
items_from-item fuel names_left ws read absent is =
    ap (λ (o : Option (Unit {0})). option_map_or (λ _. cond (is_none_left names_left) (done [] (rest ws)) (fault ws)) o (after (item_at names_left ws) (λ item a. after (items_from fuel (left_after item names_left) a) (λ items b. done (item ∷ items) b)))) (none_there (front is_end ws) absent)
    ∙ ap (λ (r : Read ItemSource). after r (λ item a. after (items_from fuel (left_after item names_left) a) (λ items b. done (item ∷ items) b))) is

-- what is read where it ends
items_from-end : (fuel : ℕ) (names_left : List (List ℕ)) (ws : List Word) (none : Bool) → is_some (front is_end ws) ≡ true → is_none_left names_left ≡ none → items_from (suc fuel) names_left ws ≡ cond none (done [] (rest ws)) (fault ws)
items_from-end fuel names_left ws none there is = by (some_there (front is_end ws) there)
  where
    by : (x : Unit {0}) × (front is_end ws ≡ Some x) → items_from (suc fuel) names_left ws ≡ cond none (done [] (rest ws)) (fault ws)
    by (x, e) =
        ap (λ (o : Option (Unit {0})). option_map_or (λ _. cond (is_none_left names_left) (done [] (rest ws)) (fault ws)) o (after (item_at names_left ws) (λ item a. after (items_from fuel (left_after item names_left) a) (λ items b. done (item ∷ items) b)))) e
        ∙ ap (λ (b : Bool). let r : Read (List ItemSource) = cond b (done [] (rest ws)) (fault ws) in r) is

joined : {Y : Type 0} (old now new more some : List Y) → now ≡ old ++ some → new ≡ now ++ more → new ≡ old ++ (some ++ more)
joined {Y = Y} old now new more some e f = f ∙ ap (λ (l : List Y). l ++ more) e ∙ append_assoc old some more

-- An item was read.
pub reads_on-item : (ports : List Port) (old now next : Body) (ws left : List Word) (all : Read (List ItemSource)) → (k : ReadsOn ports old now ws all) → is_some (front is_end ws) ≡ false → length left < length ws
    → AddsItem k.names_left k.declared now next left (item_at k.names_left ws) → ReadsOn ports old next left all
reads_on-item ports old now next ws left all k absent less a = by k.fuel k.enough k.complete k.faulty
  where
    by : (fuel : ℕ) → length ws < fuel → ((new : Body) (w : List Word) → AddsItems k.declared now new w (items_from fuel k.names_left ws) → AddsItems ports old new w all)
        → ((w : List Word) → items_from fuel k.names_left ws ≡ (None, w) → all ≡ (None, w)) → ReadsOn ports old next left all
    by zero enough complete faulty = absurd (omega arith)
    by (suc fuel) enough complete faulty = record {
      names_left = left_after a.item k.names_left;
      declared = k.declared ++ declared_by a.item;
      fuel = fuel;
      enough = omega arith;
      tracks = a.tracks;
      complete = λ new w m. complete new w (record {
        list = a.item ∷ m.list;
        names_left = m.names_left;
        reads = items_from-item fuel k.names_left ws (Some a.item, left) absent a.reads ∙ ap (λ (r : Read (List ItemSource)). after r (λ items b. done (a.item ∷ items) b)) m.reads;
        wires = joined now.wires next.wires new.wires (flat_map item_wires m.list) (item_wires a.item) a.wires m.wires;
        items = joined now.items next.items new.items (flat_map item_items m.list) (item_items a.item) a.items m.items;
        tracks = (let P : List Port → Type 0 = λ ps. Tracks m.names_left ps new.declarations in subst P (append_assoc k.declared (declared_by a.item) (flat_map declared_by m.list)) m.tracks);
      });
      faulty = λ w h. faulty w (items_from-item fuel k.names_left ws (Some a.item, left) absent a.reads ∙ ap (λ (r : Read (List ItemSource)). after r (λ items b. done (a.item ∷ items) b)) h);
    }

-- An item is at fault.
pub reads_on-fault : (names : List (List ℕ)) (ports : List Port) (old now next : Body) (ws left : List Word) (all : Read (List ItemSource)) (result : Result (Unit {0}) ParseFault) (e : ParseFault) → (k : ReadsOn ports old now ws all) → is_some (front is_end ws) ≡ false
    → IsErrAnd result (λ f. f ≡ e) → GivesItem k.names_left k.declared now next (Err e) left (item_at k.names_left ws) → GivesBody names ports old next result left all
reads_on-fault names ports old now next ws left all (Ok x) e k absent same read = absurd same
reads_on-fault names ports old now next ws left all (Err error.OutOfMemory) e k absent same read = tt
reads_on-fault names ports old now next ws left all (Err error.Syntax) error.OutOfMemory k absent same read = absurd (cc)
reads_on-fault names ports old now next ws left all (Err error.Syntax) error.Syntax k absent same read = by k.fuel k.enough k.faulty
  where
    by : (fuel : ℕ) → length ws < fuel → ((w : List Word) → items_from fuel k.names_left ws ≡ (None, w) → all ≡ (None, w)) → all ≡ (None, left)
    by zero enough faulty = absurd (omega arith)
    by (suc fuel) enough faulty = faulty left (items_from-item fuel k.names_left ws (None, left) absent read)

-- The module ends, and no name is left to declare.
pub reads_on-end : (ports : List Port) (old now : Body) (ws : List Word) (all : Read (List ItemSource)) → (k : ReadsOn ports old now ws all) → is_some (front is_end ws) ≡ true → is_none_left k.names_left ≡ true → AddsItems ports old now (rest ws) all
reads_on-end ports old now ws all k there none = by k.fuel k.enough k.complete
  where
    by : (fuel : ℕ) → length ws < fuel → ((new : Body) (w : List Word) → AddsItems k.declared now new w (items_from fuel k.names_left ws) → AddsItems ports old new w all) → AddsItems ports old now (rest ws) all
    by zero enough complete = absurd (omega arith)
    by (suc fuel) enough complete = complete now (rest ws) (record {
      list = [];
      names_left = k.names_left;
      reads = items_from-end fuel k.names_left ws true there none;
      wires = sym (append-nil now.wires);
      items = sym (append-nil now.items);
      tracks = (let P : List Port → Type 0 = λ ps. Tracks k.names_left ps now.declarations in subst P (sym (append-nil k.declared)) k.tracks);
    })

-- It ends, and some name is left.
pub reads_on-open : (ports : List Port) (old now : Body) (ws : List Word) (all : Read (List ItemSource)) → (k : ReadsOn ports old now ws all) → is_some (front is_end ws) ≡ true → is_none_left k.names_left ≡ false → all ≡ (None, ws)
reads_on-open ports old now ws all k there some = by k.fuel k.enough k.faulty
  where
    by : (fuel : ℕ) → length ws < fuel → ((w : List Word) → items_from fuel k.names_left ws ≡ (None, w) → all ≡ (None, w)) → all ≡ (None, ws)
    by zero enough faulty = absurd (omega arith)
    by (suc fuel) enough faulty = faulty ws (items_from-end fuel k.names_left ws false there some)
