-- The items of a module are read from their words alone, and each fault begins such items.
use Rattle.std.proofs.Common.{◌≡◌, ℕ, suc, zero, ◌<◌, ◌≤◌, Bool, true, false, ◌&&◌, ◌||◌, IsTrue, cond, List, [], ◌∷◌, ◌++◌, length, Option, Some, None, refl, sym, ap, ◌∙◌, arith, append_assoc, length-append, inl, inr}
use Rattle.std.specs.List.{list_all, list_any, flat_map}
use Rattle.std.specs.Option.{option_map_or}
use Rattle.std.specs.Str.{bytes_eq}
use Rattle.verilog_lexicon.proofs.list_laws.Options.{none_some}
use Rattle.verilog_lexicon.proofs.list_laws.Bytes.{bytes_eq-same}
use Rattle.verilog_lexicon.specs.declared.word.Word.{Word}
use Rattle.verilog_lexicon.specs.declared.word.Word.TheVariants as word
use Rattle.verilog_lexicon.specs.declared.reserved.Reserved.{Reserved}
use Rattle.verilog_lexicon.specs.declared.reserved.Reserved.TheVariants as key
use Rattle.verilog_lexicon.specs.declared.symbol.Symbol.TheVariants.{LeftBracket, Semicolon}
use Rattle.verilog_lexicon.specs.Words.{front, rest}
use Rattle.verilog_tree.specs.declared.tree.Dir.{Dir}
use Rattle.verilog_tree.specs.declared.tree.Dir.TheVariants as dir
use Rattle.verilog_tree.specs.declared.tree.Range.{Range}
use Rattle.verilog_tree.specs.declared.tree.GateKind.{GateKind}
use Rattle.verilog_tree.specs.declared.tree.Port.{Port}
use Rattle.verilog_tree.specs.Sources.{DeclarationHead, InstanceSource, ItemSource, directions, wires, assigns, gates, instances}
use Rattle.verilog_tree.specs.WrittenWords.{key_of_dir, key_of_gate, each_after_comma, optional_words, name_words, range_words, head_words, assign_words, gate_words, instance_words, item_words}
use Rattle.verilog_tree.specs.Trees.{declared_by, declares_from, declares_all, item_fits}
use Rattle.verilog_tree.specs.declared.reading.heads.ItemHead.{ItemHead}
use Rattle.verilog_tree.specs.declared.reading.heads.ItemHead.TheVariants as head
use Rattle.verilog_tree.specs.Heads.{item_head_of}
use Rattle.verilog_tree.specs.Reader.{Read, done, fault, after, close, is_none_left, directions_at, wires_at, assigns_at, gates_at, instances_at, item_head_in, item_behind, item_at, left_after, is_end, items_from, items_at}
use Rattle.verilog_tree.proofs.Readers.{Law, Seen, Then, Behind, EitherWay, Way, law_weaker, law_done, law_map, law_after, law_word, law_ways, law_fault, law_enough}
use Rattle.verilog_tree.proofs.ReadingLists.{name_seen, and_true, Listed, law_optional, law_some, law_closed}
use Rattle.verilog_tree.proofs.Parts.{free, some_name, range_law, name_law, head_law, assign_law, gate_fits, gate_law, instance_law}
use Rattle.verilog_tree.proofs.Declared.{length-close, declares_all-append, declares_from-append, Names, law_declared}

-- an item where these names are left to declare
abbrev pub Item : List (List ℕ) → ItemSource → List Word → Type 0
Item left i p = (p ≡ item_words i) × IsTrue (item_fits i) × IsTrue (declares_from left (declared_by i))

-- the same, of the words behind its first
abbrev pub Tail : Word → List (List ℕ) → ItemSource → List Word → Type 0
Tail w left i p = Item left i (w ∷ p)

directions_law : (d : Dir) (left : List (List ℕ)) → is_none_left left ≡ false → Law ItemSource (λ ws. directions_at d left ws) (Tail (word.Reserved (key_of_dir d)) left)
unfolding directions_at
directions_law d left e =
    law_weaker (law_after (head_law d) (λ h. law_closed (λ list. directions h list.0 list.1) (law_declared left e))) spelled
  where
    spelled : (i : ItemSource) (p : List Word) → Then (λ (h : DeclarationHead) q. word.Reserved (key_of_dir d) ∷ q ≡ head_words h) (λ h y q. (list : List ℕ × List (List ℕ)) × (a : List Word) × Names left list a × (y ≡ directions h list.0 list.1) × (q ≡ a ++ word.Symbol Semicolon ∷ [])) i p → Tail (word.Reserved (key_of_dir d)) left i p
    spelled i p (h, a, b, s, (list, c, t, is, f), join) = (
      rw (is, join, f, t.0) (ap (λ (q : List Word). q ++ word.Name list.0 ∷ (each_after_comma name_words list.1 ++ word.Symbol Semicolon ∷ [])) s ∙ sym (append_assoc (head_words h) (word.Name list.0 ∷ each_after_comma name_words list.1) (word.Symbol Semicolon ∷ []))),
      rw is refl,
      rw is (t.1 h),
    )

wires_law : (left : List (List ℕ)) → Law ItemSource (λ ws. wires_at ws) (Tail (word.Reserved key.Wire) left)
unfolding wires_at
wires_law left = law_weaker (law_after (law_optional LeftBracket range_words range_law) (λ range. law_closed (λ list. wires range list.0 list.1) (law_some name_words free name_law))) spelled
  where
    spelled : (i : ItemSource) (p : List Word) → Then (λ (range : Option Range) q. q ≡ optional_words range_words range) (λ range y q. (list : List ℕ × List (List ℕ)) × (a : List Word) × Listed name_words free list a × (y ≡ wires range list.0 list.1) × (q ≡ a ++ word.Symbol Semicolon ∷ [])) i p → Tail (word.Reserved key.Wire) left i p
    spelled i p (range, a, b, s, (list, c, t, is, f), join) = (rw (is, join, f, t.0, s) (simp append_assoc), rw is refl, rw is refl)

assigns_law : (left : List (List ℕ)) → Law ItemSource (λ ws. assigns_at ws) (Tail (word.Reserved key.Assign) left)
unfolding assigns_at
assigns_law left = law_weaker (law_closed (λ list. assigns list.0 list.1) (law_some assign_words free assign_law)) (λ i p h. (rw (h.3, h.4, h.2.0) refl, rw h.3 refl, rw h.3 refl))

gates_law : (kind : GateKind) (left : List (List ℕ)) → Law ItemSource (λ ws. gates_at kind ws) (Tail (word.Reserved (key_of_gate kind)) left)
unfolding gates_at
gates_law kind left = law_weaker (law_closed (λ list. gates kind list.0 list.1) (law_some gate_words (gate_fits kind) (gate_law kind))) (λ i p h. (rw (h.3, h.4, h.2.0) refl, rw h.3 h.2.1, rw h.3 refl))

instances_law : (left : List (List ℕ)) → Law ItemSource (λ ws. instances_at ws) (Item left)
unfolding instances_at
instances_law left = law_weaker (law_word name_seen some_name (λ cell. law_closed (λ list. instances cell list.0 list.1) (law_some instance_words free instance_law))) spelled
  where
    spelled : (i : ItemSource) (p : List Word) → Behind (λ (name : List ℕ). word.Name name) (λ cell y q. (list : InstanceSource × List InstanceSource) × (a : List Word) × Listed instance_words free list a × (y ≡ instances cell list.0 list.1) × (q ≡ a ++ word.Symbol Semicolon ∷ [])) i p → Item left i p
    spelled i p (cell, b, (list, c, t, is, f), e) = (rw (is, e, f, t.0) refl, rw is refl, rw is refl)

-- The first word of an item.

abbrev key_of_head : ItemHead → Reserved
key_of_head (head.Direction d) = key_of_dir d
key_of_head head.Wire = key.Wire
key_of_head head.Assign = key.Assign
key_of_head (head.Gate kind) = key_of_gate kind
key_of_head head.End = key.Endmodule

item_head_only : (k : Reserved) (h : ItemHead) → item_head_of k ≡ Some h → k ≡ key_of_head h
item_head_only key.Input h e = ap (λ (z : Option ItemHead). option_map_or key_of_head z key.Input) e
item_head_only key.Output h e = ap (λ (z : Option ItemHead). option_map_or key_of_head z key.Output) e
item_head_only key.Inout h e = ap (λ (z : Option ItemHead). option_map_or key_of_head z key.Inout) e
item_head_only key.Wire h e = ap (λ (z : Option ItemHead). option_map_or key_of_head z key.Wire) e
item_head_only key.Assign h e = ap (λ (z : Option ItemHead). option_map_or key_of_head z key.Assign) e
item_head_only key.And h e = ap (λ (z : Option ItemHead). option_map_or key_of_head z key.And) e
item_head_only key.Or h e = ap (λ (z : Option ItemHead). option_map_or key_of_head z key.Or) e
item_head_only key.Nand h e = ap (λ (z : Option ItemHead). option_map_or key_of_head z key.Nand) e
item_head_only key.Nor h e = ap (λ (z : Option ItemHead). option_map_or key_of_head z key.Nor) e
item_head_only key.Xor h e = ap (λ (z : Option ItemHead). option_map_or key_of_head z key.Xor) e
item_head_only key.Xnor h e = ap (λ (z : Option ItemHead). option_map_or key_of_head z key.Xnor) e
item_head_only key.Buf h e = ap (λ (z : Option ItemHead). option_map_or key_of_head z key.Buf) e
item_head_only key.Not h e = ap (λ (z : Option ItemHead). option_map_or key_of_head z key.Not) e
item_head_only key.Bufif0 h e = ap (λ (z : Option ItemHead). option_map_or key_of_head z key.Bufif0) e
item_head_only key.Bufif1 h e = ap (λ (z : Option ItemHead). option_map_or key_of_head z key.Bufif1) e
item_head_only key.Endmodule h e = ap (λ (z : Option ItemHead). option_map_or key_of_head z key.Endmodule) e
item_head_only _ h e = none_some e

item_head_is : (w : Word) (h : ItemHead) → item_head_in w ≡ Some h → w ≡ word.Reserved (key_of_head h)
item_head_is (word.Name n) h e = none_some e
item_head_is (word.Reserved k) h e = ap (λ (z : Reserved). word.Reserved z) (item_head_only k h e)
item_head_is (word.Number v) h e = none_some e
item_head_is (word.Const v) h e = none_some e
item_head_is (word.Symbol s) h e = none_some e

item_head_seen : Seen ItemHead item_head_in (λ h. word.Reserved (key_of_head h))
item_head_seen = record { is = item_head_is }

direction_way : (d : Dir) (left : List (List ℕ)) (b : Bool) → is_none_left left ≡ b → Way ItemSource (λ ws. cond b (fault ws) (directions_at d left (rest ws))) (Tail (word.Reserved (key_of_dir d)) left)
direction_way d left true e = inr (λ ws. refl)
direction_way d left false e = inl (λ ws. directions_at d left ws, λ ws. refl, directions_law d left e)

item_way : (left : List (List ℕ)) (h : ItemHead) → Way ItemSource (λ ws. item_behind h left ws) (Tail (word.Reserved (key_of_head h)) left)
unfolding item_behind
item_way left (head.Direction d) = direction_way d left (is_none_left left) refl
item_way left head.Wire = inl (λ ws. wires_at ws, λ ws. refl, wires_law left)
item_way left head.Assign = inl (λ ws. assigns_at ws, λ ws. refl, assigns_law left)
item_way left (head.Gate kind) = inl (λ ws. gates_at kind ws, λ ws. refl, gates_law kind left)
item_way left head.End = inr (λ ws. refl)

pub item_law : (left : List (List ℕ)) → Law ItemSource (λ ws. item_at left ws) (Item left)
unfolding item_at
item_law left = law_weaker (law_ways item_head_seen (item_way left) (instances_law left)) spelled
  where
    spelled : (i : ItemSource) (p : List Word) → EitherWay (λ (h : ItemHead). word.Reserved (key_of_head h)) (λ h. Tail (word.Reserved (key_of_head h)) left) (Item left) i p → Item left i p
    spelled i p (inl (h, b, s, e)) = (e ∙ s.0, s.1, s.2)
    spelled i p (inr s) = s

-- Items up to the end of the module.

abbrev pub Items : List (List ℕ) → List ItemSource → List Word → Type 0
Items left is p = (p ≡ flat_map item_words is ++ word.Reserved key.Endmodule ∷ []) × IsTrue (list_all item_fits is) × IsTrue (declares_from left (flat_map declared_by is)) × IsTrue (declares_all left (flat_map declared_by is))

declared_first : (left : List (List ℕ)) (i : ItemSource) (ports : List Port) → IsTrue (declares_from left (declared_by i)) → IsTrue (declares_from (left_after i left) ports) → IsTrue (declares_from left (declared_by i ++ ports))
declared_first left (directions h first more) ports e f = declares_from-append h (first ∷ more) left ports e f
declared_first left (wires range first more) ports e f = f
declared_first left (assigns first more) ports e f = f
declared_first left (gates kind first more) ports e f = f
declared_first left (instances cell first more) ports e f = f

declared_all : (left : List (List ℕ)) (i : ItemSource) (ports : List Port) → IsTrue (declares_all (left_after i left) ports) → IsTrue (declares_all left (declared_by i ++ ports))
declared_all left (directions h first more) ports f = declares_all-append h (first ∷ more) left ports f
declared_all left (wires range first more) ports f = f
declared_all left (assigns first more) ports f = f
declared_all left (gates kind first more) ports f = f
declared_all left (instances cell first more) ports f = f

items_more : (left : List (List ℕ)) (i : ItemSource) (is : List ItemSource) (a b : List Word) → Item left i a → Items (left_after i left) is b → Items left (i ∷ is) (a ++ b)
items_more left i is a b s t = (
  rw (s.0, t.0) (sym (append_assoc (item_words i) (flat_map item_words is) (word.Reserved key.Endmodule ∷ []))),
  and_true s.1 t.1,
  declared_first left i (flat_map declared_by is) s.2 t.2,
  declared_all left i (flat_map declared_by is) t.3,
)

-- the names that are left can be declared, one by one
abbrev declaration_of : List ℕ → ItemSource
declaration_of name = directions (record { dir = dir.Input; wire = false; range = None }) name []

some_items : (n : ℕ) (left : List (List ℕ)) → length left ≤ n → (is : List ItemSource) × (p : List Word) × Items left is p
some_items n [] short = ([], word.Reserved key.Endmodule ∷ [], (refl, refl, refl, refl))
some_items zero (name ∷ more) short = absurd (omega arith)
some_items (suc n) (name ∷ more) short =
    let later = some_items n (close name (name ∷ more)) (omega (arith, length-close name more)) in
    let i : ItemSource = declaration_of name in
    (i ∷ later.0, item_words i ++ later.1, items_more (name ∷ more) i later.0 (item_words i) later.1 (refl, refl, ap (λ (b : Bool). (b || list_any (bytes_eq name) more) && true) (bytes_eq-same name)) later.2)

end_only : (k : Reserved) (x : Unit {0}) → is_end (word.Reserved k) ≡ Some x → k ≡ key.Endmodule
end_only key.Endmodule x h = refl
end_only _ x h = none_some h

end_is : (w : Word) (x : Unit {0}) → is_end w ≡ Some x → w ≡ word.Reserved key.Endmodule
end_is (word.Name n) x h = none_some h
end_is (word.Reserved k) x h = ap (λ (z : Reserved). word.Reserved z) (end_only k x h)
end_is (word.Number v) x h = none_some h
end_is (word.Const v) x h = none_some h
end_is (word.Symbol s) x h = none_some h

end_seen : Seen (Unit {0}) is_end (λ _. word.Reserved key.Endmodule)
end_seen = record { is = end_is }

end_way : (left : List (List ℕ)) (b : Bool) → is_none_left left ≡ b → Way (List ItemSource) (λ ws. cond b (done [] (rest ws)) (fault ws)) (λ is p. (is ≡ []) × (p ≡ []) × (is_none_left left ≡ true))
end_way left true e = inl (λ ws. done [] ws, λ ws. refl, law_weaker (law_done []) (λ is p s. (s.0, s.1, e)))
end_way left false e = inr (λ ws. refl)

none_left : (left : List (List ℕ)) → is_none_left left ≡ true → left ≡ []
none_left [] e = refl
none_left (name ∷ more) e = cc

law_items_n : (n : ℕ) (left : List (List ℕ)) → Law (List ItemSource) (λ ws. items_from n left ws) (Items left)
law_items_n zero left = law_fault (some_items (length left) left (omega arith))
law_items_n (suc n) left =
    law_weaker (law_ways end_seen (λ _. end_way left (is_none_left left) refl) (law_after (item_law left) (λ i. law_map (λ is. i ∷ is) (law_items_n n (left_after i left))))) spelled
  where
    spelled : (is : List ItemSource) (p : List Word) → EitherWay (λ (u : Unit {0}). word.Reserved key.Endmodule) (λ u y q. (y ≡ []) × (q ≡ []) × (is_none_left left ≡ true)) (Then (Item left) (λ i y q. (later : List ItemSource) × Items (left_after i left) later q × (y ≡ i ∷ later))) is p → Items left is p
    spelled is p (inl (u, b, (e, nil, none), f)) = rw (e, f, nil, none_left left none) (refl, refl, refl, refl)
    spelled is p (inr (i, a, b, s, (later, t, e), join)) = rw (e, join) (items_more left i later a b s t)

pub item_takes : (i : ItemSource) → 0 < length (item_words i)
item_takes (directions h first more) = omega arith
item_takes (wires range first more) = omega arith
item_takes (assigns first more) = omega arith
item_takes (gates kind first more) = omega arith
item_takes (instances cell first more) = omega arith

item_shorter : (left : List (List ℕ)) (ws : List Word) (i : ItemSource) (a : List Word) → item_at left ws ≡ (Some i, a) → length a < length ws
item_shorter left ws i a h =
    let s = (item_law left).sound ws i a h in
    omega (arith, item_takes i, ap (λ (l : List Word). length l) s.1, ap (λ (l : List Word). length l) s.2.0, length-append s.0 a)

items_from_enough : (m n : ℕ) (left : List (List ℕ)) (ws : List Word) → suc (length ws) ≤ m → suc (length ws) ≤ n → items_from m left ws ≡ items_from n left ws
items_from_enough zero n left ws a b = absurd (omega arith)
items_from_enough (suc m) zero left ws a b = absurd (omega arith)
items_from_enough (suc m) (suc n) left ws a b = go (front is_end ws) (item_at left ws) refl (λ open_names l short. items_from_enough m n open_names l (omega arith) (omega arith))
  where
    read_by : ℕ → Option (Unit {0}) → Read ItemSource → Read (List ItemSource)
    read_by k o read = option_map_or (λ _. cond (is_none_left left) (done [] (rest ws)) (fault ws)) o (after read (λ i c. after (items_from k (left_after i left) c) (λ is d. done (i ∷ is) d)))

    go : (o : Option (Unit {0})) (read : Read ItemSource) → item_at left ws ≡ read → ((open_names : List (List ℕ)) (l : List Word) → length l < length ws → items_from m open_names l ≡ items_from n open_names l) → read_by m o read ≡ read_by n o read
    go (Some u) read e again = refl
    go None (None, c) e again = refl
    go None (Some i, c) e again = ap (λ (z : Read (List ItemSource)). after z (λ is d. done (i ∷ is) d)) (again (left_after i left) c (item_shorter left ws i c e))

pub items_law : (left : List (List ℕ)) → Law (List ItemSource) (λ ws. items_at left ws) (Items left)
unfolding items_at
items_law left = law_enough (λ n ws. items_from n left ws) (λ ws. suc (length ws)) (λ n. law_items_n n left) (λ m n ws a b. items_from_enough m n left ws a b)
