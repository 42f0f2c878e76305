-- The words of items, and of a whole module, are read as them.
use Rattle.std.proofs.Common.{◌≡◌, ℕ, suc, zero, ◌<◌, Bool, true, false, ◌&&◌, ◌||◌, not, IsTrue, cond, List, [], ◌∷◌, ◌++◌, length, map, Option, Some, None, refl, sym, ap, ◌∙◌, arith, append_assoc, append-nil, length-append}
use Rattle.std.specs.List.{list_all, list_any, flat_map}
use Rattle.std.specs.Str.{bytes_eq}
use Rattle.verilog_lexicon.proofs.list_laws.Options.{none_some}
use Rattle.verilog_lexicon.proofs.list_laws.Tests.{and_left, and_right}
use Rattle.verilog_lexicon.specs.declared.word.Word.{Word}
use Rattle.verilog_lexicon.specs.declared.word.Word.TheVariants as word
use Rattle.verilog_lexicon.specs.declared.reserved.Reserved.TheVariants as key
use Rattle.verilog_lexicon.specs.declared.symbol.Symbol.TheVariants.{LeftBracket, Semicolon}
use Rattle.verilog_lexicon.specs.Words.{front}
use Rattle.verilog_tree.specs.declared.tree.Dir.{Dir}
use Rattle.verilog_tree.specs.declared.tree.Dir.TheVariants as dir
use Rattle.verilog_tree.specs.declared.tree.Range.{Range}
use Rattle.verilog_tree.specs.declared.tree.GateKind.{GateKind}
use Rattle.verilog_tree.specs.declared.tree.GateKind.TheVariants as gate
use Rattle.verilog_tree.specs.declared.tree.Port.{Port}
use Rattle.verilog_tree.specs.Sources.{DeclarationHead, AssignSource, GateSource, InstanceSource, ItemSource, directions, wires, assigns, gates, instances, Source}
use Rattle.verilog_tree.specs.WrittenWords.{key_of_dir, key_of_gate, each_after_comma, optional_words, name_words, range_words, wire_words, header_words, assign_words, gate_words, instance_words, item_words, source_words}
use Rattle.verilog_tree.specs.Trees.{port_of, has_name, declared_by, declares_from, declares_all, header_names, item_fits, IsSource}
use Rattle.verilog_tree.specs.declared.reading.heads.ItemHead.TheVariants as head
use Rattle.verilog_tree.specs.Reader.{Read, done, close, close_all, is_none_left, declared_at, directions_at, wires_at, range_at, assign_at, assigns_at, gate_at, gates_at, instance_at, instances_at, item_head_in, item_behind, item_at, left_after, is_end, items_from, items_at, module_at, source_at}
use Rattle.verilog_tree.specs.ReadingLaws.{ReadsEachSource, SpellsOneSource, FaultsSpellNothing}
use Rattle.verilog_tree.proofs.Readers.{got}
use Rattle.verilog_tree.proofs.ReadingLists.{and_true}
use Rattle.verilog_tree.proofs.Parts.{free, gate_fits}
use Rattle.verilog_tree.proofs.Items.{item_takes}
use Rattle.verilog_tree.proofs.Complete.{Any, No, optional_again, some_again, all_free, each_long, names_again, range_again, head_again, header_again, assign_again, gate_again, instance_again}

-- What is declared.

-- after a name, all that was left is still declared
declared_close : (name : List ℕ) (port : Port) (ports : List Port) (left : List (List ℕ)) → port.name ≡ name → IsTrue (declares_all left (port ∷ ports)) → IsTrue (declares_all (close name left) ports)
declared_close name port ports [] is h = refl
declared_close name port ports (x ∷ xs) is h = go (bytes_eq name x) (rw is at h) (declared_close name port ports xs is)
  where
    go : (b : Bool) → IsTrue ((b || list_any (has_name x) ports) && declares_all xs (port ∷ ports)) → (IsTrue (declares_all xs (port ∷ ports)) → IsTrue (declares_all (close name xs) ports)) → IsTrue (declares_all (cond (not b) (x ∷ close name xs) (close name xs)) ports)
    go true e again = again e
    go false e again = and_true (and_left _ _ e) (again (and_right _ _ e))

declared_close_all : (h : DeclarationHead) (names left : List (List ℕ)) (ports : List Port) → IsTrue (declares_all left (map (port_of h) names ++ ports)) → IsTrue (declares_all (close_all names left) ports)
declared_close_all h [] left ports e = e
declared_close_all h (name ∷ more) left ports e = declared_close_all h more (close name left) ports (declared_close name (port_of h name) (map (port_of h) more ++ ports) left refl e)

declares_close_all : (h : DeclarationHead) (names left : List (List ℕ)) (ports : List Port) → IsTrue (declares_from left (map (port_of h) names ++ ports)) → IsTrue (declares_from left (map (port_of h) names)) × IsTrue (declares_from (close_all names left) ports)
declares_close_all h [] left ports e = (refl, e)
declares_close_all h (name ∷ more) left ports e =
    let t = declares_close_all h more (close name left) ports (and_right _ _ e) in
    (and_true (and_left _ _ e) t.0, t.1)

declares_item : (left : List (List ℕ)) (i : ItemSource) (ports : List Port) → IsTrue (declares_from left (declared_by i ++ ports)) → IsTrue (declares_from left (declared_by i)) × IsTrue (declares_from (left_after i left) ports)
declares_item left (directions h first more) ports e = declares_close_all h (first ∷ more) left ports e
declares_item left (wires range first more) ports e = (refl, e)
declares_item left (assigns first more) ports e = (refl, e)
declares_item left (gates kind first more) ports e = (refl, e)
declares_item left (instances cell first more) ports e = (refl, e)

declared_item : (left : List (List ℕ)) (i : ItemSource) (ports : List Port) → IsTrue (declares_all left (declared_by i ++ ports)) → IsTrue (declares_all (left_after i left) ports)
declared_item left (directions h first more) ports e = declared_close_all h (first ∷ more) left ports e
declared_item left (wires range first more) ports e = e
declared_item left (assigns first more) ports e = e
declared_item left (gates kind first more) ports e = e
declared_item left (instances cell first more) ports e = e

some_left : (name : List ℕ) (left : List (List ℕ)) → IsTrue (list_any (bytes_eq name) left) → is_none_left left ≡ false
some_left name [] e = cc
some_left name (x ∷ xs) e = refl

none_left : (left : List (List ℕ)) → IsTrue (declares_all left []) → is_none_left left ≡ true
none_left [] e = refl
none_left (x ∷ xs) e = cc

abbrev names_of : List ℕ → List (List ℕ) → List ℕ × List (List ℕ)
names_of name more = (name, more)

declared_again : (h : DeclarationHead) (first : List ℕ) (more : List (List ℕ)) (left : List (List ℕ)) (end : List Word) (n : ℕ) → length more < n → IsTrue (declares_from left (map (port_of h) (first ∷ more))) → declared_at n left (word.Name first ∷ (each_after_comma name_words more ++ word.Symbol Semicolon ∷ end)) ≡ (Some (first, more), word.Symbol Semicolon ∷ end)
declared_again h first more left end zero enough e = absurd (omega arith)
declared_again h first [] left end (suc n) enough e =
    let first_stands : list_any (bytes_eq first) left ≡ true = and_left _ _ e in
    rw first_stands (go (is_none_left (close first left)))
  where
    go : (b : Bool) → ◌≡◌ {A = Read (List ℕ × List (List ℕ))} (cond b (done (names_of first []) (word.Symbol Semicolon ∷ end)) (done (names_of first []) (word.Symbol Semicolon ∷ end))) (Some (names_of first []), word.Symbol Semicolon ∷ end)
    go true = refl
    go false = refl
declared_again h first (x ∷ xs) left end (suc n) enough e =
    let first_stands : list_any (bytes_eq first) left ≡ true = and_left _ _ e in
    let others : IsTrue (declares_from (close first left) (map (port_of h) (x ∷ xs))) = and_right (list_any (bytes_eq first) left) (declares_from (close first left) (map (port_of h) (x ∷ xs))) e in
    let next_stands : is_none_left (close first left) ≡ false = some_left x (close first left) (and_left (list_any (bytes_eq x) (close first left)) (declares_from (close x (close first left)) (map (port_of h) xs)) others) in
    let fuel : length xs < n = omega arith in
    rw (first_stands, next_stands, declared_again h x xs (close first left) end n fuel others) refl

-- The first word of an item.

item_head_in-dir : (d : Dir) → item_head_in (word.Reserved (key_of_dir d)) ≡ Some (head.Direction d)
item_head_in-dir dir.Input = refl
item_head_in-dir dir.Output = refl
item_head_in-dir dir.Inout = refl

item_head_in-gate : (kind : GateKind) → item_head_in (word.Reserved (key_of_gate kind)) ≡ Some (head.Gate kind)
item_head_in-gate gate.And = refl
item_head_in-gate gate.Or = refl
item_head_in-gate gate.Nand = refl
item_head_in-gate gate.Nor = refl
item_head_in-gate gate.Xor = refl
item_head_in-gate gate.Xnor = refl
item_head_in-gate gate.Buf = refl
item_head_in-gate gate.Not = refl
item_head_in-gate gate.Bufif0 = refl
item_head_in-gate gate.Bufif1 = refl

is_end-dir : (d : Dir) → is_end (word.Reserved (key_of_dir d)) ≡ None
is_end-dir dir.Input = refl
is_end-dir dir.Output = refl
is_end-dir dir.Inout = refl

is_end-gate : (kind : GateKind) → is_end (word.Reserved (key_of_gate kind)) ≡ None
is_end-gate gate.And = refl
is_end-gate gate.Or = refl
is_end-gate gate.Nand = refl
is_end-gate gate.Nor = refl
is_end-gate gate.Xor = refl
is_end-gate gate.Xnor = refl
is_end-gate gate.Buf = refl
is_end-gate gate.Not = refl
is_end-gate gate.Bufif0 = refl
is_end-gate gate.Bufif1 = refl

not_end : (i : ItemSource) (left : List Word) → front is_end (item_words i ++ left) ≡ None
not_end (directions h first more) left = is_end-dir h.dir
not_end (wires range first more) left = refl
not_end (assigns first more) left = refl
not_end (gates kind first more) left = is_end-gate kind
not_end (instances cell first more) left = refl

-- Items.

wires_again : (range : Option Range) (first : List ℕ) (more : List (List ℕ)) (end : List Word) → wires_at (optional_words range_words range ++ word.Name first ∷ (each_after_comma name_words more ++ word.Symbol Semicolon ∷ end)) ≡ (Some (wires range first more), end)
unfolding wires_at
wires_again range first more end = rw (optional_again LeftBracket range_at range_words range_again range (word.Name first ∷ (each_after_comma name_words more ++ word.Symbol Semicolon ∷ end)) refl, names_again first more (word.Symbol Semicolon ∷ end) refl) refl

assigns_again : (first : AssignSource) (more : List AssignSource) (end : List Word) → assigns_at (assign_words first ++ (each_after_comma assign_words more ++ word.Symbol Semicolon ∷ end)) ≡ (Some (assigns first more), end)
unfolding assigns_at
assigns_again first more end = rw (some_again assign_at assign_words free (No LeftBracket) assign_again (λ l. refl) first more (word.Symbol Semicolon ∷ end) (all_free more) refl refl) refl

gates_again : (kind : GateKind) (first : GateSource) (more : List GateSource) (end : List Word) → IsTrue (list_all (gate_fits kind) (first ∷ more)) → gates_at kind (gate_words first ++ (each_after_comma gate_words more ++ word.Symbol Semicolon ∷ end)) ≡ (Some (gates kind first more), end)
unfolding gates_at
gates_again kind first more end fits = rw (some_again (gate_at kind) gate_words (gate_fits kind) Any (gate_again kind) (λ l. tt) first more (word.Symbol Semicolon ∷ end) fits refl tt) refl

instances_again : (cell : List ℕ) (first : InstanceSource) (more : List InstanceSource) (end : List Word) → instances_at (word.Name cell ∷ (instance_words first ++ (each_after_comma instance_words more ++ word.Symbol Semicolon ∷ end))) ≡ (Some (instances cell first more), end)
unfolding instances_at
instances_again cell first more end = rw (some_again instance_at instance_words free Any instance_again (λ l. tt) first more (word.Symbol Semicolon ∷ end) (all_free more) refl tt) refl

directions_again : (h : DeclarationHead) (first : List ℕ) (more : List (List ℕ)) (left : List (List ℕ)) (end : List Word) → IsTrue (declares_from left (map (port_of h) (first ∷ more))) → directions_at h.dir left (wire_words h.wire ++ optional_words range_words h.range ++ word.Name first ∷ (each_after_comma name_words more ++ word.Symbol Semicolon ∷ end)) ≡ (Some (directions h first more), end)
unfolding directions_at
directions_again h first more left end e =
    let each : List Word = each_after_comma name_words more ++ word.Symbol Semicolon ∷ end in
    let enough : length more < length (word.Name first ∷ each) = omega (arith, each_long name_words more (word.Symbol Semicolon ∷ end)) in
    rw (head_again h first each, declared_again h first more left end (length (word.Name first ∷ each)) enough e) refl

-- the parts of a list, and what closes them
listed : (first each end : List Word) → ((first ++ each) ++ word.Symbol Semicolon ∷ []) ++ end ≡ first ++ (each ++ word.Symbol Semicolon ∷ end)
listed first each end = simp append_assoc

item_again : (left : List (List ℕ)) (i : ItemSource) (end : List Word) → IsTrue (item_fits i) → IsTrue (declares_from left (declared_by i)) → item_at left (item_words i ++ end) ≡ (Some i, end)
unfolding item_at item_behind
item_again left (directions h first more) end fits e =
    let first_stands : list_any (bytes_eq first) left ≡ true = and_left _ _ e in
    let head : List Word = wire_words h.wire ++ optional_words range_words h.range in
    let joined : ((head ++ word.Name first ∷ each_after_comma name_words more) ++ word.Symbol Semicolon ∷ []) ++ end ≡ head ++ word.Name first ∷ (each_after_comma name_words more ++ word.Symbol Semicolon ∷ end) = simp append_assoc in
    rw (joined, item_head_in-dir h.dir, some_left first left first_stands, directions_again h first more left end e) refl
item_again left (wires range first more) end fits e =
    let joined : ((optional_words range_words range ++ word.Name first ∷ each_after_comma name_words more) ++ word.Symbol Semicolon ∷ []) ++ end ≡ optional_words range_words range ++ word.Name first ∷ (each_after_comma name_words more ++ word.Symbol Semicolon ∷ end) = simp append_assoc in
    rw (joined, wires_again range first more end) refl
item_again left (assigns first more) end fits e =
    rw (listed (assign_words first) (each_after_comma assign_words more) end, assigns_again first more end) refl
item_again left (gates kind first more) end fits e =
    rw (listed (gate_words first) (each_after_comma gate_words more) end, item_head_in-gate kind, gates_again kind first more end fits) refl
item_again left (instances cell first more) end fits e =
    rw (listed (instance_words first) (each_after_comma instance_words more) end, instances_again cell first more end) refl

items_again : (left : List (List ℕ)) (is : List ItemSource) (behind : List Word) (n : ℕ) → length is < n → IsTrue (list_all item_fits is) → IsTrue (declares_from left (flat_map declared_by is)) → IsTrue (declares_all left (flat_map declared_by is)) → items_from n left (flat_map item_words is ++ word.Reserved key.Endmodule ∷ behind) ≡ (Some is, behind)
items_again left is behind zero enough fits from all = absurd (omega arith)
items_again left [] behind (suc n) enough fits from all = rw (none_left left all) refl
items_again left (i ∷ is) behind (suc n) enough fits from all =
    let end : List Word = flat_map item_words is ++ word.Reserved key.Endmodule ∷ behind in
    let this : IsTrue (declares_from left (declared_by i)) × IsTrue (declares_from (left_after i left) (flat_map declared_by is)) = declares_item left i (flat_map declared_by is) from in
    let this_fits : IsTrue (item_fits i) = and_left _ _ fits in
    let others_fit : IsTrue (list_all item_fits is) = and_right (item_fits i) (list_all item_fits is) fits in
    let read : item_at left (item_words i ++ end) ≡ (Some i, end) = item_again left i end this_fits this.0 in
    rw (append_assoc (item_words i) (flat_map item_words is) (word.Reserved key.Endmodule ∷ behind), not_end i end, read, items_again (left_after i left) is behind n (omega arith) others_fit this.1 (declared_item left i (flat_map declared_by is) all)) refl

items_enough : (is : List ItemSource) (behind : List Word) → length is < length (flat_map item_words is ++ word.Reserved key.Endmodule ∷ behind)
items_enough [] behind = omega arith
items_enough (i ∷ is) behind =
    omega (arith, items_enough is behind, item_takes i, length-append (item_words i ++ flat_map item_words is) (word.Reserved key.Endmodule ∷ behind), length-append (item_words i) (flat_map item_words is), length-append (flat_map item_words is) (word.Reserved key.Endmodule ∷ behind))

-- A module, and what follows it.

module_joined : (s : Source) (behind : List Word) → source_words s ++ behind ≡ word.Reserved key.Module ∷ word.Name s.name ∷ (header_words s.header ++ word.Symbol Semicolon ∷ (flat_map item_words s.items ++ word.Reserved key.Endmodule ∷ behind))
module_joined s behind = simp append_assoc

pub module_again : (s : Source) (behind : List Word) → IsSource s → module_at (source_words s ++ behind) ≡ (Some s, behind)
unfolding module_at items_at
module_again s behind keeps =
    let items : List Word = flat_map item_words s.items ++ word.Reserved key.Endmodule ∷ behind in
    ap (λ (ws : List Word). module_at ws) (module_joined s behind) ∙ rw (header_again s.header items, items_again (header_names s.header) s.items behind (suc (length items)) (omega (arith, items_enough s.items behind)) keeps.fits keeps.declares keeps.complete) refl

pub reads_each_source : ReadsEachSource
unfolding source_at
reads_each_source s keeps = rw (sym (append-nil (source_words s)), module_again s [] keeps) refl

pub spells_one_source : SpellsOneSource
spells_one_source s t s_keeps t_keeps same =
    let both : ◌≡◌ {A = Read Source} (Some s, []) (Some t, []) = sym (reads_each_source s s_keeps) ∙ ap (λ (ws : List Word). source_at ws) same ∙ reads_each_source t t_keeps in
    let one : ◌≡◌ {A = Option Source} (Some s) (Some t) = got both in
    cc

pub faults_spell_nothing : FaultsSpellNothing
faults_spell_nothing ws left s h keeps is = none_some (got (sym h ∙ ap (λ (l : List Word). source_at l) is ∙ reads_each_source s keeps))
