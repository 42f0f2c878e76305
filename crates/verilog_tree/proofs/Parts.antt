-- The parts of a module are read from their words alone, and each fault begins such a part.
use Rattle.std.proofs.Common.{◌≡◌, ℕ, Bool, true, false, IsTrue, List, [], ◌∷◌, ◌++◌, length, Option, Some, None, refl, sym, ap, ◌∙◌, append_assoc, append-nil, inl, inr}
use Rattle.std.specs.Option.{option_and_then}
use Rattle.verilog_lexicon.proofs.list_laws.Options.{none_some}
use Rattle.verilog_lexicon.specs.declared.word.Word.{Word}
use Rattle.verilog_lexicon.specs.declared.word.Word.TheVariants as word
use Rattle.verilog_lexicon.specs.declared.reserved.Reserved.{Reserved}
use Rattle.verilog_lexicon.specs.declared.reserved.Reserved.TheVariants as key
use Rattle.verilog_lexicon.specs.declared.symbol.Symbol.TheVariants.{LeftParenthesis, RightParenthesis, LeftBracket, RightBracket, Colon, Comma, Dot, Equals}
use Rattle.verilog_lexicon.specs.Words.{symbol_in, reserved_in}
use Rattle.verilog_tree.specs.declared.tree.Dir.{Dir}
use Rattle.verilog_tree.specs.declared.tree.Dir.TheVariants as dir
use Rattle.verilog_tree.specs.declared.tree.Range.{Range}
use Rattle.verilog_tree.specs.declared.tree.GateKind.{GateKind}
use Rattle.verilog_tree.specs.declared.tree.GateKind.TheVariants as gate
use Rattle.verilog_tree.specs.declared.tree.Bit.{Bit}
use Rattle.verilog_tree.specs.declared.tree.Operand.{Operand}
use Rattle.verilog_tree.specs.declared.tree.Operand.TheVariants as operand
use Rattle.verilog_tree.specs.declared.tree.Link.{Link}
use Rattle.verilog_tree.specs.Sources.{DeclarationHead, PortSource, Header, absent, empty, ansi, names, AssignSource, GateSource, InstanceSource}
use Rattle.verilog_tree.specs.WrittenWords.{key_of_dir, each_after_comma, optional_words, name_words, range_words, index_words, bit_words, operand_words, head_words, port_words, header_words, assign_words, gate_words, link_words, listed_words, instance_words}
use Rattle.verilog_tree.specs.Trees.{takes_inputs, gate_inputs}
use Rattle.verilog_tree.specs.Heads.{dir_of, is_wire}
use Rattle.verilog_tree.specs.Reader.{done, after, either, some_of, symbol_at, name_at, range_at, index_at, bit_at, operand_at, head_at, dir_in, port_at, ansi_at, names_at, header_at, assign_at, inputs_at, optional_name_at, gate_at, link_at, links_at, instance_at}
use Rattle.verilog_tree.proofs.Readers.{Law, Seen, Then, Behind, EitherWay, law_weaker, law_done, law_map, law_after, law_take, law_word, law_either}
use Rattle.verilog_tree.proofs.ReadingLists.{name_seen, number_seen, const_seen, symbol_seen, Spelled, More, Listed, law_optional, law_more, law_some}

append_four : (a b c d : List Word) → a ++ (b ++ (c ++ d)) ≡ ((a ++ b) ++ c) ++ d
append_four a b c d = simp append_assoc

-- a part without a rule of its own
abbrev pub free : {X : Type 0} → X → Bool
free x = true

-- the name that completes a part
abbrev pub some_name : List ℕ
some_name = 97 ∷ []

abbrev range_of : ℕ → ℕ → Range
range_of from to = record { left = from; right = to }

pub range_law : Law Range (λ ws. range_at ws) (λ r p. word.Symbol LeftBracket ∷ p ≡ range_words r)
unfolding range_at
range_law =
    law_weaker (law_word number_seen 0 (λ from. law_word (symbol_seen Colon) tt (λ _. law_word number_seen 0 (λ to. law_word (symbol_seen RightBracket) tt (λ _. law_done (range_of from to)))))) (λ r p h. cc)

pub index_law : Law ℕ (λ ws. index_at ws) (λ i p. word.Symbol LeftBracket ∷ p ≡ index_words i)
unfolding index_at
index_law = law_weaker (law_word number_seen 0 (λ index. law_word (symbol_seen RightBracket) tt (λ _. law_done index))) (λ i p h. cc)

abbrev bit_of : List ℕ → Option ℕ → Bit
bit_of net index = record { net = net; index = index }

pub bit_law : Law Bit (λ ws. bit_at ws) (Spelled bit_words free)
unfolding bit_at
bit_law = law_weaker (law_word name_seen some_name (λ net. law_map (λ index. bit_of net index) (law_optional LeftBracket index_words index_law))) (λ b p h. (cc, refl))

pub operand_law : Law Operand (λ ws. operand_at ws) (Spelled operand_words free)
unfolding operand_at
operand_law = law_weaker (law_either const_seen (λ value. law_done (operand.Const value)) (law_map (λ b. operand.Bit b) bit_law)) spelled
  where
    spelled : (x : Operand) (p : List Word) → EitherWay (λ (value : Bool). word.Const value) (λ value y q. (y ≡ operand.Const value) × (q ≡ [])) (λ y q. (b : Bit) × Spelled bit_words free b q × (y ≡ operand.Bit b)) x p → Spelled operand_words free x p
    spelled x p (inl (value, b, (is, nil), e)) = (rw (e, nil, is) refl, refl)
    spelled x p (inr (b, s, is)) = (rw (s.0, is) refl, refl)

wire_only : (k : Reserved) (x : Unit {0}) → is_wire k ≡ Some x → k ≡ key.Wire
wire_only key.Wire x h = refl
wire_only _ x h = none_some h

pub wire_seen : Seen (Unit {0}) (λ w. option_and_then is_wire (reserved_in w)) (λ _. word.Reserved key.Wire)
wire_seen = record { is = is }
  where
    is : (w : Word) (x : Unit {0}) → option_and_then is_wire (reserved_in w) ≡ Some x → w ≡ word.Reserved key.Wire
    is (word.Name n) x h = none_some h
    is (word.Reserved k) x h = ap (λ (k : Reserved). word.Reserved k) (wire_only k x h)
    is (word.Number v) x h = none_some h
    is (word.Const v) x h = none_some h
    is (word.Symbol s) x h = none_some h

dir_only : (k : Reserved) (d : Dir) → dir_of k ≡ Some d → k ≡ key_of_dir d
dir_only key.Input dir.Input h = refl
dir_only key.Output dir.Output h = refl
dir_only key.Inout dir.Inout h = refl
dir_only _ d h = cc

pub dir_seen : Seen Dir dir_in (λ d. word.Reserved (key_of_dir d))
dir_seen = record { is = is }
  where
    is : (w : Word) (d : Dir) → dir_in w ≡ Some d → w ≡ word.Reserved (key_of_dir d)
    is (word.Name n) x h = none_some h
    is (word.Reserved k) x h = ap (λ (k : Reserved). word.Reserved k) (dir_only k x h)
    is (word.Number v) x h = none_some h
    is (word.Const v) x h = none_some h
    is (word.Symbol s) x h = none_some h

abbrev head_of : Dir → Bool → Option Range → DeclarationHead
head_of d wire range = record { dir = d; wire = wire; range = range }

pub head_law : (d : Dir) → Law DeclarationHead (λ ws. head_at d ws) (λ h p. word.Reserved (key_of_dir d) ∷ p ≡ head_words h)
unfolding head_at
head_law d = law_weaker (law_either wire_seen (λ _. law_map (λ range. head_of d true range) (law_optional LeftBracket range_words range_law)) (law_map (λ range. head_of d false range) (law_optional LeftBracket range_words range_law))) spelled
  where
    spelled : (h : DeclarationHead) (p : List Word) → EitherWay (λ (u : Unit {0}). word.Reserved key.Wire) (λ u y q. (range : Option Range) × (q ≡ optional_words range_words range) × (y ≡ head_of d true range)) (λ y q. (range : Option Range) × (q ≡ optional_words range_words range) × (y ≡ head_of d false range)) h p → word.Reserved (key_of_dir d) ∷ p ≡ head_words h
    spelled h p (inl (u, b, (range, e, is), f)) = rw (f, e, is) refl
    spelled h p (inr (range, e, is)) = rw (e, is) refl

pub name_law : Law (List ℕ) (λ ws. name_at ws) (Spelled name_words free)
name_law = law_weaker (law_take name_seen some_name) (λ x p h. (h, refl))

optional_head_law : Law (Option DeclarationHead) (λ ws. either dir_in ws (λ d a. after (head_at d a) (λ h b. done (Some h) b)) (λ a. done None a)) (λ o p. p ≡ optional_words head_words o)
optional_head_law = law_weaker (law_either dir_seen (λ d. law_map (λ h. Some h) (head_law d)) (law_done None)) spelled
  where
    spelled : (o : Option DeclarationHead) (p : List Word) → EitherWay (λ (d : Dir). word.Reserved (key_of_dir d)) (λ d y q. (h : DeclarationHead) × (word.Reserved (key_of_dir d) ∷ q ≡ head_words h) × (y ≡ Some h)) (λ y q. (y ≡ None) × (q ≡ [])) o p → p ≡ optional_words head_words o
    spelled o p (inl (d, b, (h, e, is), f)) = rw (f, e, is) refl
    spelled o p (inr (is, nil)) = rw (nil, is) refl

pub port_law : Law PortSource (λ ws. port_at ws) (Spelled port_words free)
unfolding port_at
port_law = law_weaker (law_after optional_head_law (λ h. law_word name_seen some_name (λ name. law_done (let p : PortSource = record { head = h; name = name } in p)))) (λ y p h. (spelled y p h, refl))
  where
    spelled : (y : PortSource) (p : List Word) → Then (λ (o : Option DeclarationHead) q. q ≡ optional_words head_words o) (λ o. Behind (λ (name : List ℕ). word.Name name) (λ name z q. (z ≡ record { head = o; name = name }) × (q ≡ []))) y p → p ≡ port_words y
    spelled y p (o, a, b, e, (name, c, (is, nil), f), join) = rw (join, e, f, nil, is) refl

pub ansi_law : (d : Dir) → Law Header (λ ws. ansi_at d ws) (λ y p. word.Symbol LeftParenthesis ∷ word.Reserved (key_of_dir d) ∷ p ≡ header_words y)
unfolding ansi_at
ansi_law d =
    law_weaker (law_after (head_law d) (λ h. law_word name_seen some_name (λ first. law_after (law_more port_words free port_law) (λ more. law_word (symbol_seen RightParenthesis) tt (λ _. law_done (ansi h first more)))))) spelled
  where
    spelled : (y : Header) (p : List Word) → Then (λ (h : DeclarationHead) q. word.Reserved (key_of_dir d) ∷ q ≡ head_words h) (λ h. Behind (λ (name : List ℕ). word.Name name) (λ first. Then (More port_words free) (λ more. Behind (λ (u : Unit {0}). word.Symbol RightParenthesis) (λ u z q. (z ≡ ansi h first more) × (q ≡ []))))) y p → word.Symbol LeftParenthesis ∷ word.Reserved (key_of_dir d) ∷ p ≡ header_words y
    spelled y p (h, a, b, e, (first, c, (more, m, n, s, (u, nothing, (is, nil), f3), join2), f1), join) =
        let after_head : List Word = word.Name first ∷ (each_after_comma port_words more ++ word.Symbol RightParenthesis ∷ []) in
        rw (is, join, f1, join2, s.0, f3, nil) (ap (λ (q : List Word). word.Symbol LeftParenthesis ∷ (q ++ after_head)) e ∙ ap (λ (q : List Word). word.Symbol LeftParenthesis ∷ q) (append_four (head_words h) (word.Name first ∷ []) (each_after_comma port_words more) (word.Symbol RightParenthesis ∷ [])))

pub names_law : Law Header (λ ws. names_at ws) (λ y p. word.Symbol LeftParenthesis ∷ p ≡ header_words y)
unfolding names_at
names_law = law_weaker (law_after (law_some name_words free name_law) (λ list. law_word (symbol_seen RightParenthesis) tt (λ _. law_done (names list.0 list.1)))) spelled
  where
    spelled : (y : Header) (p : List Word) → Then (Listed name_words free) (λ list. Behind (λ (u : Unit {0}). word.Symbol RightParenthesis) (λ u z q. (z ≡ names list.0 list.1) × (q ≡ []))) y p → word.Symbol LeftParenthesis ∷ p ≡ header_words y
    spelled y p (list, a, b, s, (u, c, (is, nil), f), join) = rw (is, join, s.0, f, nil) refl

pub header_law : Law Header (λ ws. header_at ws) (λ y p. p ≡ header_words y)
unfolding header_at
header_law =
    law_weaker (law_either (symbol_seen LeftParenthesis) (λ _. inside_law) (law_done absent)) spelled
  where
    inside_law : Law Header (λ ws. either (symbol_in RightParenthesis) ws (λ _ a. done empty a) (λ a. either dir_in a ansi_at names_at)) (λ y p. word.Symbol LeftParenthesis ∷ p ≡ header_words y)
    inside_law = law_weaker (law_either (symbol_seen RightParenthesis) (λ _. law_done empty) (law_either dir_seen (λ d. ansi_law d) names_law)) inside
      where
        inside : (y : Header) (p : List Word) → EitherWay (λ (u : Unit {0}). word.Symbol RightParenthesis) (λ u z q. (z ≡ empty) × (q ≡ [])) (EitherWay (λ (d : Dir). word.Reserved (key_of_dir d)) (λ d z q. word.Symbol LeftParenthesis ∷ word.Reserved (key_of_dir d) ∷ q ≡ header_words z) (λ z q. word.Symbol LeftParenthesis ∷ q ≡ header_words z)) y p → word.Symbol LeftParenthesis ∷ p ≡ header_words y
        inside y p (inl (u, b, (is, nil), f)) = rw (is, f, nil) refl
        inside y p (inr (inl (d, b, e, f))) = ap (λ (q : List Word). word.Symbol LeftParenthesis ∷ q) f ∙ e
        inside y p (inr (inr e)) = e

    spelled : (y : Header) (p : List Word) → EitherWay (λ (u : Unit {0}). word.Symbol LeftParenthesis) (λ u z q. word.Symbol LeftParenthesis ∷ q ≡ header_words z) (λ z q. (z ≡ absent) × (q ≡ [])) y p → p ≡ header_words y
    spelled y p (inl (u, b, e, f)) = f ∙ e
    spelled y p (inr (is, nil)) = rw (is, nil) refl

abbrev assign_of : Bit → Operand → AssignSource
assign_of output input = record { output = output; input = input }

pub assign_law : Law AssignSource (λ ws. assign_at ws) (Spelled assign_words free)
unfolding assign_at
assign_law = law_weaker (law_after bit_law (λ output. law_word (symbol_seen Equals) tt (λ _. law_map (λ input. assign_of output input) operand_law))) (λ y p h. (spelled y p h, refl))
  where
    spelled : (y : AssignSource) (p : List Word) → Then (Spelled bit_words free) (λ output. Behind (λ (u : Unit {0}). word.Symbol Equals) (λ u z q. (input : Operand) × Spelled operand_words free input q × (z ≡ assign_of output input))) y p → p ≡ assign_words y
    spelled y p (output, a, b, s, (u, c, (input, t, is), f), join) = rw (is, join, s.0, f, t.0) refl

-- the inputs of a gate of this kind
abbrev pub Inputs : GateKind → Operand × List Operand → List Word → Type 0
Inputs kind list p = (p ≡ operand_words list.0 ++ each_after_comma operand_words list.1) × IsTrue (takes_inputs kind (length (list.0 ∷ list.1)))

abbrev inputs_of : Operand → List Operand → Operand × List Operand
inputs_of x xs = (x, xs)

one_law : (kind : GateKind) → IsTrue (takes_inputs kind 1) → Law (Operand × List Operand) (λ ws. after (operand_at ws) (λ x a. done (x, []) a)) (Inputs kind)
one_law kind one = law_weaker (law_map (λ x. inputs_of x []) operand_law) spelled
  where
    spelled : (y : Operand × List Operand) (p : List Word) → (x : Operand) × Spelled operand_words free x p × (y ≡ inputs_of x []) → Inputs kind y p
    spelled y p (x, s, is) = (rw (is, s.0) (sym (append-nil (operand_words x))), rw is one)

two_law : (kind : GateKind) → IsTrue (takes_inputs kind 2) → Law (Operand × List Operand) (λ ws. after (operand_at ws) (λ x a. after (symbol_at Comma a) (λ _ b. after (operand_at b) (λ y c. done (x, y ∷ []) c)))) (Inputs kind)
two_law kind two = law_weaker (law_after operand_law (λ x. law_word (symbol_seen Comma) tt (λ _. law_map (λ y. inputs_of x (y ∷ [])) operand_law))) spelled
  where
    spelled : (z : Operand × List Operand) (p : List Word) → Then (Spelled operand_words free) (λ x. Behind (λ (u : Unit {0}). word.Symbol Comma) (λ u l q. (y : Operand) × Spelled operand_words free y q × (l ≡ inputs_of x (y ∷ [])))) z p → Inputs kind z p
    spelled z p (x, a, b, s, (u, c, (y, t, is), f), join) = (rw (is, join, s.0, f, t.0) (ap (λ (q : List Word). operand_words x ++ word.Symbol Comma ∷ q) (sym (append-nil (operand_words y)))), rw is two)

any_law : (kind : GateKind) → ((n : ℕ) → IsTrue (takes_inputs kind n)) → Law (Operand × List Operand) (λ ws. some_of operand_at ws) (Inputs kind)
any_law kind any = law_weaker (law_some operand_words free operand_law) (λ list p s. (s.0, any (length (list.0 ∷ list.1))))

pub inputs_law : (kind : GateKind) → Law (Operand × List Operand) (λ ws. inputs_at kind ws) (Inputs kind)
unfolding inputs_at
inputs_law gate.And = any_law gate.And (λ n. refl)
inputs_law gate.Or = any_law gate.Or (λ n. refl)
inputs_law gate.Nand = any_law gate.Nand (λ n. refl)
inputs_law gate.Nor = any_law gate.Nor (λ n. refl)
inputs_law gate.Xor = any_law gate.Xor (λ n. refl)
inputs_law gate.Xnor = any_law gate.Xnor (λ n. refl)
inputs_law gate.Buf = one_law gate.Buf refl
inputs_law gate.Not = one_law gate.Not refl
inputs_law gate.Bufif0 = two_law gate.Bufif0 refl
inputs_law gate.Bufif1 = two_law gate.Bufif1 refl

optional_name_law : Law (Option (List ℕ)) (λ ws. optional_name_at ws) (λ o p. p ≡ optional_words name_words o)
optional_name_law = law_weaker (law_either name_seen (λ name. law_done (Some name)) (law_done None)) spelled
  where
    spelled : (o : Option (List ℕ)) (p : List Word) → EitherWay (λ (name : List ℕ). word.Name name) (λ name y q. (y ≡ Some name) × (q ≡ [])) (λ y q. (y ≡ None) × (q ≡ [])) o p → p ≡ optional_words name_words o
    spelled o p (inl (name, b, (is, nil), f)) = rw (f, nil, is) refl
    spelled o p (inr (is, nil)) = rw (nil, is) refl

abbrev gate_source : Option (List ℕ) → Bit → Operand × List Operand → GateSource
gate_source name output inputs = record { name = name; output = output; first = inputs.0; more = inputs.1 }

-- a gate's inputs are as many as its kind takes
abbrev pub gate_fits : GateKind → GateSource → Bool
gate_fits kind g = takes_inputs kind (length (gate_inputs g))

pub gate_law : (kind : GateKind) → Law GateSource (λ ws. gate_at kind ws) (Spelled gate_words (gate_fits kind))
unfolding gate_at
gate_law kind =
    law_weaker (law_after optional_name_law (λ name. law_word (symbol_seen LeftParenthesis) tt (λ _. law_after bit_law (λ output. law_word (symbol_seen Comma) tt (λ _. law_after (inputs_law kind) (λ inputs. law_word (symbol_seen RightParenthesis) tt (λ _. law_done (gate_source name output inputs)))))))) spelled
  where
    spelled : (g : GateSource) (p : List Word) → Then (λ (o : Option (List ℕ)) q. q ≡ optional_words name_words o) (λ name. Behind (λ (u : Unit {0}). word.Symbol LeftParenthesis) (λ u. Then (Spelled bit_words free) (λ output. Behind (λ (v : Unit {0}). word.Symbol Comma) (λ v. Then (Inputs kind) (λ inputs. Behind (λ (z : Unit {0}). word.Symbol RightParenthesis) (λ z y q. (y ≡ gate_source name output inputs) × (q ≡ []))))))) g p → Spelled gate_words (gate_fits kind) g p
    spelled g p (name, a, b, s, (u, c, (output, d, e, t, (v, f, (inputs, i, j, m, (z, k, (is, nil), e5), e4), e3), e2), e1), e0) =
        (rw (is, e0, s, e1, e2, t.0, e3, e4, m.0, e5, nil) (simp append_assoc), rw is m.1)

abbrev link_of : List ℕ → Option Operand → Link
link_of port operand = record { port = port; operand = operand }

pub link_law : Law Link (λ ws. link_at ws) (Spelled link_words free)
unfolding link_at
link_law =
    law_weaker (law_word (symbol_seen Dot) tt (λ _. law_word name_seen some_name (λ port. law_word (symbol_seen LeftParenthesis) tt (λ _. law_either (symbol_seen RightParenthesis) (λ _. law_done (link_of port None)) (law_after operand_law (λ x. law_word (symbol_seen RightParenthesis) tt (λ _. law_done (link_of port (Some x))))))))) (λ y p h. (spelled y p h, refl))
  where
    spelled : (y : Link) (p : List Word) → Behind (λ (u : Unit {0}). word.Symbol Dot) (λ u. Behind (λ (name : List ℕ). word.Name name) (λ port. Behind (λ (v : Unit {0}). word.Symbol LeftParenthesis) (λ v. EitherWay (λ (z : Unit {0}). word.Symbol RightParenthesis) (λ z l q. (l ≡ link_of port None) × (q ≡ [])) (Then (Spelled operand_words free) (λ x. Behind (λ (z : Unit {0}). word.Symbol RightParenthesis) (λ z l q. (l ≡ link_of port (Some x)) × (q ≡ []))))))) y p → p ≡ link_words y
    spelled y p (u, a, (port, b, (v, c, inl (z, d, (is, nil), e4), e3), e2), e1) = rw (is, e1, e2, e3, e4, nil) refl
    spelled y p (u, a, (port, b, (v, c, inr (x, d, e, s, (z, f, (is, nil), e5), e4), e3), e2), e1) = rw (is, e1, e2, e3, e4, s.0, e5, nil) refl

pub links_law : Law (List Link) (λ ws. links_at ws) (λ links p. p ≡ listed_words link_words links ++ word.Symbol RightParenthesis ∷ [])
unfolding links_at
links_law =
    law_weaker (law_either (symbol_seen RightParenthesis) (λ _. law_done []) (law_after (law_some link_words free link_law) (λ list. law_word (symbol_seen RightParenthesis) tt (λ _. law_done (list.0 ∷ list.1))))) spelled
  where
    spelled : (y : List Link) (p : List Word) → EitherWay (λ (z : Unit {0}). word.Symbol RightParenthesis) (λ z l q. (l ≡ []) × (q ≡ [])) (Then (Listed link_words free) (λ list. Behind (λ (z : Unit {0}). word.Symbol RightParenthesis) (λ z l q. (l ≡ list.0 ∷ list.1) × (q ≡ [])))) y p → p ≡ listed_words link_words y ++ word.Symbol RightParenthesis ∷ []
    spelled y p (inl (z, d, (is, nil), e)) = rw (is, e, nil) refl
    spelled y p (inr (list, a, b, s, (z, d, (is, nil), e), join)) = rw (is, join, s.0, e, nil) refl

abbrev instance_of : List ℕ → List Link → InstanceSource
instance_of name links = record { name = name; links = links }

pub instance_law : Law InstanceSource (λ ws. instance_at ws) (Spelled instance_words free)
unfolding instance_at
instance_law = law_weaker (law_word name_seen some_name (λ name. law_word (symbol_seen LeftParenthesis) tt (λ _. law_map (λ links. instance_of name links) links_law))) (λ y p h. (spelled y p h, refl))
  where
    spelled : (y : InstanceSource) (p : List Word) → Behind (λ (name : List ℕ). word.Name name) (λ name. Behind (λ (v : Unit {0}). word.Symbol LeftParenthesis) (λ v z q. (links : List Link) × (q ≡ listed_words link_words links ++ word.Symbol RightParenthesis ∷ []) × (z ≡ instance_of name links))) y p → p ≡ instance_words y
    spelled y p (name, a, (v, b, (links, e, is), e2), e1) = rw (is, e1, e2, e) refl
