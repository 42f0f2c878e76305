-- Rows of nets are made from the left.
use Rattle.std.proofs.Common.{◌≡◌, ℕ, suc, ◌+◌, Bool, true, false, ◌==◌, List, [], ◌∷◌, ◌++◌, drop, refl, ap, sym, ◌∙◌, arith, add-one, Option, Some, None}
use Rattle.std.specs.Prelude.{slice_get}
use Rattle.std.specs.Option.{option_map}
use Rattle.list_laws.proofs.Lists.{left_at}
use Rattle.verilog_tree.specs.declared.tree.Range.{Range}
use Rattle.netlist_model.specs.Lists.{PortView, NetView}
use Rattle.netlist_unlink.specs.declared.rows.NetRow.{NetRow}
use Rattle.netlist_unlink.specs.Rows.{before, joined_range, row_of, rows, with_row}

joined_range-assoc : (a b c : Option Range) → joined_range a (joined_range b c) ≡ joined_range (joined_range a b) c
joined_range-assoc None b c = refl
joined_range-assoc (Some a) None c = refl
joined_range-assoc (Some a) (Some b) None = refl
joined_range-assoc (Some a) (Some b) (Some c) = refl

-- a row, the next one of the same name, and others
pub before_same : (row next : NetRow) (rest : List NetRow) → (row.name == next.name) ≡ true
    → before row (before next rest) ≡ before (record { name = row.name; range = joined_range row.range next.range }) rest
before_same row next [] same = rw same refl
before_same row next (r ∷ rest) same = go (next.name == r.name) refl
  where
    joined : NetRow
    joined = record { name = row.name; range = joined_range row.range next.range }

    go : (b : Bool) → (next.name == r.name) ≡ b → before row (before next (r ∷ rest)) ≡ before (record { name = row.name; range = joined_range row.range next.range }) (r ∷ rest)
    go true e =
        let also : (row.name == r.name) ≡ true = grind arith in
        rw (e, same, also) (ap (λ (range : Option Range). record { name = row.name; range = range } ∷ rest) (joined_range-assoc row.range next.range r.range))
    go false e =
        let also : (row.name == r.name) ≡ false = grind arith in
        rw (e, same, also) refl

-- a row, the next one of another name, and others
pub before_other : (row next : NetRow) (rest : List NetRow) → (row.name == next.name) ≡ false → before row (before next rest) ≡ row ∷ before next rest
before_other row next [] other = rw other refl
before_other row next (r ∷ rest) other = go (next.name == r.name) refl
  where
    go : (b : Bool) → (next.name == r.name) ≡ b → before row (before next (r ∷ rest)) ≡ row ∷ before next (r ∷ rest)
    go true e = rw (e, other) refl
    go false e = rw (e, other) refl

-- one more net is taken
pub rows_more : (ports : List PortView) (nets : List NetView) (i : ℕ) (found last after : Option NetRow) (closed now : List NetRow)
    → option_map (row_of ports) (slice_get nets i) ≡ Some found
    → closed ++ with_row last (rows ports (drop i nets)) ≡ rows ports nets
    → ((rest : List NetRow) → now ++ with_row after rest ≡ closed ++ with_row last (with_row found rest))
    → now ++ with_row after (rows ports (drop (i + 1) nets)) ≡ rows ports nets
rows_more ports nets i found last after closed now at so_far grown = go (slice_get nets i) refl at
  where
    go : (o : Option NetView) → slice_get nets i ≡ o → option_map (row_of ports) o ≡ Some found → now ++ with_row after (rows ports (drop (i + 1) nets)) ≡ rows ports nets
    go None e is = absurd (cc)
    go (Some view) e is =
        let split = left_at nets i view e in
        let row : row_of ports view ≡ found = grind arith in
        let rest = rows ports (drop (suc i) nets) in
        let whole : rows ports (drop i nets) ≡ with_row found rest = ap (rows ports) split ∙ ap (λ (o : Option NetRow). with_row o rest) row in
        rw (add-one i) (grown rest ∙ ap (λ (rs : List NetRow). closed ++ with_row last rs) (sym whole) ∙ so_far)

-- the next row is followed, or there is none
pub followed : (closed now : List NetRow) (last after found : Option NetRow) (next row : NetRow) → found ≡ Some next → after ≡ Some row
    → ((rest : List NetRow) → now ++ before row rest ≡ closed ++ with_row last (before next rest)) → (rest : List NetRow) → now ++ with_row after rest ≡ closed ++ with_row last (with_row found rest)
followed closed now last after found next row is to grown rest = rw (is, to) (grown rest)

pub passed : (closed now : List NetRow) (last after found : Option NetRow) → found ≡ None → now ≡ closed → after ≡ last
    → (rest : List NetRow) → now ++ with_row after rest ≡ closed ++ with_row last (with_row found rest)
passed closed now last after found is same to rest = rw (is, same, to) refl
