-- A link in three fields.
use Rattle.std.specs.Prelude.{◌≡◌, ℕ, Bool, true, false, Option, Some, None, ⊤, refl}
use Rattle.std.proofs.Common.{ap, sym, ◌∙◌}
use Rattle.netlist_model.specs.declared.CellId.{CellId}
use Rattle.netlist_model.specs.declared.Reader.{Reader}
use Rattle.linked_cells.specs.declared.link.Link.TheInside.{Inside}

-- own: the reader of a link, or none
abbrev pub link_view : CellId → ℕ → Bool → Option Reader
link_view cell place true = Some (record { cell = cell; place = place })
link_view cell place false = None

-- own: a link to none is all zero
abbrev pub IsPlain : CellId → ℕ → Bool → Type 0
IsPlain cell place true = ⊤
IsPlain cell place false = (cell ≡ record { 0 = 0 }) × (place ≡ 0)

-- own: the fields of the link to a reader, or to none
abbrev pub link_fields : Option Reader → CellId × ℕ × Bool
link_fields None = (record { 0 = 0 }, 0, false)
link_fields (Some r) = (r.cell, r.place, true)

-- own: a link with these fields
abbrev pub with_fields : CellId × ℕ × Bool → Inside
with_fields fields = record { cell = fields.0; place = fields.1; is_there = fields.2 }

-- own: the fields come back from the reader
pub fields_back : (a : Inside) → IsPlain a.cell a.place a.is_there → with_fields (link_fields (link_view a.cell a.place a.is_there)) ≡ a
fields_back a plain = go a.cell a.place a.is_there plain
  where
    go : (cell : CellId) (place : ℕ) (there : Bool) → IsPlain cell place there → with_fields (link_fields (link_view cell place there)) ≡ with_fields (cell, place, there)
    go cell place true plain = refl
    go cell place false plain = sym (ap (λ (c : CellId). with_fields (c, place, false)) plain.0 ∙ ap (λ (p : ℕ). with_fields (record { 0 = 0 }, p, false)) plain.1)
