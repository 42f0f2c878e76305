-- What tables find, by the lists that they are made of.
use Rattle.std.proofs.Common.{◌≡◌, ℕ, Bool, ◌==◌, nat_eq, List, map, position, ap, ◌∙◌}
use Rattle.std.specs.Map.{lookup}
use Rattle.list_laws.proofs.Numbers.{eqb-sym}
use Rattle.bsdl_lexicon.specs.Names.{is_same_name}
use Rattle.bsdl_lexicon.specs.NameKeys.{names_in}
use Rattle.bsdl_device.specs.declared.entries.PinEntry.{PinEntry}
use Rattle.bsdl_device.specs.declared.entries.RowEntry.{RowEntry}
use Rattle.bsdl_device.specs.Checks.{is_numbered}
use Rattle.bsdl_lexicon.specs.declared.name_key.NameKey.{NameKey}
use Rattle.bsdl_lexicon.proofs.SameNames.{same_turned}
use Rattle.bsdl_port_rules.specs.NameTables.{under_name}
use Rattle.bsdl_port_rules.proofs.Tables.{key_of, position-map, places_by_names}
use Rattle.bsdl_checks.specs.Tables.{FindsEntries, FindsRows}

position_alike : {A : Type 0} (p q : A → Bool) → ((x : A) → p x ≡ q x) → (xs : List A) → position p xs ≡ position q xs
position_alike {A} p q same xs = ap (λ (t : A → Bool). position t xs) (λ i x. same x i)

pub finds_entries : (list : List PinEntry) (keys : List NameKey) (entries : List (NameKey × ℕ)) → names_in keys ≡ map (λ (e : PinEntry). e.port) list
    → ((k : NameKey) → under_name entries k.0.now ≡ position (λ (j : NameKey). is_same_name k.0.now j.0.now) keys) → FindsEntries list entries
finds_entries list keys entries names finds = record {
  places = λ name.
      finds (key_of name) ∙ places_by_names keys (map (λ (e : PinEntry). e.port) list) name names
      ∙ position-map (is_same_name name) (λ (e : PinEntry). e.port) list
      ∙ position_alike (λ (e : PinEntry). is_same_name name e.port) (λ (e : PinEntry). is_same_name e.port name) (λ e. same_turned name e.port) list;
}

pub finds_rows : (rows : List RowEntry) (numbers : List ℕ) (entries : List (ℕ × ℕ)) → numbers ≡ map (λ (r : RowEntry). r.number) rows
    → ((n : ℕ) → lookup (nat_eq n) entries ≡ position (nat_eq n) numbers) → FindsRows rows entries
finds_rows rows numbers entries same finds = record {
  places = λ n.
      finds n ∙ ap (position (nat_eq n)) same ∙ position-map (nat_eq n) (λ (r : RowEntry). r.number) rows
      ∙ position_alike (λ (r : RowEntry). nat_eq n r.number) (is_numbered n) (λ r. eqb-sym n r.number) rows;
}
