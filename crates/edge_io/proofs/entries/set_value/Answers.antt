use Rattle.std.proofs.Common.{◌≡◌, Some, None, position, refl, sym, ◌∙◌, ap}
use Rattle.std.specs.Str.{bytes_eq}
use Rattle.edge_io.specs.Entries.{value_of}
use Rattle.edge_io.proofs.Named.{value_of-set, value_of-push}
use Rattle.edge_io.proofs.entries.set_value.Goals as goal

pub returns-in-Some-clause-ok : goal.returns-in-Some-clause-ok
returns-in-Some-clause-ok g c =
    let at : position (λ e. bytes_eq e.name c.args.name.now) c.args.entries.now.items ≡ Some c.in-Some.place
    = ap (position (λ e. bytes_eq e.name c.args.name.now)) (sym c.deref.ensures.value) ∙ sym c.in-Some.ensures in
    let change = value_of-set c.args.entries.now.items c.in-Some.place c.index_mut.result.now c.args.name.now c.index_mut.result.now.name c.args.value at c.index_mut.ensures.value refl in
    record { there = change.there.1; others = change.others }

pub returns-clause-ok : goal.returns-clause-ok
returns-clause-ok g c =
    let at : position (λ e. bytes_eq e.name c.args.name.now) c.args.entries.now.items ≡ None
    = ap (position (λ e. bytes_eq e.name c.args.name.now)) (sym c.deref.ensures.value) ∙ sym c.in_default.ensures in
    let change = value_of-push c.args.entries.now.items (record { name = c.in_ok-name.name; value = c.args.value }) c.args.name.now at c.in_ok-name.ensures in
    let items = c.in_ok-push.ensures.items in
    record {
      there = ap (λ es. value_of es c.args.name.now) items ∙ change.there.1;
      others = λ other ne. ap (λ es. value_of es other) items ∙ change.others other ne;
    }
