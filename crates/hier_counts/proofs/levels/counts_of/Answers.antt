use Rattle.std.proofs.Common.{◌≡◌, ℕ, List, length, map, replicate, ap, sym, ◌∙◌, arith}
use Rattle.std.proofs.lemmas.List.{length-map}
use Rattle.verilog_tree.specs.declared.tree.Module.{Module}
use Rattle.hier_model.specs.Entries.{level_limit}
use Rattle.hier_counts.specs.declared.levels.Counts.{Counts}
use Rattle.hier_counts.specs.declared.sizes.Size.{Size}
use Rattle.hier_counts.specs.Levels.{counts_at, no_counts, next_counts}
use Rattle.hier_counts.proofs.LevelLaws.{level_none, level_next, counts_found}
use Rattle.hier_counts.proofs.EarlyLaws.{limit_is}
use Rattle.hier_counts.proofs.levels.counts_of.Goals as goal

pub index-requires : goal.index-requires
index-requires c =
    let long : length c.loop-level.counts.items ≡ length c.args.table.now = ap (λ (l : List Counts). length l) c.loop-level.invariant ∙ length-map c.args.table.now (counts_at c.loop-level._level c.args.table.now) in
    let size = c.loop-level.counts.ok.0 in
    let low = c.requires in
    omega (arith, long, size, low)

pub returns : goal.returns
returns c =
    let last : c.loop-level._level ≡ 64 = omega arith in
    counts_found level_limit c.args.table.now c.args.place c.loop-level.counts.items c.index.result.now
    (c.loop-level.invariant ∙ ap (λ (n : ℕ). map (counts_at n c.args.table.now) c.args.table.now) (last ∙ sym limit_is)) c.requires c.index.ensures

pub loop-level-init : goal.loop-level-init
loop-level-init c =
    level_none c.args.table.now c.in_ok-counts.counts.items
    (c.in_ok-counts.ensures.items_if_clones_equal (λ y h. h) ∙ ap (λ (ms : List Module). replicate (length ms) no_counts) c.as_slice.ensures)

pub loop-level-preserved : goal.loop-level-preserved
loop-level-preserved c =
    level_next c.loop-level._level c.args.table.now c.in_ok-sizes.sizes.items c.loop-level.counts.items c.in_ok-counts-2.counts.items c.in_ok-sizes.ensures c.loop-level.invariant
    (c.in_ok-counts-2.ensures
    ∙ ap (λ (l : List Counts). map (λ (s : Size). next_counts s l) c.deref.result.now) c.deref-in-loop-level.ensures.value
    ∙ ap (map (λ (s : Size). next_counts s c.loop-level.counts.items)) c.deref.ensures.value)
