-- Numbers that no step raises tell that no ring holds a place.
use Rattle.std.proofs.Common.{◌≡◌, ◌≢◌, ℕ, zero, suc, ◌≤◌, false, List, arith, subst}
use Rattle.list_laws.proofs.Tests.{never_true}
use Rattle.verilog_tree.specs.declared.tree.Module.{Module}
use Rattle.hier_model.specs.Faults.{holds_itself}
use Rattle.hier_counts.specs.Once.{At, AreOnce}
use Rattle.hier_counts.specs.Graph.{module_graph, row, IsIn, Path}
use Rattle.hier_counts.specs.Rings.{number, NeverRises}
use Rattle.hier_counts.proofs.Leads.{ring_at}

path_falls : (graph : List (List ℕ)) (numbers : List ℕ) → NeverRises graph numbers → (k v w : ℕ) → Path graph k v w → number numbers w ≤ number numbers v
path_falls graph numbers falls zero v w path = subst (λ (x : ℕ). number numbers x ≤ number numbers v) path (omega arith)
path_falls graph numbers falls (suc k) v w path = let one = falls path.0 w path.2 in let more = path_falls graph numbers falls k v path.0 path.1 in omega (arith, one, more)

pub ring_clear : (modules : List Module) (v : ℕ) (m : Module) (numbers : List ℕ) → AreOnce modules → At modules v m → NeverRises (module_graph modules) numbers → ((w : ℕ) → IsIn w (row (module_graph modules) v) → number numbers w ≢ number numbers v) → holds_itself modules m ≡ false
ring_clear modules v m numbers once at falls apart = never_true (holds_itself modules m) (λ holds.
    let r = ring_at modules v m once at holds in
    let one = falls v r.0 r.1 in
    let back = path_falls (module_graph modules) numbers falls r.2 r.0 v r.3 in
    apart r.0 r.1 (omega (arith, one, back)))
