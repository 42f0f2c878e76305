-- A program is put down piece by piece.
use Rattle.std.proofs.Common.{◌≡◌, ℕ, ◌+◌, ◌<◌, ◌≤◌, true, false, List, [], ◌∷◌, ◌++◌, length, drop, get_or, refl, sym, ap, ◌∙◌}
use Rattle.std.proofs.lemmas.List.{append_assoc, append-nil, drop_more, drop_all}
use Rattle.bsdl_device.specs.declared.values.Device.{Device}
use Rattle.scan_vectors.specs.declared.lines.Line.{Line}
use Rattle.scan_programs.specs.declared.clocks.Clock.{Clock}
use Rattle.scan_programs.specs.Scans.{all_clocks}
use Rattle.scan_programs.specs.Pins.{starts}
use Rattle.scan_programs.specs.Program.{look, set_line, bench_after, clock_lines, scan_lines, in_reset, first_bench, program_of}
use Rattle.scan_programs.specs.Runs.{BenchView, adds, with_machine, after_clock, after_clocks}

clocks_cons : (c : Clock) (clocks : List Clock) (b : BenchView) → after_clocks (c ∷ clocks) b ≡ after_clocks clocks (after_clock c b)
unfolding after_clocks
clocks_cons c clocks b = refl

clocks_nil : (b : BenchView) → after_clocks [] b ≡ b
unfolding after_clocks
clocks_nil b = refl

pub clocks_more : (clocks : List Clock) (i : ℕ) (d : Clock) (b now all : BenchView) → i < length clocks → now ≡ after_clock (get_or clocks i d) b
    → after_clocks (drop i clocks) b ≡ all → after_clocks (drop (i + 1) clocks) now ≡ all
clocks_more clocks i d b now all h step e =
    ap (after_clocks (drop (i + 1) clocks)) step
    ∙ sym (clocks_cons (get_or clocks i d) (drop (i + 1) clocks) b)
    ∙ sym (ap (λ (l : List Clock). after_clocks l b) (drop_more clocks i d h)) ∙ e

pub clocks_end : (clocks : List Clock) (i : ℕ) (b all : BenchView) → length clocks ≤ i → after_clocks (drop i clocks) b ≡ all → b ≡ all
clocks_end clocks i b all h e = sym (clocks_nil b) ∙ sym (ap (λ (l : List Clock). after_clocks l b) (drop_all i clocks h)) ∙ e

-- all cycles put down the lines of the scan
after_all_device : (clocks : List Clock) (b : BenchView) → (after_clocks clocks b).device ≡ b.device
unfolding after_clock after_clocks
after_all_device [] b = refl
after_all_device (c ∷ clocks) b = after_all_device clocks (after_clock c b)

after_all_lines : (clocks : List Clock) (b : BenchView) → (after_clocks clocks b).list ≡ b.list ++ scan_lines b.device clocks b.bench
unfolding after_clock after_clocks scan_lines
after_all_lines [] b = sym (append-nil b.list)
after_all_lines (c ∷ clocks) b =
    after_all_lines clocks (after_clock c b)
    ∙ append_assoc b.list (clock_lines b.device c b.bench) (scan_lines b.device clocks (bench_after b.device c b.bench))

-- the whole program, from its first line to its last
abbrev pub looked : BenchView → BenchView
looked b = adds b (look b.device b.bench.machine)

abbrev pub lifted : BenchView → BenchView
lifted b = adds b (set_line b.device b.device.trst true ∷ [])

abbrev pub lowered : BenchView → BenchView
lowered b = adds (with_machine b (in_reset b.device)) (set_line b.device b.device.trst false ∷ [])

abbrev pub begun : Device → BenchView
begun B = record { device = B; bench = first_bench B; list = [] }

abbrev pub opened : Device → BenchView
opened B = looked (lifted (looked (adds (begun B) (starts B))))

abbrev pub closed : Device → List Clock → BenchView
closed B clocks = looked (lowered (after_clocks clocks (opened B)))

opened_list : (B : Device) → (opened B).list ≡ starts B ++ (look B (in_reset B) ++ (set_line B B.trst true ∷ look B (in_reset B)))
opened_list B =
    let m = in_reset B in
    let up = set_line B B.trst true in
    append_assoc (starts B ++ look B m) (up ∷ []) (look B m)
    ∙ append_assoc (starts B) (look B m) (up ∷ look B m)

pub closed_list : (B : Device) → (closed B (all_clocks B)).list ≡ program_of B
unfolding program_of
closed_list B =
    let m = in_reset B in
    let run = after_clocks (all_clocks B) (opened B) in
    let scans = scan_lines B (all_clocks B) (first_bench B) in
    let up = set_line B B.trst true in
    let down = set_line B B.trst false in
    let device : run.device ≡ B = after_all_device (all_clocks B) (opened B) in
    let end : (D : Device) → List Line = λ D. set_line D D.trst false ∷ look D (in_reset D) in
    append_assoc run.list (set_line run.device run.device.trst false ∷ []) (look run.device (in_reset run.device))
    ∙ ap (λ (D : Device). run.list ++ end D) device
    ∙ ap (λ (l : List Line). l ++ end B) (after_all_lines (all_clocks B) (opened B) ∙ ap (λ (l : List Line). l ++ scans) (opened_list B))
    ∙ append_assoc (starts B ++ (look B m ++ (up ∷ look B m))) scans (end B)
    ∙ append_assoc (starts B) (look B m ++ (up ∷ look B m)) (scans ++ end B)
    ∙ ap (λ (l : List Line). starts B ++ l) (append_assoc (look B m) (up ∷ look B m) (scans ++ end B))
