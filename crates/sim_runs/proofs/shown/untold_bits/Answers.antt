use Rattle.std.proofs.Common.{◌≡◌, ◌∷◌, ◌++◌, [], ◌∙◌, ap, sym, take, List, Option, None}
use Rattle.std.specs.Prelude.{slice_index_or}
use Rattle.std.proofs.lemmas.Option.{slice_get-get_or}
use Rattle.list_laws.proofs.Lists.{map_push}
use Rattle.signal_values.specs.declared.PinSig.{PinSig}
use Rattle.sim_runs.specs.declared.shown.Shown.{Shown}
use Rattle.sim_runs.specs.Bits.{told_of, untold}
use Rattle.sim_runs.proofs.Lists.{front_next}
use Rattle.sim_runs.proofs.shown.untold_bits.Goals as goal

pub loop-bit-preserved : goal.loop-bit-preserved
loop-bit-preserved c =
    let none : Shown = record { pin = record { port = record { 0 = 0 }; bit = 0 }; net = record { 0 = 0 } } in
    let bit : Shown = slice_index_or c.args.bits.now c.loop-bit.bit-index none in
    let at = slice_get-get_or c.args.bits.now c.loop-bit.bit-index none c.loop-bit-test.true in
    let f : Shown → Option PinSig = λ b. untold b.net.0 in
    c.in_ok-push.ensures.items ∙ ap (λ (l : List (Option PinSig)). l ++ None ∷ []) c.loop-bit.invariant ∙ sym (map_push f (take c.loop-bit.bit-index c.args.bits.now) bit)
    ∙ ap (λ (bs : List Shown). told_of untold bs) (front_next c.args.bits.now c.loop-bit.bit-index bit at)
