use Rattle.std.proofs.Common.{◌≡◌, take, fold, flat_map, map}
use Rattle.std.specs.Hash as fed
use Rattle.bsdl_lexicon.specs.Names.{lower}
use Rattle.bsdl_lexicon.proofs.name_key.hash_lowered.Given as goal

abbrev pub invariant-loop-byte : goal.invariant-loop-byte
invariant-loop-byte g l = l.state ≡ fold g.H.Hasher.write l.initial.state (flat_map fed.u8 (map lower (take l.byte-index l.name)))
