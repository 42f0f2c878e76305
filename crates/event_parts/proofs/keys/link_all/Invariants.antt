use Rattle.std.proofs.Common.{◌≡◌, ◌<◌, ℕ, length}
use Rattle.event_parts.specs.KeysLaws.{IsKey, IsLast, link_at}
use Rattle.event_parts.proofs.keys.link_all.Given as goal

abbrev pub invariant-loop-place : goal.invariant-loop-place
invariant-loop-place l = record {
  long : length l.heads ≡ length l.fn.heads;
  heads : (key : ℕ) → IsLast l.keys key l.place (link_at l.heads key);
  links : (place key : ℕ) → place < l.place → IsKey l.keys place key → IsLast l.keys key place (link_at l.links.items place);
  count : length l.links.items ≡ l.place;
}
