use Rattle.std.specs.Prelude.{ℕ, ◌+◌, ◌^◌, ◌<◌, min, List, Bool, Contains, if◌then◌else◌}
use Rattle.edge_io.specs.Shelf.{raised}

-- own: the numbers of the calls that are to fail, the number of the next call, and the count of faults
pub record CallCount : Type 0 where
  pub listed : List ℕ
  pub made : ℕ
  pub faults : ℕ

-- own: the next call is to fail; one past the last number of a u64 is in no list
abbrev pub IsListed : CallCount → Type 0
IsListed calls = (calls.made < 2 ^ 64) × Contains calls.listed calls.made

-- own: the count after one more call, which failed or not; 2 ^ 64 is the number of each call past a u64
abbrev pub call_made : CallCount → Bool → CallCount
call_made calls failed = record {
  listed = calls.listed;
  made = min (calls.made + 1) (2 ^ 64);
  faults = if failed then raised calls.faults else calls.faults;
}
