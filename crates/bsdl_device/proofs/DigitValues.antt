-- Values of one digit more.
use Rattle.std.proofs.Common.{◌≡◌, ℕ, ◌+◌, ◌-◌, ◌*◌, ◌<◌, List, length, take, get_or, ap, ◌∙◌}
use Rattle.std.proofs.lemmas.List.{take_more}
use Rattle.list_laws.proofs.Digits.{push_value}
use Rattle.bsdl_device.specs.Runs.{value_after}

pub value_more : (base : ℕ) (xs : List ℕ) (i : ℕ) → i < length xs → value_after base 0 (take (i + 1) xs) ≡ base * value_after base 0 (take i xs) + (get_or xs i 0 - 48)
value_more base xs i within = ap (value_after base 0) (take_more xs i 0 within) ∙ push_value base 0 (take i xs) (get_or xs i 0)
