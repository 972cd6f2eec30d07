-- A count that is rounded stays a count, less than one increment away.
use Rattle.std.proofs.Common.{ℕ, ◌+◌, ◌<◌, pos, nat_abs, refl}
use Rattle.rounding.specs.declared.RoundingMode.{RoundingMode}
use Rattle.rounding.specs.Rounding.{rounded_to}
use Rattle.rounding.proofs.Bounds.{within_sum}

pub count_bound : (o : RoundingMode) (m n : ℕ) → 0 < n → nat_abs (rounded_to o (pos m) n) < m + n
count_bound o m n h = within_sum o (pos m) (rounded_to o (pos m) n) n h refl
