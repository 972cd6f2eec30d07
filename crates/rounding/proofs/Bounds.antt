-- How far a rounded number may lie from zero. Assumes nothing.
use Rattle.std.proofs.Common.{◌≡◌, ℕ, ◌+◌, ◌<◌, ℤ, ◌-ℤ◌, nat_abs, arith}
use Rattle.std.proofs.lemmas.Int.{ints}
use Rattle.rounding.specs.declared.RoundingMode.{RoundingMode}
use Rattle.rounding.specs.Rounding.{rounded_to}
use Rattle.rounding.proofs.Meaning.{as_asked}

-- less than an increment past the number itself
pub within_sum : (o : RoundingMode) (x r : ℤ) (n : ℕ) → 0 < n → r ≡ rounded_to o x n → nat_abs r < nat_abs x + n
within_sum o x r n h e =
    let k : nat_abs (r -ℤ x) < n = rw e ((as_asked o x n h).near) in
    omega (arith, ints)
