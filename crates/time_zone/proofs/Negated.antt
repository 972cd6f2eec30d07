-- Adding a negated number takes it away.
use Rattle.std.proofs.Common.{◌≡◌, ◌≤◌, ℤ, pos, ◌+ℤ◌, ◌-ℤ◌, unsigned_abs, w64, to_z, of_z, arith}
use Rattle.std.proofs.lemmas.Int.{ints}

pub plus_negated : (L j : ℤ) → unsigned_abs j ≤ 4294967295 → L +ℤ to_z w64 (of_z w64 (pos 0 -ℤ to_z w64 (of_z w64 j))) ≡ L -ℤ j
plus_negated L j small = omega (arith, ints)
