use Rattle.std.specs.Prelude.{ℕ, suc, ◌+◌, ◌-◌, ◌*◌, ◌/◌, ◌%◌, Bool, true, false, cond, ℤ, pos, negsuc, neg_ℤ, ◌==◌, nat_lt}
use Rattle.std.specs.declared.cmp.Ordering.TheVariants.{Less, Equal, Greater}
use Rattle.std.specs.declared.cmp.Ordering.{Ordering}
use Rattle.rounding.specs.declared.RoundingMode.{RoundingMode}
use Rattle.rounding.specs.declared.RoundingMode.TheVariants.{Ceil, Floor, Expand, Trunc, HalfCeil, HalfFloor, HalfExpand, HalfTrunc, HalfEven}
use Rattle.rounding.specs.declared.UnsignedRoundingMode.{UnsignedRoundingMode}
use Rattle.rounding.specs.declared.UnsignedRoundingMode.TheVariants.{Infinity, Zero, HalfInfinity, HalfZero, HalfToEven}

-- a mode at a sign, true for a number that is not negative
abbrev pub unsigned_of : RoundingMode → Bool → UnsignedRoundingMode
unsigned_of Ceil true = Infinity
unsigned_of Ceil false = Zero
unsigned_of Floor true = Zero
unsigned_of Floor false = Infinity
unsigned_of Expand b = Infinity
unsigned_of Trunc b = Zero
unsigned_of HalfCeil true = HalfInfinity
unsigned_of HalfCeil false = HalfZero
unsigned_of HalfFloor true = HalfZero
unsigned_of HalfFloor false = HalfInfinity
unsigned_of HalfExpand b = HalfInfinity
unsigned_of HalfTrunc b = HalfZero
unsigned_of HalfEven b = HalfToEven

-- how far r of n lies from the half
abbrev pub half_of : ℕ → ℕ → Ordering
half_of r n = cond (nat_lt r (n - r)) Less (cond (r == n - r) Equal Greater)

-- q below, q + 1 above
abbrev pub at_half : UnsignedRoundingMode → ℕ → ℕ
at_half Infinity q = q + 1
at_half Zero q = q
at_half HalfInfinity q = q + 1
at_half HalfZero q = q
at_half HalfToEven q = cond (q % 2 == 0) q (q + 1)

abbrev pub nearer : Ordering → UnsignedRoundingMode → ℕ → ℕ
nearer Less u q = q
nearer Equal u q = at_half u q
nearer Greater u q = q + 1

abbrev pub between : UnsignedRoundingMode → Ordering → ℕ → ℕ
between Infinity o q = q + 1
between Zero o q = q
between HalfInfinity o q = nearer o HalfInfinity q
between HalfZero o q = nearer o HalfZero q
between HalfToEven o q = nearer o HalfToEven q

-- ApplyUnsignedRoundingMode at m / n
abbrev pub applied : UnsignedRoundingMode → ℕ → ℕ → ℕ
applied u m n = cond (m % n == 0) (m / n) (between u (half_of (m % n) n) (m / n))

-- RoundNumberToIncrement
abbrev pub rounded_to : RoundingMode → ℤ → ℕ → ℤ
rounded_to o (pos m) n = pos (applied (unsigned_of o true) m n * n)
rounded_to o (negsuc m) n = neg_ℤ (pos (applied (unsigned_of o false) (suc m) n * n))
