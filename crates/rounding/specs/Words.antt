-- What rounding to an increment means, in words.
use Rattle.std.specs.Prelude.{◌≡◌, ℕ, ◌*◌, ◌%◌, ◌<◌, ◌≤◌, ℤ, pos, ◌-ℤ◌, ◌≤ℤ◌, unsigned_abs}
use Rattle.rounding.specs.Rounding.{rounded_to}
use Rattle.rounding.specs.declared.RoundingMode.{RoundingMode}
use Rattle.rounding.specs.declared.RoundingMode.TheVariants.{Ceil, Floor, Expand, Trunc, HalfCeil, HalfFloor, HalfExpand, HalfTrunc, HalfEven}

-- A multiple of n.
abbrev pub Multiple : ℕ → ℤ → Type 0
Multiple n r = unsigned_abs r % n ≡ 0

-- How far r is from x.
abbrev pub apart : ℤ → ℤ → ℕ
apart r x = unsigned_abs (r -ℤ x)

-- r is no nearer zero than x, and on its side.
pub record Away (x r : ℤ) : Type 0 where
  pub size : unsigned_abs x ≤ unsigned_abs r
  pub above : pos 0 ≤ℤ x → pos 0 ≤ℤ r
  pub below : x ≤ℤ pos 0 → r ≤ℤ pos 0

-- r is no farther from zero than x, and on its side.
pub record Toward (x r : ℤ) : Type 0 where
  pub size : unsigned_abs r ≤ unsigned_abs x
  pub above : pos 0 ≤ℤ x → pos 0 ≤ℤ r
  pub below : x ≤ℤ pos 0 → r ≤ℤ pos 0

-- r is at most half an increment from x, and where it is just a half, a rule holds.
pub record Nearest (n : ℕ) (x r : ℤ) (Tie : Type 0) : Type 0 where
  pub nearest : 2 * apart r x ≤ n
  pub tie : 2 * apart r x ≡ n → Tie

-- What a mode asks of r, among the multiples of n near x.
abbrev pub Asks : RoundingMode → ℕ → ℤ → ℤ → Type 0
Asks Ceil n x r = x ≤ℤ r
Asks Floor n x r = r ≤ℤ x
Asks Expand n x r = Away x r
Asks Trunc n x r = Toward x r
Asks HalfCeil n x r = Nearest n x r (x ≤ℤ r)
Asks HalfFloor n x r = Nearest n x r (r ≤ℤ x)
Asks HalfExpand n x r = Nearest n x r (Away x r)
Asks HalfTrunc n x r = Nearest n x r (Toward x r)
Asks HalfEven n x r = Nearest n x r (Multiple (2 * n) r)

-- r is x rounded to the increment n: a multiple, less than an increment away, as the mode asks.
pub record Rounds (o : RoundingMode) (n : ℕ) (x r : ℤ) : Type 0 where
  pub multiple : Multiple n r
  pub near : apart r x < n
  pub asked : Asks o n x r

-- RoundNumberToIncrement answers such a number.
abbrev pub RoundsAsAsked : Type 0
RoundsAsAsked = (o : RoundingMode) (x : ℤ) (n : ℕ) → 0 < n → Rounds o n x (rounded_to o x n)

-- There is only one.
abbrev pub OneAnswer : Type 0
OneAnswer = (o : RoundingMode) (x r s : ℤ) (n : ℕ) → 0 < n → Rounds o n x r → Rounds o n x s → r ≡ s

-- No multiple is nearer to x than one at most half an increment away.
abbrev pub NoneNearer : Type 0
NoneNearer = (x r s : ℤ) (n : ℕ) → 0 < n → Multiple n r → Multiple n s → 2 * apart r x ≤ n → apart r x ≤ apart s x
