-- Rounding a time of day.
use Rattle.std.specs.Prelude.{◌≡◌, ℕ, ◌+◌, ◌-◌, ◌*◌, ◌%◌, ◌<◌, Bool, true, ◌&&◌, pos, ◌==◌, ◌≢◌, nat_lt, unsigned_abs}
use Rattle.clock.specs.declared.IsoTime.{IsoTime}
use Rattle.clock.specs.Clock.{shown, since_midnight}
use Rattle.rounding.specs.declared.RoundingMode.{RoundingMode}
use Rattle.rounding.specs.declared.RoundingMode.TheVariants.{HalfEven}
use Rattle.rounding.specs.Rounding.{rounded_to}
use Rattle.rounding.specs.Words.{Rounds}
use Rattle.time_rounding.specs.declared.TimeUnit.{TimeUnit}
use Rattle.time_rounding.specs.declared.TimeUnit.TheVariants.{Hour, Minute, Second, Millisecond, Microsecond, Nanosecond}

-- The nanoseconds of a unit.
abbrev pub unit_length : TimeUnit → ℕ
unit_length Hour = 3600000000000
unit_length Minute = 60000000000
unit_length Second = 1000000000
unit_length Millisecond = 1000000
unit_length Microsecond = 1000
unit_length Nanosecond = 1

-- How many of a unit make the next larger one, which for hours is the day.
abbrev pub in_larger : TimeUnit → ℕ
in_larger Hour = 24
in_larger Minute = 60
in_larger Second = 60
in_larger Millisecond = 1000
in_larger Microsecond = 1000
in_larger Nanosecond = 1000

-- An increment that may be asked for divides the next larger unit, and is less.
abbrev pub allowed_increment : TimeUnit → ℕ → Bool
allowed_increment u k = nat_lt 0 k && (nat_lt k (in_larger u) && in_larger u % k == 0)

-- The nanoseconds since midnight.
abbrev pub nanos_of_day : IsoTime → ℕ
nanos_of_day t = since_midnight t * 1000000000 + t.nanosecond

-- The part of the time past the last whole larger unit: from the unit down.
abbrev pub past : TimeUnit → IsoTime → ℕ
past u t = nanos_of_day t % (in_larger u * unit_length u)

-- RoundTime, in nanoseconds since midnight: that part is rounded, and the larger units are kept.
abbrev pub rounded_nanos : RoundingMode → TimeUnit → ℕ → IsoTime → ℕ
rounded_nanos o u k t = nanos_of_day t - past u t + unsigned_abs (rounded_to o (pos (past u t)) (k * unit_length u))

-- The rounded time is a multiple of the increment, less than one increment from the time.
pub record WithinOne (n x r : ℕ) : Type 0 where
  pub multiple : r % n ≡ 0
  pub above : r < x + n
  pub below : x < r + n

-- So it is, where the increment divides the next larger unit.
abbrev pub RoundsWithinOne : Type 0
RoundsWithinOne = (o : RoundingMode) (u : TimeUnit) (k : ℕ) (t : IsoTime) → 0 < k → in_larger u % k ≡ 0 → WithinOne (k * unit_length u) (nanos_of_day t) (rounded_nanos o u k t)

-- There the whole time is rounded as the mode asks; only what is even is counted from the last whole larger unit.
abbrev pub RoundsTheWhole : Type 0
RoundsTheWhole = (o : RoundingMode) (u : TimeUnit) (k : ℕ) (t : IsoTime) → 0 < k → in_larger u % k ≡ 0 → (o ≢ HalfEven) → Rounds o (k * unit_length u) (pos (nanos_of_day t)) (pos (rounded_nanos o u k t))

-- Days and a time that a clock shows are told by their nanoseconds.
abbrev pub OneReading : Type 0
OneReading = (d e : ℕ) (s t : IsoTime) → shown s ≡ true → shown t ≡ true → d * 86400000000000 + nanos_of_day s ≡ e * 86400000000000 + nanos_of_day t → (d ≡ e) × (s ≡ t)
