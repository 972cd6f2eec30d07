-- Instants and local times in nanoseconds, and their limits.
use Rattle.std.specs.Prelude.{◌≡◌, Bool, true, ◌&&◌, ℤ, pos, negsuc, ◌+ℤ◌, ◌*ℤ◌, nat_lt, int_le, int_lt}
use Rattle.calendar.specs.declared.IsoDate.{IsoDate}
use Rattle.calendar.specs.Gregorian.{day_of, Real}
use Rattle.clock.specs.Clock.{shown, since_midnight}
use Rattle.clock.specs.declared.IsoTime.{IsoTime}
use Rattle.clock.specs.declared.IsoDateTime.{IsoDateTime}
use Rattle.clock.specs.declared.Timespec.{Timespec}

-- What a pair is worth, in nanoseconds.
abbrev pub worth : Timespec → ℤ
worth p = p.seconds *ℤ pos 1000000000 +ℤ pos p.nanos

-- An instant is at most 8.64 × 10^21 ns from the epoch.
abbrev pub valid_epoch : Timespec → Bool
valid_epoch p = nat_lt p.nanos 1000000000 && (int_le (negsuc 8639999999999999999999) (worth p) && int_le (worth p) (pos 8640000000000000000000))

-- A local time, counted as if in UTC, is less than a day past those limits.
abbrev pub within_limits : Timespec → Bool
within_limits p = nat_lt p.nanos 1000000000 && (int_lt (negsuc 8640000086399999999999) (worth p) && int_lt (worth p) (pos 8640000086400000000000))

-- A date and a time of day, counted as if in UTC.
abbrev pub as_utc : IsoDate → IsoTime → Timespec
as_utc d t = record { seconds = day_of d *ℤ pos 86400 +ℤ pos (since_midnight t); nanos = t.nanosecond }

-- The date and the time of day that are counted so; a day has one date, and a second of the day one time.
pub record ReadsAs (r : IsoDateTime) (p : Timespec) : Type 0 where
  pub date : Real r.date
  pub time : shown r.time ≡ true
  pub counted : as_utc r.date r.time ≡ p
