-- The proleptic Gregorian calendar, as a calendar counts: years by their lengths, months by their lengths, days one by one. Day 0 is 1970-01-01.
-- Assumes nothing.
use Rattle.std.specs.Prelude.{◌≡◌, ℕ, zero, suc, ◌+◌, ◌-◌, ◌%◌, ◌<◌, ◌≤◌, Bool, cond, not, ◌&&◌, ◌||◌, ◌⊎◌, ℤ, pos, negsuc, ◌+ℤ◌, ◌-ℤ◌, neg_ℤ, ◌<ℤ◌, ◌==◌, nat_le, unsigned_abs}
use Rattle.calendar.specs.declared.IsoDate.{IsoDate}

-- k divides y
abbrev pub divides : ℕ → ℤ → Bool
divides k y = unsigned_abs y % k == 0

-- every fourth year, but of the hundreds only every fourth
unfoldable pub leap : ℤ → Bool
leap y = divides 4 y && (not (divides 100 y) || divides 400 y)

abbrev pub year_length : ℤ → ℕ
year_length y = cond (leap y) 366 365

-- the months of a year that is leap or not, counted from 1
abbrev pub month_length : Bool → ℕ → ℕ
month_length l m =
    cond (m == 2) (cond l 29 28) (cond (m == 4 || m == 6 || m == 9 || m == 11) 30 31)

-- the days of the first n months
unfoldable pub months_before : Bool → ℕ → ℕ
months_before l zero = 0
months_before l (suc n) = months_before l n + month_length l (suc n)

-- the days of the n years from 1970 on, and of the n years before 1970
unfoldable pub years_after : ℕ → ℕ
years_after zero = 0
years_after (suc n) = years_after n + year_length (pos 1970 +ℤ pos n)

unfoldable pub years_before : ℕ → ℕ
years_before zero = 0
years_before (suc n) = years_before n + year_length (pos 1969 -ℤ pos n)

abbrev pub counted : ℤ → ℤ
counted (pos n) = pos (years_after n)
counted (negsuc n) = neg_ℤ (pos (years_before (suc n)))

-- the day on which the year y begins
unfoldable pub year_start : ℤ → ℤ
year_start y = counted (y -ℤ pos 1970)

-- the day of a date
abbrev pub epoch_days : ℤ → ℕ → ℕ → ℤ
epoch_days y m d = year_start y +ℤ pos (months_before (leap y) (m - 1)) +ℤ pos d -ℤ pos 1

-- the date is one of the calendar's
pub record Valid (y : ℤ) (m d : ℕ) : Type 0 where
  pub month_low : 1 ≤ m
  pub month_high : m ≤ 12
  pub day_low : 1 ≤ d
  pub day_high : d ≤ month_length (leap y) m

-- the date y, m, d comes before the date z, n, e
abbrev pub Earlier : ℤ → ℕ → ℕ → ℤ → ℕ → ℕ → Type 0
Earlier y m d z n e = (y <ℤ z) ⊎ ((y ≡ z) × ((m < n) ⊎ ((m ≡ n) × (d < e))))

-- the day of a date, and that the date is one of the calendar's
abbrev pub day_of : IsoDate → ℤ
day_of t = epoch_days t.year t.month t.day

abbrev pub Real : IsoDate → Type 0
Real t = Valid t.year t.month t.day

-- the same as a test
abbrev pub valid_date : IsoDate → Bool
valid_date t = nat_le 1 t.month && (nat_le t.month 12 && (nat_le 1 t.day && nat_le t.day (month_length (leap t.year) t.month)))
