-- Dates and times of day, as a line writes them.
use Rattle.std.specs.Prelude.{ℕ, Bool, true, false, List, ℤ, Some, None, codes, Option}
use Rattle.calendar.specs.declared.IsoDate.{IsoDate}
use Rattle.clock.specs.declared.IsoTime.{IsoTime}
use Rattle.script.specs.Cuts.{behind, halves}
use Rattle.script.specs.Numbers.{decimal, with_sign, signed_below, of_two, fraction_of}

-- A year of 32 bits, with its sign.
abbrev pub year_of : Bool → List ℕ → Option ℤ
year_of s bs = signed_below 2147483648 (with_sign s (decimal bs))

abbrev pub date_of_parts : ℤ → Option ℕ → Option ℕ → Option IsoDate
date_of_parts y None d = None
date_of_parts y (Some m) None = None
date_of_parts y (Some m) (Some d) = Some (record { year = y; month = m; day = d })

-- The month and the day stand on either side of a `-`.
abbrev pub date_in_year : Option ℤ → Option (List ℕ × List ℕ) → Option IsoDate
date_in_year None h = None
date_in_year (Some y) None = None
date_in_year (Some y) (Some h) = date_of_parts y (of_two h.0) (of_two h.1)

-- The year stands before the first `-`.
abbrev pub date_cut : Bool → Option (List ℕ × List ℕ) → Option IsoDate
date_cut s None = None
date_cut s (Some h) = date_in_year (year_of s h.0) (halves 45 h.1)

abbrev pub date_signed : Option (List ℕ) → Option (List ℕ) → List ℕ → Option IsoDate
date_signed (Some m) p bs = date_cut true (halves 45 m)
date_signed None (Some p) bs = date_cut false (halves 45 p)
date_signed None None bs = date_cut false (halves 45 bs)

-- YEAR-MONTH-DAY, where the year may have either sign.
abbrev pub date_of : List ℕ → Option IsoDate
date_of bs = date_signed (behind (codes "-") bs) (behind (codes "+") bs) bs

abbrev pub with_nanos : Option ℕ → Option ℕ → Option (ℕ × ℕ)
with_nanos None n = None
with_nanos (Some s) None = None
with_nanos (Some s) (Some n) = Some (s, n)

abbrev pub second_cut : Option (List ℕ × List ℕ) → List ℕ → Option (ℕ × ℕ)
second_cut None bs = with_nanos (of_two bs) (Some 0)
second_cut (Some h) bs = with_nanos (of_two h.0) (fraction_of h.1)

-- SS or SS.F: the second and its nanoseconds.
abbrev pub second_of : List ℕ → Option (ℕ × ℕ)
second_of bs = second_cut (halves 46 bs) bs

abbrev pub time_of_parts : ℕ → Option ℕ → Option (ℕ × ℕ) → Option IsoTime
time_of_parts h None s = None
time_of_parts h (Some m) None = None
time_of_parts h (Some m) (Some s) = Some (record { hour = h; minute = m; second = s.0; nanosecond = s.1 })

-- Behind the hour stands the minute, and perhaps the second.
abbrev pub time_in_hour : ℕ → Option (List ℕ × List ℕ) → List ℕ → Option IsoTime
time_in_hour h None bs = time_of_parts h (of_two bs) (Some (0, 0))
time_in_hour h (Some p) bs = time_of_parts h (of_two p.0) (second_of p.1)

abbrev pub time_at : Option ℕ → List ℕ → Option IsoTime
time_at None bs = None
time_at (Some h) bs = time_in_hour h (halves 58 bs) bs

abbrev pub time_cut : Option (List ℕ × List ℕ) → Option IsoTime
time_cut None = None
time_cut (Some p) = time_at (of_two p.0) p.1

-- HH:MM, HH:MM:SS or HH:MM:SS.F.
abbrev pub time_of : List ℕ → Option IsoTime
time_of bs = time_cut (halves 58 bs)
