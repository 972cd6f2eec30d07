-- The instants that a local time may stand for in a zone, and the one that is chosen: over the meaning of any provider.
-- A local time is its whole seconds L, counted as if in UTC, and its nanoseconds n, which every instant that reads it shares.
use Rattle.std.specs.Prelude.{ℕ, Bool, true, cond, ◌&&◌, ℤ, pos, ◌+ℤ◌, ◌-ℤ◌, ◌*ℤ◌, Ok, Err, Result, int_le}
use Rattle.std.specs.Int.{int_div_euclid}
use Rattle.clock.specs.Instants.{valid_epoch}
use Rattle.offsets.specs.declared.Candidate.{Candidate}
use Rattle.offsets.specs.declared.Candidates.{Candidates}
use Rattle.offsets.specs.declared.Candidates.TheVariants.{Gap, One, Two}
use Rattle.provider.specs.Meaning.{Meaning}
use Rattle.provider.specs.Answer.{offset_answer, candidates_answer}
use Rattle.time_zone.specs.Faults.{carried}
use Rattle.time_zone.specs.declared.TimeZone.{TimeZone}
use Rattle.time_zone.specs.declared.TimeZone.TheVariants.{Named, Fixed}
use Rattle.time_zone.specs.declared.Disambiguation.{Disambiguation}
use Rattle.time_zone.specs.declared.Disambiguation.TheVariants.{Compatible, Earlier, Later, Reject}
use Rattle.time_zone.specs.declared.ZoneFault.{ZoneFault}
use Rattle.time_zone.specs.declared.ZoneFault.TheVariants.{Range, Ambiguous}

-- The zone's offset at a second: the fixed one, or the provider's.
abbrev pub offset_in : Meaning → TimeZone → ℤ → Result ℤ ZoneFault
offset_in m (Fixed k) s = Ok (k *ℤ pos 60)
offset_in m (Named n) s = carried (offset_answer (m n) s)

-- The date of L is at most so many days from 1970-01-01.
abbrev pub day_within : ℤ → ℤ → Bool
day_within days L = int_le (pos 0 -ℤ days) (int_div_euclid L (pos 86400)) && int_le (int_div_euclid L (pos 86400)) days

-- CheckISODaysRange.
abbrev pub day_ranged : ℤ → Bool
day_ranged L = day_within (pos 100000000) L

-- What reads L: in a fixed zone L less its offset, in a named one what the provider tells, once the date is checked.
abbrev pub candidates_in : Meaning → TimeZone → ℤ → Result Candidates ZoneFault
candidates_in m (Fixed k) L = Ok (One (record { second = L -ℤ k *ℤ pos 60; offset = k *ℤ pos 60 }))
candidates_in m (Named z) L = cond (day_ranged L) (carried (candidates_answer (m z) L)) (Err Range)

-- The instant is in range.
abbrev pub valid_at : ℕ → ℤ → Bool
valid_at n s = valid_epoch (record { seconds = s; nanos = n })

-- Every instant that reads the local time is in range.
abbrev pub all_valid : ℕ → Candidates → Bool
all_valid n (Gap c b a) = true
all_valid n (One a) = valid_at n a.second
all_valid n (Two a b) = valid_at n a.second && valid_at n b.second

abbrev pub ranged : ℕ → Result Candidates ZoneFault → Result Candidates ZoneFault
ranged n (Ok x) = cond (all_valid n x) (Ok x) (Err Range)
ranged n (Err e) = Err e

-- GetPossibleEpochNanoseconds: all that reads the local time, refused where one is out of range.
abbrev pub possible : Meaning → TimeZone → ℤ → ℕ → Result Candidates ZoneFault
possible m z L n = ranged n (candidates_in m z L)

-- The first and the last of the possible instants.
abbrev pub first_of : Result Candidates ZoneFault → Result Candidate ZoneFault
first_of (Ok (Gap c b a)) = Err Range
first_of (Ok (One a)) = Ok a
first_of (Ok (Two a b)) = Ok a
first_of (Err e) = Err e

abbrev pub last_of : Result Candidates ZoneFault → Result Candidate ZoneFault
last_of (Ok (Gap c b a)) = Err Range
last_of (Ok (One a)) = Ok a
last_of (Ok (Two a b)) = Ok b
last_of (Err e) = Err e

-- The possible instants of a local time that was moved out of a gap.
abbrev pub moved : Meaning → TimeZone → ℤ → ℕ → Result Candidates ZoneFault
moved m z L n = cond (day_within (pos 100000001) L) (possible m z L n) (Err Range)

-- Of two instants.
abbrev pub of_two : Disambiguation → Candidate → Candidate → Result Candidate ZoneFault
of_two Compatible a b = Ok a
of_two Earlier a b = Ok a
of_two Later a b = Ok b
of_two Reject a b = Err Ambiguous

-- Of none: the local time goes back or on by the jump of the gap.
abbrev pub of_none : Meaning → TimeZone → ℤ → ℕ → Disambiguation → ℤ → Result Candidate ZoneFault
of_none m z L n Compatible jump = last_of (moved m z (L +ℤ jump) n)
of_none m z L n Earlier jump = first_of (moved m z (L -ℤ jump) n)
of_none m z L n Later jump = last_of (moved m z (L +ℤ jump) n)
of_none m z L n Reject jump = Err Ambiguous

-- DisambiguatePossibleEpochNanoseconds.
abbrev pub disambiguated : Meaning → TimeZone → ℤ → ℕ → Disambiguation → Candidates → Result Candidate ZoneFault
disambiguated m z L n d (Gap c before after) = of_none m z L n d (after -ℤ before)
disambiguated m z L n d (One a) = Ok a
disambiguated m z L n d (Two a b) = of_two d a b

abbrev pub disambiguated_in : Meaning → TimeZone → ℤ → ℕ → Disambiguation → Result Candidates ZoneFault → Result Candidate ZoneFault
disambiguated_in m z L n d (Ok x) = disambiguated m z L n d x
disambiguated_in m z L n d (Err e) = Err e

-- GetEpochNanosecondsFor.
abbrev pub resolved : Meaning → TimeZone → ℤ → ℕ → Disambiguation → Result Candidate ZoneFault
resolved m z L n d = disambiguated_in m z L n d (possible m z L n)

abbrev pub started : Result Candidates ZoneFault → Result Candidate ZoneFault
started (Ok (Gap c before after)) = Ok (record { second = c; offset = after })
started (Ok (One a)) = Ok a
started (Ok (Two a b)) = Ok a
started (Err e) = Err e

-- GetStartOfDay, of the day whose midnight is L: the first possible instant there, or the change that leaps over it.
abbrev pub start_of_day : Meaning → TimeZone → ℤ → Result Candidate ZoneFault
start_of_day m z L = started (possible m z L 0)
