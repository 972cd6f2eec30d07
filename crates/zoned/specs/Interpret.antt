-- InterpretISODateTimeOffset: the instant that a date, an optional time, an exact mark and an optional offset stand for in a zone.
use Rattle.std.specs.Prelude.{◌≡◌, ℕ, Bool, true, false, cond, ◌&&◌, ◌||◌, ℤ, pos, ◌-ℤ◌, ◌*ℤ◌, Some, None, Ok, Err, Option, Result}
use Rattle.offsets.specs.Possible.{eq_z}
use Rattle.offsets.specs.declared.Candidate.{Candidate}
use Rattle.offsets.specs.declared.Candidates.{Candidates}
use Rattle.offsets.specs.declared.Candidates.TheVariants.{Gap, One, Two}
use Rattle.rounding.specs.Rounding.{rounded_to}
use Rattle.rounding.specs.declared.RoundingMode.TheVariants.{HalfExpand}
use Rattle.provider.specs.Meaning.{Meaning}
use Rattle.calendar.specs.declared.IsoDate.{IsoDate}
use Rattle.calendar.specs.Gregorian.{day_of, Real}
use Rattle.clock.specs.declared.IsoTime.{IsoTime}
use Rattle.clock.specs.declared.Timespec.{Timespec}
use Rattle.clock.specs.Clock.{shown}
use Rattle.clock.specs.Instants.{as_utc, within_limits}
use Rattle.zoned.specs.Faults.{raised}
use Rattle.time_zone.specs.Instants.{offset_in, day_ranged, valid_at, possible, disambiguated, resolved, start_of_day}
use Rattle.time_zone.specs.declared.TimeZone.{TimeZone}
use Rattle.zoned.specs.declared.OffsetDisambiguation.{OffsetDisambiguation}
use Rattle.zoned.specs.declared.OffsetDisambiguation.TheVariants.{Use, Prefer, Ignore, Reject}
use Rattle.zoned.specs.declared.EpochNanosecondsAndOffset.{EpochNanosecondsAndOffset}
use Rattle.zoned.specs.declared.Request.{Request}
use Rattle.time_zone.specs.declared.ZoneFault.{ZoneFault}
use Rattle.zoned.specs.declared.ZonedFault.{ZonedFault}
use Rattle.zoned.specs.declared.ZonedFault.TheVariants.{Range, NoMatch}

-- A candidate's offset is the given one, or rounds to it in whole minutes, a half away from zero, where minutes are matched.
abbrev pub offset_matches : Bool → ℤ → ℤ → Bool
offset_matches minutes given o = eq_z o given || (minutes && eq_z (rounded_to HalfExpand o 60) given)

-- The first of the possible instants whose offset matches.
abbrev pub first_match : Bool → ℤ → Candidates → Option Candidate
first_match minutes given (Gap c b a) = None
first_match minutes given (One a) = cond (offset_matches minutes given a.offset) (Some a) None
first_match minutes given (Two a b) =
    cond (offset_matches minutes given a.offset) (Some a) (cond (offset_matches minutes given b.offset) (Some b) None)

-- The instant with its nanoseconds.
abbrev pub with_nanos : ℕ → Result Candidate ZonedFault → Result EpochNanosecondsAndOffset ZonedFault
with_nanos n (Ok a) = Ok (record { ns = record { seconds = a.second; nanos = n }; offset = a.offset })
with_nanos n (Err e) = Err e

abbrev pub at_offset : ℤ → Result ℤ ZoneFault → Result Candidate ZonedFault
at_offset s (Ok o) = Ok (record { second = s; offset = o })
at_offset s (Err e) = raised (Err e)

-- An instant in range, with the zone's own offset there.
abbrev pub at_instant : Meaning → TimeZone → ℕ → ℤ → Result Candidate ZonedFault
at_instant m z n s = cond (valid_at n s) (at_offset s (offset_in m z s)) (Err Range)

-- The local time less a given offset.
abbrev pub exactly : Meaning → TimeZone → ℤ → ℕ → ℤ → Result Candidate ZonedFault
exactly m z L n o = at_instant m z n (L -ℤ o)

-- Where no offset matches: Reject refuses, and Prefer resolves.
abbrev pub unmatched : OffsetDisambiguation → Result Candidate ZonedFault → Result Candidate ZonedFault
unmatched Reject else = Err NoMatch
unmatched Use else = else
unmatched Prefer else = else
unmatched Ignore else = else

abbrev pub matched_or : Option Candidate → Result Candidate ZonedFault → Result Candidate ZonedFault
matched_or (Some a) else = Ok a
matched_or None else = else

abbrev pub by_match : Meaning → Request → ℤ → ℕ → ℤ → Result Candidates ZoneFault → Result Candidate ZonedFault
by_match m q L n given (Ok found) =
    matched_or (first_match q.match_minutes given found) (unmatched q.policy (raised (disambiguated m q.zone L n q.disambiguation found)))
by_match m q L n given (Err e) = raised (Err e)

-- The date is checked, then the possible instants are tried in order.
abbrev pub matched : Meaning → Request → ℤ → ℕ → ℤ → Result Candidate ZonedFault
matched m q L n given = cond (day_ranged L) (by_match m q L n given (possible m q.zone L n)) (Err Range)

abbrev pub by_policy : OffsetDisambiguation → Meaning → Request → ℤ → ℕ → ℤ → Result Candidate ZonedFault
by_policy Use m q L n given = exactly m q.zone L n given
by_policy Ignore m q L n given = raised (resolved m q.zone L n q.disambiguation)
by_policy Prefer m q L n given = matched m q L n given
by_policy Reject m q L n given = matched m q L n given

-- With a time: an offset is taken by its policy, the exact mark alone means offset 0, and else the local time is resolved.
abbrev pub by_offset : Bool → Option ℤ → Meaning → Request → ℤ → ℕ → Result Candidate ZonedFault
by_offset exact (Some given) m q L n = by_policy q.policy m q L n given
by_offset true None m q L n = exactly m q.zone L n (pos 0)
by_offset false None m q L n = raised (resolved m q.zone L n q.disambiguation)

-- The local time of a request: at midnight where it gives no time.
abbrev pub local_at : IsoDate → Option IsoTime → Timespec
local_at d None = record { seconds = day_of d *ℤ pos 86400; nanos = 0 }
local_at d (Some t) = as_utc d t

-- Without a time it is the start of the day.
abbrev pub interpreted_at : Meaning → Request → Option IsoTime → Result EpochNanosecondsAndOffset ZonedFault
interpreted_at m q None = with_nanos 0 (raised (start_of_day m q.zone (local_at q.date None).seconds))
interpreted_at m q (Some t) = with_nanos t.nanosecond (by_offset q.exact q.offset m q (as_utc q.date t).seconds t.nanosecond)

abbrev pub interpreted : Meaning → Request → Result EpochNanosecondsAndOffset ZonedFault
interpreted m q = interpreted_at m q q.time

-- A clock shows the time, where one is given.
abbrev pub time_shown : Option IsoTime → Bool
time_shown None = true
time_shown (Some t) = shown t

-- What the entry checks have seen to: the date and the time are the calendar's and the clock's, and the local time is within its limits.
pub record Sound (q : Request) : Type 0 where
  pub date : Real q.date
  pub time : time_shown q.time ≡ true
  pub limits : within_limits (local_at q.date q.time) ≡ true
