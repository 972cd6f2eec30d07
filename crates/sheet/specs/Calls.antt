-- What each call on the sheet answers, and the berths after it, over the meaning of any provider.
use Rattle.std.specs.Prelude.{◌≡◌, ℕ, ◌-◌, Bool, true, false, cond, ◌&&◌, List, [], ◌∷◌, replicate, ℤ, pos, negsuc, ◌+ℤ◌, is_some, Some, None, Ok, Err, Option, Result, int_le, nat_le, slice_index_or, slice_set}
use Rattle.calendar.specs.Gregorian.{valid_date}
use Rattle.clock.specs.Instants.{valid_epoch, within_limits, ReadsAs}
use Rattle.clock.specs.declared.Timespec.{Timespec}
use Rattle.clock.specs.declared.IsoTime.{IsoTime}
use Rattle.provider.specs.Meaning.{Zone, unknown, known, Meaning}
use Rattle.provider.specs.declared.ProviderFault.TheVariants.{UnknownZone}
use Rattle.zoned.specs.Interpret.{local_at, time_shown, interpreted}
use Rattle.zoned.specs.declared.Request.{Request}
use Rattle.time_zone.specs.declared.TimeZone.{TimeZone}
use Rattle.time_zone.specs.declared.TimeZone.TheVariants.{Named, Fixed}
use Rattle.zoned.specs.declared.EpochNanosecondsAndOffset.{EpochNanosecondsAndOffset}
use Rattle.time_zone.specs.declared.ZoneFault.TheVariants.{Provider, FixedMinutes}
use Rattle.zoned.specs.declared.ZonedFault.{ZonedFault}
use Rattle.zoned.specs.declared.ZonedFault.TheVariants.{Zone as Raised, Value, Unit as UnitFault, Range}
use Rattle.sheet.specs.Refusals.{at_berth, lifted}
use Rattle.sheet.specs.declared.Arrival.{Arrival}
use Rattle.sheet.specs.declared.Reading.{Reading}
use Rattle.sheet.specs.declared.Refusal.{Refusal}
use Rattle.sheet.specs.declared.SheetFault.TheVariants.{BerthNumber, Empty}

-- The berths in order, the first of them berth 1.
abbrev pub Berths : Type 0
Berths = List (Option Arrival)

-- An opened sheet.
abbrev pub blank : Berths
blank = replicate 99 None

-- Berths are numbered 1 to 99.
abbrev pub is_berth : ℕ → Bool
is_berth b = nat_le 1 b && nat_le b 99

abbrev pub berth_at : Berths → ℕ → Option Arrival
berth_at rows b = slice_index_or rows (b - 1) None

-- ---- set: the entry checks, in order

-- The zone is known to the provider, or its fixed minutes are less than a day.
abbrev pub zone_checked : Zone → Result Unit ZonedFault
zone_checked (unknown o) = Err (Raised (Provider (UnknownZone o)))
zone_checked (known o f) = Ok tt

abbrev pub zone_known : Meaning → TimeZone → Result Unit ZonedFault
zone_known m (Named n) = zone_checked (m n)
zone_known m (Fixed k) = cond (int_le (negsuc 1438) k && int_le k (pos 1439)) (Ok tt) (Err (Raised FixedMinutes))

abbrev pub offset_small : Option ℤ → Bool
offset_small None = true
offset_small (Some o) = int_le (negsuc 86398) o && int_le o (pos 86399)

-- Date and time are the calendar's and the clock's, and a given offset is less than a day.
abbrev pub values_checked : Request → Bool
values_checked q = valid_date q.date && (time_shown q.time && offset_small q.offset)

-- An offset comes with a time.
abbrev pub offset_timed : Option ℤ → Option IsoTime → Bool
offset_timed None t = true
offset_timed (Some o) (Some t) = true
offset_timed (Some o) None = false

-- What comes next is done where the checks before it passed.
abbrev pub then_checked : {A : Type 0} → Result Unit ZonedFault → Result A ZonedFault → Result A ZonedFault
then_checked (Ok u) next = next
then_checked (Err e) next = Err e

abbrev pub check : Bool → ZonedFault → Result Unit ZonedFault
check b e = cond b (Ok tt) (Err e)

-- The zone, the values, the offset's time, and then the limits of the local time.
abbrev pub entry : Meaning → Request → Result Unit ZonedFault
entry m q =
    then_checked (zone_known m q.zone) (then_checked (check (values_checked q) Value) (then_checked (check (offset_timed q.offset q.time) UnitFault) (check (within_limits (local_at q.date q.time)) Range)))

-- ---- set: the arrival

-- An arrival is made where its instant is in range.
abbrev pub made_at : TimeZone → EpochNanosecondsAndOffset → Result Arrival ZonedFault
made_at z e = cond (valid_epoch e.ns) (Ok (record { zone = z; instant = e.ns; offset = e.offset })) (Err Range)

abbrev pub made_from : TimeZone → Result EpochNanosecondsAndOffset ZonedFault → Result Arrival ZonedFault
made_from z (Ok e) = made_at z e
made_from z (Err e) = Err e

-- The arrival that a request brings about.
abbrev pub arrived : Meaning → Request → Result Arrival ZonedFault
arrived m q = then_checked (entry m q) (made_from q.zone (interpreted m q))

abbrev pub set_answer : Meaning → ℕ → Request → Result Arrival Refusal
set_answer m b q = at_berth b (cond (is_berth b) (lifted (arrived m q)) (Err BerthNumber))

-- A granted call writes its arrival into the berth; a refused one leaves every berth.
abbrev pub stored : Berths → ℕ → Result Arrival Refusal → Berths
stored rows b (Ok a) = slice_set rows (b - 1) (Some a)
stored rows b (Err e) = rows

-- ---- clear and read

abbrev pub clear_answer : Berths → ℕ → Result Bool Refusal
clear_answer rows b = at_berth b (cond (is_berth b) (Ok (is_some (berth_at rows b))) (Err BerthNumber))

abbrev pub cleared : Berths → ℕ → Berths
cleared rows b = cond (is_berth b) (slice_set rows (b - 1) None) rows

-- The arrival's instant plus its offset.
abbrev pub local_of : Arrival → Timespec
local_of a = record { seconds = a.instant.seconds +ℤ a.offset; nanos = a.instant.nanos }

-- The arrival in the berth, and the local date-time that its instant reads; that is one date and one time.
abbrev pub ReadHeld : ℕ → Option Arrival → Result Reading Refusal → Type 0
ReadHeld b None r = r ≡ at_berth b (Err Empty)
ReadHeld b (Some a) (Ok v) = (v.arrival ≡ a) × ReadsAs v.local (local_of a)
ReadHeld b (Some a) (Err e) = ⊥

abbrev pub ReadAnswer : Berths → ℕ → Result Reading Refusal → Type 0
ReadAnswer rows b r = cond (is_berth b) (ReadHeld b (berth_at rows b) r) (r ≡ at_berth b (Err BerthNumber))

-- ---- what every berth keeps, whatever the provider

abbrev pub in_range : Option Arrival → Bool
in_range None = true
in_range (Some a) = valid_epoch a.instant

abbrev pub all_in_range : Berths → Bool
all_in_range [] = true
all_in_range (x ∷ rows) = in_range x && all_in_range rows
