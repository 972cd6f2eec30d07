-- The refusals of zoned operations, case by case, by their numbers.
use Rattle.std.specs.Prelude.{ℕ, Ok, Err, Result}
use Rattle.time_zone.specs.Faults.{zone_number}
use Rattle.time_zone.specs.declared.ZoneFault.{ZoneFault}
use Rattle.zoned.specs.declared.ZonedFault.{ZonedFault}
use Rattle.zoned.specs.declared.ZonedFault.TheVariants.{Zone, Value, Unit as UnitFault, Duration, Range as Limits, NoMatch, OppositeSigns, BeforeDay}

abbrev pub zoned_number : ZonedFault → ℕ
zoned_number (Zone e) = zone_number e
zoned_number Value = 4
zoned_number UnitFault = 5
zoned_number Duration = 6
zoned_number Limits = 7
zoned_number NoMatch = 9
zoned_number OppositeSigns = 10
zoned_number BeforeDay = 11

-- The zone's refusal, carried whole inside that of the zoned operation.
abbrev pub raised : {A : Type 0} → Result A ZoneFault → Result A ZonedFault
raised (Ok x) = Ok x
raised (Err e) = Err (Zone e)
