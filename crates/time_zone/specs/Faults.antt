-- The refusals of the zone layer, case by case, by their numbers.
use Rattle.std.specs.Prelude.{ℕ, Ok, Err, Result}
use Rattle.provider.specs.Answer.{fault_number}
use Rattle.provider.specs.declared.ProviderFault.{ProviderFault}
use Rattle.time_zone.specs.declared.ZoneFault.{ZoneFault}
use Rattle.time_zone.specs.declared.ZoneFault.TheVariants.{Provider, FixedMinutes, Range, Ambiguous}

abbrev pub zone_number : ZoneFault → ℕ
zone_number (Provider e) = fault_number e
zone_number FixedMinutes = 3
zone_number Range = 7
zone_number Ambiguous = 8

-- The provider's refusal, carried whole inside the zone's.
abbrev pub carried : {A : Type 0} → Result A ProviderFault → Result A ZoneFault
carried (Ok x) = Ok x
carried (Err e) = Err (Provider e)
