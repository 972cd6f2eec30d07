-- The sheet's refusals, case by case, by number, layer and source.
use Rattle.std.specs.Prelude.{ℕ, List, Some, None, Ok, Err, codes, Option, Result}
use Rattle.provider.specs.Answer.{source_of}
use Rattle.provider.specs.declared.Source.{Source}
use Rattle.zoned.specs.Faults.{zoned_number}
use Rattle.time_zone.specs.declared.ZoneFault.{ZoneFault}
use Rattle.time_zone.specs.declared.ZoneFault.TheVariants.{Provider, FixedMinutes, Range, Ambiguous}
use Rattle.zoned.specs.declared.ZonedFault.{ZonedFault}
use Rattle.zoned.specs.declared.ZonedFault.TheVariants.{Zone, Value, Unit as UnitFault, Duration, Range as Limits, NoMatch, OppositeSigns, BeforeDay}
use Rattle.sheet.specs.declared.Layer.{Layer}
use Rattle.sheet.specs.declared.Layer.TheVariants.{Provider as ByProvider, Zone as ByZone, Zoned as ByZoned, Sheet as BySheet}
use Rattle.sheet.specs.declared.SheetFault.{SheetFault}
use Rattle.sheet.specs.declared.SheetFault.TheVariants.{BerthNumber, Empty, Zoned}
use Rattle.sheet.specs.declared.Refusal.{Refusal}

abbrev pub sheet_number : SheetFault → ℕ
sheet_number BerthNumber = 1
sheet_number Empty = 2
sheet_number (Zoned e) = zoned_number e

-- What the provider refused is its layer's; what was refused while instants were found or resolved is the zone's.
abbrev pub zone_layer : ZoneFault → Layer
zone_layer (Provider e) = ByProvider
zone_layer FixedMinutes = ByZone
zone_layer Range = ByZone
zone_layer Ambiguous = ByZone

abbrev pub zoned_layer : ZonedFault → Layer
zoned_layer (Zone e) = zone_layer e
zoned_layer Value = ByZoned
zoned_layer UnitFault = ByZoned
zoned_layer Duration = ByZoned
zoned_layer Limits = ByZoned
zoned_layer NoMatch = ByZoned
zoned_layer OppositeSigns = ByZoned
zoned_layer BeforeDay = ByZoned

abbrev pub sheet_layer : SheetFault → Layer
sheet_layer BerthNumber = BySheet
sheet_layer Empty = BySheet
sheet_layer (Zoned e) = zoned_layer e

-- The word for a layer.
abbrev pub layer_word : Layer → List ℕ
layer_word ByProvider = codes "provider"
layer_word ByZone = codes "zone"
layer_word ByZoned = codes "zoned"
layer_word BySheet = codes "sheet"

abbrev pub zone_source : ZoneFault → Option Source
zone_source (Provider e) = Some (source_of e)
zone_source FixedMinutes = None
zone_source Range = None
zone_source Ambiguous = None

abbrev pub zoned_source : ZonedFault → Option Source
zoned_source (Zone e) = zone_source e
zoned_source Value = None
zoned_source UnitFault = None
zoned_source Duration = None
zoned_source Limits = None
zoned_source NoMatch = None
zoned_source OppositeSigns = None
zoned_source BeforeDay = None

abbrev pub sheet_source : SheetFault → Option Source
sheet_source BerthNumber = None
sheet_source Empty = None
sheet_source (Zoned e) = zoned_source e

abbrev pub refusal_number : Refusal → ℕ
refusal_number r = sheet_number r.fault

abbrev pub refusal_layer : Refusal → Layer
refusal_layer r = sheet_layer r.fault

abbrev pub refusal_source : Refusal → Option Source
refusal_source r = sheet_source r.fault

-- A refusal names the berth of the call.
abbrev pub at_berth : {A : Type 0} → ℕ → Result A SheetFault → Result A Refusal
at_berth b (Ok x) = Ok x
at_berth b (Err e) = Err (record { berth = b; fault = e })

-- The zoned operation's refusal, carried whole inside the sheet's.
abbrev pub lifted : {A : Type 0} → Result A ZonedFault → Result A SheetFault
lifted (Ok x) = Ok x
lifted (Err e) = Err (Zoned e)
