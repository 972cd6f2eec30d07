-- The answer of a zoned operation keeps what every instant keeps.
use Rattle.std.specs.Prelude.{Ok, Err, Result}
use Rattle.provider.specs.Meaning.{Meaning}
use Rattle.time_zone.specs.Right.{OffsetIs}
use Rattle.time_zone.specs.declared.TimeZone.{TimeZone}
use Rattle.zoned.specs.declared.EpochNanosecondsAndOffset.{EpochNanosecondsAndOffset}

-- An instant with its nanoseconds has its zone's offset at its second.
abbrev pub AnswerRight : {E : Type 0} → Meaning → TimeZone → Result EpochNanosecondsAndOffset E → Type 0
AnswerRight m z (Ok e) = OffsetIs m z e.ns.seconds e.offset
AnswerRight m z (Err e) = Unit {0}
