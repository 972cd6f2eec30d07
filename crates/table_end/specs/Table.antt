-- What a table means, by its bytes.
use Rattle.std.specs.Prelude.{ℕ, cond, List, nat_lt}
use Rattle.provider.specs.Meaning.{Meaning, known, unknown}
use Rattle.provider.specs.Answer.{source_at}
use Rattle.provider.specs.declared.End.TheVariants.{Table}
use Rattle.zone_table.specs.Layout.{zones, zone_offset}

-- The zones below the zone count are known, each by the offsets that its rows hold.
abbrev pub told : List ℕ → Meaning
told bs n = cond (nat_lt n (zones bs)) (known (source_at Table n) (zone_offset bs n)) (unknown (source_at Table n))
