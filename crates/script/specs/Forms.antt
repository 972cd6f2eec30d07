-- Words that stand for one thing each, and zones, as a line writes them.
use Rattle.std.specs.Prelude.{ℕ, cond, List, ℤ, Some, None, codes, Option}
use Rattle.time_zone.specs.declared.TimeZone.{TimeZone}
use Rattle.time_zone.specs.declared.TimeZone.TheVariants.{Named, Fixed}
use Rattle.time_zone.specs.declared.Disambiguation.{Disambiguation}
use Rattle.time_zone.specs.declared.Disambiguation.TheVariants.{Compatible, Earlier, Later, Reject}
use Rattle.zoned.specs.declared.OffsetDisambiguation.{OffsetDisambiguation}
use Rattle.zoned.specs.declared.OffsetDisambiguation.TheVariants.{Use, Prefer, Ignore, Reject as Refuse}
use Rattle.script.specs.Cuts.{alike, behind}
use Rattle.script.specs.Numbers.{number, signed_below, unsigned_below}

-- What a policy's word stands for.
abbrev pub policy_of : List ℕ → Option OffsetDisambiguation
policy_of w =
    cond (alike w (codes "use")) (Some Use) (cond (alike w (codes "prefer")) (Some Prefer) (cond (alike w (codes "ignore")) (Some Ignore) (cond (alike w (codes "reject")) (Some Refuse) None)))

abbrev pub disambiguation_of : List ℕ → Option Disambiguation
disambiguation_of w =
    cond (alike w (codes "compatible")) (Some Compatible) (cond (alike w (codes "earlier")) (Some Earlier) (cond (alike w (codes "later")) (Some Later) (cond (alike w (codes "reject")) (Some Reject) None)))

abbrev pub fixed_by : Option ℤ → Option TimeZone
fixed_by None = None
fixed_by (Some m) = Some (Fixed m)

abbrev pub named_by : Option ℕ → Option TimeZone
named_by None = None
named_by (Some n) = Some (Named n)

abbrev pub fixed_zone : Option (List ℕ) → Option TimeZone
fixed_zone None = None
fixed_zone (Some m) = fixed_by (signed_below 32768 (number m))

abbrev pub zone_or : Option (List ℕ) → Option TimeZone → Option TimeZone
zone_or None z = z
zone_or (Some n) z = named_by (unsigned_below 65536 (number n))

-- `named:N` or `fixed:M`.
abbrev pub zone_of : List ℕ → Option TimeZone
zone_of bs = zone_or (behind (codes "named:") bs) (fixed_zone (behind (codes "fixed:") bs))
