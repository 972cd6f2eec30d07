-- The optional words of a `set`: what each stands for, and what stands for it where it is left out. None is a bad form.
use Rattle.std.specs.Prelude.{ℕ, Bool, true, false, List, length, ℤ, Some, None, Option, nat_lt}
use Rattle.clock.specs.declared.IsoTime.{IsoTime}
use Rattle.time_zone.specs.declared.Disambiguation.{Disambiguation}
use Rattle.time_zone.specs.declared.Disambiguation.TheVariants.{Compatible}
use Rattle.zoned.specs.declared.OffsetDisambiguation.{OffsetDisambiguation}
use Rattle.zoned.specs.declared.OffsetDisambiguation.TheVariants.{Reject}
use Rattle.script.specs.Cuts.{place}
use Rattle.script.specs.Dates.{time_of}
use Rattle.script.specs.Forms.{policy_of, disambiguation_of}
use Rattle.script.specs.Numbers.{number, signed_below}

-- Only a time has a colon.
abbrev pub is_time : Option (List ℕ) → Bool
is_time None = false
is_time (Some w) = nat_lt (place 58 w) (length w)

abbrev pub given_time : Option IsoTime → Option (Option IsoTime)
given_time None = None
given_time (Some t) = Some (Some t)

abbrev pub time_if : Bool → List ℕ → Option (Option IsoTime)
time_if false w = Some None
time_if true w = given_time (time_of w)

abbrev pub time_word : Option (List ℕ) → Option (Option IsoTime)
time_word None = Some None
time_word (Some w) = time_if (nat_lt (place 58 w) (length w)) w

abbrev pub given_offset : Option ℤ → Option (Option ℤ)
given_offset None = None
given_offset (Some s) = Some (Some s)

abbrev pub offset_word : Option (List ℕ) → Option (Option ℤ)
offset_word None = Some None
offset_word (Some w) = given_offset (signed_below 2147483648 (number w))

abbrev pub policy_word : Option (List ℕ) → Option OffsetDisambiguation
policy_word None = Some Reject
policy_word (Some w) = policy_of w

abbrev pub disambiguation_word : Option (List ℕ) → Option Disambiguation
disambiguation_word None = Some Compatible
disambiguation_word (Some w) = disambiguation_of w
