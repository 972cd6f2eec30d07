-- A clock shows one time at each nanosecond of the day.
use Rattle.std.proofs.Common.{◌≡◌, ℕ, ◌<◌, true, ap, ◌∙◌, arith}
use Rattle.std.proofs.lemmas.Bool.Decides.{nat_tests}
use Rattle.clock.specs.declared.IsoTime.{IsoTime}
use Rattle.clock.specs.Clock.{shown}
use Rattle.time_rounding.specs.Times.{OneReading}

record Within (t : IsoTime) : Type 0 where
  hour : t.hour < 24
  minute : t.minute < 60
  second : t.second < 60
  nanosecond : t.nanosecond < 1000000000

within : (t : IsoTime) → shown t ≡ true → Within t
within t h = record { hour = grind (arith, nat_tests); minute = grind (arith, nat_tests); second = grind (arith, nat_tests); nanosecond = grind (arith, nat_tests) }

same_time : (s t : IsoTime) → s.hour ≡ t.hour → s.minute ≡ t.minute → s.second ≡ t.second → s.nanosecond ≡ t.nanosecond → s ≡ t
same_time s t a b c d =
    let f : ℕ → IsoTime = λ n. record { hour = n; minute = s.minute; second = s.second; nanosecond = s.nanosecond } in
    let g : ℕ → IsoTime = λ n. record { hour = t.hour; minute = n; second = s.second; nanosecond = s.nanosecond } in
    let h : ℕ → IsoTime = λ n. record { hour = t.hour; minute = t.minute; second = n; nanosecond = s.nanosecond } in
    let k : ℕ → IsoTime = λ n. record { hour = t.hour; minute = t.minute; second = t.second; nanosecond = n } in
    ap f a ∙ ap g b ∙ ap h c ∙ ap k d

pub one_reading : OneReading
one_reading d e s t h k q =
    let a : Within s = within s h in
    let b : Within t = within t k in
    (omega arith, same_time s t (omega arith) (omega arith) (omega arith) (omega arith))
