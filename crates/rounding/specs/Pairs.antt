-- Pairs as numbers.
use Rattle.std.specs.Prelude.{◌≡◌, ◌<◌}
use Rattle.clock.specs.declared.Timespec.{Timespec}
use Rattle.clock.specs.Instants.{worth}

-- Nanoseconds below 10^9 make a pair the only one of its worth.
abbrev pub OnePair : Type 0
OnePair = (a b : Timespec) → a.nanos < 1000000000 → b.nanos < 1000000000 → worth a ≡ worth b → a ≡ b
