-- The time of day.
use Rattle.std.specs.Prelude.{Bool, ◌&&◌, ℕ, ◌+◌, ◌*◌, nat_lt}
use Rattle.clock.specs.declared.IsoTime.{IsoTime}

-- A clock shows the time.
abbrev pub shown : IsoTime → Bool
shown t = nat_lt t.hour 24 && nat_lt t.minute 60 && nat_lt t.second 60 && nat_lt t.nanosecond 1000000000

-- The whole seconds since midnight.
abbrev pub since_midnight : IsoTime → ℕ
since_midnight t = (t.hour * 60 + t.minute) * 60 + t.second
