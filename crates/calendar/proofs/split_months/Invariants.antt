use Rattle.std.proofs.Common.{◌≡◌, ◌+◌, ◌-◌}
use Rattle.calendar.specs.Gregorian.{months_before}
use Rattle.calendar.proofs.split_months.Given as goal

abbrev pub invariant-loop-month : goal.invariant-loop-month
invariant-loop-month l = months_before l.leap_year (l.month - 1) + l.left ≡ l.day
