use Rattle.std.proofs.Common.{◌≡◌, ℕ, ◌<◌, pos, ◌-ℤ◌, arith, w32, to_z, of_z}
use Rattle.std.proofs.lemmas.Int.{ints}
use Rattle.calendar.specs.Gregorian.{leap}
use Rattle.calendar.proofs.Cycles.{years_next, dated}
use Rattle.calendar.proofs.Floors.{signs}
use Rattle.calendar.proofs.date_in_year.Goals as goal

year_is : (p : ℕ) → p < 20000000 → to_z w32 (of_z w32 (to_z w32 p -ℤ pos 279999)) ≡ pos p -ℤ pos 279999
year_is p h = omega (arith, ints)

pub split_months-month-requires : goal.split_months-month-requires
split_months-month-requires c =
    let y = year_is c.args.years c.requires.small in
    let e : c.is_leap.result ≡ leap (pos c.args.years -ℤ pos 279999) = grind (arith, signs) in
    rw e (omega (arith, years_next c.args.years))

pub returns : goal.returns
returns c =
    let y = year_is c.args.years c.requires.small in
    let e : c.is_leap.result ≡ leap (to_z w32 (of_z w32 (to_z w32 c.args.years -ℤ pos 279999))) = grind (arith, signs) in
    let d = dated c.args.years c.args.day c.split_months-month.result.0 c.split_months-month.result.1 _ y (rw e at c.split_months-month.ensures) in
    record { real = d.0; counted = d.1 }
