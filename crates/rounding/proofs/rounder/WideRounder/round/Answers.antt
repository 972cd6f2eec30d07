use Rattle.std.proofs.Common.{◌≡◌, ◌^◌, ◌<◌, ℤ, pos, unsigned_abs, refl, rules, arith}
use Rattle.std.proofs.lemmas.Int.{ints}
use Rattle.rounding.proofs.Beside.{taken_beside}
use Rattle.rounding.proofs.Signs.{rounded_above, rounded_below}
use Rattle.rounding.proofs.rounder.WideRounder.round.Given as given
use Rattle.rounding.proofs.rounder.WideRounder.round.Goals as goal
use Rattle.rounding.proofs.rounder.WideRounder.round.Goals.{After-rounded-size}

-- the size is held with either sign
held : (g : given.Over) (c : After-rounded-size g) (z : ℤ) → unsigned_abs z ≡ c.rounded-size.result → g.N.WideRoundable.held z
held g c z e =
    let x = c.args.self.dividend in
    let n = c.args.self.divisor in
    let p : c.unsigned_abs.result ≡ unsigned_abs (g.N.WideRoundable.value x) = omega (arith, ints) in
    let q : c.unsigned_abs-2.result ≡ unsigned_abs (g.N.WideRoundable.value n) = omega (arith, ints) in
    g.met.N.WideRoundable.reached x n z c.requires.holds c.requires.room (taken_beside c.at_sign.result _ _ _ _ _ _ p q c.rounded-size.ensures.value e)

-- and so fits 128 bits with either sign
fits : (g : given.Over) (c : After-rounded-size g) → c.rounded-size.result < 2 ^ 127
fits g c = g.met.N.WideRoundable.narrow _ (held g c (pos c.rounded-size.result) refl)

pub overflow_cast-size : goal.overflow_cast-size
overflow_cast-size g c =
    let f = fits g (goal.at.overflow_cast-size g c).After-rounded-size in
    omega (arith, ints)

pub of_wide_worth-requires : goal.of_wide_worth-requires
of_wide_worth-requires g c =
    let a = (goal.at.of_wide_worth-requires g c).After-rounded-size in
    let f = fits g a in
    held g a _ (omega (arith, ints))

pub returns-then-self-clause-value : goal.returns-then-self-clause-value
returns-then-self-clause-value g c =
    let f = fits g (goal.at.returns-then-self-clause-value g c).After-rounded-size in
    search (rules, rounded_above)

pub overflow_sub-size : goal.overflow_sub-size
overflow_sub-size g c =
    let f = fits g (goal.at.overflow_sub-size g c).After-rounded-size in
    omega (arith, ints)

pub of_wide_worth-requires-2 : goal.of_wide_worth-requires-2
of_wide_worth-requires-2 g c =
    let a = (goal.at.of_wide_worth-requires-2 g c).After-rounded-size in
    let f = fits g a in
    held g a _ (omega (arith, ints))

pub returns-clause-value : goal.returns-clause-value
returns-clause-value g c =
    let f = fits g (goal.at.returns-clause-value g c).After-rounded-size in
    search (rules, rounded_below)

pub returns-clause-near : goal.returns-clause-near
returns-clause-near g c =
    let f = fits g (goal.at.returns-clause-near g c).After-rounded-size in
    omega (arith, ints)
