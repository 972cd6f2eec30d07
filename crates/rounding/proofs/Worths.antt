-- A pair is told by its worth.
use Rattle.std.proofs.Common.{arith}
use Rattle.std.proofs.lemmas.Int.{ints}
use Rattle.clock.proofs.Pairs.{same_pair}
use Rattle.rounding.specs.Pairs.{OnePair}

pub one_pair : OnePair
one_pair a b h k e = same_pair a b (omega (arith, ints)) (omega (arith, ints))
