-- A lemma named on the function does not close this: the offset is widened before it is negated.
use Rattle.std.proofs.Common.{◌≡◌, arith}
use Rattle.std.proofs.lemmas.Int.{ints}
use Rattle.time_zone.proofs.Negated.{plus_negated}
use Rattle.zoned.proofs.interpret.TimedRequest.at_offset.Goals as goal

pub returns : goal.returns
returns g c = let widened : c.from.result ≡ c.args.offset = omega (arith, ints) in grind (arith, plus_negated)
