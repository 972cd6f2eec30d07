use Rattle.time_rounding.proofs.Readings.{one_reading}
use Rattle.time_rounding.proofs.Wholes.{within_one, the_whole}
use Rattle.time_rounding.proofs.laws_hold.Goals as goal

pub returns : goal.returns
returns c = (within_one, (the_whole, one_reading))
