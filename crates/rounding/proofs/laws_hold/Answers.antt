use Rattle.rounding.proofs.Meaning.{as_asked, one_answer, none_nearer}
use Rattle.rounding.proofs.Worths.{one_pair}
use Rattle.rounding.proofs.laws_hold.Goals as goal

pub returns : goal.returns
returns c = record { rounds = as_asked; single = one_answer; nearest = none_nearer; pairs = one_pair }
