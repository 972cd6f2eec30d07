-- The ends of what reads a local time.
use Rattle.std.specs.Prelude.{Some, None, Option}
use Rattle.offsets.specs.declared.Candidate.{Candidate}
use Rattle.offsets.specs.declared.Candidates.{Candidates}
use Rattle.offsets.specs.declared.Candidates.TheVariants.{Gap, One, Two}

-- The earliest of the instants, where there is one.
abbrev pub first_of : Candidates → Option Candidate
first_of (Gap c before after) = None
first_of (One a) = Some a
first_of (Two a b) = Some a

-- The latest of them.
abbrev pub last_of : Candidates → Option Candidate
last_of (Gap c before after) = None
last_of (One a) = Some a
last_of (Two a b) = Some b
