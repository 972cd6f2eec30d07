use native.Mathlib.Omega.{arith}
use Rattle.calendar.proofs.Floors.{floors}
use Rattle.clock.proofs.Pairs.{same_pair}
use Rattle.clock.proofs.iso_date_time.Goals as goal

pub returns : goal.returns
returns c =
    record {
      date = c.civil.ensures.0;
      time = c.at_second.ensures.shows;
      counted = same_pair _ c.args.local (omega (arith, floors, c.civil.ensures.1, c.at_second.ensures.second)) c.at_second.ensures.nanosecond;
    }
