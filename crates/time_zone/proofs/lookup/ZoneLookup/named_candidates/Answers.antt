-- The laws of the provider are fields of its bound, which no tactic reads.
use Rattle.std.proofs.Common.{Ok, ap, w64, SFits, rules}
use Rattle.std.proofs.lemmas.Int.{to_z-of_z}
use Rattle.provider.proofs.Determined.{one_answer}
use Rattle.time_zone.specs.Faults.{carried}
use Rattle.time_zone.proofs.lookup.ZoneLookup.named_candidates.Goals as goal

pub returns : goal.returns
returns g c =
    let fits : SFits w64 c.args.local.as_utc.seconds = search rules in
    ap carried (one_answer _ (g.P.Provider.bounded _ _) (g.P.Provider.spaced _ _) _ (Ok c.in_ok-candidates.field-0) (simp to_z-of_z at c.in_ok-candidates.ensures))
