use Rattle.std.proofs.Common.{◌≡◌, sym, subst, rules}
use Rattle.zone_table.specs.Layout.{check_answer, Weighed}
use Rattle.zone_table.proofs.Weighing.{weighed}
use Rattle.zone_table.proofs.check.Goals as goal

pub returns-in-Some-clause-weighed : goal.returns-in-Some-clause-weighed
returns-in-Some-clause-weighed c =
    let answer : c.check_rows.result ≡ check_answer c.args.bytes.now = search rules in
    subst (Weighed c.args.bytes.now) (sym answer) (weighed c.args.bytes.now)
