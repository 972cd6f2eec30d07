use Rattle.std.proofs.Common.{◌≡◌, true, false, rules, tests}
use Rattle.std.proofs.lemmas.Iterator.{first_from_Range}
use Rattle.zone_table.specs.Layout.{keeps_at}
use Rattle.zone_table.proofs.Steps.{failing_from}
use Rattle.zone_table.proofs.Table.zone_breach.Goals as goal

pub returns-clause-first : goal.returns-clause-first
returns-clause-first c =
    let keeps = keeps_at c.args.self.bytes.now c.args.base in
    failing_from keeps c.args.rows c.find.result (first_from_Range _ _ _ _ (λ i. keeps i ≡ false) (λ i. keeps i ≡ true) c.find.ensures.ran (λ x q k. search (rules, tests)) (λ x q k. search (rules, tests)))
