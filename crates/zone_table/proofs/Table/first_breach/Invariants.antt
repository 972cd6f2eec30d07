use Rattle.std.proofs.Common.{◌≡◌, None}
use Rattle.zone_table.specs.Layout.{start, breach}
use Rattle.zone_table.proofs.Table.first_breach.Given as goal

abbrev pub invariant-loop-zone : goal.invariant-loop-zone
invariant-loop-zone l = (l.base ≡ start l.self.bytes.now l.zone) × (breach l.self.bytes.now l.zone ≡ None)
