use Rattle.std.proofs.Common.{arith, rules}
use Rattle.std.specs.Prelude.{int_le}
use Rattle.std.proofs.lemmas.List.Sorted.{IsPartitionPoint-from_clause}
use Rattle.zone_table.specs.Bytes.{le64}
use Rattle.zone_table.specs.Layout.{seconds, offsets}
use Rattle.row_search.proofs.Places.{parted, held_there}
use Rattle.row_search.proofs.ZoneRows.place_of.Goals as goal

pub returns : goal.returns
returns c =
    let sec = seconds c.args.self.table.bytes.now c.args.self.base in
    let off = offsets c.args.self.table.bytes.now c.args.self.base in
    let cut = parted sec off c.args.self.last c.args.self.kept c.changes.result.now c.changes.ensures.len c.changes.ensures.each c.args.second in
    let point = IsPartitionPoint-from_clause (λ row. int_le (le64 row 0) c.args.second) c.changes.result.now c.partition_point.result c.partition_point.ensures.partitioned cut (λ a r q k. search rules) in
    record { within = omega arith; holds = held_there sec off c.args.self.last c.args.self.kept c.changes.result.now c.changes.ensures.len c.changes.ensures.each c.args.second c.partition_point.result (omega arith) point }
