use Rattle.std.proofs.Common.{◌≤◌}
use Rattle.offsets.specs.Readers.{Found}
use Rattle.offsets.specs.declared.Candidates.{Candidates}
use Rattle.zone_table.specs.Layout.{rows_offset}
use Rattle.row_search.proofs.ZoneRows.candidates_held.Given as goal

-- What is found of the rows up to this place is found of all.
abbrev pub invariant-loop-place : goal.invariant-loop-place
invariant-loop-place l =
    (l.place ≤ l.self.last) × ((x : Candidates) → Found (rows_offset l.self.table.bytes.now l.self.base l.place) l.local.second x → Found (rows_offset l.self.table.bytes.now l.self.base l.self.last) l.local.second x)
