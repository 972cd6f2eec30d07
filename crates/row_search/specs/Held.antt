-- What the rows of a zone hold.
use Rattle.std.specs.Prelude.{ℤ}
use Rattle.zone_table.specs.Layout.{rows_offset}
use Rattle.row_search.specs.declared.ZoneRows.{ZoneRows}

-- The offset that the rows hold at each second.
abbrev pub held_in : ZoneRows → ℤ → ℤ
held_in rows = rows_offset rows.table.bytes.now rows.base rows.last
