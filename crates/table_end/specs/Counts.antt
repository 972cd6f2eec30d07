-- What a table holds, told once the check takes it.
use Rattle.std.specs.Prelude.{ℕ, List, Ok, Err, Result}
use Rattle.zone_table.specs.Layout.{zones, rows, check_answer}
use Rattle.zone_table.specs.declared.TableFault.{TableFault}
use Rattle.table_end.specs.declared.Counts.{Counts}

abbrev pub weighed_as : List ℕ → Result Unit TableFault → Result Counts TableFault
weighed_as bs (Ok u) = Ok (record { zones = zones bs; rows = rows bs })
weighed_as bs (Err e) = Err e

-- The check's refusal, or the numbers of zones and rows.
abbrev pub weigh_answer : List ℕ → Result Counts TableFault
weigh_answer bs = weighed_as bs (check_answer bs)
