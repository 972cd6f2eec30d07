-- The layout of a table's bytes, its zones' rows, and what the check answers.
use Rattle.std.specs.Prelude.{◌≡◌, ℕ, zero, suc, ◌+◌, ◌-◌, ◌*◌, ◌<◌, Bool, true, false, cond, ◌&&◌, List, length, ℤ, Some, None, Ok, Err, Option, Result, ◌==◌, nat_le}
use Rattle.zone_table.specs.Bytes.{le16, le32, le64}
use Rattle.zone_rows.specs.Rows.{held, keeps}
use Rattle.zone_table.specs.declared.TableFault.{TableFault}
use Rattle.zone_table.specs.declared.TableFault.TheVariants.{Sizes, BrokenRow}

-- ---- the numbers at their places

-- how many zones, and how many rows in all
abbrev pub zones : List ℕ → ℕ
zones bs = le16 bs 0

abbrev pub rows : List ℕ → ℕ
rows bs = le16 bs 2

-- how many rows zone z has
abbrev pub count : List ℕ → ℕ → ℕ
count bs z = le16 bs (4 + z * 2)

-- how many rows stand before those of zone z
unfoldable pub start : List ℕ → ℕ → ℕ
start bs zero = 0
start bs (suc z) = start bs z + count bs z

-- the second and the offset of row g, over all rows
abbrev pub second_at : List ℕ → ℕ → ℤ
second_at bs g = le64 bs (4 + zones bs * 2 + g * 8)

abbrev pub offset_at : List ℕ → ℕ → ℤ
offset_at bs g = le32 bs (4 + zones bs * 2 + rows bs * 8 + g * 4)

-- the rows from row b on, by their places
abbrev pub seconds : List ℕ → ℕ → ℕ → ℤ
seconds bs b i = second_at bs (b + i)

abbrev pub offsets : List ℕ → ℕ → ℕ → ℤ
offsets bs b i = offset_at bs (b + i)

-- the offset that the rows from row b on hold at each second, as far as place k
abbrev pub rows_offset : List ℕ → ℕ → ℕ → ℤ → ℤ
rows_offset bs b k = held (seconds bs b) (offsets bs b) k

-- What a zone means: the offset that its rows hold at each second.
abbrev pub zone_offset : List ℕ → ℕ → ℤ → ℤ
zone_offset bs z = held (seconds bs (start bs z)) (offsets bs (start bs z)) (count bs z - 1)

-- ---- the layout

-- the bytes are as many as the numbers of zones and rows tell
abbrev pub Sized : List ℕ → Type 0
Sized bs = length bs ≡ 4 + zones bs * 2 + rows bs * 12

-- each of the first n zones has a row
unfoldable pub filled : List ℕ → ℕ → Bool
filled bs zero = true
filled bs (suc n) = filled bs n && nat_le 1 (count bs n)

abbrev pub laid : List ℕ → Bool
laid bs =
    nat_le 1 (zones bs) && nat_le (zones bs) 64 && nat_le (rows bs) 4096 && length bs == 4 + zones bs * 2 + rows bs * 12 && filled bs (zones bs) && start bs (zones bs) == rows bs

-- ---- the rules

abbrev pub first_of : Option ℕ → Option ℕ → Option ℕ
first_of (Some i) o = Some i
first_of None o = o

abbrev pub from_row : ℕ → Option ℕ → Option ℕ
from_row b (Some i) = Some (b + i)
from_row b None = None

-- the first of the places below n that fails a test
unfoldable pub failing : (ℕ → Bool) → ℕ → Option ℕ
failing p zero = None
failing p (suc n) = first_of (failing p n) (cond (p n) None (Some n))

-- row b + i, the row at place i of a zone whose rows begin at b, keeps the rules
abbrev pub keeps_at : List ℕ → ℕ → ℕ → Bool
keeps_at bs b = keeps (seconds bs b) (offsets bs b)

-- the first row that breaks a rule, among all rows of the zones below n
unfoldable pub breach : List ℕ → ℕ → Option ℕ
breach bs zero = None
breach bs (suc n) = first_of (breach bs n) (from_row (start bs n) (failing (keeps_at bs (start bs n)) (count bs n)))

abbrev pub breach_answer : Option ℕ → Result Unit TableFault
breach_answer (Some g) = Err (BrokenRow g)
breach_answer None = Ok tt

-- Sizes that break the layout are refused first, then the first row that breaks a rule.
abbrev pub check_answer : List ℕ → Result Unit TableFault
check_answer bs = cond (laid bs) (breach_answer (breach bs (zones bs))) (Err Sizes)

abbrev pub taken : Result Unit TableFault → Bool
taken (Ok u) = true
taken (Err f) = false

-- The check takes these bytes.
abbrev pub Sound : List ℕ → Type 0
Sound bs = taken (check_answer bs) ≡ true

-- The refusal numbers.
abbrev pub number : TableFault → ℕ
number Sizes = 12
number (BrokenRow g) = 13

-- ---- the same in the subject's words

-- Row g is the row at a place of one of the zones below n, and breaks a rule; every row before it keeps them.
pub record First (bs : List ℕ) (n g : ℕ) : Type 0 where
  pub zone : ℕ
  pub place : ℕ
  pub known : zone < n
  pub inside : place < count bs zone
  pub at : g ≡ start bs zone + place
  pub broken : keeps_at bs (start bs zone) place ≡ false
  pub before : (y j : ℕ) → y < n → j < count bs y → start bs y + j < g → keeps_at bs (start bs y) j ≡ true

-- Sizes are refused just where the layout is broken, a row where it is the first that breaks a rule, and all else is taken.
abbrev pub Weighed : List ℕ → Result Unit TableFault → Type 0
Weighed bs (Ok u) = (laid bs ≡ true) × ((z j : ℕ) → z < zones bs → j < count bs z → keeps_at bs (start bs z) j ≡ true)
Weighed bs (Err Sizes) = laid bs ≡ false
Weighed bs (Err (BrokenRow g)) = (laid bs ≡ true) × First bs (zones bs) g
