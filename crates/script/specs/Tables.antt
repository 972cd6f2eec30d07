-- The word of a table: the bytes themselves in hexadecimal digits, or the path of a file.
use Rattle.std.specs.Prelude.{ℕ, ◌%◌, Bool, true, false, cond, ◌&&◌, not, List, length, Some, None, codes, Option, ◌==◌}
use Rattle.std.specs.Char.{is_ascii, is_ascii_hexdigit}
use Rattle.std.specs.List.{list_all}
use Rattle.script.specs.declared.command.Table.{Table}
use Rattle.script.specs.declared.command.Table.TheVariants.{File, Hex}
use Rattle.script.specs.declared.command.Command.{Command}
use Rattle.script.specs.declared.command.Command.TheVariants.{Help, Table as Tabled, Open, Call as Called}
use Rattle.script.specs.Cuts.{behind, halves}
use Rattle.script.specs.Words.{back, next_word, next_rest}

-- Two digits to a byte.
abbrev pub is_hex : List ℕ → Bool
is_hex bs = length bs % 2 == 0 && list_all is_ascii_hexdigit bs

-- A path has a byte, no zero byte, and only ASCII.
abbrev pub is_path : List ℕ → Bool
is_path bs = not (length bs == 0) && list_all (λ b. not (b == 0) && is_ascii b) bs

-- A table's text, and whether it is the bytes themselves.
abbrev pub table_text : Table → Bool × List ℕ
table_text (File path) = (false, path.now)
table_text (Hex digits) = (true, digits.now)

-- The text, where it has its form.
abbrev pub text_if : Bool → Bool → List ℕ → Option (Bool × List ℕ)
text_if t h bs = cond t (Some (h, bs)) None

-- The digits behind `hex:`, or else the whole word as a path.
abbrev pub text_or : Option (List ℕ) → List ℕ → Option (Bool × List ℕ)
text_or None w = text_if (is_path w) false w
text_or (Some digits) w = text_if (is_hex digits) true digits

-- The text of the table that a word names.
abbrev pub text_of : List ℕ → Option (Bool × List ℕ)
text_of w = text_or (behind (codes "hex:") w) w

-- The same of the next word of a line.
abbrev pub text_word : Option (List ℕ) → Option (Bool × List ℕ)
text_word None = None
text_word (Some w) = text_of w

-- Nothing is left of the line.
abbrev pub text_at_end : Option (List ℕ) → Option (Bool × List ℕ) → Option (Bool × List ℕ)
text_at_end None t = t
text_at_end (Some s) t = None

-- The text of the table that a line names behind its first word.
abbrev pub text_line : List ℕ → Option (Bool × List ℕ)
text_line bs = text_at_end (next_rest (back (halves 32 bs))) (text_word (next_word (back (halves 32 bs))))

-- The text of the table that a command opens.
abbrev pub table_in : Command → Option (Bool × List ℕ)
table_in Help = None
table_in (Tabled table) = Some (table_text table)
table_in Open = None
table_in (Called call) = None
