-- The words of a line, taken one by one: what is left of the line, or None behind its last word.
use Rattle.std.specs.Prelude.{ℕ, ◌+◌, Bool, false, cond, List, length, Some, None, Option}
use Rattle.script.specs.Cuts.{alike, behind, halves}

abbrev pub front : Option (List ℕ × List ℕ) → List ℕ → List ℕ
front None bs = bs
front (Some h) bs = h.0

abbrev pub back : Option (List ℕ × List ℕ) → Option (List ℕ)
back None = None
back (Some h) = Some h.1

-- A word ends at a space or at the end of the line.
abbrev pub next_word : Option (List ℕ) → Option (List ℕ)
next_word None = None
next_word (Some bs) = Some (front (halves 32 bs) bs)

abbrev pub next_rest : Option (List ℕ) → Option (List ℕ)
next_rest None = None
next_rest (Some bs) = back (halves 32 bs)

abbrev pub is_word : Option (List ℕ) → List ℕ → Bool
is_word None e = false
is_word (Some w) e = alike w e

abbrev pub word_behind : List ℕ → Option (List ℕ) → Option (List ℕ)
word_behind p None = None
word_behind p (Some w) = behind p w

-- What is left once a word was taken, or where none was.
abbrev pub rest_if : Bool → Option (List ℕ) → Option (List ℕ)
rest_if t s = cond t (next_rest s) s

-- The bytes that are left, with the end of the last word, are no fewer than the words.
abbrev pub bytes_left : Option (List ℕ) → ℕ
bytes_left None = 0
bytes_left (Some bs) = length bs + 1
