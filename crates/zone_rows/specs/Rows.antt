-- Rows by their places: row i has the second `sec i` and the offset `off i`. What they mean, and the rules that they keep.
use Rattle.std.specs.Prelude.{◌≡◌, ℕ, zero, suc, ◌+◌, ◌<◌, Bool, true, cond, not, ◌&&◌, ℤ, pos, negsuc, ◌+ℤ◌, ◌-ℤ◌, int_le, int_lt, unsigned_abs}
use Rattle.offsets.specs.Possible.{eq_z}

-- Of the rows 0 to k: the offset of the last whose second is not after t, and the first row's offset also before it.
unfoldable pub held : (ℕ → ℤ) → (ℕ → ℤ) → ℕ → ℤ → ℤ
held sec off zero t = off 0
held sec off (suc k) t = cond (int_le (sec (suc k)) t) (off (suc k)) (held sec off k t)

abbrev pub in_day : ℤ → Bool
in_day o = int_le (negsuc 86398) o && int_le o (pos 86399)

-- The first row begins the span.
abbrev pub first_row : ℤ → ℤ → Bool
first_row s o = eq_z s (negsuc 8640000259199) && in_day o

-- A later row (t, p) rises over the row (s, o) before it, stays in the span, and differs in offset.
abbrev pub later_row : ℤ → ℤ → ℤ → ℤ → Bool
later_row s o t p = int_lt s t && int_le t (pos 8640000259200) && not (eq_z o p) && in_day p

-- Changes at s, from the offset n to o, and at t, from o to p, lie farther apart than the sizes of their jumps.
abbrev pub apart : ℤ → ℤ → ℤ → ℤ → ℤ → Bool
apart n s o t p = int_lt (s +ℤ pos (unsigned_abs (o -ℤ n) + unsigned_abs (p -ℤ o))) t

-- The row at this place keeps the rules. The first row is no change, so spacing binds from the third row on.
unfoldable pub keeps : (ℕ → ℤ) → (ℕ → ℤ) → ℕ → Bool
keeps sec off zero = first_row (sec 0) (off 0)
keeps sec off (suc zero) = later_row (sec 0) (off 0) (sec 1) (off 1)
keeps sec off (suc (suc k)) =
    later_row (sec (suc k)) (off (suc k)) (sec (suc (suc k))) (off (suc (suc k))) && apart (off k) (sec (suc k)) (off (suc k)) (sec (suc (suc k))) (off (suc (suc k)))

-- All of the first n rows keep them.
abbrev pub Kept : (ℕ → ℤ) → (ℕ → ℤ) → ℕ → Type 0
Kept sec off n = (i : ℕ) → i < n → keeps sec off i ≡ true
