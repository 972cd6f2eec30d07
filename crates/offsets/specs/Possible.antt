-- The instants that read a local time, as a list that the offsets alone determine. Offsets are less than a day, so no such instant lies a day or more from the local time.
use Rattle.std.specs.Prelude.{ℕ, zero, suc, Bool, ◌&&◌, List, [], ◌∷◌, map, ℤ, pos, ◌+ℤ◌, ◌-ℤ◌, filter, int_le, int_lt}
use Rattle.offsets.specs.declared.Candidate.{Candidate}
use Rattle.offsets.specs.declared.Candidates.{Candidates}
use Rattle.offsets.specs.declared.Candidates.TheVariants.{Gap, One, Two}

abbrev pub eq_z : ℤ → ℤ → Bool
eq_z a b = int_le a b && int_le b a

-- n seconds, from this one on
abbrev pub seconds : ℤ → ℕ → List ℤ
seconds from zero = []
seconds from (suc n) = from ∷ seconds (from +ℤ pos 1) n

-- The seconds less than a day from L. Shut, since the list is long.
unfoldable pub around : ℤ → List ℤ
around L = seconds (L -ℤ pos 86399) 172799

abbrev pub reads : (ℤ → ℤ) → ℤ → ℤ → Bool
reads f L t = eq_z (t +ℤ f t) L

abbrev pub possible : (ℤ → ℤ) → ℤ → List ℤ
possible f L = filter (reads f L) (around L)

abbrev pub at : (ℤ → ℤ) → ℤ → Candidate
at f t = record { second = t; offset = f t }

-- The instants that read L, ascending, each with its offset.
abbrev pub instants : (ℤ → ℤ) → ℤ → List Candidate
instants f L = map (at f) (possible f L)

-- The instants of an answer.
abbrev pub listed : Candidates → List Candidate
listed (Gap c before after) = []
listed (One a) = a ∷ []
listed (Two a b) = a ∷ b ∷ []

-- The change c has L in its gap.
abbrev pub gapped : (ℤ → ℤ) → ℤ → ℤ → Bool
gapped f L c = int_le (c +ℤ f (c -ℤ pos 1)) L && int_lt L (c +ℤ f c)

-- The first of a list, or else this.
abbrev pub first_or : ℤ → List ℤ → ℤ
first_or d [] = d
first_or d (c ∷ rest) = c

-- The change that leaps over L, where there is one.
abbrev pub change_over : (ℤ → ℤ) → ℤ → ℤ
change_over f L = first_or L (filter (gapped f L) (around L))

-- The answer that has these instants; without any, the gap.
abbrev pub answer_of : (ℤ → ℤ) → ℤ → List Candidate → Candidates
answer_of f L [] = Gap (change_over f L) (f (change_over f L -ℤ pos 1)) (f (change_over f L))
answer_of f L (a ∷ []) = One a
answer_of f L (a ∷ b ∷ rest) = Two a b

-- What reads L, or its gap, told by the offsets alone. Shut, since it is a search through a long list.
unfoldable pub candidates_at : (ℤ → ℤ) → ℤ → Candidates
candidates_at f L = answer_of f L (instants f L)
