-- Bytes compared, and cut at a separator.
use Rattle.std.specs.Prelude.{ℕ, ◌+◌, Bool, true, false, cond, ◌&&◌, List, [], ◌∷◌, length, take, drop, Some, None, Option, ◌==◌, nat_lt}

abbrev pub alike : List ℕ → List ℕ → Bool
alike [] [] = true
alike [] (c ∷ cs) = false
alike (b ∷ bs) [] = false
alike (b ∷ bs) (c ∷ cs) = b == c && alike bs cs

-- What stands behind the prefix, where the text begins with it.
abbrev pub behind : List ℕ → List ℕ → Option (List ℕ)
behind [] bs = Some bs
behind (p ∷ ps) [] = None
behind (p ∷ ps) (b ∷ bs) = cond (b == p) (behind ps bs) None

-- How many bytes stand before the first separator.
abbrev pub place : ℕ → List ℕ → ℕ
place s [] = 0
place s (b ∷ bs) = cond (b == s) 0 (place s bs + 1)

-- What stands before the first separator, and what behind it, where there is one.
abbrev pub halves : ℕ → List ℕ → Option (List ℕ × List ℕ)
halves s bs = cond (nat_lt (place s bs) (length bs)) (Some (take (place s bs) bs, drop (place s bs + 1) bs)) None
