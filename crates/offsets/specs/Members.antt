-- The members of a list of whole numbers, and its order.
use Rattle.std.specs.Prelude.{◌≡◌, ◌⊎◌, List, [], ◌∷◌, ℤ, ◌<ℤ◌}
use Rattle.std.specs.List.{AllByRecursion}

-- t is a member of the list.
abbrev pub In : List ℤ → ℤ → Type 0
In [] t = ⊥
In (x ∷ xs) t = (t ≡ x) ⊎ In xs t

-- Each member is less than all that follow it.
abbrev pub Ascending : List ℤ → Type 0
Ascending [] = Unit {0}
Ascending (x ∷ xs) = AllByRecursion (λ y. x <ℤ y) xs × Ascending xs
