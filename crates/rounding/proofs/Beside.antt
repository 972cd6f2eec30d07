-- A mode takes a multiple next to the dividend.
use Rattle.std.proofs.Common.{◌≡◌, ℕ, ◌+◌, ◌*◌, ◌/◌, ◌%◌, ◌⊎◌, refl, ap, inl, inr}
use Rattle.std.proofs.lemmas.Bool.Decides.{eqb_tells}
use Rattle.std.specs.declared.cmp.Ordering.TheVariants.{Less, Equal, Greater}
use Rattle.std.specs.declared.cmp.Ordering.{Ordering}
use Rattle.rounding.specs.declared.UnsignedRoundingMode.{UnsignedRoundingMode}
use Rattle.rounding.specs.declared.UnsignedRoundingMode.TheVariants.{Infinity, Zero, HalfInfinity, HalfZero, HalfToEven}
use Rattle.rounding.specs.Beside.{Beside}
use Rattle.rounding.specs.Rounding.{applied, between, half_of}

-- the quotient, or one more
abbrev Either : ℕ → ℕ → Type 0
Either q k = (k ≡ q) ⊎ (k ≡ q + 1)

either : (u : UnsignedRoundingMode) (o : Ordering) (q : ℕ) → Either q (between u o q)
either Infinity o q = inr refl
either Zero o q = inl refl
either HalfInfinity Less q = inl refl
either HalfInfinity Equal q = inr refl
either HalfInfinity Greater q = inr refl
either HalfZero Less q = inl refl
either HalfZero Equal q = inl refl
either HalfZero Greater q = inr refl
either HalfToEven Less q = inl refl
either HalfToEven Equal q = elim (eqb_tells (q % 2) 0) [ inl x ↦ rw x.0 (inl refl) | inr x ↦ rw x.0 (inr refl) ]
either HalfToEven Greater q = inr refl

beside : (u : UnsignedRoundingMode) (m n : ℕ) → Beside m n (applied u m n * n)
beside u m n =
    elim (eqb_tells (m % n) 0) [
      | inl x ↦ rw x.0 (inl refl)
      | inr x ↦ rw x.0 (elim (either u (half_of (m % n) n) (m / n)) [ inl e ↦ inl (ap (λ k. k * n) e) | inr e ↦ inr (ap (λ k. k * n) e) ])
    ]

-- the same of the numbers that dividend, divisor and multiple are told to be
pub taken_beside : (u : UnsignedRoundingMode) (a b m n s t : ℕ) → a ≡ m → b ≡ n → s ≡ applied u a b * b → t ≡ s → Beside m n t
taken_beside u a b m n s t p q e f = rw (f, e, ← p, ← q) (beside u a b)
