-- The multiples of n next to m. The lemma stands beside the definition, since laws of a trait cite it.
use Rattle.std.specs.Prelude.{◌≡◌, ℕ, ◌+◌, ◌*◌, ◌/◌, ◌<◌, ◌⊎◌}
use Rattle.std.proofs.Common.{inl, inr, ap, ◌∙◌, add-mul, one-mul, div-add-mod', arith}

-- The last multiple that is not above, or the first above.
abbrev pub Beside : ℕ → ℕ → ℕ → Type 0
Beside m n s = (s ≡ m / n * n) ⊎ (s ≡ (m / n + 1) * n)

pub beside_below : (m n s l : ℕ) → m + n < l → Beside m n s → s < l
beside_below m n s l h b =
    let d = div-add-mod' m n in
    let u : (m / n + 1) * n ≡ m / n * n + n = add-mul (m / n) 1 n ∙ ap (λ k. m / n * n + k) (one-mul n) in
    elim b [ inl e ↦ omega arith | inr e ↦ omega arith ]
