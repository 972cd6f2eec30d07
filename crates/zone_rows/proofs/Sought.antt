-- The place of a second among the rows, and what is held there.
use Rattle.std.proofs.Common.{◌≡◌, ℕ, suc, ◌≤◌, ◌⊎◌, ℤ, ◌≤ℤ◌, ◌<ℤ◌, refl, ◌∙◌, subst, ⊎_elim}
use Rattle.std.proofs.Math.Nat.{eq-or-lt_of_le}
use Rattle.zone_rows.specs.Rows.{held}
use Rattle.zone_rows.proofs.Lawful.{Ruled, held_last}
use Rattle.zone_rows.proofs.Walked.{held_cut, held_zero}

module _ (sec off : ℕ → ℤ) where
  here : (i : ℕ) (t : ℤ) → (i ≡ 0) ⊎ (sec i ≤ℤ t) → held sec off i t ≡ off i
  here i t h = ⊎_elim (λ z. held_zero sec off i t z) (λ l. held_last sec off i t l) h

  -- a second from row i on, unless that is the first, and before the next row has the offset of row i
  pub held_between : (k i : ℕ) (t : ℤ) → Ruled sec off k → i ≤ k → (i ≡ 0) ⊎ (sec i ≤ℤ t) → (suc i ≤ k → t <ℤ sec (suc i)) → held sec off k t ≡ off i
  held_between k i t r l from before =
      let P : ℕ → Type 0 = λ n. held sec off n t ≡ off i in
      ⊎_elim (λ e. subst P e (here i t from)) (λ m. held_cut sec off k (suc i) i refl m r t (before m) ∙ here i t from) (eq-or-lt_of_le l)
