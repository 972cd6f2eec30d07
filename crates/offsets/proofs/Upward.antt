-- From second to second upward: what goes on from each to the next, and the first that passes a test.
use Rattle.std.proofs.Common.{◌≡◌, ℕ, zero, suc, ◌⊎◌, ℤ, pos, ◌+ℤ◌, ◌-ℤ◌, nat_abs, ◌≤ℤ◌, ◌<ℤ◌, subst, inl, inr, ⊎_elim, arith}
use Rattle.std.proofs.lemmas.Int.{ints, by_lt_z}
use Rattle.offsets.specs.Offsets.{Changes}

pub upward : (P : ℤ → Type 0) (s : ℤ) → P s → ((t : ℤ) → s ≤ℤ t → P t → P (t +ℤ pos 1)) → (u : ℤ) → s ≤ℤ u → P u
upward P s start next u h = subst P (omega (arith, ints)) (after (nat_abs (u -ℤ s)))
  where
    after : (n : ℕ) → P (s +ℤ pos n)
    after zero = subst P (omega (arith, ints)) start
    after (suc n) = subst P (omega (arith, ints)) (next (s +ℤ pos n) (omega (arith, ints)) (after n))

-- The next second has the offset of this one, or is a change.
pub stays_or_changes : (f : ℤ → ℤ) (t : ℤ) → (f (t +ℤ pos 1) ≡ f t) ⊎ Changes f (t +ℤ pos 1)
stays_or_changes f t = rw back (search (arith, ints))
  where
    back : (t +ℤ pos 1) -ℤ pos 1 ≡ t
    back = omega (arith, ints)

module _ (P : ℤ → Type 0) (judged : (t : ℤ) → P t ⊎ (P t → ⊥)) (s : ℤ) where
  -- the first second after s that passes
  pub record First (u : ℤ) : Type 0 where
    pub at : ℤ
    pub past : s <ℤ at
    pub until : at ≤ℤ u
    pub passes : P at
    pub none : (t : ℤ) → s <ℤ t → t <ℤ at → P t → ⊥

  abbrev pub NoneUpTo : ℤ → Type 0
  NoneUpTo u = (t : ℤ) → s <ℤ t → t ≤ℤ u → P t → ⊥

  one_more : (u : ℤ) → s ≤ℤ u → First u ⊎ NoneUpTo u → First (u +ℤ pos 1) ⊎ NoneUpTo (u +ℤ pos 1)
  one_more u h (inl w) = inl record { at = w.at; past = w.past; until = omega (arith, ints); passes = w.passes; none = w.none }
  one_more u h (inr none) =
      ⊎_elim
      (λ p. inl record { at = u +ℤ pos 1; past = omega (arith, ints); until = omega (arith, ints); passes = p; none = λ t a b. none t a (omega (arith, ints)) })
      (λ n. inr (λ t a b p. by_lt_z t (u +ℤ pos 1) (λ k. none t a (omega (arith, ints)) p) (λ k. n (subst P (omega (arith, ints)) p))))
      (judged (u +ℤ pos 1))

  pub first_or_none : (u : ℤ) → s ≤ℤ u → First u ⊎ NoneUpTo u
  first_or_none = upward (λ u. First u ⊎ NoneUpTo u) s (inr (λ t a b. absurd (omega (arith, ints)))) one_more
