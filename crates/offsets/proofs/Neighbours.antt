-- Where neighbouring changes lie farther apart than their jumps, any two changes do: the jumps of those between only add to the distance.
use Rattle.std.proofs.Common.{◌≡◌, ℕ, ◌+◌, ◌⊎◌, ℤ, pos, ◌+ℤ◌, ◌-ℤ◌, ◌≤ℤ◌, ◌<ℤ◌, refl, ap, subst, inl, inr, ⊎_elim, arith}
use Rattle.std.proofs.lemmas.Int.{ints, by_lt_z}
use Rattle.offsets.specs.Offsets.{Changes, jump, Neighbours, Spaced, Apart}
use Rattle.offsets.proofs.Upward.{upward, stays_or_changes}

module _ (f : ℤ → ℤ) (spaced : Spaced f) (c : ℤ) (change : Changes f c) where
  abbrev Far : ℤ → Type 0
  Far d = (c +ℤ pos (jump f c + jump f d)) <ℤ d

  -- the last change up to t, which is c or lies far enough after it
  record Last (t : ℤ) : Type 0 where
    at : ℤ
    changes : Changes f at
    from : c ≤ℤ at
    until : at ≤ℤ t
    none : (e : ℤ) → at <ℤ e → e ≤ℤ t → Changes f e → ⊥
    far : (at ≡ c) ⊎ Far at

  -- from the last change before d on to d
  reached : (d : ℤ) → Changes f d → (t : ℤ) → d ≡ t +ℤ pos 1 → Last t → Far d
  reached d new t next l =
      let near : Neighbours f l.at d = record { first = l.changes; second = new; order = omega (arith, ints); none = λ e a b. l.none e a (omega (arith, ints)) } in
      ⊎_elim
      (λ s. subst (λ x. (x +ℤ pos (jump f x + jump f d)) <ℤ d) s (spaced l.at d near))
      (λ s. sums c d l.at (jump f c) (jump f d) (jump f l.at) s (spaced l.at d near))
      l.far
    where
      sums : (c d e : ℤ) (j k l : ℕ) → (c +ℤ pos (j + l)) <ℤ e → (e +ℤ pos (l + k)) <ℤ d → (c +ℤ pos (j + k)) <ℤ d
      sums c d e j k l s p = omega (arith, ints)

  last_next : (t : ℤ) → c ≤ℤ t → Last t → Last (t +ℤ pos 1)
  last_next t h l = ⊎_elim stays moves (stays_or_changes f t)
    where
      stays : f (t +ℤ pos 1) ≡ f t → Last (t +ℤ pos 1)
      stays same =
          let back : f ((t +ℤ pos 1) -ℤ pos 1) ≡ f t = ap f (omega (arith, ints)) in
          record { at = l.at; changes = l.changes; from = l.from; until = omega (arith, ints); none = λ e a b n. by_lt_z e (t +ℤ pos 1) (λ k. l.none e a (omega (arith, ints)) n) (λ k. let s : e ≡ t +ℤ pos 1 = omega (arith, ints) in subst (Changes f) s n (cc)); far = l.far }

      moves : Changes f (t +ℤ pos 1) → Last (t +ℤ pos 1)
      moves new =
          record { at = t +ℤ pos 1; changes = new; from = omega (arith, ints); until = omega (arith, ints); none = λ e a b n. omega (arith, ints); far = inr (reached (t +ℤ pos 1) new t refl l) }

  pub far_apart : (d : ℤ) → Changes f d → c <ℤ d → (c +ℤ pos (jump f c + jump f d)) <ℤ d
  far_apart d new h =
      reached d new (d -ℤ pos 1) (omega (arith, ints)) (upward Last c (record { at = c; changes = change; from = omega (arith, ints); until = omega (arith, ints); none = λ e a b n. omega (arith, ints); far = inl refl }) last_next (d -ℤ pos 1) (omega (arith, ints)))

pub spaced_apart : (f : ℤ → ℤ) → Spaced f → Apart f
spaced_apart f spaced c d first second h = far_apart f spaced c first d second h

pub apart_spaced : (f : ℤ → ℤ) → Apart f → Spaced f
apart_spaced f apart c d n = apart c d n.first n.second n.order
