-- Rows that keep the rules mean offsets that are bounded and spaced.
use Rattle.std.proofs.Common.{◌≡◌, ℕ, zero, suc, ◌+◌, ◌<◌, ◌≤◌, true, ◌⊎◌, ℤ, pos, negsuc, ◌+ℤ◌, ◌-ℤ◌, nat_abs, ◌≤ℤ◌, ◌<ℤ◌, sym, refl, ◌∙◌, inl, inr, ⊎_elim, arith}
use Rattle.std.proofs.lemmas.Int.{ints, by_lt_z}
use Rattle.offsets.specs.Offsets.{Changes, jump, Bounded, Spaced, Apart}
use Rattle.offsets.proofs.Neighbours.{apart_spaced}
use Rattle.zone_rows.specs.Rows.{held, keeps, Kept}

-- what the rules say of the rows 0 to k
pub record Ruled (sec off : ℕ → ℤ) (k : ℕ) : Type 0 where
  pub low : (i : ℕ) → i ≤ k → negsuc 86398 ≤ℤ off i
  pub high : (i : ℕ) → i ≤ k → off i ≤ℤ pos 86399
  pub top : (i : ℕ) → suc i ≤ k → sec (suc i) ≤ℤ pos 8640000259200
  pub differ : (i : ℕ) → suc i ≤ k → off i ≡ off (suc i) → ⊥
  pub rise : (i : ℕ) → suc i ≤ k → sec i <ℤ sec (suc i)
  pub space : (i : ℕ) → suc (suc i) ≤ k → (sec (suc i) +ℤ pos (nat_abs (off (suc i) -ℤ off i) + nat_abs (off (suc (suc i)) -ℤ off (suc i)))) <ℤ sec (suc (suc i))

module _ (sec off : ℕ → ℤ) where
  keeps_low : (i : ℕ) → keeps sec off i ≡ true → negsuc 86398 ≤ℤ off i
  unfolding keeps
  keeps_low zero h = grind (arith, ints)
  keeps_low (suc zero) h = grind (arith, ints)
  keeps_low (suc (suc i)) h = grind (arith, ints)

  keeps_high : (i : ℕ) → keeps sec off i ≡ true → off i ≤ℤ pos 86399
  unfolding keeps
  keeps_high zero h = grind (arith, ints)
  keeps_high (suc zero) h = grind (arith, ints)
  keeps_high (suc (suc i)) h = grind (arith, ints)

  keeps_rise : (i : ℕ) → keeps sec off (suc i) ≡ true → sec i <ℤ sec (suc i)
  unfolding keeps
  keeps_rise zero h = grind (arith, ints)
  keeps_rise (suc i) h = grind (arith, ints)

  keeps_top : (i : ℕ) → keeps sec off (suc i) ≡ true → sec (suc i) ≤ℤ pos 8640000259200
  unfolding keeps
  keeps_top zero h = grind (arith, ints)
  keeps_top (suc i) h = grind (arith, ints)

  keeps_differ : (i : ℕ) → keeps sec off (suc i) ≡ true → off i ≡ off (suc i) → ⊥
  unfolding keeps
  keeps_differ zero h e = let z : ⊥ = grind (arith, ints) in z
  keeps_differ (suc i) h e = let z : ⊥ = grind (arith, ints) in z

  keeps_space : (i : ℕ) → keeps sec off (suc (suc i)) ≡ true → (sec (suc i) +ℤ pos (nat_abs (off (suc i) -ℤ off i) + nat_abs (off (suc (suc i)) -ℤ off (suc i)))) <ℤ sec (suc (suc i))
  unfolding keeps
  keeps_space i h = grind (arith, ints)

  pub ruled : (k n : ℕ) → k < n → Kept sec off n → Ruled sec off k
  ruled k n b all =
      record { low = λ i h. keeps_low i (all i (omega arith)); high = λ i h. keeps_high i (all i (omega arith)); top = λ i h. keeps_top i (all (suc i) (omega arith)); differ = λ i h. keeps_differ i (all (suc i) (omega arith)); rise = λ i h. keeps_rise i (all (suc i) (omega arith)); space = λ i h. keeps_space i (all (suc (suc i)) (omega arith)) }

  pub fewer : (k : ℕ) → Ruled sec off (suc k) → Ruled sec off k
  fewer k r =
      record { low = λ i h. r.low i (omega arith); high = λ i h. r.high i (omega arith); top = λ i h. r.top i (omega arith); differ = λ i h. r.differ i (omega arith); rise = λ i h. r.rise i (omega arith); space = λ i h. r.space i (omega arith) }

  -- ---- the offset held

  pub held_from : (k : ℕ) (t : ℤ) → sec (suc k) ≤ℤ t → held sec off (suc k) t ≡ off (suc k)
  unfolding held
  held_from k t h = grind (arith, ints)

  pub held_before : (k : ℕ) (t : ℤ) → t <ℤ sec (suc k) → held sec off (suc k) t ≡ held sec off k t
  unfolding held
  held_before k t h = grind (arith, ints)

  pub held_first : (t : ℤ) → held sec off 0 t ≡ off 0
  unfolding held
  held_first t = refl

  -- the last row's offset from its second on
  pub held_last : (k : ℕ) (t : ℤ) → sec k ≤ℤ t → held sec off k t ≡ off k
  held_last zero t h = held_first t
  held_last (suc k) t h = held_from k t h

  pub held_bounded : (k : ℕ) → Ruled sec off k → Bounded (held sec off k)
  held_bounded zero r t = rw (held_first t) (r.low 0 (omega arith), r.high 0 (omega arith))
  held_bounded (suc k) r t =
      by_lt_z t (sec (suc k)) (λ h. rw (held_before k t h) (held_bounded k (fewer k r) t)) (λ h. rw (held_from k t h) (r.low (suc k) (omega arith), r.high (suc k) (omega arith)))

  -- ---- the changes

  -- a change is the last row's second, or a change of the rows before, which lies before it
  pub record Older (k : ℕ) (c : ℤ) : Type 0 where
    pub before : c <ℤ sec (suc k)
    pub change : Changes (held sec off k) c
    pub size : jump (held sec off (suc k)) c ≡ jump (held sec off k) c

  pub record Newest (k : ℕ) (c : ℤ) : Type 0 where
    pub at : c ≡ sec (suc k)
    pub size : jump (held sec off (suc k)) c ≡ nat_abs (off (suc k) -ℤ off k)

  pub which : (k : ℕ) → Ruled sec off (suc k) → (c : ℤ) → Changes (held sec off (suc k)) c → Older k c ⊎ Newest k c
  which k r c n =
      by_lt_z c (sec (suc k))
      (λ h.
      let a = held_before k c h in
      let b = held_before k (c -ℤ pos 1) (omega (arith, ints)) in
      inl record { before = h; change = λ e. n (b ∙ e ∙ sym a); size = rw (a, b) refl })
      (λ h.
      by_lt_z (sec (suc k)) c
      (λ m. let z : ⊥ = n (held_from k (c -ℤ pos 1) (omega (arith, ints)) ∙ sym (held_from k c h)) in elim z [ ])
      (λ m.
      let e : c ≡ sec (suc k) = omega (arith, ints) in
      let up = r.rise k (omega arith) in
      let a = held_from k c h in
      let b = held_before k (c -ℤ pos 1) (omega (arith, ints)) ∙ held_last k (c -ℤ pos 1) (omega (arith, ints)) in
      inr record { at = e; size = rw (a, b) refl }))

  pub no_change : (c : ℤ) → Changes (held sec off 0) c → ⊥
  no_change c n = n (held_first (c -ℤ pos 1) ∙ sym (held_first c))

  -- every change so far lies far enough before the next row
  clear : (k : ℕ) → Ruled sec off (suc k) → (c : ℤ) → Changes (held sec off k) c → (c +ℤ pos (jump (held sec off k) c + nat_abs (off (suc k) -ℤ off k))) <ℤ sec (suc k)
  clear zero r c n = let z : ⊥ = no_change c n in elim z [ ]
  clear (suc k) r c n =
      let s = r.space k (omega arith) in
      ⊎_elim
      (λ o. let z = o.size in let i = clear k (fewer (suc k) r) c o.change in omega (arith, ints))
      (λ o. let z = o.size in let e = o.at in omega (arith, ints))
      (which k (fewer (suc k) r) c n)

  pub held_apart : (k : ℕ) → Ruled sec off k → Apart (held sec off k)
  held_apart zero r c d m n h = let z : ⊥ = no_change c m in elim z [ ]
  held_apart (suc k) r c d m n h = ⊎_elim (λ a. ⊎_elim (λ b. both (λ x y. held_apart k (fewer k r) c d x y h) a b) (λ b. old_new a b) (which k r d n)) (λ a. ⊎_elim (λ b. let p = a.at in let q = b.before in omega (arith, ints)) (λ b. let p = a.at in let q = b.at in omega (arith, ints)) (which k r d n)) (which k r c m)
    where
      both : (Changes (held sec off k) c → Changes (held sec off k) d → (c +ℤ pos (jump (held sec off k) c + jump (held sec off k) d)) <ℤ d) → Older k c → Older k d → (c +ℤ pos (jump (held sec off (suc k)) c + jump (held sec off (suc k)) d)) <ℤ d
      both older a b = let p = a.size in let q = b.size in let i = older a.change b.change in rw (p, q) i

      old_new : Older k c → Newest k d → (c +ℤ pos (jump (held sec off (suc k)) c + jump (held sec off (suc k)) d)) <ℤ d
      old_new a b = let p = a.size in let q = b.size in let e = b.at in let i = clear k r c a.change in rw (p, q, e) i

-- The theorem: n rows that keep the rules mean offsets that are bounded and spaced.
pub kept_lawful : (sec off : ℕ → ℤ) (k n : ℕ) → k < n → Kept sec off n → Bounded (held sec off k) × Spaced (held sec off k)
kept_lawful sec off k n b all = let r = ruled sec off k n b all in (held_bounded sec off k r, apart_spaced (held sec off k) (held_apart sec off k r))
