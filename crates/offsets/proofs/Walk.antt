-- The walk from an instant upward: readings fall, or stand still, only across exactly one change, and that one goes back.
use Rattle.std.proofs.Common.{◌≡◌, ℤ, pos, ◌+ℤ◌, ◌-ℤ◌, ◌≤ℤ◌, ◌<ℤ◌, refl, ap, ◌∙◌, subst, ⊎_elim, arith}
use Rattle.std.proofs.lemmas.Int.{ints, by_lt_z}
use Rattle.offsets.specs.Offsets.{Changes, Apart}
use Rattle.offsets.specs.Laws.{OneBack}
use Rattle.offsets.proofs.Upward.{upward, stays_or_changes}

module _ (f : ℤ → ℤ) (apart : Apart f) (t : ℤ) where
  -- No change after t and up to u.
  pub record Still (u : ℤ) : Type 0 where
    pub from : t ≤ℤ u
    pub same : f u ≡ f t
    pub none : (e : ℤ) → t <ℤ e → e ≤ℤ u → Changes f e → ⊥

  -- One change, c.
  pub record Once (u : ℤ) : Type 0 where
    pub at : ℤ
    pub changes : Changes f at
    pub past : t <ℤ at
    pub until : at ≤ℤ u
    pub before : f (at -ℤ pos 1) ≡ f t
    pub after : f u ≡ f at
    pub only : (e : ℤ) → t <ℤ e → e ≤ℤ u → Changes f e → e ≡ at

  -- More than one, of which this is the last; it reads later than t.
  pub record Often (u : ℤ) : Type 0 where
    pub last : ℤ
    pub changes : Changes f last
    pub past : t <ℤ last
    pub until : last ≤ℤ u
    pub after : f u ≡ f last
    pub later : (t +ℤ f t) <ℤ (last +ℤ f last)

  pub data Way (u : ℤ) : Type 0 where
    still : Still u → Way u
    once : Once u → Way u
    often : Often u → Way u

  back : (u : ℤ) → f ((u +ℤ pos 1) -ℤ pos 1) ≡ f u
  back u = ap f (omega (arith, ints))

  -- a change at e is the new second, or lies before it
  newest : (u e : ℤ) (P : Type 0) → e ≤ℤ (u +ℤ pos 1) → (e ≤ℤ u → P) → (e ≡ u +ℤ pos 1 → P) → P
  newest u e P h old new = by_lt_z e (u +ℤ pos 1) (λ k. old (omega (arith, ints))) (λ k. new (omega (arith, ints)))

  stays : (u : ℤ) → f (u +ℤ pos 1) ≡ f u → Way u → Way (u +ℤ pos 1)
  stays u s (still w) =
      still record { from = omega (arith, ints); same = s ∙ w.same; none = λ e a b n. newest u e ⊥ b (λ k. w.none e a k n) (λ k. subst (Changes f) k n (cc (back u))) }
  stays u s (once w) =
      once record { at = w.at; changes = w.changes; past = w.past; until = omega (arith, ints); before = w.before; after = s ∙ w.after; only = λ e a b n. newest u e (e ≡ w.at) b (λ k. w.only e a k n) (λ k. absurd (subst (Changes f) k n (cc (back u)))) }
  stays u s (often w) =
      often record { last = w.last; changes = w.changes; past = w.past; until = omega (arith, ints); after = s ∙ w.after; later = w.later }

  moves : (u : ℤ) → Changes f (u +ℤ pos 1) → Way u → Way (u +ℤ pos 1)
  moves u n (still w) =
      once record { at = u +ℤ pos 1; changes = n; past = omega (arith, ints); until = omega (arith, ints); before = back u ∙ w.same; after = refl; only = λ e a b m. newest u e (e ≡ u +ℤ pos 1) b (λ k. absurd (w.none e a k m)) (λ k. k) }
  moves u n (once w) =
      often record { last = u +ℤ pos 1; changes = n; past = omega (arith, ints); until = omega (arith, ints); after = refl; later = omega (arith, ints, back u, apart w.at (u +ℤ pos 1) w.changes n (omega (arith, ints))) }
  moves u n (often w) =
      often record { last = u +ℤ pos 1; changes = n; past = omega (arith, ints); until = omega (arith, ints); after = refl; later = omega (arith, ints, back u, apart w.last (u +ℤ pos 1) w.changes n (omega (arith, ints))) }

  -- How the walk from t to u goes.
  pub way : (u : ℤ) → t ≤ℤ u → Way u
  way = upward Way t (still record { from = omega (arith, ints); same = refl; none = λ e a b n. omega (arith, ints) }) (λ u h w. ⊎_elim (λ s. stays u s w) (λ n. moves u n w) (stays_or_changes f u))

-- Two instants that read alike, the earlier first.
pub doubled : (f : ℤ → ℤ) → Apart f → (t u : ℤ) → t <ℤ u → t +ℤ f t ≡ u +ℤ f u → OneBack f t u
doubled f apart t u h e = judged (way f apart t u (omega (arith, ints)))
  where
    judged : Way f apart t u → OneBack f t u
    judged (still w) = absurd (omega (arith, ints))
    judged (once w) = record { change = w.at; changes = w.changes; past = w.past; until = w.until; only = w.only; falls = omega (arith, ints) }
    judged (often w) = absurd (omega (arith, ints))

-- No three instants read alike.
pub no_three : (f : ℤ → ℤ) → Apart f → (t u v : ℤ) → t <ℤ u → u <ℤ v → t +ℤ f t ≡ u +ℤ f u → u +ℤ f u ≡ v +ℤ f v → ⊥
no_three f apart t u v h k e g =
    let a = doubled f apart t u h e in
    let b = doubled f apart u v k g in
    let c = doubled f apart t v (omega (arith, ints)) (e ∙ g) in
    omega (arith, ints, c.only a.change a.past (omega (arith, ints)) a.changes, c.only b.change (omega (arith, ints)) b.until b.changes)
