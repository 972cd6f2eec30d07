-- The two times that a local time in a gap is moved to, by the jump: each is read, and once.
use Rattle.std.proofs.Common.{◌≡◌, ℤ, pos, ◌+ℤ◌, ◌-ℤ◌, ◌≤ℤ◌, ◌<ℤ◌, sym, subst, arith}
use Rattle.std.proofs.lemmas.Int.{ints, by_lt_z}
use Rattle.offsets.specs.Offsets.{Changes, jump, Apart}
use Rattle.offsets.specs.Readers.{Reads, Leaps}
use Rattle.offsets.specs.Laws.{MovedOnce}
use Rattle.offsets.proofs.Walk.{Way, still, once, often, way, doubled}

module _ (f : ℤ → ℤ) (apart : Apart f) (L c b a : ℤ) (gap : Leaps f L c b a) where
  change : Changes f c
  change e = omega (arith, ints)

  -- the size of the gap's jump
  wide : pos (jump f c) ≡ a -ℤ b
  wide = omega (arith, ints)

  -- no change lies within the jump's size of the gap's change
  none_after : (e : ℤ) → c <ℤ e → e ≤ℤ (c +ℤ (a -ℤ b)) → Changes f e → ⊥
  none_after e p u n = omega (arith, ints, wide, apart c e change n p)

  none_before : (e : ℤ) → e <ℤ c → (c -ℤ (a -ℤ b)) ≤ℤ e → Changes f e → ⊥
  none_before e p u n = omega (arith, ints, wide, apart e c n change p)

  -- from the change on, and before it, the offset stays for the size of the jump
  holds_after : (t : ℤ) → c ≤ℤ t → t ≤ℤ (c +ℤ (a -ℤ b)) → f t ≡ f c
  holds_after t p u = judged (way f apart c t p)
    where
      judged : Way f apart c t → f t ≡ f c
      judged (still w) = w.same
      judged (once w) = absurd (none_after w.at w.past (omega (arith, ints)) w.changes)
      judged (often w) = absurd (none_after w.last w.past (omega (arith, ints)) w.changes)

  holds_before : (t : ℤ) → t <ℤ c → (c -ℤ (a -ℤ b)) ≤ℤ t → f t ≡ f (c -ℤ pos 1)
  holds_before t p u = judged (way f apart t (c -ℤ pos 1) (omega (arith, ints)))
    where
      judged : Way f apart t (c -ℤ pos 1) → f t ≡ f (c -ℤ pos 1)
      judged (still w) = sym w.same
      judged (once w) = absurd (none_before w.at (omega (arith, ints)) (omega (arith, ints)) w.changes)
      judged (often w) = absurd (none_before w.last (omega (arith, ints)) (omega (arith, ints)) w.changes)

  -- Moved on by the jump, the time is read at L less the offset before,
  pub moved_on : Reads f (L +ℤ (a -ℤ b)) (L -ℤ b)
  moved_on = omega (arith, ints, holds_after (L -ℤ b) (omega (arith, ints)) (omega (arith, ints)))

  -- and moved back at L less the offset after,
  pub moved_back : Reads f (L -ℤ (a -ℤ b)) (L -ℤ a)
  moved_back = omega (arith, ints, holds_before (L -ℤ a) (omega (arith, ints)) (omega (arith, ints)))

  -- by no other instant.
  pub only_on : (t : ℤ) → Reads f (L +ℤ (a -ℤ b)) t → t ≡ L -ℤ b
  only_on t r =
      let e : t +ℤ f t ≡ (L -ℤ b) +ℤ f (L -ℤ b) = omega (arith, ints, moved_on) in
      by_lt_z t (L -ℤ b)
      (λ k. let d = doubled f apart t (L -ℤ b) k e in by_lt_z t c (λ q. absurd (omega (arith, ints, subst (λ z. (f z -ℤ f (z -ℤ pos 1)) ≡ t -ℤ (L -ℤ b)) (sym (d.only c q (omega (arith, ints)) change)) d.falls))) (λ q. absurd (none_after d.change (omega (arith, ints)) (omega (arith, ints)) d.changes)))
      (λ k. by_lt_z (L -ℤ b) t (λ q. let d = doubled f apart (L -ℤ b) t q (sym e) in absurd (omega (arith, ints, wide, apart c d.change change d.changes (omega (arith, ints))))) (λ q. omega (arith, ints)))

  pub only_back : (t : ℤ) → Reads f (L -ℤ (a -ℤ b)) t → t ≡ L -ℤ a
  only_back t r =
      let e : t +ℤ f t ≡ (L -ℤ a) +ℤ f (L -ℤ a) = omega (arith, ints, moved_back) in
      by_lt_z t (L -ℤ a)
      (λ k. let d = doubled f apart t (L -ℤ a) k e in absurd (omega (arith, ints, wide, apart d.change c d.changes change (omega (arith, ints)))))
      (λ k. by_lt_z (L -ℤ a) t (λ q. let d = doubled f apart (L -ℤ a) t q (sym e) in by_lt_z t c (λ n. absurd (none_before d.change (omega (arith, ints)) (omega (arith, ints)) d.changes)) (λ n. absurd (omega (arith, ints, subst (λ z. (f z -ℤ f (z -ℤ pos 1)) ≡ (L -ℤ a) -ℤ t) (sym (d.only c (omega (arith, ints)) (omega (arith, ints)) change)) d.falls)))) (λ q. omega (arith, ints)))

pub moved_once : (f : ℤ → ℤ) → Apart f → (L c b a : ℤ) → Leaps f L c b a → MovedOnce f L b a
moved_once f apart L c b a g =
    record { on = moved_on f apart L c b a g; only_on = only_on f apart L c b a g; back = moved_back f apart L c b a g; only_back = only_back f apart L c b a g }
