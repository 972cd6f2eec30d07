-- In a gap every instant before the change reads earlier than the local time, and every one from it on reads later; so a local time has one gap at most.
use Rattle.std.proofs.Common.{◌≡◌, ℤ, pos, negsuc, ◌+ℤ◌, ◌-ℤ◌, nat_abs, ◌≤ℤ◌, ◌<ℤ◌, refl, arith}
use Rattle.std.proofs.lemmas.Int.{ints, by_lt_z}
use Rattle.offsets.specs.Offsets.{Changes, Apart}
use Rattle.offsets.proofs.Walk.{Way, still, once, often, way}

pub size : (z : ℤ) → (z ≤ℤ pos (nat_abs z)) × ((pos 0 -ℤ z) ≤ℤ pos (nat_abs z))
size z = (omega (arith, ints), omega (arith, ints))

-- docs/PORT.md names it beside `size`; proofs go by the library's integers today.
pub sized : (z : ℤ) → pos 0 ≤ℤ z → pos (nat_abs z) ≡ z
sized (pos n) h = refl
sized (negsuc n) h = absurd (omega (arith, ints))

module _ (f : ℤ → ℤ) (apart : Apart f) (L c : ℤ) (low : (c +ℤ f (c -ℤ pos 1)) ≤ℤ L) (high : L <ℤ (c +ℤ f c)) where
  change : Changes f c
  change e = omega (arith, ints)

  pub from_on : (t : ℤ) → c ≤ℤ t → L <ℤ (t +ℤ f t)
  from_on t h = judged (way f apart c t h)
    where
      judged : Way f apart c t → L <ℤ (t +ℤ f t)
      judged (still w) = omega (arith, ints)
      judged (once w) = omega (arith, ints, apart c w.at change w.changes w.past)
      judged (often w) = omega (arith, ints)

  pub up_to : (t : ℤ) → t <ℤ c → (t +ℤ f t) <ℤ L
  up_to t h = judged (way f apart t (c -ℤ pos 1) (omega (arith, ints)))
    where
      judged : Way f apart t (c -ℤ pos 1) → (t +ℤ f t) <ℤ L
      judged (still w) = omega (arith, ints)
      judged (once w) = omega (arith, ints, apart w.at c w.changes change (omega (arith, ints)))
      judged (often w) = omega (arith, ints)

  -- one gap at most
  pub only_gap : (d : ℤ) → (d +ℤ f (d -ℤ pos 1)) ≤ℤ L → L <ℤ (d +ℤ f d) → c ≡ d
  only_gap d low' high' =
      by_lt_z c d (λ h. absurd (omega (arith, ints, from_on (d -ℤ pos 1) (omega (arith, ints))))) (λ h. by_lt_z d c (λ k. absurd (omega (arith, ints, up_to d k))) (λ k. omega (arith, ints)))
