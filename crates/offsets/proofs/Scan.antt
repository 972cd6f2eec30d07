-- Where a local time begins: at the first instant that reads it or later, which reads it, or is the change that leaps over it.
use Rattle.std.proofs.Common.{◌⊎◌, ℤ, pos, ◌+ℤ◌, ◌-ℤ◌, ◌≤ℤ◌, refl, inl, inr, ⊎_elim, arith}
use Rattle.std.proofs.lemmas.Int.{ints, by_lt_z}
use Rattle.offsets.specs.Offsets.{Bounded, Apart}
use Rattle.offsets.specs.Readers.{Reads, Leaps}
use Rattle.offsets.specs.Starts.{Starts}
use Rattle.offsets.proofs.Sides.{from_on, up_to}
use Rattle.offsets.proofs.Upward.{First, NoneUpTo, first_or_none}

module _ (f : ℤ → ℤ) (bounded : Bounded f) (L : ℤ) where
  abbrev Late : ℤ → Type 0
  Late t = L ≤ℤ (t +ℤ f t)

  late_or_not : (t : ℤ) → Late t ⊎ (Late t → ⊥)
  late_or_not t = search (arith, ints)

  found : First Late late_or_not (L -ℤ pos 86400) (L +ℤ pos 86400) → (s : ℤ) × Starts f L s
  found w = (w.at, record { reads = w.passes; earliest = λ t h. grind (arith, ints, bounded t, w.none t) })

  none : NoneUpTo Late late_or_not (L -ℤ pos 86400) (L +ℤ pos 86400) → ⊥
  none n = n (L +ℤ pos 86400) (omega (arith, ints)) (omega (arith, ints)) (omega (arith, ints, bounded (L +ℤ pos 86400)))

  -- The earliest instant that reads L or later: there is one, since offsets are less than a day.
  pub begins : (s : ℤ) × Starts f L s
  begins = ⊎_elim found (λ n. absurd (none n)) (first_or_none Late late_or_not (L -ℤ pos 86400) (L +ℤ pos 86400) (omega (arith, ints)))

-- It reads L, or it is the change that leaps over L.
pub begins_so : (f : ℤ → ℤ) (L s : ℤ) → Starts f L s → Reads f L s ⊎ Leaps f L s (f (s -ℤ pos 1)) (f s)
begins_so f L s w =
    by_lt_z L (s +ℤ f s) (λ k. inr (refl, refl, grind (arith, ints, w.earliest (s -ℤ pos 1)), k)) (λ k. inl (omega (arith, ints)))

-- A local time that nothing reads has a gap.
pub no_reader_gap : (f : ℤ → ℤ) → Bounded f → (L : ℤ) → ((t : ℤ) → Reads f L t → ⊥) → (c : ℤ) × Leaps f L c (f (c -ℤ pos 1)) (f c)
no_reader_gap f bounded L none =
    let w = begins f bounded L in
    ⊎_elim (λ r. absurd (none w.0 r)) (λ g. (w.0, g)) (begins_so f L w.0 w.1)

-- In a gap nothing reads the local time.
pub gap_no_reader : (f : ℤ → ℤ) → Apart f → (L c b a t : ℤ) → Leaps f L c b a → Reads f L t → ⊥
gap_no_reader f apart L c b a t g r = grind (arith, ints, up_to f apart L c (omega (arith, ints)) (omega (arith, ints)) t, from_on f apart L c (omega (arith, ints)) (omega (arith, ints)) t)

-- The change that leaps over L is where L begins.
pub gap_starts : (f : ℤ → ℤ) → Apart f → (L c b a : ℤ) → Leaps f L c b a → Starts f L c
gap_starts f apart L c b a g =
    record { reads = omega (arith, ints); earliest = λ t k. grind (arith, ints, up_to f apart L c (omega (arith, ints)) (omega (arith, ints)) t) }

-- The first instant that reads L is where L begins.
pub first_starts : (f : ℤ → ℤ) → Bounded f → Apart f → (L t : ℤ) → Reads f L t → ((u : ℤ) → Reads f L u → t ≤ℤ u) → Starts f L t
first_starts f bounded apart L t r first =
    let w = begins f bounded L in
    let least : t ≤ℤ w.0 = ⊎_elim (first w.0) (λ g. absurd (gap_no_reader f apart L w.0 (f (w.0 -ℤ pos 1)) (f w.0) t g r)) (begins_so f L w.0 w.1) in
    record { reads = omega (arith, ints); earliest = λ u h. omega (arith, ints, w.1.earliest u h) }

-- A later local time never begins earlier, and each begins once.
pub starts_rise : (f : ℤ → ℤ) (L M s u : ℤ) → L ≤ℤ M → Starts f L s → Starts f M u → s ≤ℤ u
starts_rise f L M s u h a b = a.earliest u (omega (arith, ints))
