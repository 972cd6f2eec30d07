-- Every lawful offset function has an answer to what reads a local time.
use Rattle.std.proofs.Common.{◌⊎◌, ℤ, pos, ◌+ℤ◌, ◌-ℤ◌, refl, subst, inl, inr, ⊎_elim, arith}
use Rattle.std.proofs.lemmas.Int.{ints, by_lt_z}
use Rattle.offsets.specs.Offsets.{Bounded, Spaced, Apart}
use Rattle.offsets.specs.Readers.{Reads, Found}
use Rattle.offsets.specs.Starts.{Starts}
use Rattle.offsets.specs.Possible.{at, candidates_at}
use Rattle.offsets.specs.declared.Candidates.{Candidates}
use Rattle.offsets.specs.declared.Candidates.TheVariants.{Gap, One, Two}
use Rattle.offsets.proofs.Upward.{First, NoneUpTo, first_or_none}
use Rattle.offsets.proofs.Neighbours.{spaced_apart}
use Rattle.offsets.proofs.Walk.{no_three}
use Rattle.offsets.proofs.Scan.{begins, begins_so, gap_no_reader}
use Rattle.offsets.proofs.Listed.{determined}

-- the first reader is known: it is the only one, or one more follows within two days
module _ (f : ℤ → ℤ) (bounded : Bounded f) (apart : Apart f) (L s : ℤ) (first : Starts f L s) (here : Reads f L s) where
  judged : (t : ℤ) → Reads f L t ⊎ (Reads f L t → ⊥)
  judged t = search (arith, ints)

  two : (n : First (Reads f L) judged s (s +ℤ pos 172800)) → Found f L (Two (at f s) (at f n.at))
  two n = (
    (here, refl),
    (n.passes, refl),
    n.past,
    λ t r. by_lt_z t n.at
        (λ k. inl (by_lt_z s t (λ j. absurd (n.none t j k r)) (λ j. omega (arith, ints, first.earliest t (omega (arith, ints))))))
        (λ k. inr (by_lt_z n.at t (λ j. absurd (no_three f apart s n.at t n.past j (omega (arith, ints)) (omega (arith, ints)))) (λ j. omega (arith, ints)))),
  )

  one : NoneUpTo (Reads f L) judged s (s +ℤ pos 172800) → Found f L (One (at f s))
  one none = ((here, refl), λ t r. by_lt_z s t (λ k. absurd (none t k (omega (arith, ints, bounded s, bounded t)) r)) (λ k. omega (arith, ints, first.earliest t (omega (arith, ints)))))

  with_first : (x : Candidates) × Found f L x
  with_first = ⊎_elim (λ n. (Two (at f s) (at f n.at), two n)) (λ n. (One (at f s), one n)) (first_or_none (Reads f L) judged s (s +ℤ pos 172800) (omega (arith, ints)))

pub exists : (f : ℤ → ℤ) → Bounded f → Spaced f → (L : ℤ) → (x : Candidates) × Found f L x
exists f bounded spaced L =
    let apart = spaced_apart f spaced in
    let w = begins f bounded L in
    ⊎_elim (λ r. with_first f bounded apart L w.0 w.1 r) (λ g. (Gap w.0 (f (w.0 -ℤ pos 1)) (f w.0), (λ t q. gap_no_reader f apart L w.0 (f (w.0 -ℤ pos 1)) (f w.0) t g q, refl, refl, g.2, g.3))) (begins_so f L w.0 w.1)

pub answered : (f : ℤ → ℤ) → Bounded f → Spaced f → (L : ℤ) → Found f L (candidates_at f L)
answered f bounded spaced L =
    let w = exists f bounded spaced L in
    subst (Found f L) (determined f bounded spaced L w.0 w.1) w.1
