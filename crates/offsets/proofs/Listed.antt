-- The list of possible instants begins with the first that reads the local time, goes on with the next, and ends where no more follows; so any answer that is all of them is that list.
use Rattle.std.proofs.Common.{◌≡◌, ℕ, zero, suc, Bool, true, [], ◌∷◌, map, ℤ, pos, ◌+ℤ◌, ◌-ℤ◌, ◌≤ℤ◌, ◌<ℤ◌, filter, sym, refl, ap, arith}
use Rattle.std.proofs.lemmas.Int.{ints, by_lt_z}
use Rattle.std.proofs.lemmas.Bool.{false_from_ne_true}
use Rattle.offsets.proofs.Sides.{only_gap}
use Rattle.offsets.proofs.Neighbours.{spaced_apart}
use Rattle.offsets.specs.Offsets.{Bounded, Spaced}
use Rattle.offsets.specs.Readers.{Reads, Reading, Found}
use Rattle.offsets.specs.Possible.{seconds, around, reads, at, instants, listed, gapped, first_or, change_over, candidates_at}
use Rattle.offsets.specs.declared.Candidate.{Candidate}
use Rattle.offsets.specs.declared.Candidates.{Candidates}
use Rattle.offsets.specs.declared.Candidates.TheVariants.{Gap, One, Two}

-- ---- what a test keeps of n seconds

module _ (p : ℤ → Bool) where
  none_kept : (n : ℕ) (from : ℤ) → ((t : ℤ) → from ≤ℤ t → p t ≡ true → ⊥) → filter p (seconds from n) ≡ []
  none_kept zero from none = refl
  none_kept (suc n) from none =
      rw (false_from_ne_true (p from) (none from (omega (arith, ints)))) (none_kept n (from +ℤ pos 1) (λ t h. none t (omega (arith, ints))))

  -- it keeps a first, and then what it keeps of the seconds after a
  record Begins (n : ℕ) (from a : ℤ) : Type 0 where
    left : ℕ
    ends : (a +ℤ pos 1) +ℤ pos left ≡ from +ℤ pos n
    is : filter p (seconds from n) ≡ a ∷ filter p (seconds (a +ℤ pos 1) left)

  begins_here : (n : ℕ) (from a : ℤ) → from ≡ a → p a ≡ true → Begins (suc n) from a
  begins_here n from a e passes = record { left = n; ends = omega (arith, ints); is = rw (e, passes) refl }

  begins_later : (n : ℕ) (from a : ℤ) → (p from ≡ true → ⊥) → Begins n (from +ℤ pos 1) a → Begins (suc n) from a
  begins_later n from a fails w = record { left = w.left; ends = omega (arith, ints); is = rw (false_from_ne_true (p from) fails) w.is }

  -- the first second that passes
  begins : (n : ℕ) (from a : ℤ) → from ≤ℤ a → a <ℤ (from +ℤ pos n) → p a ≡ true → ((t : ℤ) → from ≤ℤ t → p t ≡ true → a ≤ℤ t) → Begins n from a
  begins zero from a low high passes first = absurd (omega (arith, ints))
  begins (suc n) from a low high passes first =
      by_lt_z from a
      (λ h. begins_later n from a (λ e. omega (arith, ints, first from (omega (arith, ints)) e)) (begins n (from +ℤ pos 1) a (omega (arith, ints)) (omega (arith, ints)) passes (λ t k. first t (omega (arith, ints)))))
      (λ h. begins_here n from a (omega (arith, ints)) passes)

  begins_first : (n : ℕ) (from a d : ℤ) → Begins n from a → first_or d (filter p (seconds from n)) ≡ a
  begins_first n from a d w = ap (first_or d) w.is

-- ---- what the two tests say

module _ (f : ℤ → ℤ) (L t : ℤ) where
  passed : reads f L t ≡ true → Reads f L t
  passed e = grind (arith, ints)

  passes : Reads f L t → reads f L t ≡ true
  passes e = grind (arith, ints)

  low_passed : gapped f L t ≡ true → (t +ℤ f (t -ℤ pos 1)) ≤ℤ L
  low_passed e = grind (arith, ints)

  high_passed : gapped f L t ≡ true → L <ℤ (t +ℤ f t)
  high_passed e = grind (arith, ints)

  gap_passes : (t +ℤ f (t -ℤ pos 1)) ≤ℤ L → L <ℤ (t +ℤ f t) → gapped f L t ≡ true
  gap_passes low high = grind (arith, ints)

-- ---- n seconds that hold all those less than a day from L

module _ (f : ℤ → ℤ) (bounded : Bounded f) (L : ℤ) (n : ℕ) (from : ℤ) (low : from ≤ℤ (L -ℤ pos 86399)) (high : (L +ℤ pos 86399) <ℤ (from +ℤ pos n)) where
  read_at : (a : Candidate) → Reading f L a → at f a.second ≡ a
  read_at a r = ap (λ o. record { second = a.second; offset = o }) (sym r.1)

  kept : (c : Candidates) → Found f L c → map (at f) (filter (reads f L) (seconds from n)) ≡ listed c
  kept (Gap c before after) found = ap (map (at f)) (none_kept (reads f L) n from (λ t h e. found.0 t (passed f L t e)))
  kept (One a) found =
      let w : Begins (reads f L) n from a.second = begins (reads f L) n from a.second (omega (arith, ints, bounded a.second)) (omega (arith, ints, bounded a.second)) (passes f L a.second found.0.0) (λ t h e. omega (arith, ints, found.1 t (passed f L t e))) in
      let z : filter (reads f L) (seconds (a.second +ℤ pos 1) w.left) ≡ [] = none_kept (reads f L) w.left (a.second +ℤ pos 1) (λ t h e. omega (arith, ints, found.1 t (passed f L t e))) in
      rw (w.is, z, read_at a found.0) refl
  kept (Two a b) found =
      let w : Begins (reads f L) n from a.second = begins (reads f L) n from a.second (omega (arith, ints, bounded a.second)) (omega (arith, ints, bounded a.second)) (passes f L a.second found.0.0) (λ t h e. grind (arith, ints, found.3 t (passed f L t e))) in
      let v : Begins (reads f L) w.left (a.second +ℤ pos 1) b.second = begins (reads f L) w.left (a.second +ℤ pos 1) b.second (omega (arith, ints)) (omega (arith, ints, bounded b.second)) (passes f L b.second found.1.0) (λ t h e. grind (arith, ints, found.3 t (passed f L t e))) in
      let z : filter (reads f L) (seconds (b.second +ℤ pos 1) v.left) ≡ [] = none_kept (reads f L) v.left (b.second +ℤ pos 1) (λ t h e. grind (arith, ints, found.3 t (passed f L t e))) in
      rw (w.is, v.is, z, read_at a found.0, read_at b found.1) refl

  gap_kept : Spaced f → (c before after : ℤ) → Found f L (Gap c before after) → first_or L (filter (gapped f L) (seconds from n)) ≡ c
  gap_kept spaced c before after found =
      begins_first (gapped f L) n from c L (begins (gapped f L) n from c (omega (arith, ints, bounded c)) (omega (arith, ints, bounded (c -ℤ pos 1))) (gap_passes f L c (omega (arith, ints)) (omega (arith, ints))) (λ t h e. omega (arith, ints, other t e)))
    where
      other : (d : ℤ) → gapped f L d ≡ true → c ≡ d
      other d e = only_gap f (spaced_apart f spaced) L c (omega (arith, ints)) (omega (arith, ints)) d (low_passed f L d e) (high_passed f L d e)

-- ---- so there is one answer

pub found_listed : (f : ℤ → ℤ) → Bounded f → (L : ℤ) (c : Candidates) → Found f L c → instants f L ≡ listed c
unfolding around
found_listed f bounded L c found = kept f bounded L 172799 (L -ℤ pos 86399) (omega (arith, ints)) (omega (arith, ints)) c found

pub gap_change : (f : ℤ → ℤ) → Bounded f → Spaced f → (L c before after : ℤ) → Found f L (Gap c before after) → change_over f L ≡ c
unfolding around
gap_change f bounded spaced L c before after found = gap_kept f bounded L 172799 (L -ℤ pos 86399) (omega (arith, ints)) (omega (arith, ints)) spaced c before after found

pub determined : (f : ℤ → ℤ) → Bounded f → Spaced f → (L : ℤ) (x : Candidates) → Found f L x → x ≡ candidates_at f L
unfolding candidates_at
determined f bounded spaced L (Gap c before after) found =
    rw (found_listed f bounded L (Gap c before after) found, gap_change f bounded spaced L c before after found, found.1, found.2) refl
determined f bounded spaced L (One a) found = rw (found_listed f bounded L (One a) found) refl
determined f bounded spaced L (Two a b) found = rw (found_listed f bounded L (Two a b) found) refl
