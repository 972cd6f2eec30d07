-- The list of possible instants has just the instants that read the local time, ascending, and no other list is so.
use Rattle.std.proofs.Common.{◌≡◌, ℕ, zero, suc, Bool, true, false, cond, List, [], ◌∷◌, ℤ, pos, ◌+ℤ◌, ◌-ℤ◌, ◌≤ℤ◌, ◌<ℤ◌, filter, sym, refl, inl, inr, ⊎_elim, arith}
use Rattle.std.proofs.ByRecursion.{all_kept_by, kept_by_passes}
use Rattle.std.proofs.lemmas.Int.{ints, by_lt_z}
use Rattle.std.specs.List.{AllByRecursion as All}
use Rattle.offsets.specs.Offsets.{Bounded}
use Rattle.offsets.specs.Readers.{Reads}
use Rattle.offsets.specs.Possible.{seconds, around, reads, possible}
use Rattle.offsets.specs.Laws.{JustReaders}
pub use Rattle.offsets.specs.Members.{In, Ascending}

-- ---- two ascending lists with the same elements are equal

pub above : (x t : ℤ) (xs : List ℤ) → All (λ y. x <ℤ y) xs → In xs t → x <ℤ t
above x t [] hs i = elim i [ ]
above x t (y ∷ ys) (h, hs) (inl e) = omega (arith, ints)
above x t (y ∷ ys) (h, hs) (inr i) = above x t ys hs i

heads : (x y : ℤ) (xs ys : List ℤ) → Ascending (x ∷ xs) → Ascending (y ∷ ys) → In (y ∷ ys) x → In (x ∷ xs) y → x ≡ y
heads x y xs ys a b (inl e) j = e
heads x y xs ys a b (inr i) (inl e) = sym e
heads x y xs ys a b (inr i) (inr j) = let p = above y x ys b.0 i in let q = above x y xs a.0 j in omega (arith, ints)

tail : (x y : ℤ) (xs ys : List ℤ) → x ≡ y → Ascending (x ∷ xs) → ((t : ℤ) → In (x ∷ xs) t → In (y ∷ ys) t) → (t : ℤ) → In xs t → In ys t
tail x y xs ys e a to t i =
    let p = above x t xs a.0 i in
    ⊎_elim (λ f. let n : ⊥ = omega (arith, ints) in elim n [ ]) (λ j. j) (to t (inr i))

pub same : (xs ys : List ℤ) → Ascending xs → Ascending ys → ((t : ℤ) → In xs t → In ys t) → ((t : ℤ) → In ys t → In xs t) → xs ≡ ys
same [] [] a b to from = refl
same [] (y ∷ ys) a b to from = elim (from y (inl refl)) [ ]
same (x ∷ xs) [] a b to from = elim (to x (inl refl)) [ ]
same (x ∷ xs) (y ∷ ys) a b to from =
    let e = heads x y xs ys a b (to x (inl refl)) (from y (inl refl)) in
    let rest = same xs ys a.1 b.1 (tail x y xs ys e a to) (tail y x ys xs (sym e) b from) in
    cc

-- ---- the seconds of a stretch

seconds_in : (n : ℕ) (from t : ℤ) → from ≤ℤ t → t <ℤ (from +ℤ pos n) → In (seconds from n) t
seconds_in zero from t low high = omega (arith, ints)
seconds_in (suc n) from t low high =
    by_lt_z from t (λ h. inr (seconds_in n (from +ℤ pos 1) t (omega (arith, ints)) (omega (arith, ints)))) (λ h. inl (omega (arith, ints)))

seconds_above : (n : ℕ) (x from : ℤ) → x <ℤ from → All (λ y. x <ℤ y) (seconds from n)
seconds_above zero x from h = tt
seconds_above (suc n) x from h = (h, seconds_above n x (from +ℤ pos 1) (omega (arith, ints)))

seconds_ascend : (n : ℕ) (from : ℤ) → Ascending (seconds from n)
seconds_ascend zero from = tt
seconds_ascend (suc n) from = (seconds_above n from (from +ℤ pos 1) (omega (arith, ints)), seconds_ascend n (from +ℤ pos 1))

-- ---- a filter

kept_ascend : (p : ℤ → Bool) (xs : List ℤ) → Ascending xs → Ascending (filter p xs)
kept_ascend p [] a = tt
kept_ascend p (x ∷ xs) a =
    elim (p x) as (λ b. Ascending (cond b (x ∷ filter p xs) (filter p xs))) [ true ↦ (all_kept_by p (λ y. x <ℤ y) xs a.0, kept_ascend p xs a.1) | false ↦ kept_ascend p xs a.1 ]

kept_in : (p : ℤ → Bool) (xs : List ℤ) (t : ℤ) → p t ≡ true → In xs t → In (filter p xs) t
kept_in p [] t h i = elim i [ ]
kept_in p (x ∷ xs) t h (inl e) = rw (← e, h) (inl refl)
kept_in p (x ∷ xs) t h (inr i) =
    elim (p x) as (λ b. In (cond b (x ∷ filter p xs) (filter p xs)) t) [ true ↦ inr (kept_in p xs t h i) | false ↦ kept_in p xs t h i ]

pub all_in : (P : ℤ → Type 0) (xs : List ℤ) (t : ℤ) → All P xs → In xs t → P t
all_in P [] t hs i = elim i [ ]
all_in P (x ∷ xs) t (h, hs) (inl e) = rw e h
all_in P (x ∷ xs) t (h, hs) (inr i) = all_in P xs t hs i

-- ---- the possible instants

around_ascend : (L : ℤ) → Ascending (around L)
unfolding around
around_ascend L = seconds_ascend 172799 (L -ℤ pos 86399)

around_in : (L t : ℤ) → (L -ℤ pos 86399) ≤ℤ t → t <ℤ ((L -ℤ pos 86399) +ℤ pos 172799) → In (around L) t
unfolding around
around_in L t = seconds_in 172799 (L -ℤ pos 86399) t

module _ (f : ℤ → ℤ) (L : ℤ) where
  pub possible_ascend : Ascending (possible f L)
  possible_ascend = kept_ascend (reads f L) (around L) (around_ascend L)

  pub possible_reads : (t : ℤ) → In (possible f L) t → Reads f L t
  possible_reads t i =
      let e : reads f L t ≡ true = all_in (λ s. reads f L s ≡ true) (possible f L) t (kept_by_passes (reads f L) (around L)) i in
      grind (arith, ints)

  pub reads_possible : Bounded f → (t : ℤ) → Reads f L t → In (possible f L) t
  reads_possible bound t here =
      let b = bound t in
      let e : reads f L t ≡ true = grind (arith, ints) in
      kept_in (reads f L) (around L) t e (around_in L t (omega (arith, ints)) (omega (arith, ints)))

-- ---- the law

pub just_readers : JustReaders
just_readers =
    record {
      ascends = possible_ascend;
      reads = possible_reads;
      all = λ f b L. reads_possible f L b;
      alone = λ f b L xs a to from. same xs (possible f L) a (possible_ascend f L) (λ t i. reads_possible f L b t (to t i)) (λ t i. from t (possible_reads f L t i));
    }
