-- Dates compare as their days do, so a day has one date. Assumes nothing.
use Rattle.std.proofs.Common.{◌≡◌, ℕ, zero, suc, ◌+◌, ◌-◌, ◌<◌, ◌≤◌, Bool, true, false, cond, ◌⊎◌, ℤ, pos, ◌+ℤ◌, ◌-ℤ◌, nat_abs, ◌≤ℤ◌, ◌<ℤ◌, Ordering, Less, Equal, Greater, sym, refl, ap, ◌∙◌, inl, inr, ⊎_elim, arith}
use borrow.Author.Differences.{ints}
use Rattle.std.proofs.lemmas.Int.{by_lt_z}
use Rattle.std.proofs.lemmas.Bool.{cases_order}
use Rattle.std.specs.Ordering.{MatchOrdering, ordering_then, int_cmp, nat_cmp}
use Rattle.std.specs.Cmp.{int_ranks, ranks}
use Rattle.std.proofs.lemmas.Cmp.{by_ranked}
use Rattle.calendar.specs.declared.IsoDate.{IsoDate}
use Rattle.calendar.specs.Gregorian.{leap, year_length, month_length, months_before, year_start, epoch_days, Valid, Earlier, Real, day_of}
use Rattle.calendar.proofs.Years.{start_next}

-- a later year begins after this one ends
year_gap : (y : ℤ) (k : ℕ) → (year_start y +ℤ pos (year_length y)) ≤ℤ year_start (y +ℤ pos 1 +ℤ pos k)
year_gap y zero = omega (arith, ints, start_next y, ap year_start (none y))
  where
    none : (y : ℤ) → y +ℤ pos 1 +ℤ pos 0 ≡ y +ℤ pos 1
    none y = omega (arith, ints)
year_gap y (suc k) = omega (arith, ints, year_gap y k, start_next (y +ℤ pos 1 +ℤ pos k), ap year_start (more y k))
  where
    more : (y : ℤ) (k : ℕ) → y +ℤ pos 1 +ℤ pos (suc k) ≡ y +ℤ pos 1 +ℤ pos k +ℤ pos 1
    more y k = omega (arith, ints)

pub year_order : (a b : ℤ) → a <ℤ b → (year_start a +ℤ pos (year_length a)) ≤ℤ year_start b
year_order a b h = rw (difference a b h) (year_gap a (nat_abs (b -ℤ a) - 1))
  where
    difference : (a b : ℤ) → a <ℤ b → b ≡ a +ℤ pos 1 +ℤ pos (nat_abs (b -ℤ a) - 1)
    difference a b h = omega (arith, ints)

-- and so with months
pub month_order : (l : Bool) (m n : ℕ) → m < n → months_before l m + month_length l (suc m) ≤ months_before l n
unfolding months_before
month_order l m zero h = absurd (omega arith)
month_order l m (suc n) h = ⊎_elim (λ e. rw e (omega arith)) (λ k. omega (arith, month_order l m n k)) (last m n h)
  where
    last : (m n : ℕ) → m < suc n → (m ≡ n) ⊎ (m < n)
    last m n h = ⊎_elim inl (λ e. inr (⊎_elim (λ k. k) (λ k. absurd (omega arith)) e)) (cases_order m n)

pub whole_year : (l : Bool) → months_before l 12 ≡ cond l 366 365
unfolding months_before
whole_year true = refl
whole_year false = refl

-- the same, with months counted from 1
pub month_days : (l : Bool) (m n : ℕ) → 1 ≤ m → m < n → months_before l (m - 1) + month_length l m ≤ months_before l (n - 1)
month_days l m n p h =
    let e : suc (m - 1) ≡ m = omega arith in
    let k = month_order l (m - 1) (n - 1) (omega arith) in
    rw e at k

pub month_next : (l : Bool) (m : ℕ) → 1 ≤ m → months_before l (m + 1 - 1) ≡ months_before l (m - 1) + month_length l m
unfolding months_before
month_next l zero h = absurd (omega arith)
month_next l (suc m) h = let e : suc m + 1 - 1 ≡ suc m = omega arith in let k : suc m - 1 ≡ m = omega arith in rw (e, k)

-- a day of the year past November is one of December's
pub december : (l : Bool) (m left day : ℕ) → m ≡ 12 → months_before l (m - 1) + left ≡ day → day < cond l 366 365 → left < 31
december l m left day t e h =
    let k : months_before l 11 + left ≡ day = rw t at e in
    omega (arith, whole_year l, month_next l 12 (omega arith))

-- the day of a date lies in its year
pub in_year : (y : ℤ) (m d : ℕ) → Valid y m d → months_before (leap y) (m - 1) + d ≤ year_length y
in_year y m d v = omega (arith, month_days (leap y) m 13 v.month_low (omega (arith, v.month_high)), whole_year (leap y))

pub earlier_days : (y : ℤ) (m d : ℕ) (z : ℤ) (n e : ℕ) → Valid y m d → Valid z n e → Earlier y m d z n e → epoch_days y m d <ℤ epoch_days z n e
earlier_days y m d z n e v w (inl h) = omega (arith, ints, year_order y z h, in_year y m d v, w.day_low)
earlier_days y m d z n e v w (inr (p, inl h)) = rw (← p) (omega (arith, ints, month_days (leap y) m n v.month_low h, v.day_high, w.day_low))
earlier_days y m d z n e v w (inr (p, inr (q, h))) = rw (← p, ← q) (omega (arith, ints))

-- of two dates, one is earlier or they are the same
pub compared : (y : ℤ) (m d : ℕ) (z : ℤ) (n e : ℕ) → Earlier y m d z n e ⊎ (((y ≡ z) × (m ≡ n) × (d ≡ e)) ⊎ Earlier z n e y m d)
compared y m d z n e =
    by_lt_z y z (λ h. inl (inl h))
    (λ h. by_lt_z z y (λ k. inr (inr (inl k))) (λ k. let p : y ≡ z = omega (arith, ints) in months p (cases_order m n)))
  where
    days : y ≡ z → m ≡ n → (d ≡ e) ⊎ ((d < e) ⊎ (e < d)) → Earlier y m d z n e ⊎ (((y ≡ z) × (m ≡ n) × (d ≡ e)) ⊎ Earlier z n e y m d)
    days p q (inl r) = inr (inl (p, q, r))
    days p q (inr (inl h)) = inl (inr (p, inr (q, h)))
    days p q (inr (inr h)) = inr (inr (inr (sym p, inr (sym q, h))))

    months : y ≡ z → (m ≡ n) ⊎ ((m < n) ⊎ (n < m)) → Earlier y m d z n e ⊎ (((y ≡ z) × (m ≡ n) × (d ≡ e)) ⊎ Earlier z n e y m d)
    months p (inl q) = days p q (cases_order d e)
    months p (inr (inl h)) = inl (inr (p, inl h))
    months p (inr (inr h)) = inr (inr (inr (sym p, inl h)))

-- a day has one date
pub one_date : (y : ℤ) (m d : ℕ) (z : ℤ) (n e : ℕ) → Valid y m d → Valid z n e → epoch_days y m d ≡ epoch_days z n e → (y ≡ z) × (m ≡ n) × (d ≡ e)
one_date y m d z n e v w same =
    ⊎_elim (λ h. absurd (omega (arith, ints, earlier_days y m d z n e v w h)))
    (λ r. ⊎_elim (λ h. h) (λ h. absurd (omega (arith, ints, earlier_days z n e y m d w v h))) r)
    (compared y m d z n e)

-- and dates compare as their days do
pub days_earlier : (y : ℤ) (m d : ℕ) (z : ℤ) (n e : ℕ) → Valid y m d → Valid z n e → epoch_days y m d <ℤ epoch_days z n e → Earlier y m d z n e
days_earlier y m d z n e v w h =
    ⊎_elim (λ k. k)
    (λ r. ⊎_elim (λ k. absurd (omega (arith, ints, again k))) (λ k. absurd (omega (arith, ints, earlier_days z n e y m d w v k))) r)
    (compared y m d z n e)
  where
    again : (y ≡ z) × (m ≡ n) × (d ≡ e) → epoch_days y m d ≡ epoch_days z n e
    again k = rw (k.0, k.1, k.2)

pub same_date : (a b : IsoDate) → a.year ≡ b.year → a.month ≡ b.month → a.day ≡ b.day → a ≡ b
same_date a b p q r =
    let f : ℤ → IsoDate = λ y. record { year = y; month = a.month; day = a.day } in
    let g : ℕ → IsoDate = λ m. record { year = b.year; month = m; day = a.day } in
    let h : ℕ → IsoDate = λ d. record { year = b.year; month = b.month; day = d } in
    ap f p ∙ ap g q ∙ ap h r

-- the order of the fields is that of the days
pub days_ranked : (a b : IsoDate) (o : Ordering) → Real a → Real b → o ≡ ordering_then (int_cmp a.year b.year) (ordering_then (nat_cmp a.month b.month) (nat_cmp a.day b.day))
    → MatchOrdering o (day_of a <ℤ day_of b) (a ≡ b) (day_of b <ℤ day_of a)
days_ranked a b o v w e =
    by_ranked _ _ _ (int_cmp a.year b.year) (int_ranks a.year b.year)
    (λ l h. less (cc) (inl h))
    (λ l p. by_ranked _ _ _ (nat_cmp a.month b.month) (ranks a.month b.month)
    (λ m h. less (cc) (inr (p, inl h)))
    (λ m q. by_ranked _ _ _ (nat_cmp a.day b.day) (ranks a.day b.day)
    (λ d h. less (cc) (inr (p, inr (q, h))))
    (λ d h. let r : o ≡ Equal = cc in rw r (same_date a b p q h))
    (λ d h. greater (cc) (inr (sym p, inr (sym q, h)))))
    (λ m h. greater (cc) (inr (sym p, inl h))))
    (λ l h. greater (cc) (inl h))
  where
    less : o ≡ Less → Earlier a.year a.month a.day b.year b.month b.day → MatchOrdering o (day_of a <ℤ day_of b) (a ≡ b) (day_of b <ℤ day_of a)
    less r h = rw r (earlier_days _ _ _ _ _ _ v w h)

    greater : o ≡ Greater → Earlier b.year b.month b.day a.year a.month a.day → MatchOrdering o (day_of a <ℤ day_of b) (a ≡ b) (day_of b <ℤ day_of a)
    greater r h = rw r (earlier_days _ _ _ _ _ _ w v h)
