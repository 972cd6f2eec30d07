-- What rounding means, proved.
use Rattle.std.proofs.Common.{◌≡◌, ℕ, suc, ◌+◌, ◌*◌, ◌%◌, ◌<◌, ◌≤◌, true, false, ◌⊎◌, ℤ, pos, negsuc, neg_ℤ, nat_abs, ◌≤ℤ◌, refl, ap, ◌∙◌, subst, inl, inr, arith}
use Rattle.std.proofs.lemmas.Int.{ints}
use Rattle.std.proofs.lemmas.Bool.{cases_lt}
use Rattle.rounding.specs.declared.RoundingMode.{RoundingMode}
use Rattle.rounding.specs.declared.RoundingMode.TheVariants.{Ceil, Floor, Expand, Trunc, HalfCeil, HalfFloor, HalfExpand, HalfTrunc, HalfEven}
use Rattle.rounding.specs.Rounding.{unsigned_of, applied}
use Rattle.rounding.specs.Words.{Multiple, apart, Away, Toward, Nearest, Asks, Rounds, RoundsAsAsked, OneAnswer, NoneNearer}
use Rattle.rounding.proofs.Quotients.{Half, Taken, taken}
use Rattle.rounding.proofs.Multiples.{one_multiple}

-- the way between two numbers, read off either way round
abbrev Way : ℕ → ℕ → ℕ → Type 0
Way m v d = (v ≡ m + d) ⊎ (m ≡ v + d)

way : (m v : ℕ) (x r : ℤ) → x ≡ pos m → r ≡ pos v → Way m v (apart r x)
way m v x r p q = grind (arith, ints)

way_below : (m v : ℕ) (x r : ℤ) → x ≡ neg_ℤ (pos m) → r ≡ neg_ℤ (pos v) → Way m v (apart r x)
way_below m v x r p q = grind (arith, ints)

near : (n m v d : ℕ) → Way m v d → v < m + n → m < v + n → d < n
near n m v d w h k = grind arith

half : (n m v d : ℕ) (A : Type 0) → Way m v d → Half n m v A → 2 * d ≤ n
half n m v d A w h = grind arith

tied : (n m v d : ℕ) (A : Type 0) → Way m v d → Half n m v A → 2 * d ≡ n → A
tied n m v d A w h k = elim w [ inl e ↦ h.over (omega arith) | inr e ↦ h.under (omega arith) ]

nearest : (n m v : ℕ) (x r : ℤ) (A B : Type 0) → Way m v (apart r x) → Half n m v A → (A → B) → Nearest n x r B
nearest n m v x r A B w h f = record { nearest = half n m v (apart r x) A w h; tie = λ e. f (tied n m v (apart r x) A w h e) }

away : (n m v : ℕ) → (m ≡ 0 → v ≡ 0) → m ≤ v → Away (pos m) (pos v)
away n m v z h = record { size = h; above = λ k. omega (arith, ints); below = λ k. let o : v ≡ 0 = z (omega (arith, ints)) in omega (arith, ints) }

toward : (n m v : ℕ) → v ≤ m → Toward (pos m) (pos v)
toward n m v h = record { size = h; above = λ k. omega (arith, ints); below = λ k. omega (arith, ints) }

away_below : (n m v : ℕ) (r : ℤ) → r ≡ neg_ℤ (pos v) → suc m ≤ v → Away (negsuc m) r
away_below n m v r e h = record { size = omega (arith, ints); above = λ k. absurd (omega (arith, ints)); below = λ k. omega (arith, ints) }

toward_below : (n m v : ℕ) (r : ℤ) → r ≡ neg_ℤ (pos v) → v ≤ suc m → Toward (negsuc m) r
toward_below n m v r e h = record { size = omega (arith, ints); above = λ k. absurd (omega (arith, ints)); below = λ k. omega (arith, ints) }

asked : (o : RoundingMode) (n m v : ℕ) → 0 < n → Way m v (apart (pos v) (pos m)) → Taken (unsigned_of o true) n m v → Asks o n (pos m) (pos v)
asked Ceil n m v h w t = let p : m ≤ v = t.picks in omega (arith, ints)
asked Floor n m v h w t = let p : v ≤ m = t.picks in omega (arith, ints)
asked Expand n m v h w t = away n m v t.none t.picks
asked Trunc n m v h w t = toward n m v t.picks
asked HalfCeil n m v h w t = nearest n m v (pos m) (pos v) (m ≤ v) (pos m ≤ℤ pos v) w t.picks (λ k. omega (arith, ints))
asked HalfFloor n m v h w t = nearest n m v (pos m) (pos v) (v ≤ m) (pos v ≤ℤ pos m) w t.picks (λ k. omega (arith, ints))
asked HalfExpand n m v h w t = nearest n m v (pos m) (pos v) (m ≤ v) (Away (pos m) (pos v)) w t.picks (away n m v t.none)
asked HalfTrunc n m v h w t = nearest n m v (pos m) (pos v) (v ≤ m) (Toward (pos m) (pos v)) w t.picks (toward n m v)
asked HalfEven n m v h w t = nearest n m v (pos m) (pos v) (v % (2 * n) ≡ 0) (Multiple (2 * n) (pos v)) w t.picks (λ k. k)

asked_below : (o : RoundingMode) (n m v : ℕ) (r : ℤ) → r ≡ neg_ℤ (pos v) → nat_abs r ≡ v → 0 < n → Way (suc m) v (apart r (negsuc m)) → Taken (unsigned_of o false) n (suc m) v → Asks o n (negsuc m) r
asked_below Ceil n m v r e a h w t = let p : v ≤ suc m = t.picks in omega (arith, ints)
asked_below Floor n m v r e a h w t = let p : suc m ≤ v = t.picks in omega (arith, ints)
asked_below Expand n m v r e a h w t = away_below n m v r e t.picks
asked_below Trunc n m v r e a h w t = toward_below n m v r e t.picks
asked_below HalfCeil n m v r e a h w t = nearest n (suc m) v (negsuc m) r (v ≤ suc m) (negsuc m ≤ℤ r) w t.picks (λ k. omega (arith, ints))
asked_below HalfFloor n m v r e a h w t = nearest n (suc m) v (negsuc m) r (suc m ≤ v) (r ≤ℤ negsuc m) w t.picks (λ k. omega (arith, ints))
asked_below HalfExpand n m v r e a h w t = nearest n (suc m) v (negsuc m) r (suc m ≤ v) (Away (negsuc m) r) w t.picks (away_below n m v r e)
asked_below HalfTrunc n m v r e a h w t = nearest n (suc m) v (negsuc m) r (v ≤ suc m) (Toward (negsuc m) r) w t.picks (toward_below n m v r e)
asked_below HalfEven n m v r e a h w t = nearest n (suc m) v (negsuc m) r (v % (2 * n) ≡ 0) (Multiple (2 * n) r) w t.picks (λ k. ap (λ i. i % (2 * n)) a ∙ k)

below : (o : RoundingMode) (n m v : ℕ) (r : ℤ) → r ≡ neg_ℤ (pos v) → 0 < n → Taken (unsigned_of o false) n (suc m) v → Rounds o n (negsuc m) r
below o n m v r e h t =
    let a : nat_abs r ≡ v = omega (arith, ints) in
    let w : Way (suc m) v (apart r (negsuc m)) = way_below (suc m) v (negsuc m) r refl e in
    record { multiple = ap (λ i. i % n) a ∙ t.multiple; near = near n (suc m) v (apart r (negsuc m)) w t.above t.below; asked = asked_below o n m v r e a h w t }

pub as_asked : RoundsAsAsked
as_asked o (pos m) n h =
    let v : ℕ = applied (unsigned_of o true) m n * n in
    let t : Taken (unsigned_of o true) n m v = taken (unsigned_of o true) n m h in
    let w : Way m v (apart (pos v) (pos m)) = way m v (pos m) (pos v) refl refl in
    record { multiple = t.multiple; near = near n m v (apart (pos v) (pos m)) w t.above t.below; asked = asked o n m v h w t }
as_asked o (negsuc m) n h =
    let v : ℕ = applied (unsigned_of o false) (suc m) n * n in
    below o n m v (neg_ℤ (pos v)) refl h (taken (unsigned_of o false) n (suc m) h)

pub none_nearer : NoneNearer
none_nearer x r s n h a b k =
    elim (cases_lt (apart r s) n) [
      | inl l ↦ let e : r ≡ s = one_multiple n r s a b l in let P : ℤ → Type 0 = λ z. apart r x ≤ apart z x in subst P e (omega arith)
      | inr l ↦ omega (arith, ints)
    ]

-- two answers at most half an increment away are one, or both ties
one_half : (n : ℕ) (x r s : ℤ) → Multiple n r → Multiple n s → 2 * apart r x ≤ n → 2 * apart s x ≤ n → (r ≡ s) ⊎ ((2 * apart r x ≡ n) × (2 * apart s x ≡ n))
one_half n x r s a b p q =
    elim (cases_lt (apart r s) n) [
      | inl l ↦ inl (one_multiple n r s a b l)
      | inr l ↦ inr (omega (arith, ints), omega (arith, ints))
    ]

same_away : (x r s : ℤ) → Away x r → Away x s → apart r x ≡ apart s x → r ≡ s
same_away x r s a b e = grind (arith, ints)

same_toward : (x r s : ℤ) → Toward x r → Toward x s → apart r x ≡ apart s x → r ≡ s
same_toward x r s a b e = grind (arith, ints)

apart_away : (n : ℕ) (x r s : ℤ) → Away x r → Away x s → apart r x < n → apart s x < n → apart r s < n
apart_away n x r s a b h k = grind (arith, ints)

apart_toward : (n : ℕ) (x r s : ℤ) → Toward x r → Toward x s → apart r x < n → apart s x < n → apart r s < n
apart_toward n x r s a b h k = grind (arith, ints)

one_of_halves : (n : ℕ) (x r s : ℤ) (A B : Type 0) → Multiple n r → Multiple n s → Nearest n x r A → Nearest n x s B → (A → B → apart r x ≡ apart s x → 2 * apart s x ≡ n → r ≡ s) → r ≡ s
one_of_halves n x r s A B a b p q f =
    elim (one_half n x r s a b p.nearest q.nearest) [
      | inl e ↦ e
      | inr e ↦ let k : 2 * apart r x ≡ n = e.0 in let l : 2 * apart s x ≡ n = e.1 in f (p.tie k) (q.tie l) (omega arith) l
    ]

pub one_answer : OneAnswer
one_answer Ceil x r s n h p q = one_multiple n r s p.multiple q.multiple (omega (arith, ints, p.near, q.near, p.asked, q.asked))
one_answer Floor x r s n h p q = one_multiple n r s p.multiple q.multiple (omega (arith, ints, p.near, q.near, p.asked, q.asked))
one_answer Expand x r s n h p q = one_multiple n r s p.multiple q.multiple (apart_away n x r s p.asked q.asked p.near q.near)
one_answer Trunc x r s n h p q = one_multiple n r s p.multiple q.multiple (apart_toward n x r s p.asked q.asked p.near q.near)
one_answer HalfCeil x r s n h p q = one_of_halves n x r s (x ≤ℤ r) (x ≤ℤ s) p.multiple q.multiple p.asked q.asked (λ a b e t. omega (arith, ints))
one_answer HalfFloor x r s n h p q = one_of_halves n x r s (r ≤ℤ x) (s ≤ℤ x) p.multiple q.multiple p.asked q.asked (λ a b e t. omega (arith, ints))
one_answer HalfExpand x r s n h p q = one_of_halves n x r s (Away x r) (Away x s) p.multiple q.multiple p.asked q.asked (λ a b e t. same_away x r s a b e)
one_answer HalfTrunc x r s n h p q = one_of_halves n x r s (Toward x r) (Toward x s) p.multiple q.multiple p.asked q.asked (λ a b e t. same_toward x r s a b e)
one_answer HalfEven x r s n h p q = one_of_halves n x r s (Multiple (2 * n) r) (Multiple (2 * n) s) p.multiple q.multiple p.asked q.asked (λ a b e t. one_multiple (2 * n) r s a b (omega (arith, ints)))
