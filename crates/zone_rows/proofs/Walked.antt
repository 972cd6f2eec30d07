-- The walk from the last row down: what it finds of the rows up to i is found of all.
use Rattle.std.proofs.Common.{◌≡◌, ℕ, zero, suc, ◌+◌, ◌-◌, ◌≤◌, ◌⊎◌, ℤ, pos, ◌+ℤ◌, ◌-ℤ◌, ◌≤ℤ◌, ◌<ℤ◌, sym, ap, ◌∙◌, subst, inl, inr, ⊎_elim, arith}
use Rattle.std.proofs.lemmas.Int.{ints, by_lt_z}
use Rattle.offsets.specs.Readers.{Reads, Reading, Found}
use Rattle.offsets.specs.declared.Candidate.{Candidate}
use Rattle.offsets.specs.declared.Candidates.{Candidates}
use Rattle.offsets.specs.declared.Candidates.TheVariants.{Gap, One, Two}
use Rattle.offsets.proofs.Sides.{size}
use Rattle.zone_rows.specs.Rows.{held}
use Rattle.zone_rows.proofs.Lawful.{Ruled, fewer, held_from, held_before, held_first, held_last}

module _ (sec off : ℕ → ℤ) where
  -- before a row's second, instants read earlier than that second at the offset before it
  under : (k : ℕ) → Ruled sec off (suc k) → (t : ℤ) → t <ℤ sec (suc k) → (t +ℤ held sec off k t) <ℤ (sec (suc k) +ℤ off k)
  under zero r t h = let e = held_first sec off t in omega (arith, ints)
  under (suc k) r t h =
      by_lt_z t (sec (suc k))
      (λ m.
      let i = under k (fewer sec off (suc k) r) t m in
      let e = held_before sec off k t m in
      let s = r.space k (omega arith) in
      let j = size (off (suc k) -ℤ off k) in
      omega (arith, ints))
      (λ m. let e = held_from sec off k t m in omega (arith, ints))

  -- an instant that reads as late as the change's second at the offset after it has the offset just before the change
  near : (k : ℕ) → Ruled sec off (suc k) → (t : ℤ) → t <ℤ sec (suc k) → (sec (suc k) +ℤ off (suc k)) ≤ℤ (t +ℤ held sec off k t) → held sec off k t ≡ off k
  near zero r t h l = held_first sec off t
  near (suc k) r t h l =
      by_lt_z t (sec (suc k))
      (λ m.
      let i = under k (fewer sec off (suc k) r) t m in
      let e = held_before sec off k t m in
      let s = r.space k (omega arith) in
      let j = size (off (suc k) -ℤ off k) in
      let w = size (off (suc (suc k)) -ℤ off (suc k)) in
      omega (arith, ints))
      (λ m. held_from sec off k t m)

  -- and so has any second as near to the change
  close : (k : ℕ) → Ruled sec off (suc k) → (t : ℤ) → ((sec (suc k) +ℤ off (suc k)) -ℤ off k) ≤ℤ t → held sec off k t ≡ off k
  close zero r t l = held_first sec off t
  close (suc k) r t l =
      let s = r.space k (omega arith) in
      let j = size (off (suc (suc k)) -ℤ off (suc k)) in
      held_from sec off k t (omega (arith, ints))

  module _ (k : ℕ) (r : Ruled sec off (suc k)) (L : ℤ) where
    -- where a reader stands
    sides : (t : ℤ) → Reads (held sec off (suc k)) L t → ((t <ℤ sec (suc k)) × Reads (held sec off k) L t) ⊎ ((sec (suc k) ≤ℤ t) × (t ≡ L -ℤ off (suc k)))
    sides t reads =
        by_lt_z t (sec (suc k)) (λ h. let e = held_before sec off k t h in inl (h, ap (λ o. t +ℤ o) (sym e) ∙ reads)) (λ h. let e = held_from sec off k t h in inr (h, omega (arith, ints)))

    -- ---- the change lies after every reader: the rows before it answer

    module _ (b : (L -ℤ off k) <ℤ sec (suc k)) (a : (L -ℤ off (suc k)) <ℤ sec (suc k)) where
      reads_before : (t : ℤ) → Reads (held sec off (suc k)) L t → Reads (held sec off k) L t
      reads_before t reads = ⊎_elim (λ s. s.1) (λ s. let p = s.0 in let q = s.1 in let z : ⊥ = omega (arith, ints) in elim z [ ]) (sides t reads)

      readers_low : (t : ℤ) → Reads (held sec off k) L t → t <ℤ sec (suc k)
      readers_low t reads =
          let up = r.rise k (omega arith) in
          by_lt_z t (sec (suc k)) (λ h. h) (λ h. let e = held_last sec off k t (omega (arith, ints)) in omega (arith, ints))

      reading_on : (x : Candidate) → Reading (held sec off k) L x → Reading (held sec off (suc k)) L x
      reading_on x (reads, is) =
          let e = held_before sec off k x.second (readers_low x.second reads) in
          (ap (λ o. x.second +ℤ o) e ∙ reads, is ∙ sym e)

      gap_low : (c : ℤ) → (c +ℤ held sec off k (c -ℤ pos 1)) ≤ℤ L → L <ℤ (c +ℤ held sec off k c) → c <ℤ sec (suc k)
      gap_low c low high =
          let up = r.rise k (omega arith) in
          by_lt_z c (sec (suc k)) (λ h. h) (λ h. let e = held_last sec off k c (omega (arith, ints)) in let f = held_last sec off k (c -ℤ pos 1) (omega (arith, ints)) in omega (arith, ints))

      pub down : (x : Candidates) → Found (held sec off k) L x → Found (held sec off (suc k)) L x
      down (One x) (is, all) = (reading_on x is, λ t reads. all t (reads_before t reads))
      down (Two x y) (is, next, order, all) = (reading_on x is, reading_on y next, order, λ t reads. all t (reads_before t reads))
      down (Gap c before after) (none, was, now, low, high) =
          let h = gap_low c (omega (arith, ints)) (omega (arith, ints)) in
          let e = held_before sec off k c h in
          let f = held_before sec off k (c -ℤ pos 1) (omega (arith, ints)) in
          (λ t reads. none t (reads_before t reads), was ∙ sym f, now ∙ sym e, low, high)

    -- ---- the change answers

    pub one_after : (x : Candidate) → x.second ≡ L -ℤ off (suc k) → x.offset ≡ off (suc k) → sec (suc k) ≤ℤ (L -ℤ off k) → sec (suc k) ≤ℤ (L -ℤ off (suc k)) → Found (held sec off (suc k)) L (One x)
    one_after x here is b a =
        let e = held_from sec off k x.second (omega (arith, ints)) in
        ((omega (arith, ints), is ∙ sym e), λ t reads. ⊎_elim (λ s. let p = s.1 in let q = under k r t s.0 in omega (arith, ints)) (λ s. s.1 ∙ sym here) (sides t reads))

    pub gap_at : (c before after : ℤ) → c ≡ sec (suc k) → before ≡ off k → after ≡ off (suc k) → sec (suc k) ≤ℤ (L -ℤ off k) → (L -ℤ off (suc k)) <ℤ sec (suc k) → Found (held sec off (suc k)) L (Gap c before after)
    gap_at c before after at was now b a =
        let up = r.rise k (omega arith) in
        let e = held_from sec off k c (omega (arith, ints)) in
        let f = held_before sec off k (c -ℤ pos 1) (omega (arith, ints)) in
        let g = held_last sec off k (c -ℤ pos 1) (omega (arith, ints)) in
        (λ t reads. ⊎_elim (λ s. let p = s.1 in let q = under k r t s.0 in omega (arith, ints)) (λ s. let p = s.0 in let q = s.1 in omega (arith, ints)) (sides t reads), was ∙ sym g ∙ sym f, now ∙ sym e, omega (arith, ints), omega (arith, ints))

    pub two_at : (x y : Candidate) → x.second ≡ L -ℤ off k → x.offset ≡ off k → y.second ≡ L -ℤ off (suc k) → y.offset ≡ off (suc k) → (L -ℤ off k) <ℤ sec (suc k) → sec (suc k) ≤ℤ (L -ℤ off (suc k)) → Found (held sec off (suc k)) L (Two x y)
    two_at x y here is there next b a =
        let f = held_before sec off k x.second (omega (arith, ints)) in
        let g = close k r x.second (omega (arith, ints)) in
        let e = held_from sec off k y.second (omega (arith, ints)) in
        ((omega (arith, ints), is ∙ sym g ∙ sym f), (omega (arith, ints), next ∙ sym e), omega (arith, ints), λ t reads. ⊎_elim (λ s. let p = s.1 in let q = near k r t s.0 (omega (arith, ints)) in inl (omega (arith, ints))) (λ s. inr (s.1 ∙ sym there)) (sides t reads))

  pub one_first : (L : ℤ) (x : Candidate) → x.second ≡ L -ℤ off 0 → x.offset ≡ off 0 → Found (held sec off 0) L (One x)
  one_first L x here is =
      let e = held_first sec off x.second in
      ((omega (arith, ints), is ∙ sym e), λ t reads. let f = held_first sec off t in omega (arith, ints))

  -- ---- the same at a row p, with q the row before it

  module _ (p q : ℕ) (e : suc q ≡ p) where
    pub down_here : Ruled sec off p → (L : ℤ) → (L -ℤ off q) <ℤ sec p → (L -ℤ off p) <ℤ sec p → (x : Candidates) → Found (held sec off q) L x → Found (held sec off p) L x
    down_here =
        let P : ℕ → Type 0 = λ n. Ruled sec off n → (L : ℤ) → (L -ℤ off q) <ℤ sec n → (L -ℤ off n) <ℤ sec n → (x : Candidates) → Found (held sec off q) L x → Found (held sec off n) L x in
        subst P e (down q)

    pub one_here : Ruled sec off p → (L : ℤ) (x : Candidate) → x.second ≡ L -ℤ off p → x.offset ≡ off p → sec p ≤ℤ (L -ℤ off q) → sec p ≤ℤ (L -ℤ off p) → Found (held sec off p) L (One x)
    one_here =
        let P : ℕ → Type 0 = λ n. Ruled sec off n → (L : ℤ) (x : Candidate) → x.second ≡ L -ℤ off n → x.offset ≡ off n → sec n ≤ℤ (L -ℤ off q) → sec n ≤ℤ (L -ℤ off n) → Found (held sec off n) L (One x) in
        subst P e (one_after q)

    pub gap_here : Ruled sec off p → (L c before after : ℤ) → c ≡ sec p → before ≡ off q → after ≡ off p → sec p ≤ℤ (L -ℤ off q) → (L -ℤ off p) <ℤ sec p → Found (held sec off p) L (Gap c before after)
    gap_here =
        let P : ℕ → Type 0 = λ n. Ruled sec off n → (L c before after : ℤ) → c ≡ sec n → before ≡ off q → after ≡ off n → sec n ≤ℤ (L -ℤ off q) → (L -ℤ off n) <ℤ sec n → Found (held sec off n) L (Gap c before after) in
        subst P e (gap_at q)

    pub two_here : Ruled sec off p → (L : ℤ) (x y : Candidate) → x.second ≡ L -ℤ off q → x.offset ≡ off q → y.second ≡ L -ℤ off p → y.offset ≡ off p → (L -ℤ off q) <ℤ sec p → sec p ≤ℤ (L -ℤ off p) → Found (held sec off p) L (Two x y)
    two_here =
        let P : ℕ → Type 0 = λ n. Ruled sec off n → (L : ℤ) (x y : Candidate) → x.second ≡ L -ℤ off q → x.offset ≡ off q → y.second ≡ L -ℤ off n → y.offset ≡ off n → (L -ℤ off q) <ℤ sec n → sec n ≤ℤ (L -ℤ off n) → Found (held sec off n) L (Two x y) in
        subst P e (two_at q)

  pub held_zero : (p : ℕ) (t : ℤ) → p ≡ 0 → held sec off p t ≡ off p
  held_zero p t e =
      let P : ℕ → Type 0 = λ n. held sec off n t ≡ off n in
      subst P (sym e) (held_first sec off t)

  -- ---- rows after a second hold nothing at it

  pub rising : (m d : ℕ) → Ruled sec off (d + m) → sec m ≤ℤ sec (d + m)
  rising m zero r = let e : 0 + m ≡ m = omega arith in rw e (omega (arith, ints))
  rising m (suc d) r =
      let e : suc d + m ≡ suc (d + m) = omega arith in
      let s : Ruled sec off (suc (d + m)) = subst (Ruled sec off) e r in
      let i = rising m d (fewer sec off (d + m) s) in
      let up = s.rise (d + m) (omega arith) in
      rw e (omega (arith, ints))

  cut : (q d : ℕ) (t : ℤ) → Ruled sec off (d + suc q) → t <ℤ sec (suc q) → held sec off (d + suc q) t ≡ held sec off q t
  cut q zero t r h = let e : 0 + suc q ≡ suc q = omega arith in rw e (held_before sec off q t h)
  cut q (suc d) t r h =
      let e : suc d + suc q ≡ suc (d + suc q) = omega arith in
      let s : Ruled sec off (suc (d + suc q)) = subst (Ruled sec off) e r in
      let f = fewer sec off (d + suc q) s in
      let i = cut q d t f h in
      let g = rising (suc q) d f in
      let up = s.rise (d + suc q) (omega arith) in
      rw e (held_before sec off (d + suc q) t (omega (arith, ints)) ∙ i)

  pub held_cut : (k p q : ℕ) → suc q ≡ p → p ≤ k → Ruled sec off k → (t : ℤ) → t <ℤ sec p → held sec off k t ≡ held sec off q t
  held_cut k p q e l r t h =
      let z : (k - suc q) + suc q ≡ k = omega arith in
      let s : Ruled sec off ((k - suc q) + suc q) = subst (Ruled sec off) (sym z) r in
      let P : ℕ → Type 0 = λ n. t <ℤ sec n in
      let c = cut q (k - suc q) t s (subst P (sym e) h) in
      let Q : ℕ → Type 0 = λ n. held sec off n t ≡ held sec off q t in
      subst Q z c
