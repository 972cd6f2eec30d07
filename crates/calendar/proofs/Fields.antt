-- The order of dates field by field. `compare` goes by `days_ranked` today, which says the same of all fields at once; docs/PORT.md names these.
use Rattle.std.proofs.Common.{◌≡◌, ℕ, ◌<◌, ◌⊎◌, ℤ, ◌<ℤ◌, Ordering, Less, Equal, Greater, sym, inl, inr, ⊎_elim}
use Rattle.std.specs.Ordering.{MatchOrdering, ordering_then, int_cmp, nat_cmp}
use Rattle.std.specs.Cmp.{int_ranks, ranks}
use Rattle.std.proofs.lemmas.Cmp.{ranked as nat_ranked}
use Rattle.calendar.specs.declared.IsoDate.{IsoDate}
use Rattle.calendar.specs.Gregorian.{Real, day_of}
use Rattle.calendar.proofs.Order.{earlier_days, same_date}

-- one field decides, or leaves the answer to the next
chain : (P Q R : Type 0) (p o k : Ordering) → MatchOrdering p P Q R → o ≡ ordering_then p k → (P × (o ≡ Less)) ⊎ ((R × (o ≡ Greater)) ⊎ (Q × (o ≡ k)))
chain P Q R Less o k h e = inl (h, e)
chain P Q R Equal o k h e = inr (inr (h, e))
chain P Q R Greater o k h e = inr (inl (h, e))

-- which field decides the order of the fields
pub by_fields : (y z : ℤ) (m n d e : ℕ) (o : Ordering) → o ≡ ordering_then (int_cmp y z) (ordering_then (nat_cmp m n) (nat_cmp d e))
    → ((y <ℤ z) × (o ≡ Less)) ⊎ (((z <ℤ y) × (o ≡ Greater)) ⊎ ((y ≡ z) × (((m < n) × (o ≡ Less)) ⊎ (((n < m) × (o ≡ Greater)) ⊎ ((m ≡ n) × MatchOrdering o (d < e) (d ≡ e) (e < d))))))
by_fields y z m n d e o h = ⊎_elim inl (λ r. inr (⊎_elim inl (λ s. inr (s.0, months s.1)) r)) (chain (y <ℤ z) (y ≡ z) (z <ℤ y) (int_cmp y z) o (ordering_then (nat_cmp m n) (nat_cmp d e)) (int_ranks y z) h)
  where
    months : o ≡ ordering_then (nat_cmp m n) (nat_cmp d e) → ((m < n) × (o ≡ Less)) ⊎ (((n < m) × (o ≡ Greater)) ⊎ ((m ≡ n) × MatchOrdering o (d < e) (d ≡ e) (e < d)))
    months k = ⊎_elim inl (λ r. inr (⊎_elim inl (λ s. inr (s.0, nat_ranked d e o s.1)) r)) (chain (m < n) (m ≡ n) (n < m) (nat_cmp m n) o (nat_cmp d e) (ranks m n) k)

-- what the fields' order says of the days
pub ranked : (a b : IsoDate) (o : Ordering) → Real a → Real b
    → ((a.year <ℤ b.year) × (o ≡ Less)) ⊎ (((b.year <ℤ a.year) × (o ≡ Greater)) ⊎ ((a.year ≡ b.year) × (((a.month < b.month) × (o ≡ Less)) ⊎ (((b.month < a.month) × (o ≡ Greater)) ⊎ ((a.month ≡ b.month) × MatchOrdering o (a.day < b.day) (a.day ≡ b.day) (b.day < a.day))))))
    → MatchOrdering o (day_of a <ℤ day_of b) (a ≡ b) (day_of b <ℤ day_of a)
ranked a b o v w (inl (h, e)) = rw e (earlier_days _ _ _ _ _ _ v w (inl h))
ranked a b o v w (inr (inl (h, e))) = rw e (earlier_days _ _ _ _ _ _ w v (inl h))
ranked a b o v w (inr (inr (p, inl (h, e)))) = rw e (earlier_days _ _ _ _ _ _ v w (inr (p, inl h)))
ranked a b o v w (inr (inr (p, inr (inl (h, e))))) = rw e (earlier_days _ _ _ _ _ _ w v (inr (sym p, inl h)))
ranked a b Less v w (inr (inr (p, inr (inr (q, h))))) = earlier_days _ _ _ _ _ _ v w (inr (p, inr (q, h)))
ranked a b Equal v w (inr (inr (p, inr (inr (q, h))))) = same_date a b p q h
ranked a b Greater v w (inr (inr (p, inr (inr (q, h))))) = earlier_days _ _ _ _ _ _ w v (inr (sym p, inr (sym q, h)))
