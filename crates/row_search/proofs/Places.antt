-- The place of a second among the rows of a zone, from where std parts the later rows.
use Rattle.std.proofs.Common.{◌≡◌, ℕ, zero, suc, ◌+◌, ◌-◌, ◌<◌, ◌≤◌, Bool, true, false, ◌⊎◌, List, [], length, get_or, ℤ, ◌≤ℤ◌, ◌<ℤ◌, sym, refl, ap, ◌∙◌, subst, inl, inr, arith}
use Rattle.std.specs.Prelude.{int_le}
use Rattle.std.specs.List.Sorted.{IsPartitionedBy, IsPartitionPoint}
use Rattle.std.proofs.lemmas.Int.{ints, to_z-of_z}
use Rattle.std.proofs.lemmas.List.{get_or_default}
use Rattle.zone_rows.specs.Rows.{held, Kept}
use Rattle.zone_rows.proofs.Lawful.{Ruled, ruled}
use Rattle.zone_rows.proofs.Walked.{rising}
use Rattle.zone_rows.proofs.Sought.{held_between}
use Rattle.zone_table.specs.Bytes.{le64}
use Rattle.zone_table.proofs.Arrays.{le64_first}

-- the offset of the row at the second's place is held there
held_at : (sec off : ℕ → ℤ) (last place : ℕ) (second : ℤ) → Kept sec off (last + 1) → place ≤ last → (place ≡ 0) ⊎ (sec place ≤ℤ second) → (place < last → second <ℤ sec (place + 1)) → held sec off last second ≡ off place
held_at sec off last place second kept within from before =
    let one : place + 1 ≡ suc place = omega arith in
    let P : ℕ → Type 0 = λ n. second <ℤ sec n in
    held_between sec off last place second (ruled sec off last (last + 1) (omega arith) kept) within from (λ l. subst P one (before (omega arith)))

-- with which the check proves `has_begun`
pub ruleset begun_rules = (to_z-of_z, le64_first)

module _ (sec off : ℕ → ℤ) (last : ℕ) (kept : Kept sec off (last + 1)) (rows : List (List ℕ)) (long : length rows ≡ last) (each : (i : ℕ) → i < last → le64 (get_or rows i []) 0 ≡ sec (i + 1)) (second : ℤ) where
  abbrev begun : List ℕ → Bool
  begun row = int_le (le64 row 0) second

  rises : (i j : ℕ) → i ≤ j → j < last → sec (i + 1) ≤ℤ sec (j + 1)
  rises i j l h =
      let e : j + 1 ≡ (j - i) + (i + 1) = omega arith in
      let r : Ruled sec off ((j - i) + (i + 1)) = subst (Ruled sec off) e (ruled sec off (j + 1) (last + 1) (omega arith) kept) in
      let P : ℕ → Type 0 = λ n. sec (i + 1) ≤ℤ sec n in
      subst P (sym e) (rising sec off (i + 1) (j - i) r)

  at : (i : ℕ) (d : List ℕ) → i < last → le64 (get_or rows i d) 0 ≡ sec (i + 1)
  at i d l = ap (λ row. le64 row 0) (get_or_default rows i d [] (omega arith)) ∙ each i l

  pub parted : IsPartitionedBy begun rows
  parted i j d l h b =
      let up = rises i j l (omega arith) in
      let e = at i d (omega arith) in
      let f = at j d (omega arith) in
      grind (arith, ints)

  module _ (place : ℕ) (within : place ≤ last) (point : IsPartitionPoint (λ row. begun row ≡ true) (λ row. begun row ≡ false) rows place) where
    from : (place ≡ 0) ⊎ (sec place ≤ℤ second)
    from = by_zero place refl
      where
        by_zero : (n : ℕ) → place ≡ n → (place ≡ 0) ⊎ (sec place ≤ℤ second)
        by_zero zero e = inl e
        by_zero (suc n) e =
            let b = point.0 n [] (omega arith) (omega arith) in
            let f = each n (omega arith) in
            let g : n + 1 ≡ place = omega arith in
            let P : ℕ → Type 0 = λ m. sec m ≤ℤ second in
            let h : sec (n + 1) ≤ℤ second = grind (arith, ints) in
            inr (subst P g h)

    before : place < last → second <ℤ sec (place + 1)
    before h =
        let b = point.1 place [] (omega arith) (omega arith) in
        let f = each place h in
        grind (arith, ints)

    pub held_there : off place ≡ held sec off last second
    held_there = sym (held_at sec off last place second kept within from before)
