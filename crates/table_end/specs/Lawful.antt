-- A table that the check takes keeps both laws. It stands beside the statements, since the laws are ghost members of the trait.
use Rattle.std.specs.Prelude.{◌≡◌, ℕ, ◌+◌, ◌-◌, ◌<◌, ◌≤◌, Bool, true, false, cond, List, ℤ, nat_lt, refl}
use Rattle.std.proofs.Common.{sym, subst, arith, ltb-true}
use Rattle.provider.specs.Meaning.{known, unknown, Each}
use Rattle.offsets.specs.Offsets.{Bounded, Spaced}
use Rattle.provider.specs.declared.Source.{Source}
use Rattle.zone_rows.specs.Rows.{keeps, Kept}
use Rattle.zone_rows.proofs.Lawful.{kept_lawful}
use Rattle.zone_table.specs.Layout.{zones, rows, count, start, seconds, offsets, zone_offset, Sound}
use Rattle.zone_table.proofs.Steps.{sound_laid, sound_kept, filled_all, start_within}
use Rattle.table_end.specs.Table.{told}

module _ (bs : List ℕ) (sound : Sound bs) (z : ℕ) (known-zone : z < zones bs) where
  pub some_row : 0 < count bs z
  some_row = filled_all bs (zones bs) z (sound_laid bs sound).each known-zone

  pub rows_inside : start bs z + count bs z ≤ rows bs
  rows_inside = let w = start_within bs z (zones bs) known-zone in let e = (sound_laid bs sound).sum in omega arith

  lawful : Bounded (zone_offset bs z) × Spaced (zone_offset bs z)
  lawful =
      let s = some_row in
      kept_lawful (seconds bs (start bs z)) (offsets bs (start bs z)) (count bs z - 1) (count bs z) (omega arith) (sound_kept bs sound z known-zone)

each_of : (P : (ℤ → ℤ) → Type 0) (o : Source) (f : ℤ → ℤ) (b : Bool) → (b ≡ true → P f) → Each (cond b (known o f) (unknown o)) P
each_of P o f true h = h refl
each_of P o f false h = tt

below : (n m : ℕ) → nat_lt n m ≡ true → n < m
below n m h = omega (arith, ltb-true)

pub told_bounded : (bs : List ℕ) → Sound bs → (n : ℕ) → Each (told bs n) Bounded
told_bounded bs s n = each_of Bounded _ (zone_offset bs n) (nat_lt n (zones bs)) (λ h. (lawful bs s n (below n (zones bs) h)).0)

pub told_spaced : (bs : List ℕ) → Sound bs → (n : ℕ) → Each (told bs n) Spaced
told_spaced bs s n = each_of Spaced _ (zone_offset bs n) (nat_lt n (zones bs)) (λ h. (lawful bs s n (below n (zones bs) h)).1)

-- Every zone of the table keeps both laws.
abbrev pub Lawful : List ℕ → Type 0
Lawful bs = (n : ℕ) → Each (told bs n) Bounded × Each (told bs n) Spaced

pub told_lawful : (bs : List ℕ) → Sound bs → Lawful bs
told_lawful bs s n = (told_bounded bs s n, told_spaced bs s n)

-- the rows that the code walks
pub kept_at : (bs : List ℕ) → Sound bs → (z b n : ℕ) → z < zones bs → b ≡ start bs z → n ≡ count bs z → Kept (seconds bs b) (offsets bs b) ((n - 1) + 1)
kept_at bs s z b n l e f i h =
    let m = some_row bs s z l in
    let P : ℕ → Type 0 = λ x. keeps (seconds bs x) (offsets bs x) i ≡ true in
    subst P (sym e) (sound_kept bs s z l i (omega arith))
