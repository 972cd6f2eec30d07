-- The zones' row counts as a list: their sum, and that none is zero.
use Rattle.std.proofs.Common.{◌≡◌, ℕ, zero, suc, ◌+◌, ◌<◌, ◌≤◌, ◌&&◌, leb, List, [], length, get_or, take, sym, refl, ap, ◌∙◌, arith}
use Rattle.std.specs.Prelude.{sum_by}
use Rattle.std.specs.List.{list_all}
use Rattle.std.proofs.lemmas.List.{take_all}
use Rattle.std.proofs.lemmas.List.Sums.{sum_by_more}
use Rattle.std.proofs.lemmas.List.Folds.{list_all_more}
use Rattle.zone_table.specs.Bytes.{le16}
use Rattle.zone_table.specs.Layout.{count, start, filled}

module _ (bs : List ℕ) (counts : List (List ℕ)) (n : ℕ) (long : length counts ≡ n) (each : (z : ℕ) → z < n → le16 (get_or counts z []) 0 ≡ count bs z) where
  sum_so_far : (m : ℕ) → m ≤ n → sum_by (λ xs. le16 xs 0) (take m counts) ≡ start bs m
  unfolding start
  sum_so_far zero h = refl
  sum_so_far (suc m) h =
      let s = sum_by_more (λ xs. le16 xs 0) counts m [] (omega arith) in
      let i = sum_so_far m (omega arith) in
      let e = each m (omega arith) in
      let o : m + 1 ≡ suc m = omega arith in
      ap (λ k. sum_by (λ xs. le16 xs 0) (take k counts)) (sym o) ∙ s ∙ ap (λ k. k + le16 (get_or counts m []) 0) i ∙ ap (λ k. start bs m + k) e

  filled_so_far : (m : ℕ) → m ≤ n → list_all (λ xs. leb 1 (le16 xs 0)) (take m counts) ≡ filled bs m
  unfolding filled
  filled_so_far zero h = refl
  filled_so_far (suc m) h =
      let s = list_all_more (λ xs. leb 1 (le16 xs 0)) counts m [] (omega arith) in
      let i = filled_so_far m (omega arith) in
      let e = each m (omega arith) in
      let o : m + 1 ≡ suc m = omega arith in
      ap (λ k. list_all (λ xs. leb 1 (le16 xs 0)) (take k counts)) (sym o) ∙ s ∙ ap (λ b. b && leb 1 (le16 (get_or counts m []) 0)) i ∙ ap (λ k. filled bs m && leb 1 k) e

  all_taken : take n counts ≡ counts
  all_taken = take_all n counts (omega arith)

  pub sum_all : sum_by (λ xs. le16 xs 0) counts ≡ start bs n
  sum_all = ap (sum_by (λ xs. le16 xs 0)) (sym all_taken) ∙ sum_so_far n (omega arith)

  pub all_filled : list_all (λ xs. leb 1 (le16 xs 0)) counts ≡ filled bs n
  all_filled = ap (list_all (λ xs. leb 1 (le16 xs 0))) (sym all_taken) ∙ filled_so_far n (omega arith)
