-- One step of each definition, in the numbers of the code, and what a table that the check takes keeps.
use Rattle.std.proofs.Common.{◌≡◌, ℕ, zero, suc, ◌+◌, ◌-◌, ◌*◌, ◌<◌, ◌≤◌, Bool, true, false, cond, leb, List, length, ℤ, Some, None, Err, Option, MatchOption, sym, refl, ap, ◌∙◌, subst, ⊎_elim, add-one, arith}
use Rattle.std.proofs.lemmas.Bool.Decides.{nat_tests}
use Rattle.std.proofs.Math.Bool.{and-false}
use Rattle.std.proofs.Math.Nat.{eq-or-lt_of_le}
use Rattle.zone_rows.specs.Rows.{keeps, Kept, first_row, later_row, apart}
use Rattle.zone_table.specs.Layout.{zones, rows, count, start, seconds, offsets, filled, laid, first_of, from_row, failing, keeps_at, breach, breach_answer, taken, Sound}
use Rattle.zone_table.specs.declared.TableFault.TheVariants.{Sizes}

-- ---- a row's rules

module _ (sec off : ℕ → ℤ) where
  pub first_is : (i : ℕ) (s o : ℤ) (r : Bool) → i ≡ 0 → s ≡ sec i → o ≡ off i → r ≡ first_row s o → r ≡ keeps sec off i
  unfolding keeps
  first_is zero s o r z e f h = h ∙ rw (e, f) refl
  first_is (suc i) s o r z e f h = absurd (omega arith)

  -- the row before, in the code's numbers
  back : (i : ℕ) → suc i - 1 ≡ i
  back i = omega arith

  back_two : (i : ℕ) → suc (suc i) - 2 ≡ i
  back_two i = omega arith

  pub stops_is : (i : ℕ) (s o t p : ℤ) → 0 < i → s ≡ sec (i - 1) → o ≡ off (i - 1) → t ≡ sec i → p ≡ off i → later_row s o t p ≡ false → false ≡ keeps sec off i
  unfolding keeps
  stops_is zero s o t p z a b e f h = absurd (omega arith)
  stops_is (suc zero) s o t p z a b e f h = let g : later_row (sec 0) (off 0) (sec 1) (off 1) ≡ false = rw (a, b, e, f) at h in sym g
  stops_is (suc (suc i)) s o t p z a b e f h =
      let x = a ∙ ap sec (back (suc i)) in
      let y = b ∙ ap off (back (suc i)) in
      let g : later_row (sec (suc i)) (off (suc i)) (sec (suc (suc i))) (off (suc (suc i))) ≡ false = rw (x, y, e, f) at h in
      rw g refl

  pub second_is : (i : ℕ) (s o t p : ℤ) → i ≡ 1 → s ≡ sec (i - 1) → o ≡ off (i - 1) → t ≡ sec i → p ≡ off i → later_row s o t p ≡ true → true ≡ keeps sec off i
  unfolding keeps
  second_is zero s o t p z a b e f h = absurd (omega arith)
  second_is (suc zero) s o t p z a b e f h = let g : later_row (sec 0) (off 0) (sec 1) (off 1) ≡ true = rw (a, b, e, f) at h in sym g
  second_is (suc (suc i)) s o t p z a b e f h = absurd (omega arith)

  pub third_is : (i : ℕ) (n s o t p : ℤ) (r : Bool) → 1 < i → n ≡ off (i - 2) → s ≡ sec (i - 1) → o ≡ off (i - 1) → t ≡ sec i → p ≡ off i → later_row s o t p ≡ true → r ≡ apart n s o t p → r ≡ keeps sec off i
  unfolding keeps
  third_is zero n s o t p r z m a b e f h k = absurd (omega arith)
  third_is (suc zero) n s o t p r z m a b e f h k = absurd (omega arith)
  third_is (suc (suc i)) n s o t p r z m a b e f h k =
      let w = m ∙ ap off (back_two i) in
      let x = a ∙ ap sec (back (suc i)) in
      let y = b ∙ ap off (back (suc i)) in
      let g : later_row (sec (suc i)) (off (suc i)) (sec (suc (suc i))) (off (suc (suc i))) ≡ true = rw (x, y, e, f) at h in
      let v : r ≡ apart (off i) (sec (suc i)) (off (suc i)) (sec (suc (suc i))) (off (suc (suc i))) = rw (w, x, y, e, f) at k in
      rw g v

-- with which the check proves `keeps_row`
pub ruleset row_rules = (first_is, stops_is, second_is, third_is)

-- ---- the first that fails

failing_clear : (p : ℕ → Bool) (n : ℕ) → ((k : ℕ) → k < n → p k ≡ true) → failing p n ≡ None
unfolding failing
failing_clear p zero h = refl
failing_clear p (suc n) h = rw (failing_clear p n (λ k l. h k (omega arith)), h n (omega arith)) refl

failing_at : (p : ℕ → Bool) (n : ℕ) → failing p n ≡ None → p n ≡ false → failing p (suc n) ≡ Some n
unfolding failing
failing_at p n h e = rw (h, e) refl

failing_stays : (p : ℕ → Bool) (i n d : ℕ) → failing p n ≡ Some i → failing p (d + n) ≡ Some i
unfolding failing
failing_stays p i n zero h = let z : 0 + n ≡ n = omega arith in rw z h
failing_stays p i n (suc d) h = let z : suc d + n ≡ suc (d + n) = omega arith in rw (z, failing_stays p i n d h) refl

pub failing_stops : (p : ℕ → Bool) (i n : ℕ) → failing p i ≡ None → p i ≡ false → i < n → failing p n ≡ Some i
failing_stops p i n h e l =
    let z : (n - suc i) + suc i ≡ n = omega arith in
    let P : ℕ → Type 0 = λ m. failing p m ≡ Some i in
    subst P z (failing_stays p i (suc i) (n - suc i) (failing_at p i h e))

-- the first place of a range that fails
pub failing_from : (p : ℕ → Bool) (n : ℕ) (r : Option ℕ) → MatchOption r ((k : ℕ) → 0 ≤ k → k < n → p k ≡ true) (λ i. (0 ≤ i) × (i < n) × (p i ≡ false) × ((k : ℕ) → 0 ≤ k → k < i → p k ≡ true)) → r ≡ failing p n
failing_from p n None h = sym (failing_clear p n (λ k l. h k (omega arith) l))
failing_from p n (Some i) (z, l, e, h) = sym (failing_stops p i n (failing_clear p i (λ k m. h k (omega arith) m)) e l)

first_none : (a b : Option ℕ) → first_of a b ≡ None → (a ≡ None) × (b ≡ None)
first_none None b h = (refl, h)
first_none (Some i) b h = let z : ◌≡◌ {A = ℕ} 0 1 = cc in absurd (omega arith)

cond_none : (b : Bool) (n : ℕ) → cond b None (Some n) ≡ None → b ≡ true
cond_none true n h = refl
cond_none false n h = let z : ◌≡◌ {A = ℕ} 0 1 = cc in absurd (omega arith)

pub failing_all : (p : ℕ → Bool) (n : ℕ) → failing p n ≡ None → (i : ℕ) → i < n → p i ≡ true
unfolding failing
failing_all p zero h i l = absurd (omega arith)
failing_all p (suc n) h i l =
    let both = first_none (failing p n) (cond (p n) None (Some n)) h in
    ⊎_elim (λ e. rw e (cond_none (p n) n both.1)) (λ m. failing_all p n both.0 i m) (eq-or-lt_of_le {n = i} {m = n} (omega arith))

-- ---- where the zones' rows begin

pub start_none : (bs : List ℕ) → start bs 0 ≡ 0
unfolding start
start_none bs = refl

pub start_more : (bs : List ℕ) (z : ℕ) → start bs (z + 1) ≡ start bs z + count bs z
unfolding start
start_more bs z = rw add-one refl

start_on : (bs : List ℕ) (z d : ℕ) → start bs z ≤ start bs (d + z)
unfolding start
start_on bs z zero = let e : 0 + z ≡ z = omega arith in rw e (omega arith)
start_on bs z (suc d) = let e : suc d + z ≡ suc (d + z) = omega arith in let h = start_on bs z d in rw e (omega arith)

-- a zone's rows stand before the end of all
pub start_within : (bs : List ℕ) (z n : ℕ) → z < n → start bs z + count bs z ≤ start bs n
start_within bs z n l =
    let e : (n - (z + 1)) + (z + 1) ≡ n = omega arith in
    let P : ℕ → Type 0 = λ m. start bs (z + 1) ≤ start bs m in
    let h = subst P e (start_on bs (z + 1) (n - (z + 1))) in
    let m = start_more bs z in
    omega arith

-- ---- each zone has a row

filled_stays : (bs : List ℕ) (n d : ℕ) → filled bs n ≡ false → filled bs (d + n) ≡ false
unfolding filled
filled_stays bs n zero h = let z : 0 + n ≡ n = omega arith in rw z h
filled_stays bs n (suc d) h = let z : suc d + n ≡ suc (d + n) = omega arith in rw (z, filled_stays bs n d h) refl

filled_at : (bs : List ℕ) (z : ℕ) → count bs z ≡ 0 → filled bs (suc z) ≡ false
unfolding filled
filled_at bs z e = let f : leb 1 (count bs z) ≡ false = grind (arith, nat_tests) in rw f (and-false (filled bs z))

pub filled_stops : (bs : List ℕ) (z n : ℕ) → count bs z ≡ 0 → z < n → filled bs n ≡ false
filled_stops bs z n e l =
    let k : (n - suc z) + suc z ≡ n = omega arith in
    let P : ℕ → Type 0 = λ m. filled bs m ≡ false in
    subst P k (filled_stays bs (suc z) (n - suc z) (filled_at bs z e))

pub filled_all : (bs : List ℕ) (n z : ℕ) → filled bs n ≡ true → z < n → 0 < count bs z
filled_all bs n z h l = by_zero (count bs z) refl
  where
    by_zero : (m : ℕ) → count bs z ≡ m → 0 < count bs z
    by_zero zero e = let f = filled_stops bs z n e l in let k : ◌≡◌ {A = ℕ} 0 1 = absurd_bool (sym f ∙ h) in absurd (omega arith)
      where
        absurd_bool : false ≡ true → ◌≡◌ {A = ℕ} 0 1
        absurd_bool q = cc
    by_zero (suc m) e = omega arith

-- ---- the first breach

pub breach_none : (bs : List ℕ) → breach bs 0 ≡ None
unfolding breach
breach_none bs = refl

pub breach_more : (bs : List ℕ) (z b n : ℕ) → b ≡ start bs z → n ≡ count bs z → breach bs z ≡ None → failing (keeps_at bs b) n ≡ None → breach bs (z + 1) ≡ None
unfolding breach
breach_more bs z b n e f h k =
    let g : failing (keeps_at bs (start bs z)) (count bs z) ≡ None = rw (e, f) at k in
    rw (add-one, h, g) refl

breach_at : (bs : List ℕ) (z b n i : ℕ) → b ≡ start bs z → n ≡ count bs z → breach bs z ≡ None → failing (keeps_at bs b) n ≡ Some i → breach bs (suc z) ≡ Some (b + i)
unfolding breach
breach_at bs z b n i e f h k =
    let g : failing (keeps_at bs (start bs z)) (count bs z) ≡ Some i = rw (e, f) at k in
    rw (h, g, e) refl

breach_stays : (bs : List ℕ) (g n d : ℕ) → breach bs n ≡ Some g → breach bs (d + n) ≡ Some g
unfolding breach
breach_stays bs g n zero h = let z : 0 + n ≡ n = omega arith in rw z h
breach_stays bs g n (suc d) h = let z : suc d + n ≡ suc (d + n) = omega arith in rw (z, breach_stays bs g n d h) refl

pub breach_stops : (bs : List ℕ) (z b n i m : ℕ) → b ≡ start bs z → n ≡ count bs z → breach bs z ≡ None → failing (keeps_at bs b) n ≡ Some i → z < m → breach bs m ≡ Some (b + i)
breach_stops bs z b n i m e f h k l =
    let q : (m - suc z) + suc z ≡ m = omega arith in
    let P : ℕ → Type 0 = λ x. breach bs x ≡ Some (b + i) in
    subst P q (breach_stays bs (b + i) (suc z) (m - suc z) (breach_at bs z b n i e f h k))

from_none : (b : ℕ) (o : Option ℕ) → from_row b o ≡ None → o ≡ None
from_none b None h = refl
from_none b (Some i) h = let z : ◌≡◌ {A = ℕ} 0 1 = cc in absurd (omega arith)

pub breach_all : (bs : List ℕ) (n : ℕ) → breach bs n ≡ None → (z : ℕ) → z < n → failing (keeps_at bs (start bs z)) (count bs z) ≡ None
unfolding breach
breach_all bs zero h z l = absurd (omega arith)
breach_all bs (suc n) h z l =
    let both = first_none (breach bs n) (from_row (start bs n) (failing (keeps_at bs (start bs n)) (count bs n))) h in
    ⊎_elim (λ e. rw e (from_none (start bs n) (failing (keeps_at bs (start bs n)) (count bs n)) both.1)) (λ m. breach_all bs n both.0 z m) (eq-or-lt_of_le {n = z} {m = n} (omega arith))

-- ---- a table that the check takes

sound_both : (b : Bool) (o : Option ℕ) → taken (cond b (breach_answer o) (Err Sizes)) ≡ true → (b ≡ true) × (o ≡ None)
sound_both true None h = (refl, refl)
sound_both true (Some g) h = let z : ◌≡◌ {A = ℕ} 0 1 = cc in absurd (omega arith)
sound_both false o h = let z : ◌≡◌ {A = ℕ} 0 1 = cc in absurd (omega arith)

-- what the layout says in numbers
pub record Laid (bs : List ℕ) : Type 0 where
  pub some : 1 ≤ zones bs
  pub few : zones bs ≤ 64
  pub most : rows bs ≤ 4096
  pub size : length bs ≡ 4 + zones bs * 2 + rows bs * 12
  pub each : filled bs (zones bs) ≡ true
  pub sum : start bs (zones bs) ≡ rows bs

pub laid_facts : (bs : List ℕ) → laid bs ≡ true → Laid bs
laid_facts bs h =
    record { some = grind (arith, nat_tests); few = grind (arith, nat_tests); most = grind (arith, nat_tests); size = grind (arith, nat_tests); each = grind (arith, nat_tests); sum = grind (arith, nat_tests) }

-- the rows of a zone stand before the end of all rows
pub zone_inside : (bs : List ℕ) (z : ℕ) → laid bs ≡ true → z < zones bs → start bs z + count bs z ≤ rows bs
zone_inside bs z h l = let w = start_within bs z (zones bs) l in let s = (laid_facts bs h).sum in omega arith

-- with which the check proves `first_breach`
pub ruleset breach_steps = (start_none, start_more, breach_none, breach_more, breach_stops, zone_inside)

pub sound_laid : (bs : List ℕ) → Sound bs → Laid bs
sound_laid bs h = laid_facts bs (sound_both (laid bs) (breach bs (zones bs)) h).0

-- The rows of each zone keep the rules.
pub sound_kept : (bs : List ℕ) → Sound bs → (z : ℕ) → z < zones bs → Kept (seconds bs (start bs z)) (offsets bs (start bs z)) (count bs z)
sound_kept bs h z l =
    let none = (sound_both (laid bs) (breach bs (zones bs)) h).1 in
    failing_all (keeps_at bs (start bs z)) (count bs z) (breach_all bs (zones bs) none z l)
