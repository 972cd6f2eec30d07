-- What few digits are worth.
use Rattle.std.proofs.Common.{◌≡◌, ℕ, ◌+◌, ◌-◌, ◌*◌, ◌^◌, ◌<◌, ◌≤◌, List, [], ◌∷◌, length, Some, None, Option, cond, sym, refl, ap, ◌∙◌, subst, zero-le, le_refl, lt_of_lt_of_le, mul-lt-mul_of_pos_right, arith, lit<, lit≤, pow-add, lt-ltb}
use Rattle.std.proofs.lemmas.Option.{cond_some}
use Rattle.std.proofs.lemmas.Str.Parse.{digits_value_short}
use native.Mathlib.Nat.{pow-le-pow_right}
use Rattle.script.specs.Numbers.{all_digits, worth_from, decimal, below}
use Rattle.script.proofs.Digits.{numerals}

-- At most k digits are worth less than that power of ten.
decimal_below : (bs : List ℕ) (k w : ℕ) → length bs ≤ k → decimal bs ≡ Some w → w < 10 ^ k
decimal_below [] k w h e = cc
decimal_below (b ∷ bs) k w h e =
    let p = cond_some (all_digits (b ∷ bs)) (worth_from 0 (b ∷ bs)) w e in
    subst (λ n. n < 10 ^ k) p.1 (digits_value_short numerals (b ∷ bs) k p.0 h)

within : (n : ℕ) (o : Option ℕ) → ((w : ℕ) → o ≡ Some w → w < n) → below n o ≡ o
within n None f = refl
within n (Some w) f = ap (λ t. cond t (Some w) None) (lt-ltb w n (f w refl))

-- No more than nine digits are refused for their size.
pub few_digits : (bs : List ℕ) → length bs ≤ 9 → below (2 ^ 64) (decimal bs) ≡ decimal bs
few_digits bs h = within (2 ^ 64) (decimal bs) (λ w e. lt_of_lt_of_le (decimal_below bs 9 w h e) (lit≤ tt))

pub two_digits : (bs : List ℕ) (w : ℕ) → length bs ≤ 2 → decimal bs ≡ Some w → w < 100
two_digits bs w h e = decimal_below bs 2 w h e

-- A fraction of n digits is less than a second, in nanoseconds.
pub scaled_below : (n v : ℕ) → n ≤ 9 → v < 10 ^ n → v * 10 ^ (9 - n) < 1000000000
scaled_below n v h l =
    let p : 1 ≤ 10 ^ (9 - n) = pow-le-pow_right {n = 10} (lit< tt) zero-le in
    let s : n + (9 - n) ≡ 9 = omega arith in
    let e : 10 ^ n * 10 ^ (9 - n) ≡ 1000000000 = sym (pow-add 10 n (9 - n)) ∙ ap (λ k. 10 ^ k) s in
    subst (λ (m : ℕ). v * 10 ^ (9 - n) < m) e (mul-lt-mul_of_pos_right l p)

pub fraction_below : (bs : List ℕ) (v : ℕ) → length bs ≤ 9 → decimal bs ≡ Some v → v * 10 ^ (9 - length bs) < 1000000000
fraction_below bs v h d = scaled_below (length bs) v h (decimal_below bs (length bs) v (le_refl (length bs)) d)
