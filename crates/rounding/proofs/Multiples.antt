-- Multiples of n that are less than n apart are one.
use Rattle.std.proofs.Common.{◌≡◌, ℕ, suc, ◌+◌, ◌*◌, ◌/◌, ◌%◌, ◌<◌, ◌≤◌, ℤ, pos, negsuc, sym, ap, ◌∙◌, mod-eq_of_lt, add-mul, lt_of_mul-lt-mul_right, one-mul, div-add-mod', arith}
use Rattle.std.proofs.lemmas.Int.{ints}
use Rattle.rounding.specs.Words.{Multiple, apart}

-- a multiple below n is zero
least : (n a : ℕ) → a % n ≡ 0 → a < n → a ≡ 0
least n a e h = sym (mod-eq_of_lt h) ∙ e

order : (n a b : ℕ) → a % n ≡ 0 → b % n ≡ 0 → a < b + n → a / n ≤ b / n
order n a b d e h =
    let p : a / n * n ≡ a = omega (arith, div-add-mod' a n) in
    let q : b / n * n ≡ b = omega (arith, div-add-mod' b n) in
    let s : (b / n + 1) * n ≡ b / n * n + n = add-mul (b / n) 1 n ∙ ap (λ k. b / n * n + k) (one-mul n) in
    let l : a / n * n < (b / n + 1) * n = omega arith in
    let r : a / n < b / n + 1 = lt_of_mul-lt-mul_right n l in
    omega arith

same : (n a b : ℕ) → a % n ≡ 0 → b % n ≡ 0 → a < b + n → b < a + n → a ≡ b
same n a b d e h k =
    let p : a / n * n ≡ a = omega (arith, div-add-mod' a n) in
    let q : b / n * n ≡ b = omega (arith, div-add-mod' b n) in
    let x : a / n ≤ b / n = order n a b d e h in
    let y : b / n ≤ a / n = order n b a e d k in
    let z : a / n ≡ b / n = omega arith in
    sym p ∙ ap (λ i. i * n) z ∙ q

pub one_multiple : (n : ℕ) (r s : ℤ) → Multiple n r → Multiple n s → apart r s < n → r ≡ s
one_multiple n (pos a) (pos b) d e h = ap pos (same n a b d e (omega (arith, ints)) (omega (arith, ints)))
one_multiple n (pos a) (negsuc b) d e h = let z : suc b ≡ 0 = least n (suc b) e (omega (arith, ints)) in absurd (omega arith)
one_multiple n (negsuc a) (pos b) d e h = let z : suc a ≡ 0 = least n (suc a) d (omega (arith, ints)) in absurd (omega arith)
one_multiple n (negsuc a) (negsuc b) d e h =
    let z : suc a ≡ suc b = same n (suc a) (suc b) d e (omega (arith, ints)) (omega (arith, ints)) in
    ap negsuc (omega arith)
