-- The unsigned modes in words: which multiple of n the quotient picks for m.
use Rattle.std.proofs.Common.{◌≡◌, ℕ, suc, ◌+◌, ◌-◌, ◌*◌, ◌/◌, ◌%◌, ◌<◌, ◌≤◌, ap, ◌∙◌, inl, inr, mod-lt, mul_assoc, add-mul, one-mul, div-add-mod', arith}
use native.Mathlib.Nat.{mul-mod_left}
use Rattle.std.proofs.lemmas.Bool.Decides.{leb_tells, eqb_tells}
use Rattle.rounding.specs.declared.UnsignedRoundingMode.{UnsignedRoundingMode}
use Rattle.rounding.specs.declared.UnsignedRoundingMode.TheVariants.{Infinity, Zero, HalfInfinity, HalfZero, HalfToEven}
use Rattle.rounding.specs.Rounding.{applied, between, half_of, nearer, at_half}

pub record Half (n m v : ℕ) (Tie : Type 0) : Type 0 where
  pub above : 2 * v ≤ 2 * m + n
  pub below : 2 * m ≤ 2 * v + n
  pub over : 2 * v ≡ 2 * m + n → Tie
  pub under : 2 * m ≡ 2 * v + n → Tie

abbrev pub Picks : UnsignedRoundingMode → ℕ → ℕ → ℕ → Type 0
Picks Infinity n m v = m ≤ v
Picks Zero n m v = v ≤ m
Picks HalfInfinity n m v = Half n m v (m ≤ v)
Picks HalfZero n m v = Half n m v (v ≤ m)
Picks HalfToEven n m v = Half n m v (v % (2 * n) ≡ 0)

pub record Taken (u : UnsignedRoundingMode) (n m v : ℕ) : Type 0 where
  pub multiple : v % n ≡ 0
  pub above : v < m + n
  pub below : m < v + n
  pub none : m ≡ 0 → v ≡ 0
  pub picks : Picks u n m v

-- a multiple with an even factor
even : (q n : ℕ) → q % 2 ≡ 0 → q * n % (2 * n) ≡ 0
even q n e =
    let d : q ≡ q / 2 * 2 = omega arith in
    ap (λ k. k * n % (2 * n)) d ∙ ap (λ k. k % (2 * n)) (mul_assoc (q / 2) 2 n) ∙ mul-mod_left (q / 2) (2 * n)

step : (q n : ℕ) → (q + 1) * n ≡ q * n + n
step q n = add-mul q 1 n ∙ ap (λ k. q * n + k) (one-mul n)

-- nothing is left: each mode takes the quotient
exact_picks : (u : UnsignedRoundingMode) (n m v : ℕ) → 0 < n → v ≡ m → Picks u n m v
exact_picks Infinity n m v h e = omega arith
exact_picks Zero n m v h e = omega arith
exact_picks HalfInfinity n m v h e = record { above = omega arith; below = omega arith; over = λ k. omega arith; under = λ k. omega arith }
exact_picks HalfZero n m v h e = record { above = omega arith; below = omega arith; over = λ k. omega arith; under = λ k. omega arith }
exact_picks HalfToEven n m v h e = record { above = omega arith; below = omega arith; over = λ k. absurd (omega arith); under = λ k. absurd (omega arith) }

exact : (u : UnsignedRoundingMode) (n m q : ℕ) → 0 < n → q * n ≡ m → Taken u n m (q * n)
exact u n m q h e = record { multiple = mul-mod_left q n; above = omega arith; below = omega arith; none = λ k. omega arith; picks = exact_picks u n m (q * n) h e }

-- something is left: down, or up
down : (u : UnsignedRoundingMode) (n m q t : ℕ) → 0 < t → t < n → q * n + t ≡ m → Picks u n m (q * n) → Taken u n m (q * n)
down u n m q t h l e p = record { multiple = mul-mod_left q n; above = omega arith; below = omega arith; none = λ k. omega arith; picks = p }

up : (u : UnsignedRoundingMode) (n m q t : ℕ) → 0 < t → t < n → q * n + t ≡ m → Picks u n m ((q + 1) * n) → Taken u n m ((q + 1) * n)
up u n m q t h l e p =
    let s = step q n in
    record { multiple = mul-mod_left (q + 1) n; above = omega arith; below = omega arith; none = λ k. absurd (omega arith); picks = p }

-- a half mode, where its rule holds on a tie
half_down : (n m q t : ℕ) (Tie : Type 0) → t < n → t ≤ n - t → q * n + t ≡ m → (t ≡ n - t → Tie) → Half n m (q * n) Tie
half_down n m q t Tie l h e k = record { above = omega arith; below = omega arith; over = λ z. absurd (omega arith); under = λ z. k (omega arith) }

half_up : (n m q t : ℕ) (Tie : Type 0) → 0 < t → t < n → n - t ≤ t → q * n + t ≡ m → (t ≡ n - t → Tie) → Half n m ((q + 1) * n) Tie
half_up n m q t Tie p l h e k =
    let s = step q n in
    record { above = omega arith; below = omega arith; over = λ z. k (omega arith); under = λ z. absurd (omega arith) }

-- a half mode goes by what is left
between_is : (P : ℕ → Type 0) (u : UnsignedRoundingMode) (q t n : ℕ) → t < n
    → (t < n - t → P q) → (t ≡ n - t → P (at_half u q)) → (n - t < t → P (q + 1)) → P (nearer (half_of t n) u q)
between_is P u q t n l a b c =
    elim (leb_tells (suc t) (n - t)) [
      | inl x ↦ rw x.0 (a (omega arith))
      | inr x ↦ elim (eqb_tells t (n - t)) [ inl y ↦ rw (x.0, y.0) (b y.1) | inr y ↦ rw (x.0, y.0) (c (let z : t ≡ n - t → ⊥ = y.1 in omega arith)) ]
    ]

left : (u : UnsignedRoundingMode) (n m q t : ℕ) → 0 < t → t < n → q * n + t ≡ m → Taken u n m (between u (half_of t n) q * n)
left Infinity n m q t h l e = up Infinity n m q t h l e (let s = step q n in omega arith)
left Zero n m q t h l e = down Zero n m q t h l e (omega arith)
left HalfInfinity n m q t h l e =
    between_is (λ k. Taken HalfInfinity n m (k * n)) HalfInfinity q t n l
    (λ a. down HalfInfinity n m q t h l e (half_down n m q t (m ≤ q * n) l (omega arith) e (λ z. absurd (omega arith))))
    (λ a. up HalfInfinity n m q t h l e (half_up n m q t (m ≤ (q + 1) * n) h l (omega arith) e (λ z. let s = step q n in omega arith)))
    (λ a. up HalfInfinity n m q t h l e (half_up n m q t (m ≤ (q + 1) * n) h l (omega arith) e (λ z. let s = step q n in omega arith)))
left HalfZero n m q t h l e =
    between_is (λ k. Taken HalfZero n m (k * n)) HalfZero q t n l
    (λ a. down HalfZero n m q t h l e (half_down n m q t (q * n ≤ m) l (omega arith) e (λ z. omega arith)))
    (λ a. down HalfZero n m q t h l e (half_down n m q t (q * n ≤ m) l (omega arith) e (λ z. omega arith)))
    (λ a. up HalfZero n m q t h l e (half_up n m q t ((q + 1) * n ≤ m) h l (omega arith) e (λ z. absurd (omega arith))))
left HalfToEven n m q t h l e =
    between_is (λ k. Taken HalfToEven n m (k * n)) HalfToEven q t n l
    (λ a. down HalfToEven n m q t h l e (half_down n m q t (q * n % (2 * n) ≡ 0) l (omega arith) e (λ z. absurd (omega arith))))
    (λ a. elim (eqb_tells (q % 2) 0) [
      | inl x ↦ rw x.0 (down HalfToEven n m q t h l e (half_down n m q t (q * n % (2 * n) ≡ 0) l (omega arith) e (λ z. even q n x.1)))
      | inr x ↦ rw x.0 (up HalfToEven n m q t h l e (half_up n m q t ((q + 1) * n % (2 * n) ≡ 0) h l (omega arith) e (λ z. let y : q % 2 ≡ 0 → ⊥ = x.1 in even (q + 1) n (omega arith))))
    ])
    (λ a. up HalfToEven n m q t h l e (half_up n m q t ((q + 1) * n % (2 * n) ≡ 0) h l (omega arith) e (λ z. absurd (omega arith))))

pub taken : (u : UnsignedRoundingMode) (n m : ℕ) → 0 < n → Taken u n m (applied u m n * n)
taken u n m h =
    let d : m / n * n + m % n ≡ m = div-add-mod' m n in
    let l : m % n < n = mod-lt m h in
    elim (eqb_tells (m % n) 0) [
      | inl x ↦ rw x.0 (exact u n m (m / n) h (let z : m % n ≡ 0 = x.1 in omega arith))
      | inr x ↦ rw x.0 (left u n m (m / n) (m % n) (let z : m % n ≡ 0 → ⊥ = x.1 in omega arith) l d)
    ]
