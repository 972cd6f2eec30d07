-- A time rounded from its last whole larger unit on, as a whole.
use Rattle.std.proofs.Common.{◌≡◌, ℕ, ◌+◌, ◌-◌, ◌*◌, ◌/◌, ◌%◌, ◌<◌, ◌≤◌, pos, nat_abs, ◌≤ℤ◌, sym, refl, ap, ◌∙◌, subst, mul_assoc, add_comm, div-add-mod', arith}
use native.Mathlib.Nat.{mod-le, add-mul-mod_self_right}
use Rattle.std.proofs.lemmas.Int.{ints}
use Rattle.clock.specs.declared.IsoTime.{IsoTime}
use Rattle.rounding.specs.declared.RoundingMode.{RoundingMode}
use Rattle.rounding.specs.declared.RoundingMode.TheVariants.{Ceil, Floor, Expand, Trunc, HalfCeil, HalfFloor, HalfExpand, HalfTrunc, HalfEven}
use Rattle.rounding.specs.Rounding.{rounded_to}
use Rattle.rounding.specs.Words.{apart, Away, Toward, Nearest, Asks, Rounds}
use Rattle.rounding.proofs.Meaning.{as_asked}
use Rattle.time_rounding.specs.declared.TimeUnit.{TimeUnit}
use Rattle.time_rounding.specs.declared.TimeUnit.TheVariants.{Hour, Minute, Second, Millisecond, Microsecond, Nanosecond}
use Rattle.time_rounding.specs.Times.{unit_length, in_larger, nanos_of_day, past, WithinOne, RoundsWithinOne, RoundsTheWhole}

some : (u : TimeUnit) (k : ℕ) → 0 < k → 0 < k * unit_length u
some Hour k h = omega arith
some Minute k h = omega arith
some Second k h = omega arith
some Millisecond k h = omega arith
some Microsecond k h = omega arith
some Nanosecond k h = omega arith

-- the whole larger units are a multiple of the increment
factor : (a k l x : ℕ) → a % k ≡ 0 → x - x % (a * l) ≡ x / (a * l) * (a / k) * (k * l)
factor a k l x e =
    let d : x / (a * l) * (a * l) + x % (a * l) ≡ x = div-add-mod' x (a * l) in
    let b : x - x % (a * l) ≡ x / (a * l) * (a * l) = omega arith in
    let f : a / k * k ≡ a = omega (arith, div-add-mod' a k) in
    let g : a * l ≡ a / k * (k * l) = ap (λ z. z * l) (sym f) ∙ mul_assoc (a / k) k l in
    b ∙ ap (λ z. x / (a * l) * z) g ∙ sym (mul_assoc (x / (a * l)) (a / k) (k * l))

multiple : (a k l x v : ℕ) → a % k ≡ 0 → v % (k * l) ≡ 0 → (x - x % (a * l) + v) % (k * l) ≡ 0
multiple a k l x v e h =
    ap (λ z. (z + v) % (k * l)) (factor a k l x e)
    ∙ ap (λ z. z % (k * l)) (add_comm (x / (a * l) * (a / k) * (k * l)) v)
    ∙ add-mul-mod_self_right v (x / (a * l) * (a / k)) (k * l)
    ∙ h

-- both moved up alike
moved : (b p v : ℕ) → apart (pos (b + v)) (pos (b + p)) ≡ apart (pos v) (pos p)
moved b p v = omega (arith, ints)

nearest : (n b p v : ℕ) (A B : Type 0) → (A → B) → Nearest n (pos p) (pos v) A → Nearest n (pos (b + p)) (pos (b + v)) B
nearest n b p v A B f h =
    let m : apart (pos (b + v)) (pos (b + p)) ≡ apart (pos v) (pos p) = moved b p v in
    let k : 2 * apart (pos v) (pos p) ≤ n = h.nearest in
    record { nearest = rw m k; tie = λ e. f (h.tie (rw m at e)) }

away : (b p v : ℕ) → Away (pos p) (pos v) → Away (pos (b + p)) (pos (b + v))
away b p v h =
    let s : p ≤ v = h.size in
    record {
      size = omega arith;
      above = λ k. omega (arith, ints);
      below = λ k. let z : pos v ≤ℤ pos 0 = h.below (omega (arith, ints)) in omega (arith, ints);
    }

toward : (b p v : ℕ) → Toward (pos p) (pos v) → Toward (pos (b + p)) (pos (b + v))
toward b p v h =
    let s : v ≤ p = h.size in
    record { size = omega arith; above = λ k. omega (arith, ints); below = λ k. omega (arith, ints) }

asked : (o : RoundingMode) (n b p v : ℕ) → (o ≡ HalfEven → ⊥) → Asks o n (pos p) (pos v) → Asks o n (pos (b + p)) (pos (b + v))
asked Ceil n b p v f h = omega (arith, ints, h)
asked Floor n b p v f h = omega (arith, ints, h)
asked Expand n b p v f h = away b p v h
asked Trunc n b p v f h = toward b p v h
asked HalfCeil n b p v f h = nearest n b p v (pos p ≤ℤ pos v) (pos (b + p) ≤ℤ pos (b + v)) (λ k. omega (arith, ints)) h
asked HalfFloor n b p v f h = nearest n b p v (pos v ≤ℤ pos p) (pos (b + v) ≤ℤ pos (b + p)) (λ k. omega (arith, ints)) h
asked HalfExpand n b p v f h = nearest n b p v (Away (pos p) (pos v)) (Away (pos (b + p)) (pos (b + v))) (away b p v) h
asked HalfTrunc n b p v f h = nearest n b p v (Toward (pos p) (pos v)) (Toward (pos (b + p)) (pos (b + v))) (toward b p v) h
asked HalfEven n b p v f h = absurd (f refl)

abbrev part : RoundingMode → TimeUnit → ℕ → IsoTime → ℕ
part o u k t = nat_abs (rounded_to o (pos (past u t)) (k * unit_length u))

kept : (u : TimeUnit) (t : IsoTime) → past u t ≤ nanos_of_day t
kept u t = mod-le (nanos_of_day t) (in_larger u * unit_length u)

within : (a k l x v : ℕ) → a % k ≡ 0 → v % (k * l) ≡ 0 → apart (pos v) (pos (x % (a * l))) < k * l → x % (a * l) ≤ x → WithinOne (k * l) x (x - x % (a * l) + v)
within a k l x v e m d q =
    let f : v < x % (a * l) + k * l = omega (arith, ints) in
    let g : x % (a * l) < v + k * l = omega (arith, ints) in
    record { multiple = multiple a k l x v e m; above = omega arith; below = omega arith }

pub within_one : RoundsWithinOne
within_one o u k t h e =
    let r : Rounds o (k * unit_length u) (pos (past u t)) (rounded_to o (pos (past u t)) (k * unit_length u)) = as_asked o (pos (past u t)) (k * unit_length u) (some u k h) in
    within (in_larger u) k (unit_length u) (nanos_of_day t) (part o u k t) e r.multiple r.near (kept u t)

whole : (o : RoundingMode) (n x p v : ℕ) → p ≤ x → (o ≡ HalfEven → ⊥) → (x - p + v) % n ≡ 0 → apart (pos v) (pos p) < n → Asks o n (pos p) (pos v) → Rounds o n (pos x) (pos (x - p + v))
whole o n x p v q f m d h =
    let e : x - p + p ≡ x = omega arith in
    let P : ℕ → Type 0 = λ z. Rounds o n (pos z) (pos (x - p + v)) in
    let w : apart (pos (x - p + v)) (pos (x - p + p)) ≡ apart (pos v) (pos p) = moved (x - p) p v in
    subst P e (record { multiple = m; near = rw w d; asked = asked o n (x - p) p v f h })

pub the_whole : RoundsTheWhole
the_whole o u k t h e f =
    let r : Rounds o (k * unit_length u) (pos (past u t)) (rounded_to o (pos (past u t)) (k * unit_length u)) = as_asked o (pos (past u t)) (k * unit_length u) (some u k h) in
    whole o (k * unit_length u) (nanos_of_day t) (past u t) (part o u k t) (kept u t) f (within_one o u k t h e).multiple r.near r.asked
