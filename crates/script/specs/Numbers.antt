-- Decimal numbers: what a run of digits is worth, and what of it fits.
use Rattle.std.specs.Prelude.{ℕ, ◌+◌, ◌-◌, ◌*◌, ◌^◌, Bool, true, false, cond, ◌&&◌, List, [], ◌∷◌, length, ℤ, pos, negsuc, neg_ℤ, Some, None, codes, Option, nat_le, nat_lt}
use Rattle.script.specs.Cuts.{behind}

abbrev pub digit : ℕ → Bool
digit b = nat_le 48 b && nat_le b 57

abbrev pub all_digits : List ℕ → Bool
all_digits [] = true
all_digits (b ∷ bs) = digit b && all_digits bs

-- The value v with the digits behind it.
abbrev pub worth_from : ℕ → List ℕ → ℕ
worth_from v [] = v
worth_from v (b ∷ bs) = worth_from (v * 10 + (b - 48)) bs

-- One digit or more, and nothing else.
abbrev pub is_decimal : List ℕ → Bool
is_decimal [] = false
is_decimal (b ∷ bs) = all_digits (b ∷ bs)

abbrev pub decimal : List ℕ → Option ℕ
decimal bs = cond (is_decimal bs) (Some (worth_from 0 bs)) None

-- The number where it is below the limit.
abbrev pub below : ℕ → Option ℕ → Option ℕ
below n None = None
below n (Some v) = cond (nat_lt v n) (Some v) None

-- One more digit behind a value, within 64 bits.
abbrev pub one_more : ℕ → ℕ → Option ℕ
one_more v b = cond (digit b && nat_lt (v * 10 + (b - 48)) (2 ^ 64)) (Some (v * 10 + (b - 48))) None

-- The number with its sign.
abbrev pub with_sign : Bool → Option ℕ → Option ℤ
with_sign s None = None
with_sign s (Some v) = Some (cond s (neg_ℤ (pos v)) (pos v))

-- The number behind a `-`, or else the number without a sign.
abbrev pub signed_or : Option (List ℕ) → List ℕ → Option ℤ
signed_or None bs = with_sign false (decimal bs)
signed_or (Some ds) bs = with_sign true (decimal ds)

-- A number with `-` before a negative one.
abbrev pub number : List ℕ → Option ℤ
number bs = signed_or (behind (codes "-") bs) bs

-- What fits a signed type, from -n to n - 1.
abbrev pub signed_below : ℕ → Option ℤ → Option ℤ
signed_below n None = None
signed_below n (Some (pos v)) = cond (nat_lt v n) (Some (pos v)) None
signed_below n (Some (negsuc v)) = cond (nat_lt v n) (Some (negsuc v)) None

-- What fits an unsigned type, from 0 to n - 1.
abbrev pub unsigned_below : ℕ → Option ℤ → Option ℕ
unsigned_below n None = None
unsigned_below n (Some (pos v)) = cond (nat_lt v n) (Some v) None
unsigned_below n (Some (negsuc v)) = None

-- One digit or two.
abbrev pub of_two : List ℕ → Option ℕ
of_two bs = cond (nat_le (length bs) 2) (decimal bs) None

abbrev pub scaled : ℕ → Option ℕ → Option ℕ
scaled k None = None
scaled k (Some v) = Some (v * 10 ^ k)

-- One to nine digits of a second's fraction, in nanoseconds.
abbrev pub fraction_of : List ℕ → Option ℕ
fraction_of bs = cond (nat_le (length bs) 9) (scaled (9 - length bs) (decimal bs)) None
