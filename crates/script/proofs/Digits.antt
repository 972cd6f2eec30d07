-- Reading digits one by one comes to what the run of them is worth.
use Rattle.std.proofs.Common.{◌≡◌, ℕ, ◌+◌, ◌-◌, ◌*◌, ◌^◌, ◌<◌, ◌≤◌, Bool, true, false, cond, ◌&&◌, ltb, List, [], ◌∷◌, length, Some, None, Option, sym, refl, ap, le_refl, le_trans, arith, rules, ltb-false, ltb-true, le-ltb, lt-ltb}
use Rattle.std.proofs.lemmas.Str.Parse.{IsNumeralModel, numerals_by_fold}
use Rattle.std.specs.Option.{option_and_then}
use Rattle.script.specs.Numbers.{digit, all_digits, worth_from, decimal, below, one_more}

-- What a run of digits is worth is at least what stood before it.
pub grows : (v : ℕ) (bs : List ℕ) → v ≤ worth_from v bs
grows v [] = le_refl v
grows v (b ∷ bs) = let h : v * 10 + (b - 48) ≤ worth_from (v * 10 + (b - 48)) bs = grows (v * 10 + (b - 48)) bs in omega arith

-- Each digit in its turn, up to one that is refused.
abbrev pub read_from : ℕ → List ℕ → Option ℕ
read_from v [] = Some v
read_from v (b ∷ bs) = option_and_then (λ w. read_from w bs) (one_more v b)

too_large : (t : Bool) (w n : ℕ) → n ≤ w → None ≡ below n (cond t (Some w) None)
too_large true w n h = rw (le-ltb w n h) refl
too_large false w n h = refl

read_on : (bs : List ℕ) (w : ℕ) (d t : Bool) → ltb w (2 ^ 64) ≡ t → (w < 2 ^ 64 → read_from w bs ≡ below (2 ^ 64) (cond (all_digits bs) (Some (worth_from w bs)) None)) → option_and_then (λ w. read_from w bs) (cond (d && t) (Some w) None) ≡ below (2 ^ 64) (cond (d && all_digits bs) (Some (worth_from w bs)) None)
read_on bs w false t e h = refl
read_on bs w true true e h = h (ltb-true w (2 ^ 64) e)
read_on bs w true false e h = too_large (all_digits bs) (worth_from w bs) (2 ^ 64) (le_trans (ltb-false w (2 ^ 64) e) (grows w bs))

read_is : (bs : List ℕ) (v : ℕ) → v < 2 ^ 64 → read_from v bs ≡ below (2 ^ 64) (cond (all_digits bs) (Some (worth_from v bs)) None)
read_is [] v h = sym (ap (λ t. cond t (Some v) None) (lt-ltb v (2 ^ 64) h))
read_is (b ∷ bs) v h = read_on bs (v * 10 + (b - 48)) (digit b) (ltb (v * 10 + (b - 48)) (2 ^ 64)) refl (read_is bs (v * 10 + (b - 48)))

pub read_all : (bs : List ℕ) → 0 < length bs → read_from 0 bs ≡ below (2 ^ 64) (decimal bs)
read_all [] h = absurd (let k : 0 < 0 = h in omega arith)
read_all (b ∷ bs) h = read_is (b ∷ bs) 0 (omega arith)

pub numerals : IsNumeralModel (λ bs. all_digits bs ≡ true) (worth_from 0)
numerals = numerals_by_fold _ (search rules) worth_from (search rules)
