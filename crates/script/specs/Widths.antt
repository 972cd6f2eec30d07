-- Why a type of numbers holds what its limit says: nothing that 64 bits do not hold, and of those what a conversion keeps. No definitions:
-- these proofs stand beside the statements, since the laws are ghost members of a trait.
use Rattle.std.specs.Prelude.{◌≡◌, ℕ, ◌^◌, ◌<◌, ◌≤◌, Bool, true, false, cond, ℤ, pos, negsuc, Some, None, Option, Result, Ok, Err, unsigned_abs, FitsSigned, refl}
use Rattle.std.specs.Int.{Width, FitsUnsignedBits}
use Rattle.std.specs.Result.{OkIff, result_ok}
use Rattle.std.proofs.Common.{sym, ◌∙◌, ap, ltb, ltb-false, ltb-true, le-ltb, lt-ltb}
use Rattle.std.proofs.Math.Nat.{le_trans}
use mir.Val.{hbits}
use Rattle.script.specs.Numbers.{signed_below, unsigned_below}

passes : {A : Type 0} (f : Option ℤ → Option A) (o : Option ℤ) (t : Bool) → f None ≡ None → (t ≡ false → f o ≡ None) → f (cond t o None) ≡ f o
passes f o true e h = refl
passes f o false e h = e ∙ sym (h refl)

past : {A : Type 0} (n m v : ℕ) (o : Option A) → n ≤ m → ltb v m ≡ false → cond (ltb v n) o None ≡ None
past n m v o h e = ap (λ t. cond t o None) (le-ltb v n (le_trans h (ltb-false v m e)))

pub signed_narrows : (n : ℕ) → n ≤ 2 ^ 63 → (z : Option ℤ) → signed_below n (signed_below (2 ^ 63) z) ≡ signed_below n z
signed_narrows n h None = refl
signed_narrows n h (Some (pos v)) = passes (signed_below n) (Some (pos v)) (ltb v (2 ^ 63)) refl (past n (2 ^ 63) v (Some (pos v)) h)
signed_narrows n h (Some (negsuc v)) = passes (signed_below n) (Some (negsuc v)) (ltb v (2 ^ 63)) refl (past n (2 ^ 63) v (Some (negsuc v)) h)

pub unsigned_narrows : (n : ℕ) → n ≤ 2 ^ 63 → (z : Option ℤ) → unsigned_below n (signed_below (2 ^ 63) z) ≡ unsigned_below n z
unsigned_narrows n h None = refl
unsigned_narrows n h (Some (pos v)) = passes (unsigned_below n) (Some (pos v)) (ltb v (2 ^ 63)) refl (past n (2 ^ 63) v (Some v) h)
unsigned_narrows n h (Some (negsuc v)) = passes (unsigned_below n) (Some (negsuc v)) (ltb v (2 ^ 63)) refl (λ _. refl)

kept : {A : Type 0} (n v : ℕ) (o : Option A) → v < n → o ≡ cond (ltb v n) o None
kept n v o h = sym (ap (λ t. cond t o None) (lt-ltb v n h))

left : {A : Type 0} (n v : ℕ) (o : Option A) → (v < n → ⊥) → (t : Bool) → ltb v n ≡ t → None ≡ cond t o None
left n v o h true e = absurd (h (ltb-true v n e))
left n v o h false e = refl

pub unsigned_keeps : {E : Type 0} (k : ℕ) (v : ℤ) (r : Result ℕ E) → OkIff r (FitsUnsignedBits k v) (unsigned_abs v) → result_ok r ≡ unsigned_below (2 ^ k) (Some v)
unsigned_keeps k (pos v) (Ok x) h = ap Some h.1 ∙ kept (2 ^ k) v (Some v) h.0
unsigned_keeps k (pos v) (Err e) h = left (2 ^ k) v (Some v) h (ltb v (2 ^ k)) refl
unsigned_keeps k (negsuc v) (Ok x) h = absurd h.0
unsigned_keeps k (negsuc v) (Err e) h = refl

pub signed_keeps : {E : Type 0} (w : Width) (v : ℤ) (r : Result ℤ E) → OkIff r (FitsSigned w v) v → result_ok r ≡ signed_below (2 ^ hbits w) (Some v)
signed_keeps w (pos v) (Ok x) h = ap Some h.1 ∙ kept (2 ^ hbits w) v (Some (pos v)) h.0.sfits
signed_keeps w (pos v) (Err e) h = left (2 ^ hbits w) v (Some (pos v)) (λ k. h (record { sfits = k })) (ltb v (2 ^ hbits w)) refl
signed_keeps w (negsuc v) (Ok x) h = ap Some h.1 ∙ kept (2 ^ hbits w) v (Some (negsuc v)) h.0.sfits
signed_keeps w (negsuc v) (Err e) h = left (2 ^ hbits w) v (Some (negsuc v)) (λ k. h (record { sfits = k })) (ltb v (2 ^ hbits w)) refl
