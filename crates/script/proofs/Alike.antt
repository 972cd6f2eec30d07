-- What tells whether two texts are the same.
use Rattle.std.proofs.Common.{◌≡◌, ◌≢◌, ℕ, suc, ◌<◌, Bool, true, false, ◌&&◌, eqb, List, [], ◌∷◌, length, get_or, refl, ap, ◌∙◌, arith, eq-eqb, ne_eqb}
use Rattle.std.proofs.lemmas.Slice.Eq.{HasBytesAt, text_from_reads}
use Rattle.script.specs.Cuts.{alike}

and_no : (t : Bool) → t && false ≡ false
and_no true = refl
and_no false = refl

pub alike_lengths : (bs cs : List ℕ) → length bs ≢ length cs → alike bs cs ≡ false
alike_lengths [] [] n = absurd (n refl)
alike_lengths [] (c ∷ cs) n = refl
alike_lengths (b ∷ bs) [] n = refl
alike_lengths (b ∷ bs) (c ∷ cs) n = ap (λ t. eqb b c && t) (alike_lengths bs cs (λ e. n (ap suc e))) ∙ and_no (eqb b c)

pub alike_shorter : (bs cs : List ℕ) → length bs < length cs → alike bs cs ≡ false
alike_shorter bs cs h = alike_lengths bs cs (λ e. let k : ⊥ = omega arith in k)

pub alike_longer : (bs cs : List ℕ) → length cs < length bs → alike bs cs ≡ false
alike_longer bs cs h = alike_lengths bs cs (λ e. let k : ⊥ = omega arith in k)

pub alike_first : (bs cs : List ℕ) → get_or bs 0 0 ≢ get_or cs 0 0 → alike bs cs ≡ false
alike_first [] [] n = absurd (n refl)
alike_first [] (c ∷ cs) n = refl
alike_first (b ∷ bs) [] n = refl
alike_first (b ∷ bs) (c ∷ cs) n = ap (λ t. t && alike bs cs) (ne_eqb b c n)

alike_same : (bs : List ℕ) → alike bs bs ≡ true
alike_same [] = refl
alike_same (b ∷ bs) = ap (λ t. t && alike bs bs) (eq-eqb b b refl) ∙ alike_same bs

pub alike_whole : (bs cs : List ℕ) → length bs ≡ length cs → HasBytesAt bs 0 cs → alike bs cs ≡ true
alike_whole bs cs h r = rw (text_from_reads bs cs h r) (alike_same cs)

-- For a match on byte strings.
pub ruleset told_apart = (alike_shorter, alike_longer, alike_first, alike_whole)
