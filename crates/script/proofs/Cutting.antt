-- The library's words for a search and a prefix come to the definitions.
use Rattle.std.proofs.Common.{suc, ◌≤◌, arith, ◌≡◌, ℕ, ◌+◌, Bool, true, false, cond, ◌&&◌, eqb, List, [], ◌∷◌, length, take, drop, Some, None, Option, refl, ap, ◌∙◌}
use Rattle.std.proofs.lemmas.List.Recursion.{is_position_or_len}
use Rattle.std.specs.Cmp.Lexicographic.{pointwise}
use Rattle.std.specs.List.{position_or_len}
use Rattle.script.specs.Cuts.{behind, place}

-- What `position` says.
pub place_is : (s : ℕ) (bs : List ℕ) → place s bs ≡ position_or_len (λ b. eqb b s) bs
place_is s bs = is_position_or_len (place s) (λ b. eqb b s) refl (λ b bs. ap (cond (eqb b s) 0) (omega arith)) bs

within : (n k : ℕ) (t : Bool) → n ≤ k → cond t 0 (n + 1) ≤ suc k
within n k true h = omega arith
within n k false h = omega arith

pub place_within : (s : ℕ) (bs : List ℕ) → place s bs ≤ length bs
place_within s [] = omega arith
place_within s (b ∷ bs) = within (place s bs) (length bs) (eqb b s) (place_within s bs)

both_ways : (a t : Bool) (o : Option (List ℕ)) → cond a (cond t o None) None ≡ cond (a && t) o None
both_ways true t o = refl
both_ways false t o = refl

-- What `strip_prefix` says.
pub behind_is : (ps bs : List ℕ) → behind ps bs ≡ cond (pointwise eqb (take (length ps) bs) ps) (Some (drop (length ps) bs)) None
behind_is [] bs = refl
behind_is (p ∷ ps) [] = refl
behind_is (p ∷ ps) (b ∷ bs) = ap (λ o. cond (eqb b p) o None) (behind_is ps bs) ∙ both_ways (eqb b p) _ _
