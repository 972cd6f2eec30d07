-- Every filled berth stays in range.
use Rattle.std.proofs.Common.{◌≡◌, ℕ, ◌<◌, true, length, get_or, set, Some, None, Ok, Option, refl, ap, ◌∙◌, ⊎_elim}
use Rattle.std.proofs.lemmas.Bool.{cases_lt}
use Rattle.std.proofs.lemmas.List.{get_or_past}
use Rattle.std.proofs.lemmas.List.Recursion.{and_at, and_set}
use Rattle.std.specs.Option.{ok_or}
use Rattle.clock.specs.Instants.{valid_epoch}
use Rattle.sheet.specs.Calls.{Berths, in_range, all_in_range}
use Rattle.sheet.specs.declared.Arrival.{Arrival}

pub put_ranged : (rows : Berths) (i : ℕ) (x : Option Arrival) → in_range x ≡ true → all_in_range rows ≡ true → all_in_range (set rows i x) ≡ true
put_ranged = and_set all_in_range in_range refl (λ _ _. refl)

pub at_ranged : (rows : Berths) (i : ℕ) → all_in_range rows ≡ true → in_range (get_or rows i None) ≡ true
at_ranged rows i all =
    ⊎_elim (λ inside. and_at all_in_range in_range refl (λ _ _. refl) rows i None inside all) (λ past. rw (get_or_past rows i None past) refl) (cases_lt i (length rows))

pub held_ranged : {E : Type 0} (rows : Berths) (i : ℕ) (held : Option Arrival) (e : E) (a : Arrival) → i < length rows → held ≡ get_or rows i None → Ok a ≡ ok_or held e → all_in_range rows ≡ true → valid_epoch a.instant ≡ true
held_ranged rows i None e a inside at is all = cc
held_ranged rows i (Some b) e a inside at is all = let k : a ≡ b = cc in rw k (ap in_range at ∙ at_ranged rows i all)
