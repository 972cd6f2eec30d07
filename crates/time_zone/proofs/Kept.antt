-- Every instant that is found or chosen comes with its zone's own offset there.
use Rattle.std.proofs.Common.{◌≡◌, ℕ, Bool, cond, List, [], ◌∷◌, map, ℤ, pos, ◌+ℤ◌, ◌-ℤ◌, Ok, Err, Result, refl}
use Rattle.std.proofs.lemmas.Bool.{cond_both}
use Rattle.offsets.specs.Possible.{possible as instants_of, at, answer_of, candidates_at}
use Rattle.offsets.specs.declared.Candidate.{Candidate}
use Rattle.offsets.specs.declared.Candidates.{Candidates}
use Rattle.offsets.specs.declared.Candidates.TheVariants.{Gap, One, Two}
use Rattle.provider.specs.Meaning.{Zone, unknown, known, Meaning}
use Rattle.provider.specs.Answer.{in_span, candidates_answer}
use Rattle.provider.specs.declared.Source.{Source}
use Rattle.provider.specs.declared.ProviderFault.TheVariants.{OutsideSpan}
use Rattle.time_zone.specs.Faults.{carried}
use Rattle.time_zone.specs.Instants.{day_ranged, day_within, candidates_in, all_valid, ranged, possible, first_of, last_of, moved, of_two, of_none, disambiguated, disambiguated_in, resolved, started, start_of_day}
use Rattle.time_zone.specs.Right.{Right, AllRight, GrantedRight, GrantedAll}
use Rattle.time_zone.specs.declared.TimeZone.{TimeZone}
use Rattle.time_zone.specs.declared.TimeZone.TheVariants.{Named, Fixed}
use Rattle.time_zone.specs.declared.Disambiguation.{Disambiguation}
use Rattle.time_zone.specs.declared.Disambiguation.TheVariants.{Compatible, Earlier, Later, Reject}
use Rattle.time_zone.specs.declared.ZoneFault.{ZoneFault}
use Rattle.time_zone.specs.declared.ZoneFault.TheVariants.{Range}

module _ (m : Meaning) where
  -- ---- possible instants

  -- of a named zone's offsets
  module _ (n : ℕ) (o : Source) (f : ℤ → ℤ) (is : m n ≡ known o f) (L : ℤ) where
    listed_right : (ts : List ℤ) → AllRight m (Named n) (answer_of f L (map (at f) ts))
    listed_right [] = rw is refl
    listed_right (t ∷ []) = rw is refl
    listed_right (t ∷ u ∷ ts) = rw is (refl, refl)

    told_right : AllRight m (Named n) (candidates_at f L)
    unfolding candidates_at
    told_right = listed_right (instants_of f L)

  known_right : (n : ℕ) (z : Zone) → m n ≡ z → (L : ℤ) → GrantedAll m (Named n) (carried (candidates_answer z L))
  known_right n (unknown o) is L = tt
  known_right n (known o f) is L = cond_both (in_span L) (Ok (candidates_at f L)) (Err (OutsideSpan o)) (λ r. GrantedAll m (Named n) (carried r)) (λ _. told_right n o f is L) (λ _. tt)

  -- a test that is passed, or the refusal
  checked : (z : TimeZone) (b : Bool) (r : Result Candidates ZoneFault) → GrantedAll m z r → GrantedAll m z (cond b r (Err Range))
  checked z b r h = cond_both b r (Err Range) (GrantedAll m z) (λ _. h) (λ _. tt)

  candidates_right : (z : TimeZone) (L : ℤ) → GrantedAll m z (candidates_in m z L)
  candidates_right (Fixed k) L = refl
  candidates_right (Named n) L = checked (Named n) (day_ranged L) (carried (candidates_answer (m n) L)) (known_right n (m n) refl L)

  ranged_right : (z : TimeZone) (n : ℕ) (r : Result Candidates ZoneFault) → GrantedAll m z r → GrantedAll m z (ranged n r)
  ranged_right z n (Ok x) h = checked z (all_valid n x) (Ok x) h
  ranged_right z n (Err e) h = tt

  pub possible_right : (z : TimeZone) (L : ℤ) (n : ℕ) → GrantedAll m z (possible m z L n)
  possible_right z L n = ranged_right z n (candidates_in m z L) (candidates_right z L)

  moved_right : (z : TimeZone) (L : ℤ) (n : ℕ) → GrantedAll m z (moved m z L n)
  moved_right z L n = checked z (day_within (pos 100000001) L) (possible m z L n) (possible_right z L n)

  first_right : (z : TimeZone) (r : Result Candidates ZoneFault) → GrantedAll m z r → GrantedRight m z (first_of r)
  first_right z (Ok (Gap c b a)) h = tt
  first_right z (Ok (One a)) h = h
  first_right z (Ok (Two a b)) h = h.0
  first_right z (Err e) h = tt

  last_right : (z : TimeZone) (r : Result Candidates ZoneFault) → GrantedAll m z r → GrantedRight m z (last_of r)
  last_right z (Ok (Gap c b a)) h = tt
  last_right z (Ok (One a)) h = h
  last_right z (Ok (Two a b)) h = h.1
  last_right z (Err e) h = tt

  -- ---- the one that is chosen

  of_two_right : (z : TimeZone) (d : Disambiguation) (a b : Candidate) → Right m z a → Right m z b → GrantedRight m z (of_two d a b)
  of_two_right z Compatible a b p q = p
  of_two_right z Earlier a b p q = p
  of_two_right z Later a b p q = q
  of_two_right z Reject a b p q = tt

  of_none_right : (z : TimeZone) (L : ℤ) (n : ℕ) (d : Disambiguation) (j : ℤ) → GrantedRight m z (of_none m z L n d j)
  of_none_right z L n Compatible j = last_right z (moved m z (L +ℤ j) n) (moved_right z (L +ℤ j) n)
  of_none_right z L n Earlier j = first_right z (moved m z (L -ℤ j) n) (moved_right z (L -ℤ j) n)
  of_none_right z L n Later j = last_right z (moved m z (L +ℤ j) n) (moved_right z (L +ℤ j) n)
  of_none_right z L n Reject j = tt

  pub disambiguated_right : (z : TimeZone) (L : ℤ) (n : ℕ) (d : Disambiguation) (x : Candidates) → AllRight m z x → GrantedRight m z (disambiguated m z L n d x)
  disambiguated_right z L n d (Gap c b a) h = of_none_right z L n d (a -ℤ b)
  disambiguated_right z L n d (One a) h = h
  disambiguated_right z L n d (Two a b) h = of_two_right z d a b h.0 h.1

  in_right : (z : TimeZone) (L : ℤ) (n : ℕ) (d : Disambiguation) (r : Result Candidates ZoneFault) → GrantedAll m z r → GrantedRight m z (disambiguated_in m z L n d r)
  in_right z L n d (Ok x) h = disambiguated_right z L n d x h
  in_right z L n d (Err e) h = tt

  pub resolved_right : (z : TimeZone) (L : ℤ) (n : ℕ) (d : Disambiguation) → GrantedRight m z (resolved m z L n d)
  resolved_right z L n d = in_right z L n d (possible m z L n) (possible_right z L n)

  started_right : (z : TimeZone) (r : Result Candidates ZoneFault) → GrantedAll m z r → GrantedRight m z (started r)
  started_right z (Ok (Gap c b a)) h = h
  started_right z (Ok (One a)) h = h
  started_right z (Ok (Two a b)) h = h.0
  started_right z (Err e) h = tt

  pub start_right : (z : TimeZone) (L : ℤ) → GrantedRight m z (start_of_day m z L)
  start_right z L = started_right z (possible m z L 0) (possible_right z L 0)
