-- Every instant that a request is granted comes with its zone's own offset there.
use Rattle.std.proofs.Common.{◌≡◌, ℕ, Bool, true, false, cond, ℤ, pos, ◌-ℤ◌, Some, None, Ok, Err, Option, Result, refl}
use Rattle.std.proofs.lemmas.Bool.{cond_both}
use Rattle.clock.specs.Instants.{as_utc}
use Rattle.clock.specs.declared.IsoTime.{IsoTime}
use Rattle.offsets.specs.declared.Candidate.{Candidate}
use Rattle.offsets.specs.declared.Candidates.{Candidates}
use Rattle.offsets.specs.declared.Candidates.TheVariants.{Gap, One, Two}
use Rattle.provider.specs.Meaning.{Zone, unknown, known, Meaning}
use Rattle.provider.specs.Answer.{in_span, offset_answer}
use Rattle.provider.specs.declared.ProviderFault.TheVariants.{OutsideSpan}
use Rattle.time_zone.specs.Faults.{carried}
use Rattle.time_zone.specs.Instants.{offset_in, day_ranged, valid_at, possible, disambiguated, resolved, start_of_day}
use Rattle.time_zone.specs.Right.{AllRight, GrantedRight, GrantedAll}
use Rattle.time_zone.specs.declared.TimeZone.{TimeZone}
use Rattle.time_zone.specs.declared.TimeZone.TheVariants.{Named, Fixed}
use Rattle.time_zone.specs.declared.ZoneFault.{ZoneFault}
use Rattle.time_zone.proofs.Kept.{possible_right, disambiguated_right, resolved_right, start_right}
use Rattle.zoned.specs.Faults.{raised}
use Rattle.zoned.specs.Interpret.{offset_matches, first_match, at_offset, exactly, unmatched, matched_or, by_match, matched, by_policy, by_offset, with_nanos, local_at, interpreted_at, interpreted}
use Rattle.zoned.specs.Right.{AnswerRight}
use Rattle.zoned.specs.declared.Request.{Request}
use Rattle.zoned.specs.declared.OffsetDisambiguation.{OffsetDisambiguation}
use Rattle.zoned.specs.declared.OffsetDisambiguation.TheVariants.{Use, Prefer, Ignore, Reject as Refuse}
use Rattle.zoned.specs.declared.ZonedFault.{ZonedFault}
use Rattle.zoned.specs.declared.ZonedFault.TheVariants.{Range as Limits}

module _ (m : Meaning) where
  raised_right : (z : TimeZone) (r : Result Candidate ZoneFault) → GrantedRight m z r → GrantedRight m z (raised r)
  raised_right z (Ok a) h = h
  raised_right z (Err e) h = tt

  -- ---- the arms of a set

  limited : (z : TimeZone) (b : Bool) (r : Result Candidate ZonedFault) → GrantedRight m z r → GrantedRight m z (cond b r (Err Limits))
  limited z b r h = cond_both b r (Err Limits) (GrantedRight m z) (λ _. h) (λ _. tt)

  known_at : (n : ℕ) (z : Zone) → m n ≡ z → (s : ℤ) → GrantedRight m (Named n) (at_offset s (carried (offset_answer z s)))
  known_at n (unknown o) e s = tt
  known_at n (known o f) e s = cond_both (in_span s) (Ok (f s)) (Err (OutsideSpan o)) (λ r. GrantedRight m (Named n) (at_offset s (carried r))) (λ _. rw e refl) (λ _. tt)

  at_offset_right : (z : TimeZone) (s : ℤ) → GrantedRight m z (at_offset s (offset_in m z s))
  at_offset_right (Fixed k) s = refl
  at_offset_right (Named n) s = known_at n (m n) refl s

  exactly_right : (z : TimeZone) (L : ℤ) (n : ℕ) (o : ℤ) → GrantedRight m z (exactly m z L n o)
  exactly_right z L n o = limited z (valid_at n (L -ℤ o)) (at_offset (L -ℤ o) (offset_in m z (L -ℤ o))) (at_offset_right z (L -ℤ o))

  unmatched_right : (z : TimeZone) (p : OffsetDisambiguation) (r : Result Candidate ZonedFault) → GrantedRight m z r → GrantedRight m z (unmatched p r)
  unmatched_right z Use r h = h
  unmatched_right z Prefer r h = h
  unmatched_right z Ignore r h = h
  unmatched_right z Refuse r h = tt

  match_right : (z : TimeZone) (q : Bool) (x : ℤ) (found : Candidates) (r : Result Candidate ZonedFault) → AllRight m z found → GrantedRight m z r → GrantedRight m z (matched_or (first_match q x found) r)
  match_right z q x (Gap c b a) r h k = k
  match_right z q x (One a) r h k = cond_both (offset_matches q x a.offset) (Some a) None (λ c. GrantedRight m z (matched_or c r)) (λ _. h) (λ _. k)
  match_right z q x (Two a b) r h k =
      let P : Option Candidate → Type 0 = λ c. GrantedRight m z (matched_or c r) in
      let second : Option Candidate = cond (offset_matches q x b.offset) (Some b) None in
      cond_both (offset_matches q x a.offset) (Some a) second P (λ _. h.0) (λ _. cond_both (offset_matches q x b.offset) (Some b) None P (λ _. h.1) (λ _. k))

  by_match_right : (q : Request) (L : ℤ) (n : ℕ) (x : ℤ) (r : Result Candidates ZoneFault) → GrantedAll m q.zone r → GrantedRight m q.zone (by_match m q L n x r)
  by_match_right q L n x (Ok found) h =
      let c = disambiguated m q.zone L n q.disambiguation found in
      match_right q.zone q.match_minutes x found (unmatched q.policy (raised c)) h (unmatched_right q.zone q.policy (raised c) (raised_right q.zone c (disambiguated_right m q.zone L n q.disambiguation found h)))
  by_match_right q L n x (Err e) h = tt

  matched_right : (q : Request) (L : ℤ) (n : ℕ) (x : ℤ) → GrantedRight m q.zone (matched m q L n x)
  matched_right q L n x = limited q.zone (day_ranged L) (by_match m q L n x (possible m q.zone L n)) (by_match_right q L n x (possible m q.zone L n) (possible_right m q.zone L n))

  wall_right : (q : Request) (L : ℤ) (n : ℕ) → GrantedRight m q.zone (raised (resolved m q.zone L n q.disambiguation))
  wall_right q L n = raised_right q.zone (resolved m q.zone L n q.disambiguation) (resolved_right m q.zone L n q.disambiguation)

  by_policy_right : (p : OffsetDisambiguation) (q : Request) (L : ℤ) (n : ℕ) (x : ℤ) → GrantedRight m q.zone (by_policy p m q L n x)
  by_policy_right Use q L n x = exactly_right q.zone L n x
  by_policy_right Ignore q L n x = wall_right q L n
  by_policy_right Prefer q L n x = matched_right q L n x
  by_policy_right Refuse q L n x = matched_right q L n x

  by_offset_right : (exact : Bool) (o : Option ℤ) (q : Request) (L : ℤ) (n : ℕ) → GrantedRight m q.zone (by_offset exact o m q L n)
  by_offset_right exact (Some x) q L n = by_policy_right q.policy q L n x
  by_offset_right true None q L n = exactly_right q.zone L n (pos 0)
  by_offset_right false None q L n = wall_right q L n

  nanos_right : (z : TimeZone) (n : ℕ) (r : Result Candidate ZonedFault) → GrantedRight m z r → AnswerRight m z (with_nanos n r)
  nanos_right z n (Ok a) h = h
  nanos_right z n (Err e) h = tt

  at_right : (q : Request) (t : Option IsoTime) → AnswerRight m q.zone (interpreted_at m q t)
  at_right q None = nanos_right q.zone 0 (raised (start_of_day m q.zone (local_at q.date None).seconds)) (raised_right q.zone (start_of_day m q.zone (local_at q.date None).seconds) (start_right m q.zone (local_at q.date None).seconds))
  at_right q (Some t) =
      nanos_right q.zone t.nanosecond (by_offset q.exact q.offset m q (as_utc q.date t).seconds t.nanosecond) (by_offset_right q.exact q.offset q (as_utc q.date t).seconds t.nanosecond)

  pub interpreted_right : (q : Request) → AnswerRight m q.zone (interpreted m q)
  interpreted_right q = at_right q q.time
