-- The arrival of a granted set is in range and has its zone's own offset.
use Rattle.std.proofs.Common.{◌≡◌, ℕ, true, IfOk, Ok, Err, Result, sym}
use Rattle.std.proofs.lemmas.Bool.{cond_both}
use Rattle.std.proofs.lemmas.Result.{IfOk-weaker, IfOk-at_ok}
use Rattle.clock.specs.Instants.{valid_epoch}
use Rattle.provider.specs.Meaning.{Meaning}
use Rattle.zoned.specs.Interpret.{interpreted}
use Rattle.time_zone.specs.Right.{OffsetIs}
use Rattle.zoned.specs.Right.{AnswerRight}
use Rattle.zoned.specs.declared.EpochNanosecondsAndOffset.{EpochNanosecondsAndOffset}
use Rattle.zoned.specs.declared.Request.{Request}
use Rattle.time_zone.specs.declared.TimeZone.{TimeZone}
use Rattle.zoned.specs.declared.ZonedFault.{ZonedFault}
use Rattle.zoned.specs.declared.ZonedFault.TheVariants.{Range}
use Rattle.zoned.proofs.Kept.{interpreted_right}
use Rattle.sheet.specs.Refusals.{at_berth, lifted}
use Rattle.sheet.specs.Calls.{entry, made_from, then_checked, arrived}
use Rattle.sheet.specs.declared.Arrival.{Arrival}

module _ (m : Meaning) where
  -- What an arrival keeps.
  record Kept (a : Arrival) : Type 0 where
    pub ranged : valid_epoch a.instant ≡ true
    pub right : OffsetIs m a.zone a.instant.seconds a.offset

  made_kept : (z : TimeZone) (r : Result EpochNanosecondsAndOffset ZonedFault) → AnswerRight m z r → IfOk (made_from z r) Kept
  made_kept z (Ok e) h = cond_both (valid_epoch e.ns) (Ok (record { zone = z; instant = e.ns; offset = e.offset })) (Err Range) (λ r. IfOk r Kept) (λ p. record { ranged = p; right = h }) (λ _. tt)
  made_kept z (Err e) h = tt

  entered : (c : Result Unit ZonedFault) (r : Result Arrival ZonedFault) → IfOk r Kept → IfOk (then_checked c r) Kept
  entered (Ok u) r h = h
  entered (Err e) r h = tt

  arrived_kept : (q : Request) → IfOk (arrived m q) Kept
  arrived_kept q = entered (entry m q) (made_from q.zone (interpreted m q)) (made_kept q.zone (interpreted m q) (interpreted_right m q))

  pub arrived_right : (q : Request) → IfOk (arrived m q) (λ a. OffsetIs m a.zone a.instant.seconds a.offset)
  arrived_right q = IfOk-weaker (arrived m q) Kept (λ a. OffsetIs m a.zone a.instant.seconds a.offset) (λ a k. k.right) (arrived_kept q)

  at_berth_kept : (b : ℕ) (r : Result Arrival ZonedFault) → IfOk r Kept → IfOk (at_berth b (lifted r)) Kept
  at_berth_kept b (Ok a) h = h
  at_berth_kept b (Err e) h = tt

  kept : (b : ℕ) (q : Request) (a : Arrival) → Ok a ≡ at_berth b (lifted (arrived m q)) → Kept a
  kept b q a h = IfOk-at_ok Kept (sym h) (at_berth_kept b (arrived m q) (arrived_kept q))

  pub answer_ranged : (b : ℕ) (q : Request) (a : Arrival) → Ok a ≡ at_berth b (lifted (arrived m q)) → valid_epoch a.instant ≡ true
  answer_ranged b q a h = (kept b q a h).ranged

  pub answer_right : (b : ℕ) (q : Request) (a : Arrival) → Ok a ≡ at_berth b (lifted (arrived m q)) → OffsetIs m a.zone a.instant.seconds a.offset
  answer_right b q a h = (kept b q a h).right
