-- The laws by their lemmas. Three of them, named on the function, do not close: a variable shows only in a premise.
use Rattle.std.proofs.Common.{sym, ◌∙◌, arith}
use Rattle.std.proofs.lemmas.Int.{ints}
use Rattle.offsets.proofs.Neighbours.{spaced_apart}
use Rattle.offsets.proofs.Sides.{only_gap}
use Rattle.offsets.proofs.Members.{just_readers}
use Rattle.offsets.proofs.Listed.{determined}
use Rattle.offsets.proofs.Walk.{doubled, no_three}
use Rattle.offsets.proofs.Scan.{begins, no_reader_gap, gap_no_reader, gap_starts, first_starts, starts_rise}
use Rattle.offsets.proofs.Moved.{moved_once}
use Rattle.offsets.proofs.Answered.{answered}
use Rattle.offsets.proofs.laws_hold.Goals as goal

pub returns : goal.returns
returns c =
    record {
      apart = spaced_apart;
      at_most_two = λ f s L t u v r q p h k. no_three f (spaced_apart f s) t u v h k (r ∙ sym q) (q ∙ sym p);
      two_by_one = λ f s L t u r q h. doubled f (spaced_apart f s) t u h (r ∙ sym q);
      gap_or_reader = record { gap = no_reader_gap; empty = λ f s. gap_no_reader f (spaced_apart f s) };
      one_gap = λ f s L c b a d e g h k. only_gap f (spaced_apart f s) L c (omega (arith, ints)) (omega (arith, ints)) d (omega (arith, ints)) (omega (arith, ints));
      one_answer = determined;
      some_answer = answered;
      just_readers = just_readers;
      moved_times = λ f s. moved_once f (spaced_apart f s);
      beginnings = record { some = begins; reader = λ f b s. first_starts f b (spaced_apart f s); leap = λ f s. gap_starts f (spaced_apart f s); rise = starts_rise };
    }
