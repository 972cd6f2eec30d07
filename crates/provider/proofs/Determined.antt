-- What a provider ensures of the candidates question leaves one answer.
use Rattle.std.proofs.Common.{◌≡◌, Bool, true, false, cond, ℤ, Ok, Err, Result, ap}
use Rattle.offsets.specs.Offsets.{Bounded, Spaced}
use Rattle.offsets.specs.Possible.{candidates_at}
use Rattle.offsets.specs.declared.Candidates.{Candidates}
use Rattle.offsets.proofs.Listed.{determined}
use Rattle.provider.specs.Meaning.{Zone, unknown, known, Each}
use Rattle.provider.specs.Answer.{in_span, found_in, CandidatesAnswer, candidates_answer}
use Rattle.provider.specs.declared.ProviderFault.{ProviderFault}

by_span : (refused : ProviderFault) (f : ℤ → ℤ) → Bounded f → Spaced f → (L : ℤ) (r : Result Candidates ProviderFault) (b : Bool) → cond b (found_in f L r) (r ≡ Err refused) → r ≡ cond b (Ok (candidates_at f L)) (Err refused)
by_span refused f bound spaced L r false h = h
by_span refused f bound spaced L (Ok x) true h = ap Ok (determined f bound spaced L x h)
by_span refused f bound spaced L (Err e) true h = absurd h

pub one_answer : (z : Zone) → Each z Bounded → Each z Spaced → (L : ℤ) (r : Result Candidates ProviderFault) → CandidatesAnswer z L r → r ≡ candidates_answer z L
one_answer (unknown o) bound spaced L r h = h
one_answer (known o f) bound spaced L r h = by_span _ f bound spaced L r (in_span L) h
