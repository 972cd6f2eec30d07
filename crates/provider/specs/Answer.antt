-- What a provider answers, by the meaning of the zone that it is asked about.
use Rattle.std.specs.Prelude.{◌≡◌, ℕ, Bool, cond, ◌&&◌, ℤ, pos, negsuc, Ok, Err, Result, int_le}
use Rattle.offsets.specs.Readers.{Found}
use Rattle.offsets.specs.Possible.{candidates_at}
use Rattle.offsets.specs.declared.Candidates.{Candidates}
use Rattle.provider.specs.Meaning.{Zone, unknown, known}
use Rattle.provider.specs.declared.End.{End}
use Rattle.provider.specs.declared.End.TheVariants.{Table, Rule, Fence}
use Rattle.provider.specs.declared.Source.{Source}
use Rattle.provider.specs.declared.ProviderFault.{ProviderFault}
use Rattle.provider.specs.declared.ProviderFault.TheVariants.{UnknownZone, OutsideSpan}

-- The ends by their numbers.
abbrev pub end_number : End → ℕ
end_number Table = 1
end_number Rule = 2
end_number Fence = 3

-- The provider's refusals by their numbers.
abbrev pub fault_number : ProviderFault → ℕ
fault_number (UnknownZone o) = 3
fault_number (OutsideSpan o) = 7

-- The end that refused and the number asked there.
abbrev pub source_of : ProviderFault → Source
source_of (UnknownZone o) = o
source_of (OutsideSpan o) = o

abbrev pub source_at : End → ℕ → Source
source_at e n = record { end = e; zone = n }

-- The seconds that a provider may be asked about.
abbrev pub in_span : ℤ → Bool
in_span s = int_le (negsuc 8640000259199) s && int_le s (pos 8640000259200)

-- An unknown zone is refused first, then a second outside the span, and nothing else.
abbrev pub offset_answer : Zone → ℤ → Result ℤ ProviderFault
offset_answer (unknown o) s = Err (UnknownZone o)
offset_answer (known o f) s = cond (in_span s) (Ok (f s)) (Err (OutsideSpan o))

-- The answer is granted, and is all that reads L, or its gap.
abbrev pub found_in : (ℤ → ℤ) → ℤ → Result Candidates ProviderFault → Type 0
found_in f L (Ok c) = Found f L c
found_in f L (Err e) = ⊥

-- The candidates question is refused in the same order, and else granted.
abbrev pub CandidatesAnswer : Zone → ℤ → Result Candidates ProviderFault → Type 0
CandidatesAnswer (unknown o) L r = r ≡ Err (UnknownZone o)
CandidatesAnswer (known o f) L r = cond (in_span L) (found_in f L r) (r ≡ Err (OutsideSpan o))

-- The one answer that meets this (its laws given): the readers of L by the zone's offsets alone.
abbrev pub candidates_answer : Zone → ℤ → Result Candidates ProviderFault
candidates_answer (unknown o) L = Err (UnknownZone o)
candidates_answer (known o f) L = cond (in_span L) (Ok (candidates_at f L)) (Err (OutsideSpan o))
