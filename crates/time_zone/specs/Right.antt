-- What every answer keeps, in the subject's words: an instant comes with its zone's own offset there.
use Rattle.std.specs.Prelude.{◌≡◌, ℤ, pos, ◌*ℤ◌, Ok, Err, Result}
use Rattle.offsets.specs.declared.Candidate.{Candidate}
use Rattle.offsets.specs.declared.Candidates.{Candidates}
use Rattle.offsets.specs.declared.Candidates.TheVariants.{Gap, One, Two}
use Rattle.provider.specs.Meaning.{Zone, unknown, known, Meaning}
use Rattle.time_zone.specs.declared.TimeZone.{TimeZone}
use Rattle.time_zone.specs.declared.TimeZone.TheVariants.{Named, Fixed}

-- The zone is known, and this is its offset at the second.
abbrev pub KnownOffset : Zone → ℤ → ℤ → Type 0
KnownOffset (unknown o) s x = ⊥
KnownOffset (known o f) s x = x ≡ f s

-- The fixed offset, or the provider's at the second.
abbrev pub OffsetIs : Meaning → TimeZone → ℤ → ℤ → Type 0
OffsetIs m (Fixed k) s x = x ≡ k *ℤ pos 60
OffsetIs m (Named n) s x = KnownOffset (m n) s x

-- A candidate has its zone's offset.
abbrev pub Right : Meaning → TimeZone → Candidate → Type 0
Right m z a = OffsetIs m z a.second a.offset

-- So has each candidate, and the change of a gap has the offset after it.
abbrev pub AllRight : Meaning → TimeZone → Candidates → Type 0
AllRight m z (Gap c before after) = OffsetIs m z c after
AllRight m z (One a) = Right m z a
AllRight m z (Two a b) = Right m z a × Right m z b

-- What is granted is right.
abbrev pub GrantedRight : {E : Type 0} → Meaning → TimeZone → Result Candidate E → Type 0
GrantedRight m z (Ok a) = Right m z a
GrantedRight m z (Err e) = Unit {0}

abbrev pub GrantedAll : {E : Type 0} → Meaning → TimeZone → Result Candidates E → Type 0
GrantedAll m z (Ok x) = AllRight m z x
GrantedAll m z (Err e) = Unit {0}
