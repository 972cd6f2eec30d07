-- Resolution and the start of a day, not by their steps but by what they give.
use Rattle.std.specs.Prelude.{◌≡◌, ℕ, ◌⊎◌, ℤ, pos, ◌-ℤ◌, ◌*ℤ◌, ◌≤ℤ◌, Ok}
use Rattle.offsets.specs.declared.Candidate.{Candidate}
use Rattle.offsets.specs.Offsets.{Bounded, Spaced}
use Rattle.offsets.specs.Readers.{Reads, Leaps}
use Rattle.offsets.specs.Starts.{Starts}
use Rattle.provider.specs.Meaning.{Zone, unknown, known, Meaning, Each}
use Rattle.time_zone.specs.declared.TimeZone.{TimeZone}
use Rattle.time_zone.specs.declared.TimeZone.TheVariants.{Named, Fixed}
use Rattle.time_zone.specs.declared.Disambiguation.{Disambiguation}
use Rattle.time_zone.specs.declared.Disambiguation.TheVariants.{Compatible, Earlier, Later, Reject}
use Rattle.time_zone.specs.Instants.{resolved, start_of_day}

-- Every zone that is known keeps both laws.
abbrev pub Lawful : Meaning → Type 0
Lawful m = (n : ℕ) → Each (m n) Bounded × Each (m n) Spaced

-- The zone is known, and this holds of its offsets.
abbrev pub KnownBy : Zone → ((ℤ → ℤ) → Type 0) → Type 0
KnownBy (unknown o) P = ⊥
KnownBy (known o f) P = P f

-- The same of a named zone and of a fixed one, whose offset never changes.
abbrev pub InZone : Meaning → TimeZone → ((ℤ → ℤ) → Type 0) → Type 0
InZone m (Fixed k) P = P (λ s. k *ℤ pos 60)
InZone m (Named q) P = KnownBy (m q) P

-- The first, the last and the only instant that reads L.
pub record FirstReader (f : ℤ → ℤ) (L t : ℤ) : Type 0 where
  pub reads : Reads f L t
  pub least : (u : ℤ) → Reads f L u → t ≤ℤ u

pub record LastReader (f : ℤ → ℤ) (L t : ℤ) : Type 0 where
  pub reads : Reads f L t
  pub greatest : (u : ℤ) → Reads f L u → u ≤ℤ t

pub record OnlyReader (f : ℤ → ℤ) (L t : ℤ) : Type 0 where
  pub reads : Reads f L t
  pub only : (u : ℤ) → Reads f L u → u ≡ t

-- L falls into a gap, and t is L less the offset before it; less the offset after it.
pub record ByBefore (f : ℤ → ℤ) (L t : ℤ) : Type 0 where
  pub change : ℤ
  pub before : ℤ
  pub after : ℤ
  pub leaps : Leaps f L change before after
  pub is : t ≡ L -ℤ before

pub record ByAfter (f : ℤ → ℤ) (L t : ℤ) : Type 0 where
  pub change : ℤ
  pub before : ℤ
  pub after : ℤ
  pub leaps : Leaps f L change before after
  pub is : t ≡ L -ℤ after

-- What each way of resolution gives, in closed form.
abbrev pub Gives : Disambiguation → (ℤ → ℤ) → ℤ → ℤ → Type 0
Gives Compatible f L t = FirstReader f L t ⊎ ByBefore f L t
Gives Earlier f L t = FirstReader f L t ⊎ ByAfter f L t
Gives Later f L t = LastReader f L t ⊎ ByBefore f L t
Gives Reject f L t = OnlyReader f L t

-- Whatever resolution grants is what its way gives, with the zone's offset there.
abbrev pub ResolutionIs : Type 0
ResolutionIs = (m : Meaning) → Lawful m → (z : TimeZone) (L : ℤ) (n : ℕ) (d : Disambiguation) (a : Candidate) → resolved m z L n d ≡ Ok a → InZone m z (λ f. Gives d f L a.second × (a.offset ≡ f a.second))

-- Whatever is granted as the start of a day is the earliest instant that reads its midnight or later, with the zone's offset there.
abbrev pub StartIs : Type 0
StartIs = (m : Meaning) → Lawful m → (z : TimeZone) (M : ℤ) (a : Candidate) → start_of_day m z M ≡ Ok a → InZone m z (λ f. Starts f M a.second × (a.offset ≡ f a.second))
