-- What a zone number means to a provider.
use Rattle.std.specs.Prelude.{ℕ, ℤ}
use Rattle.provider.specs.declared.Source.{Source}

-- A zone number is unknown, or known by its offset at each second. Either way it has the source that refusals of it carry.
pub data Zone : Type 0 where
  unknown : Source → Zone
  known : Source → (ℤ → ℤ) → Zone

-- A provider's meaning: each zone number's.
abbrev pub Meaning : Type 0
Meaning = ℕ → Zone

-- What a fact says of a known zone; nothing of an unknown one.
abbrev pub Each : Zone → ((ℤ → ℤ) → Type 0) → Type 0
Each (unknown o) P = Unit {0}
Each (known o f) P = P f
