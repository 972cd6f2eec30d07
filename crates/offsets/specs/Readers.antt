-- What reads a local time.
use Rattle.std.specs.Prelude.{◌≡◌, ◌⊎◌, ℤ, pos, ◌+ℤ◌, ◌-ℤ◌, ◌≤ℤ◌, ◌<ℤ◌}
use Rattle.offsets.specs.declared.Candidate.{Candidate}
use Rattle.offsets.specs.declared.Candidates.{Candidates}
use Rattle.offsets.specs.declared.Candidates.TheVariants.{Gap, One, Two}

-- The instant t reads the local time L.
abbrev pub Reads : (ℤ → ℤ) → ℤ → ℤ → Type 0
Reads f L t = t +ℤ f t ≡ L

-- The candidate reads L, and its offset is the one there.
abbrev pub Reading : (ℤ → ℤ) → ℤ → Candidate → Type 0
Reading f L a = Reads f L a.second × (a.offset ≡ f a.second)

-- The change c, with these offsets before and after it, leaps over L.
abbrev pub Leaps : (ℤ → ℤ) → ℤ → ℤ → ℤ → ℤ → Type 0
Leaps f L c before after = (before ≡ f (c -ℤ pos 1)) × (after ≡ f c) × ((c +ℤ before) ≤ℤ L) × (L <ℤ (c +ℤ after))

-- These are all the instants that read L, ascending, each with its offset; or there is none, and this is the gap that L falls into.
abbrev pub Found : (ℤ → ℤ) → ℤ → Candidates → Type 0
Found f L (One a) = Reading f L a × ((t : ℤ) → Reads f L t → t ≡ a.second)
Found f L (Two a b) = Reading f L a × Reading f L b × (a.second <ℤ b.second) × ((t : ℤ) → Reads f L t → (t ≡ a.second) ⊎ (t ≡ b.second))
Found f L (Gap c before after) = ((t : ℤ) → Reads f L t → ⊥) × (before ≡ f (c -ℤ pos 1)) × (after ≡ f c) × ((c +ℤ before) ≤ℤ L) × (L <ℤ (c +ℤ after))
