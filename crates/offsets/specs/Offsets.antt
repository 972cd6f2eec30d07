-- A zone's offset at every whole second, and the two laws that it keeps. Seconds and offsets are whole numbers of any size.
use Rattle.std.specs.Prelude.{◌≡◌, ℕ, ◌+◌, ℤ, pos, negsuc, ◌+ℤ◌, ◌-ℤ◌, ◌≤ℤ◌, ◌<ℤ◌, unsigned_abs}

-- Every offset is less than a day either way.
abbrev pub Bounded : (ℤ → ℤ) → Type 0
Bounded f = (t : ℤ) → (negsuc 86398 ≤ℤ f t) × (f t ≤ℤ pos 86399)

-- A change is a second whose offset differs from that of the second before; the difference is its jump.
abbrev pub Changes : (ℤ → ℤ) → ℤ → Type 0
Changes f c = f (c -ℤ pos 1) ≡ f c → ⊥

-- The size of a change's jump.
abbrev pub jump : (ℤ → ℤ) → ℤ → ℕ
jump f c = unsigned_abs (f c -ℤ f (c -ℤ pos 1))

-- Two changes with none between them.
pub record Neighbours (f : ℤ → ℤ) (c d : ℤ) : Type 0 where
  pub first : Changes f c
  pub second : Changes f d
  pub order : c <ℤ d
  pub none : (e : ℤ) → c <ℤ e → e <ℤ d → Changes f e → ⊥

-- Neighbouring changes lie farther apart than the sum of the sizes of their jumps.
abbrev pub Spaced : (ℤ → ℤ) → Type 0
Spaced f = (c d : ℤ) → Neighbours f c d → (c +ℤ pos (jump f c + jump f d)) <ℤ d

-- Any two changes do.
abbrev pub Apart : (ℤ → ℤ) → Type 0
Apart f = (c d : ℤ) → Changes f c → Changes f d → c <ℤ d → (c +ℤ pos (jump f c + jump f d)) <ℤ d
