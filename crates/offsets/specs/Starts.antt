-- Where a local time begins.
use Rattle.std.specs.Prelude.{ℤ, ◌+ℤ◌, ◌≤ℤ◌}

-- The earliest instant whose reading is M or later.
pub record Starts (f : ℤ → ℤ) (M s : ℤ) : Type 0 where
  pub reads : M ≤ℤ (s +ℤ f s)
  pub earliest : (t : ℤ) → M ≤ℤ (t +ℤ f t) → s ≤ℤ t
