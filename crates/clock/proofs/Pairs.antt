-- A pair is its seconds and its nanoseconds.
use Rattle.std.proofs.Common.{◌≡◌, ℕ, ℤ, ap, ◌∙◌}
use Rattle.clock.specs.declared.Timespec.{Timespec}

pub same_pair : (a b : Timespec) → a.seconds ≡ b.seconds → a.nanos ≡ b.nanos → a ≡ b
same_pair a b e f =
    let g : ℤ → Timespec = λ s. record { seconds = s; nanos = a.nanos } in
    let h : ℕ → Timespec = λ n. record { seconds = b.seconds; nanos = n } in
    ap g e ∙ ap h f
