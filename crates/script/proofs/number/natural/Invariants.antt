use Rattle.std.proofs.Common.{◌≡◌, ◌^◌, drop}
use Rattle.script.specs.Numbers.{below, decimal}
use Rattle.script.proofs.Digits.{read_from}
use Rattle.script.proofs.number.natural.Given as goal

abbrev pub invariant-loop-byte : goal.invariant-loop-byte
invariant-loop-byte l = below (2 ^ 64) (decimal l.text) ≡ read_from l.value (drop l.byte-index l.text)
