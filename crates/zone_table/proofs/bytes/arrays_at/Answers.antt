use Rattle.std.proofs.Common.{◌≡◌, ℕ, ◌-◌, ◌/◌, List, [], length, get_or, take, drop, ap, ◌∙◌, arith}
use Rattle.std.proofs.lemmas.List.{length-drop, take_rest}
use Rattle.std.proofs.lemmas.Nat.{le-div}
use Rattle.zone_table.proofs.Arrays.{chunk_from}
use Rattle.zone_table.proofs.bytes.arrays_at.Goals as goal

pub returns-clause-each : goal.returns-clause-each
returns-clause-each g c =
    let rest = take (length c.args.bytes.now - c.args.at) (drop c.args.at c.args.bytes.now) in
    let same : rest ≡ drop c.args.at c.args.bytes.now = take_rest c.args.bytes.now c.args.at in
    let enough = le-div c.args.count (length rest) g.row.N c.requires.some (omega (arith, ap length same, length-drop c.args.at c.args.bytes.now)) in
    λ i l. ap (λ (xs : List (List ℕ)). get_or (take c.args.count xs) i []) c.as_chunks.ensures.front ∙ chunk_from c.args.bytes.now rest c.args.at g.row.N (length rest / g.row.N) c.args.count i same enough l
