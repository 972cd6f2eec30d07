use Rattle.std.proofs.Common.{◌≡◌, ◌+◌, ◌-◌, true, false, ℤ, ◌≤ℤ◌, ◌<ℤ◌, arith, w32, w64, SFits, to_z, of_z, rules}
use Rattle.std.specs.Prelude.{int_lt}
use Rattle.std.proofs.lemmas.Int.{ints}
use Rattle.zone_rows.proofs.Lawful.{ruled}
use Rattle.zone_rows.proofs.Walked.{one_here, gap_here, two_here}
use Rattle.zone_table.specs.Layout.{seconds, offsets}
use Rattle.row_search.proofs.ZoneRows.decided_at.Goals as goal

less : (a b : ℤ) → int_lt a b ≡ true → a <ℤ b
less a b h = grind (arith, ints)

not_less : (a b : ℤ) → int_lt a b ≡ false → b ≤ℤ a
not_less a b h = grind (arith, ints)

-- Each goal has a record of its own, so that what is read out of it stands in each answer.
pub returns-in-true-false-clause-found : goal.returns-in-true-false-clause-found
returns-in-true-false-clause-found c =
    let sec = seconds c.args.self.table.bytes.now c.args.self.base in
    let off = offsets c.args.self.table.bytes.now c.args.self.base in
    let r = ruled sec off c.args.place (c.args.self.last + 1) (omega arith) c.args.self.kept in
    let a = c.row-after.ensures.0 in
    let b = c.row-after.ensures.1 in
    let d = c.row-before.ensures.1 in
    let e = less (to_z w64 (of_z w64 c.reading-early.result.second)) (to_z w64 (of_z w64 c.row-after.result.second)) c.in-true-false.is-0 in
    let l = not_less (to_z w64 (of_z w64 c.reading-late.result.second)) (to_z w64 (of_z w64 c.row-after.result.second)) c.in-true-false.is-1 in
    two_here sec off c.args.place (c.args.place - 1) (omega arith) r c.args.local.second c.reading-early.result c.reading-late.result (omega (arith, ints)) (omega (arith, ints)) (omega (arith, ints)) (omega (arith, ints)) (omega (arith, ints)) (omega (arith, ints))

pub returns-in-false-true-clause-found : goal.returns-in-false-true-clause-found
returns-in-false-true-clause-found c =
    let sec = seconds c.args.self.table.bytes.now c.args.self.base in
    let off = offsets c.args.self.table.bytes.now c.args.self.base in
    let r = ruled sec off c.args.place (c.args.self.last + 1) (omega arith) c.args.self.kept in
    let a = c.row-after.ensures.0 in
    let b = c.row-after.ensures.1 in
    let d = c.row-before.ensures.1 in
    let e = not_less (to_z w64 (of_z w64 c.reading-early.result.second)) (to_z w64 (of_z w64 c.row-after.result.second)) c.in-false-true.is-0 in
    let l = less (to_z w64 (of_z w64 c.reading-late.result.second)) (to_z w64 (of_z w64 c.row-after.result.second)) c.in-false-true.is-1 in
    let f : SFits w64 c.row-after.result.second = search rules in
    let g : SFits w32 c.row-after.result.offset = search rules in
    let h : SFits w32 c.row-before.result.offset = search rules in
    gap_here sec off c.args.place (c.args.place - 1) (omega arith) r c.args.local.second (to_z w64 (of_z w64 c.row-after.result.second)) (to_z w32 (of_z w32 c.row-before.result.offset)) (to_z w32 (of_z w32 c.row-after.result.offset)) (omega (arith, ints)) (omega (arith, ints)) (omega (arith, ints)) (omega (arith, ints)) (omega (arith, ints))

pub returns-in-false-false-clause-found : goal.returns-in-false-false-clause-found
returns-in-false-false-clause-found c =
    let sec = seconds c.args.self.table.bytes.now c.args.self.base in
    let off = offsets c.args.self.table.bytes.now c.args.self.base in
    let r = ruled sec off c.args.place (c.args.self.last + 1) (omega arith) c.args.self.kept in
    let a = c.row-after.ensures.0 in
    let b = c.row-after.ensures.1 in
    let d = c.row-before.ensures.1 in
    let e = not_less (to_z w64 (of_z w64 c.reading-early.result.second)) (to_z w64 (of_z w64 c.row-after.result.second)) c.in-false-false.is-0 in
    let l = not_less (to_z w64 (of_z w64 c.reading-late.result.second)) (to_z w64 (of_z w64 c.row-after.result.second)) c.in-false-false.is-1 in
    one_here sec off c.args.place (c.args.place - 1) (omega arith) r c.args.local.second c.reading-late.result (omega (arith, ints)) (omega (arith, ints)) (omega (arith, ints)) (omega (arith, ints))
