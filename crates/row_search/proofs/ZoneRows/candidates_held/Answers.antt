use Rattle.std.proofs.Common.{◌≡◌, ℕ, ◌+◌, ◌-◌, subst, arith}
use Rattle.std.proofs.lemmas.Int.{ints}
use Rattle.offsets.specs.Readers.{Found}
use Rattle.offsets.specs.declared.Candidates.TheVariants.{One}
use Rattle.zone_rows.specs.Rows.{held}
use Rattle.zone_rows.proofs.Lawful.{ruled}
use Rattle.zone_rows.proofs.Walked.{down_here, one_first}
use Rattle.zone_table.specs.Layout.{seconds, offsets}
use Rattle.row_search.proofs.ZoneRows.candidates_held.Goals as goal

pub loop-place-preserved : goal.loop-place-preserved
loop-place-preserved c =
    let sec = seconds c.args.self.table.bytes.now c.args.self.base in
    let off = offsets c.args.self.table.bytes.now c.args.self.base in
    let r = ruled sec off c.loop-place.place (c.args.self.last + 1) (omega arith) c.args.self.kept in
    let b = c.in_default.ensures.early in
    let a = c.in_default.ensures.late in
    (omega arith, λ x found. c.loop-place.invariant.1 x (down_here sec off c.loop-place.place (c.loop-place.place - 1) (omega arith) r c.args.local.second (omega (arith, ints)) (omega (arith, ints)) x found))

pub returns : goal.returns
returns c =
    let sec = seconds c.args.self.table.bytes.now c.args.self.base in
    let off = offsets c.args.self.table.bytes.now c.args.self.base in
    let b = c.row.ensures.1 in
    let none : 0 ≡ c.loop-place.place = omega arith in
    let P : ℕ → Type 0 = λ n. Found (held sec off n) c.args.local.second (One c.reading.result) in
    let first = one_first sec off c.args.local.second c.reading.result (omega (arith, ints)) (omega (arith, ints)) in
    c.loop-place.invariant.1 (One c.reading.result) (subst P none first)
