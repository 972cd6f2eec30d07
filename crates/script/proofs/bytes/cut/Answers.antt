use Rattle.std.proofs.Common.{◌≡◌, ◌<◌, length, arith}
use Rattle.std.proofs.lemmas.Grind.{common_steps}
use Rattle.script.specs.Cuts.{place}
use Rattle.script.proofs.Cutting.{place_is}
use Rattle.script.proofs.bytes.cut.Goals as goal

pub returns : goal.returns
returns c =
    let first : c.in_ok-at.at ≡ place c.args.separator c.args.text.now = grind (arith, place_is) in
    let within : c.in_ok-at.at < length c.args.text.now = grind (arith, place_is) in
    grind (arith, common_steps)
