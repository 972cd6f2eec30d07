use Rattle.std.proofs.Common.{◌≡◌, ◌==◌, ◌&&◌, not, arith, rules, tests}
use Rattle.std.proofs.lemmas.Iterator.{YieldsList-from_slice}
use Rattle.std.proofs.lemmas.Iterator.Search.{all_from_yields_List}
use Rattle.std.specs.Char.{is_ascii}
use Rattle.std.specs.List.{list_all}
use Rattle.script.proofs.command.is_path.Goals as goal

pub returns-then-not-is_empty : goal.returns-then-not-is_empty
returns-then-not-is_empty c =
    let every : c.all.result ≡ list_all (λ b. not (b == 0) && is_ascii b) c.args.text.now = all_from_yields_List (λ b. not (b == 0) && is_ascii b) _ _ c.all.result c.all.ensures.ran (YieldsList-from_slice c.args.text.now cc) (λ x b q k. search (rules, tests)) in
    grind (arith, every)
