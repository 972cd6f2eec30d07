use Rattle.std.proofs.Common.{◌≡◌, Some, rules}
use Rattle.script.specs.Requests.{zone_word, date_word, options_one, request_one}
use Rattle.script.specs.Words.{next_word}
use Rattle.script.proofs.command.request.Goals as goal

pub returns : goal.returns
returns c =
    let zone : zone_word (next_word c.args.words.now) ≡ Some c.in_ok-zone.zone = search rules in
    let date : date_word (next_word c.next.new.self) ≡ Some c.in_ok-date.date = search rules in
    request_one c.args.words.now _ _ _ _ _ zone c.next.ensures.steps.1 date c.next-2.ensures.steps.1 (options_one _ _ _ _ c.with_options.ensures)
