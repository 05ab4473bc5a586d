use Rattle.std.proofs.Common.{rules, ◌≡◌, ◌∙◌, ◌<◌, length, get_or, ap, sym}
use Rattle.std.specs.Option.{option_copied, option_map}
use Rattle.og_game.specs.Choices.{choices_of}
use Rattle.og_game.proofs.Found.{found_here}
use Rattle.og_game.proofs.allowed.+finding.Goals as goal

pub in_arms-returns-in-Some : goal.in_arms-returns-in-Some
in_arms-returns-in-Some t c =
    let lt : c.arms.arm-index < length c.args.arms.now = search rules in
    let is : c.arm-item.result ≡ get_or c.args.arms.now c.arms.arm-index c.arm-item.result = cc in
    let some = sym c.answer.ensures ∙ ap (option_map option_copied) c.in-Some.is in
    sym (found_here c.args.d c.args.seen (λ arm. choices_of arm.game) c.args.arms.now c.arms.arm-index c.arm-item.result
    (option_copied c.in-Some.found) lt is some) ∙ c.arms.invariant

pub in_lines-returns-in-Some : goal.in_lines-returns-in-Some
in_lines-returns-in-Some t c =
    let lt : c.lines.line-index < length c.args.lines.now = search rules in
    let is : c.line-item.result ≡ get_or c.args.lines.now c.lines.line-index c.line-item.result = cc in
    let some = sym c.answer.ensures ∙ ap (option_map option_copied) c.in-Some.is in
    sym (found_here c.args.d c.args.seen (λ line. choices_of line.operation) c.args.lines.now c.lines.line-index c.line-item.result
    (option_copied c.in-Some.found) lt is some) ∙ c.lines.invariant
