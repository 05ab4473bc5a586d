use Rattle.std.proofs.Common.{◌≡◌, IfOk, subst, sym}
use Rattle.og_syntax.proofs.games.+game_copies.Goals as goal

pub GameTree::copy-returns-in-Block : goal.GameTree::copy-returns-in-Block
GameTree::copy-returns-in-Block t c =
    subst (λ g. IfOk c.boxed_block.result (λ made. made ≡ g)) (sym c.in-Block.is)
    (c.boxed_block.ensures _
    (subst (λ b. IfOk c.copy_border.result (λ made. made ≡ b)) c.get-block.ensures
    (c.copy_border.ensures _ c.copy_lines-lines.ensures)))

pub GameTree::copy-returns-in-Branch : goal.GameTree::copy-returns-in-Branch
GameTree::copy-returns-in-Branch t c =
    subst (λ g. IfOk c.branch-at.result (λ made. made ≡ g)) (sym c.in-Branch.is)
    (c.branch-at.ensures _ _ c.copy-in-Branch.ensures c.copy_arms.ensures)
