-- The lines of a member's calls rise.
use Rattle.std.proofs.Common.{◌∙◌, ℕ, ◌+◌, ◌<◌, ◌++◌, ap, subst, List, [], ◌∷◌}
use Rattle.desk_core.specs.Calls.{call}
use Rattle.desk_core.specs.declared.model.Call.{Call}
use Rattle.announce_board.specs.Asking.{IsAboveAll}
use Rattle.flat_queue.specs.Calling.{LinesRise}

above_one : (n : ℕ) (xs ys : List Call) (c : Call) → IsAboveAll n ((xs ++ c ∷ []) ++ ys) → c.number < n
above_one n [] ys c h = h.0
above_one n (x ∷ xs) ys c h = above_one n xs ys c h.1

pub lines_rise : LinesRise
lines_rise a b c d first second number number' reply reply' between h e k =
    let x = call number (a.pen.posts + 1) first reply in
    above_one number' a.pen.mine between x (subst (IsAboveAll number') (e ∙ ap (λ l. l ++ between) h.member.mine) k.behind)
