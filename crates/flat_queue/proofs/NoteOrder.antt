-- A call that was answered before a note was written has its line before each call that is made once the note is heard.
use Rattle.std.proofs.Common.{◌∙◌, ◌+◌, ◌<◌, ◌≤◌, ◌++◌, ap, subst, List, [], ◌∷◌, length, arith, length-append}
use Rattle.std.specs.List.{AllByRecursion}
use Rattle.pq_types.specs.Asked.{Line}
use Rattle.desk_core.specs.CallLines.{IsLineOf}
use Rattle.desk_core.specs.Calls.{call}
use Rattle.desk_core.specs.Rule.{StartsWith}
use Rattle.desk_core.specs.declared.model.Call.{Call}
use Rattle.flat_queue.specs.Notes.{NotesKeepOrder}

of_one : (P : Call → Type 0) (xs ys : List Call) (c : Call) → AllByRecursion P ((xs ++ c ∷ []) ++ ys) → P c
of_one P [] ys c h = h.0
of_one P (x ∷ xs) ys c h = of_one P xs ys c h.1

pub starts_longer : (lines first : List Line) → StartsWith lines first → length first ≤ length lines
starts_longer lines first s = let e = ap length s.1 in let f = length-append first s.0 in omega (arith, e, f)

pub notes_keep_order : NotesKeepOrder
notes_keep_order a b c d first number reply between told called mine wrote e f g h second number' reply' hears knows later =
    let x = call number (a.pen.posts + 1) first reply in
    let stands = of_one (IsLineOf told c.pen.place) a.pen.mine between x (subst (AllByRecursion (IsLineOf told c.pen.place)) (mine ∙ ap (λ l. l ++ between) called.member.mine) wrote.calls) in
    let within : number ≤ length told = stands.within in
    let enough = starts_longer f.pen.known told hears.tells in
    let more = starts_longer g.pen.known f.pen.known knows in
    let beyond : length g.pen.known < number' = later.beyond in
    omega (arith, within, enough, more, beyond)
