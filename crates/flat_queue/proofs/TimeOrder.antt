-- Calls stand in the journal in the order in which they were made in time.
use Rattle.std.proofs.Common.{◌≡◌, ◌∙◌, ◌+◌, ◌++◌, ap, List, [], ◌∷◌, length, refl}
use Rattle.std.specs.Prelude.{Some, slice_get}
use Rattle.desk_core.specs.Calls.{call}
use Rattle.desk_core.specs.Witnessed.{LinearizedFollowTime}
use Rattle.flat_queue.specs.TimeOrder.{MembersFollowTime}

-- what stood at the end of a list stands there in a longer one
there : {A : Type 0} (xs ys : List A) (x : A) → slice_get ((xs ++ x ∷ []) ++ ys) (length xs) ≡ Some x
there [] ys x = refl
there (y ∷ xs) ys x = there xs ys x

stays : {A : Type 0} (all before xs more : List A) (x : A) → before ≡ xs ++ x ∷ [] → all ≡ before ++ more → slice_get all (length xs) ≡ Some x
stays all before xs more x e f = ap (λ l. slice_get l (length xs)) (f ∙ ap (λ l. l ++ more) e) ∙ there xs more x

pub members_follow_time : LinearizedFollowTime → MembersFollowTime
members_follow_time follow room pens i j a b f c e g first second number number' reply reply' fit at at' one on other on' earlier =
    let x = call number (a.pen.posts + 1) first reply in
    let y = call number' (c.pen.posts + 1) second reply' in
    follow room pens fit i j (length a.pen.mine) (length c.pen.mine) f.pen g.pen x y one.times.ended other.times.began at at'
    (stays f.pen.mine b.pen.mine a.pen.mine on.calls x one.member.mine on.mine)
    (stays g.pen.mine e.pen.mine c.pen.mine on'.calls y other.member.mine on'.mine)
    (length a.pen.ends, stays f.pen.ends b.pen.ends a.pen.ends on.over (a.pen.posts + 1, one.times.ended) one.times.ends on.ends)
    (length c.pen.begins, stays g.pen.begins e.pen.begins c.pen.begins on'.more (c.pen.posts + 1, other.times.began) other.times.begins on'.begins)
    earlier
