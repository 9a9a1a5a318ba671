-- Two beginnings of one journal have the longer one in common; and two journals whose common part is the beginning of a lawful
-- journal are both beginnings of it.
use Rattle.std.proofs.Common.{◌≡◌, ℕ, zero, suc, ◌+◌, List, [], ◌∷◌, ◌++◌, map, get_or, refl, ap, sym, ◌∙◌, subst, append-nil}
use mathlib.Core.List.{List-discrete}
use mathlib.Core.Logic.{ite}
use native.Mathlib.Decide.{ℕ_discrete}
use Rattle.pq_types.specs.Item.{Item, item}
use Rattle.pq_types.specs.Asked.{Operation}
use Rattle.pq_types.specs.Asked.{Reply}
use Rattle.pq_types.specs.Asked.{Line}
use Rattle.pq_types.specs.declared.request.Request.TheVariants.{Push, Pop, Least}
use Rattle.pq_types.specs.declared.answer.Reply.TheVariants.{Pushed, Got, Empty, Least as LeastIs}
use Rattle.pq_types.specs.Operation.{Asked, ByTicket, Shuts, Remove, Move}
use Rattle.pq_types.specs.Queue.{reply_to}
use Rattle.pq_types.specs.Entry.{Entry, item_of, entries_after, reply_by}
use Rattle.pq_types.specs.History.{line, line_of, IsLegal, IsLegalFrom}
use Rattle.desk_core.specs.Notes.{with_told}
use Rattle.desk_core.specs.Rule.{StartsWith}
use Rattle.announce_board.specs.InCommon.{operation_number, ticket_asked, item_put, reply_number, item_told, line_numbers, same_line, in_common}

-- an operation from its kind, its ticket and its item, and so a reply
abbrev operation_from : ℕ → ℕ → Item → Operation
operation_from zero i x = Asked (Push x)
operation_from (suc zero) i x = Asked Pop
operation_from (suc (suc zero)) i x = Asked Least
operation_from (suc (suc (suc zero))) i x = ByTicket (Remove i)
operation_from (suc (suc (suc (suc zero)))) i x = ByTicket (Move i x.priority)
operation_from (suc (suc (suc (suc (suc n))))) i x = Shuts

abbrev reply_from : ℕ → Item → Reply
reply_from zero x = Pushed
reply_from (suc zero) x = Got x
reply_from (suc (suc zero)) x = Empty
reply_from (suc (suc (suc n))) x = LeastIs x

operation_again : (o : Operation) → operation_from (operation_number o) (ticket_asked o) (item_put o) ≡ o
operation_again (Asked (Push x)) = refl
operation_again (Asked Pop) = refl
operation_again (Asked Least) = refl
operation_again (ByTicket (Remove i)) = refl
operation_again (ByTicket (Move i priority)) = refl
operation_again Shuts = refl

reply_again : (r : Reply) → reply_from (reply_number r) (item_told r) ≡ r
reply_again Pushed = refl
reply_again (Got x) = refl
reply_again Empty = refl
reply_again (LeastIs x) = refl

-- a line from its numbers
abbrev line_from : List ℕ → Line
line_from ns =
    line_of (get_or ns 0 0) (get_or ns 1 0) (operation_from (get_or ns 2 0) (get_or ns 3 0) (item (get_or ns 4 0) (get_or ns 5 0)))
    (reply_from (get_or ns 6 0) (item (get_or ns 7 0) (get_or ns 8 0)))

line_again : (l : Line) → line_from (line_numbers l) ≡ l
line_again l =
    ap (λ o. line_of l.place l.serial o (reply_from (reply_number l.reply) (item_told l.reply))) (operation_again l.operation)
    ∙ ap (λ r. line_of l.place l.serial l.operation r) (reply_again l.reply)

-- lines of the same numbers are the same
numbers_tell : (x y : Line) → line_numbers x ≡ line_numbers y → x ≡ y
numbers_tell x y e = sym (line_again x) ∙ (ap line_from e ∙ line_again y)

-- a line and itself are the same
itself : (x : Line) → same_line x x ≡ x
itself x = here (List-discrete ℕ_discrete (line_numbers x) (line_numbers x))
  where
    here : (d : Dec (line_numbers x ≡ line_numbers x)) → ite d x (line 0 0 Pop Pushed) ≡ x
    here (yes e) = refl
    here (no n) = absurd (n refl)

-- no queue replies to a pop that an item was pushed
never_pushed : (xs : List Item) → Pushed ≡ reply_to xs Pop → ⊥
never_pushed [] e = cc
never_pushed (x ∷ xs) e = cc

-- lines whose common one has a reply of the queue are the same
apart : (x y : Line) (es : List Entry) → (same_line x y).reply ≡ reply_by es (same_line x y).operation → x ≡ y
apart x y es = here (List-discrete ℕ_discrete (line_numbers x) (line_numbers y))
  where
    here : (d : Dec (line_numbers x ≡ line_numbers y)) → (ite d x (line 0 0 Pop Pushed)).reply ≡ reply_by es (ite d x (line 0 0 Pop Pushed)).operation → x ≡ y
    here (yes e) h = numbers_tell x y e
    here (no n) h = absurd (never_pushed (map item_of es) h)

pub longer_in_common : (known told journal : List Line) → StartsWith journal known → StartsWith journal told → in_common known told ≡ with_told known told
longer_in_common [] told journal f g = refl
longer_in_common (x ∷ xs) [] journal f g = sym (append-nil (x ∷ xs))
longer_in_common (x ∷ xs) (y ∷ ys) [] f g = absurd (let e : ◌≡◌ {A = List Line} [] (x ∷ (xs ++ f.0)) = f.1 in cc)
longer_in_common (x ∷ xs) (y ∷ ys) (z ∷ zs) f g =
    let a : z ∷ zs ≡ x ∷ (xs ++ f.0) = f.1 in
    let b : z ∷ zs ≡ y ∷ (ys ++ g.0) = g.1 in
    let same : y ≡ x = cc in
    let left : zs ≡ xs ++ f.0 = cc in
    let right : zs ≡ ys ++ g.0 = cc in
    ap (λ l. l ∷ in_common xs ys) (ap (same_line x) same ∙ itself x) ∙ ap (λ (l : List Line). x ∷ l) (longer_in_common xs ys zs (f.0, left) (g.0, right))

both_from : (es : List Entry) (n : ℕ) (known told journal : List Line) → IsLegalFrom es n journal → StartsWith journal (in_common known told)
    → StartsWith journal known × StartsWith journal told
both_from es n [] told journal legal s = ((journal, refl), s)
both_from es n (x ∷ xs) [] journal legal s = (s, (journal, refl))
both_from es n (x ∷ xs) (y ∷ ys) [] legal s = absurd (let e : ◌≡◌ {A = List Line} [] (same_line x y ∷ (in_common xs ys ++ s.0)) = s.1 in cc)
both_from es n (x ∷ xs) (y ∷ ys) (z ∷ zs) legal s =
    let a : z ∷ zs ≡ same_line x y ∷ (in_common xs ys ++ s.0) = s.1 in
    let head : z ≡ same_line x y = cc in
    let tail : zs ≡ in_common xs ys ++ s.0 = cc in
    let same : x ≡ y = apart x y es (subst (λ (l : Line). l.reply ≡ reply_by es l.operation) head legal.0) in
    let first : z ≡ x = head ∙ (ap (same_line x) (sym same) ∙ itself x) in
    let rest = both_from (entries_after es n z.operation) (n + 1) xs ys zs legal.1 (s.0, tail) in (
      (rest.0.0, ap (λ (l : Line). l ∷ zs) first ∙ ap (λ (ls : List Line). x ∷ ls) rest.0.1),
      (rest.1.0, ap (λ (l : Line). l ∷ zs) (first ∙ same) ∙ ap (λ (ls : List Line). y ∷ ls) rest.1.1),
    )

pub both_begin : (known told journal : List Line) → IsLegal journal → StartsWith journal (in_common known told)
    → StartsWith journal known × StartsWith journal told
both_begin known told journal legal s = both_from [] 1 known told journal legal s
