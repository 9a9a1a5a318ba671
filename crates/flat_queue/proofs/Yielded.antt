-- The items that the iterator of a vector gives are those of the vector, in their order.
use Rattle.std.proofs.Common.{◌≡◌, List, [], ◌∷◌, ◌++◌, length, slice_get, Some, refl, sym, ◌∙◌, ap, subst}
use Rattle.std.specs.Iterator.{Yields}
use Rattle.std.specs.List.{All}
use Rattle.std.specs.Vec.Iter.{into_iter_items, into_iter_steps}
use Rattle.std.specs.declared.vec.IntoIter.{IntoIter}
use Rattle.std.proofs.lemmas.Option.{slice_get_within, get_or_from_slice_get}

-- what the iterator has given is a front of its items
taken_front : {X A : Type 0} (s : IntoIter X A) (xs : List X) (t : IntoIter X A) → Yields into_iter_steps s xs t → into_iter_items s ≡ xs ++ into_iter_items t
taken_front s [] t y = ap into_iter_items y
taken_front s (x ∷ xs) t y = y.1.0 ∙ ap (λ ys. x ∷ ys) (taken_front y.0 xs t y.2)

behind : {X : Type 0} (xs ys : List X) (x : X) → slice_get (xs ++ x ∷ ys) (length xs) ≡ Some x
behind [] ys x = refl
behind (y ∷ xs) ys x = behind xs ys x

-- the next item stands in the vector at the number of those before
pub given_at : {X A : Type 0} (items xs : List X) (start now next : IntoIter X A) (x : X) → into_iter_items start ≡ items → Yields into_iter_steps start xs now
    → into_iter_steps now (Some x) next → slice_get items (length xs) ≡ Some x
given_at items xs start now next x are before step =
    let whole : items ≡ xs ++ x ∷ into_iter_items next = sym are ∙ (taken_front start xs now before ∙ ap (λ ys. xs ++ ys) step.0) in
    ap (λ l. slice_get l (length xs)) whole ∙ behind xs (into_iter_items next) x

-- so what holds of all items holds of it
pub given_has : {X A : Type 0} (P : X → Type 0) (items xs : List X) (start now next : IntoIter X A) (x : X) → into_iter_items start ≡ items → Yields into_iter_steps start xs now
    → into_iter_steps now (Some x) next → All P items → P x
given_has P items xs start now next x are before step all =
    let there = given_at items xs start now next x are before step in
    subst P (get_or_from_slice_get items (length xs) x x there) (all (length xs) x (slice_get_within items (length xs) x there))
