-- What serving one place after the other makes of the leader.
use Rattle.std.proofs.Common.{◌≡◌, ◌∙◌, ℕ, ◌+◌, ◌≤◌, ◌++◌, ◌==◌, if◌then◌else◌, arith, sym, ap, subst, refl, true, false, Bool, List, [], ◌∷◌, get_or, inl, inr, ◌⊎◌}
use Rattle.split_grid.specs.Tokens.{Resting}
use Rattle.split_grid.specs.Calls.{IsStill}
use Rattle.flat_queue.specs.declared.waiting.DeskTag.{DeskTag}
use Rattle.std.specs.Prelude.{Option, Some, None}
use Rattle.std.specs.List.{Contains}
use Rattle.std.proofs.lemmas.List.{append-nil, append_assoc, length_push}
use Rattle.std.proofs.lemmas.Bool.{eqb-true, eqb-false}
use Rattle.std.proofs.lemmas.List.Elements.{Contains-append_cases}
use Rattle.pq_types.specs.Item.{Item}
use Rattle.pq_types.specs.Asked.{Request}
use Rattle.pq_types.specs.declared.request.Request.TheVariants.{Push, Pop, Least}
use Rattle.pq_types.specs.Asked.{Answer}
use Rattle.pq_types.specs.declared.control.Control.{Control}
use Rattle.pq_types.specs.Control.{is_answer, answer_item, answered, posted}
use Rattle.pq_book.specs.Book.{Volume}
use Rattle.desk_core.specs.declared.model.PenState.{PenState}
use Rattle.desk_core.specs.declared.model.Standing.TheVariants.{Waiting}
use Rattle.announce_board.specs.Serving.{ServesWhereBy, found_posted_by, laid_and_answered_by, due_of}
use Rattle.flat_queue.specs.Sweeping.{one_if, SweepsBy, KeepsServing, IsServedBy}

keeps_trans : (p q r : PenState) → KeepsServing p q → KeepsServing q r → KeepsServing p r
keeps_trans p q r a b =
    record { place = b.place ∙ a.place; room = b.room ∙ a.room; posts = b.posts ∙ a.posts; standing = b.standing ∙ a.standing; mine = b.mine ∙ a.mine; known = b.known ∙ a.known; begins = b.begins ∙ a.begins; ends = b.ends ∙ a.ends }

-- the reading and the answering change nothing of that
keeps_served : (words : ℕ) (p : PenState) (place serial : ℕ) (request : Request) (answer : Answer) (x : Option Item) → KeepsServing p (laid_and_answered_by words x (found_posted_by words p place serial request) (due_of place serial request) request answer)
keeps_served words p place serial (Push y) answer None = record { place = refl; room = refl; posts = refl; standing = refl; mine = refl; known = refl; begins = refl; ends = refl }
keeps_served words p place serial (Push y) answer (Some x) = record { place = refl; room = refl; posts = refl; standing = refl; mine = refl; known = refl; begins = refl; ends = refl }
keeps_served words p place serial Pop answer None = record { place = refl; room = refl; posts = refl; standing = refl; mine = refl; known = refl; begins = refl; ends = refl }
keeps_served words p place serial Pop answer (Some x) = record { place = refl; room = refl; posts = refl; standing = refl; mine = refl; known = refl; begins = refl; ends = refl }
keeps_served words p place serial Least answer None = record { place = refl; room = refl; posts = refl; standing = refl; mine = refl; known = refl; begins = refl; ends = refl }
keeps_served words p place serial Least answer (Some x) = record { place = refl; room = refl; posts = refl; standing = refl; mine = refl; known = refl; begins = refl; ends = refl }

dealt_served : (words : ℕ) (p : PenState) (place serial : ℕ) (request : Request) (answer : Answer) (x : Option Item) → (laid_and_answered_by words x (found_posted_by words p place serial request) (due_of place serial request) request answer).dealt ≡ p.dealt ++ place ∷ []
dealt_served words p place serial (Push y) answer None = refl
dealt_served words p place serial (Push y) answer (Some x) = refl
dealt_served words p place serial Pop answer None = refl
dealt_served words p place serial Pop answer (Some x) = refl
dealt_served words p place serial Least answer None = refl
dealt_served words p place serial Least answer (Some x) = refl

-- its own record as the leader knows it: the answer, at its own place; else as before
pick : (b : Bool) (a d o : Control) → is_answer a ≡ true → (b ≡ false → is_answer o ≡ true) → is_answer (if b then a else (if b then d else o)) ≡ true
pick true a d o h k = h
pick false a d o h k = k refl

own_served : (words : ℕ) (p : PenState) (place serial : ℕ) (request : Request) (answer : Answer) (x : Option Item) → ((place == p.place) ≡ false → is_answer p.own ≡ true) → is_answer (laid_and_answered_by words x (found_posted_by words p place serial request) (due_of place serial request) request answer).own ≡ true
own_served words p place serial (Push y) answer None k = pick (place == p.place) (answered answer) (posted serial (Push y)) p.own refl k
own_served words p place serial (Push y) answer (Some x) k = pick (place == p.place) (answered answer) (posted serial (Push y)) p.own refl k
own_served words p place serial Pop answer None k = pick (place == p.place) (answered answer) (posted serial Pop) p.own refl k
own_served words p place serial Pop answer (Some x) k = pick (place == p.place) (answered answer) (posted serial Pop) p.own refl k
own_served words p place serial Least answer None k = pick (place == p.place) (answered answer) (posted serial Least) p.own refl k
own_served words p place serial Least answer (Some x) k = pick (place == p.place) (answered answer) (posted serial Least) p.own refl k

pick_read : (b : Bool) (a o : Control) → (b ≡ true → is_answer a ≡ true) → (b ≡ false → is_answer o ≡ true) → is_answer (if b then a else o) ≡ true
pick_read true a o h k = h refl
pick_read false a o h k = k refl

equal_is : (a b : ℕ) → (a == b) ≡ true → a ≡ b
equal_is a b h = eqb-true a b h

other_is : (a b : ℕ) (T : Type 0) → a ≡ b ⊎ T → (a == b) ≡ false → T
other_is a b T (inl e) h = absurd (eqb-false a b h e)
other_is a b T (inr t) h = t

-- one place more was served
pub record ServesOne (place : ℕ) (p p' : PenState) : Type 0 where
  pub keeps : KeepsServing p p'
  pub dealt : p'.dealt ≡ p.dealt ++ place ∷ []
  pub own : (asked : Request) → p.standing ≡ Waiting asked → (place ≡ p.place) ⊎ (is_answer p.own ≡ true) → is_answer p'.own ≡ true

pub serves_one : (words : ℕ) (b : Bool) (place : ℕ) (p p' : PenState) (book : Volume) → ServesWhereBy words b place p p' book → ServesOne place p p'
serves_one words true place p p' book h =
    record {
      keeps = subst (KeepsServing p) (sym h.next) (keeps_served words p place h.serial h.request h.answer (answer_item h.answer));
      dealt = ap (λ (z : PenState). z.dealt) h.next ∙ dealt_served words p place h.serial h.request h.answer (answer_item h.answer);
      own = λ asked w e. subst (λ (z : PenState). is_answer z.own ≡ true) (sym h.next) (own_served words p place h.serial h.request h.answer (answer_item h.answer) (other_is place p.place (is_answer p.own ≡ true) e));
    }
serves_one words false place p p' book h =
    record {
      keeps = subst (KeepsServing p) (sym h.next) (record { place = refl; room = refl; posts = refl; standing = refl; mine = refl; known = refl; begins = refl; ends = refl });
      dealt = ap (λ (z : PenState). z.dealt) h.next;
      own = λ asked w e. subst (λ (z : PenState). is_answer z.own ≡ true) (sym h.next)
          (pick_read (place == p.place) h.control p.own (λ s. h.own asked (equal_is place p.place s) w) (other_is place p.place (is_answer p.own ≡ true) e));
    }

one_at_most : (b : Bool) → one_if b ≤ 1
one_at_most true = omega arith
one_at_most false = omega arith

sweeps_on : (words : ℕ) (places : List ℕ) (n : ℕ) (p q r : PenState) (b : Bool) (place : ℕ) (book : Volume) → SweepsBy words places n p q → ServesWhereBy words b place q r book → SweepsBy words (places ++ place ∷ []) (n + one_if b) p r
sweeps_on words [] n p q r b place book h s = (b, r, book, 0, subst (λ z. ServesWhereBy words b place z r book) h.1 s, omega (arith, h.0), (refl, refl))
sweeps_on words (x ∷ xs) n p q r b place book (b', m, book', rest, w, e, more) s = (b', m, book', rest + one_if b, w, omega (arith, e), sweeps_on words xs rest m q r b place book more s)

in_none : (y : ℕ) → Contains [] y → ⊥
in_none y (i, w, e) = omega (arith, w)

pub keeps_at_first : (words : ℕ) (p : PenState) → IsServedBy words [] 0 p p
keeps_at_first words p =
    record {
      sweeps = (refl, refl);
      few = omega arith;
      dealt = sym (append-nil p.dealt);
      keeps = record { place = refl; room = refl; posts = refl; standing = refl; mine = refl; known = refl; begins = refl; ends = refl };
      own = λ asked w c. absurd (in_none p.place c);
    }

in_one : (x y : ℕ) → Contains (x ∷ []) y → x ≡ y
in_one x y (i, w, e) =
    let first : i ≡ 0 = omega (arith, w) in
    subst (λ k. get_or (x ∷ []) k y ≡ y) first e

pub keeps_on : (words : ℕ) (found : List ℕ) (n : ℕ) (p q r : PenState) (b : Bool) (place : ℕ) (book : Volume) → IsServedBy words found n p q → ServesWhereBy words b place q r book → IsServedBy words (found ++ place ∷ []) (n + one_if b) p r
keeps_on words found n p q r b place book h s =
    let one = serves_one words b place q r book s in
    record {
      sweeps = sweeps_on words found n p q r b place book h.sweeps s;
      few = (let few = h.few in omega (arith, few, one_at_most b, length_push found place));
      dealt = one.dealt ∙ (ap (λ l. l ++ place ∷ []) h.dealt ∙ append_assoc p.dealt found (place ∷ []));
      keeps = keeps_trans p q r h.keeps one.keeps;
      own = λ asked w c. one.own asked (h.keeps.standing ∙ w) (which (Contains-append_cases found (place ∷ []) p.place c) asked w);
    }
  where
    which : Contains found p.place ⊎ Contains (place ∷ []) p.place → (asked : Request) → p.standing ≡ Waiting asked → (place ≡ q.place) ⊎ (is_answer q.own ≡ true)
    which (inl c) asked w = inr (h.own asked w c)
    which (inr c) asked w = inl (in_one place p.place c ∙ sym h.keeps.place)

pub still_trans : (a b c : Resting DeskTag) → IsStill a b → IsStill b c → IsStill a c
still_trans a b c h k = record { table = k.table ∙ h.table; tag = k.tag ∙ h.tag; comers = k.comers ∙ h.comers; id = k.id ∙ h.id; turns = k.turns ∙ h.turns; next = k.next ∙ h.next; looks = k.looks ∙ h.looks }
