-- What the use of a ticket replies, and what it does where no item waits.
use Rattle.std.proofs.Common.{Bool, ◌≡◌, ℕ, ◌+◌, true, false, List, [], ◌∷◌, ◌++◌, refl, ◌∙◌, ap, subst, arith}
use Rattle.std.specs.Prelude.{◌==◌, if◌then◌else◌, Some, None}
use Rattle.std.proofs.lemmas.Bool.Decides.{nat_tests}
use Rattle.pq_types.specs.Asked.{Line}
use Rattle.pq_types.specs.Item.{Item}
use Rattle.pq_types.specs.Entry.{Entry, item_of, item_at, taken, without, with_moved, entries_after, reply_by}
use Rattle.pq_types.specs.Operation.{Remove, Move, ticket_of}
use Rattle.pq_types.specs.Laws.{VainChangeNothing}
use Rattle.pq_types.specs.History.{entries_of, entries_from, IsLegal, IsLegalFrom}
use Rattle.pq_types.specs.Outs.{VainAreTold}

-- an entry of this line is among them
abbrev IsAmong : ℕ → List Entry → Type 0
IsAmong i es = (e : Entry) × (front : List Entry) × (back : List Entry) × (es ≡ front ++ e ∷ back) × (e.line ≡ i)

-- where none is, there is no item of that line
not_there : (i : ℕ) (es : List Entry) → (IsAmong i es → ⊥) → item_at i es ≡ None
not_there i [] never = refl
not_there i (e ∷ es) never = at_choice (not_there i es (λ a. never (a.0, e ∷ a.1, a.2, ap (λ xs. e ∷ xs) a.3, a.4))) (e.line == i) refl where
  at_choice : item_at i es ≡ None → (b : Bool) → (e.line == i) ≡ b → (if b then Some (item_of e) else item_at i es) ≡ None
  at_choice rest true is = absurd (never (e, [], es, refl, grind (arith, nat_tests, is)))
  at_choice rest false is = rest

legal_at : (es : List Entry) (n : ℕ) (front : List Line) (l : Line) (behind : List Line) → IsLegalFrom es n (front ++ l ∷ behind)
    → l.reply ≡ reply_by (entries_from es n front) l.operation
legal_at es n [] l behind h = h.0
legal_at es n (m ∷ front) l behind h = legal_at (entries_after es n m.operation) (n + 1) front l behind h.1

pub vain_are_told : VainAreTold
vain_are_told journal t k l legal at is never =
    legal_at [] 1 at.before l at.behind (subst IsLegal at.split legal) ∙ ap (reply_by (entries_of at.before)) is
    ∙ ap taken (not_there (ticket_of t) (entries_of at.before) (λ a. never (l, at, (t, is, refl), a)))

-- an item that is told is that of an entry of this line
told_is_there : (i : ℕ) (es : List Entry) (x : Item) → item_at i es ≡ Some x → (a : IsAmong i es) × (item_of a.0 ≡ x)
told_is_there i [] x told = absurd (nothing told) where
  nothing : None ≡ Some x → ⊥
  nothing e = cc
told_is_there i (e ∷ es) x told = at_choice (told_is_there i es x) (e.line == i) refl told where
  at_choice : (item_at i es ≡ Some x → (a : IsAmong i es) × (item_of a.0 ≡ x)) → (b : Bool) → (e.line == i) ≡ b
      → (if b then Some (item_of e) else item_at i es) ≡ Some x → (a : IsAmong i (e ∷ es)) × (item_of a.0 ≡ x)
  at_choice rest true is here = ((e, [], es, refl, grind (arith, nat_tests, is)), cc)
  at_choice rest false is there = let r = rest there in ((r.0.0, e ∷ r.0.1, r.0.2, ap (λ xs. e ∷ xs) r.0.3, r.0.4), r.1)

-- where none is, taking it out changes nothing
none_without : (i : ℕ) (es : List Entry) → item_at i es ≡ None → without i es ≡ es
none_without i [] none = refl
none_without i (e ∷ es) none = at_choice (none_without i es) (e.line == i) none where
  something : Some (item_of e) ≡ None → ⊥
  something e = cc

  at_choice : (item_at i es ≡ None → without i es ≡ es) → (b : Bool) → (if b then Some (item_of e) else item_at i es) ≡ None
      → (if b then es else e ∷ without i es) ≡ e ∷ es
  at_choice rest true here = absurd (something here)
  at_choice rest false there = ap (λ fs. e ∷ fs) (rest there)

pub vain_change_nothing : VainChangeNothing
vain_change_nothing es n (Remove i) none = none_without i es none
vain_change_nothing es n (Move i p) none = ap (λ x. with_moved n p x (without i es)) none ∙ none_without i es none
