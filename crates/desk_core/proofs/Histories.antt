-- A history and its journal that both gain at their ends.
use Rattle.std.proofs.Common.{◌≡◌, ◌≢◌, ℕ, zero, suc, ◌+◌, ◌-◌, ◌<◌, ◌≤◌, ◌⊎◌, inl, inr, ⊎_elim, List, [], ◌∷◌, ◌++◌, length, slice_get, Some, refl, ap, sym, ◌∙◌, subst, arith, length-append}
use Rattle.std.specs.List.{AllByRecursion}
use Rattle.pq_types.specs.Asked.{Operation}
use Rattle.pq_types.specs.Asked.{Answer}
use Rattle.pq_types.specs.declared.answer.Answer.TheVariants.{Entered, BookFull, NoMemory, Refused}
use Rattle.pq_types.specs.Asked.{Line}
use Rattle.pq_types.specs.History.{line_of}
use Rattle.desk_core.specs.Calls.{call_of}
use Rattle.desk_core.specs.CallLines.{IsLineOf}
use Rattle.desk_core.specs.Clauses.{HasNo}
use Rattle.desk_core.specs.Linearizable.{Act, Begins, Ends, IsIn, Precedes, IsTrueOf}
use Rattle.desk_core.specs.declared.model.Call.{Call}
use Rattle.desk_core.proofs.Journals.{all_more, get_more}
use Rattle.desk_core.proofs.Stand.{bars_more}
use Rattle.pq_types.specs.declared.answer.Refusal.{Refusal}
use Rattle.desk_core.specs.Answering.{Bars}

module _ {A : Type 0} where
  pub get_behind : (xs ys : List A) (i : ℕ) → slice_get (xs ++ ys) (length xs + i) ≡ slice_get ys i
  get_behind [] ys i = let e : 0 + i ≡ i = omega arith in ap (slice_get ys) e
  get_behind (x ∷ xs) ys i =
      let e : length (x ∷ xs) + i ≡ suc (length xs + i) = omega arith in
      ap (slice_get (x ∷ (xs ++ ys))) e ∙ get_behind xs ys i

  pub get_cases : (xs ys : List A) (i : ℕ) (x : A) → slice_get (xs ++ ys) i ≡ Some x
      → ((i < length xs) × (slice_get xs i ≡ Some x)) ⊎ ((j : ℕ) × (i ≡ length xs + j) × (slice_get ys j ≡ Some x))
  get_cases [] ys i x e = inr (i, omega arith, e)
  get_cases (y ∷ xs) ys zero x e = inl (omega arith, e)
  get_cases (y ∷ xs) ys (suc i) x e =
      ⊎_elim
      (λ t. inl (let lt = t.0 in omega arith, t.1))
      (λ t. inr (t.0, let f = t.1 in omega arith, t.2))
      (get_cases xs ys i x e)

  pub all_at : (P : A → Type 0) (xs : List A) (i : ℕ) (x : A) → AllByRecursion P xs → slice_get xs i ≡ Some x → P x
  all_at P [] i x h e = absurd (cc e)
  all_at P (y ∷ xs) zero x h e = let f : y ≡ x = cc in subst P f h.0
  all_at P (y ∷ xs) (suc i) x h e = all_at P xs i x h.1 e

  pub one_alone : (y x : A) (i : ℕ) → slice_get (y ∷ []) i ≡ Some x → (i ≡ 0) × (y ≡ x)
  one_alone y x zero e = (refl, cc)
  one_alone y x (suc i) e = absurd (cc e)

pub in_left : (old new : List Act) (x : Act) → IsIn old x → IsIn (old ++ new) x
in_left old new x h = (h.0, get_more old new h.0 x h.1)

pub in_right : (old new : List Act) (x : Act) → IsIn new x → IsIn (old ++ new) x
in_right old new x h = (length old + h.0, get_behind old new h.0 ∙ h.1)

pub in_cases : (old new : List Act) (x : Act) → IsIn (old ++ new) x → IsIn old x ⊎ IsIn new x
in_cases old new x h = ⊎_elim (λ t. inl (h.0, t.1)) (λ t. inr (t.0, t.2)) (get_cases old new h.0 x h.1)

-- a line stays on its number
pub line_stays : (journal more : List Line) (place : ℕ) (c : Call) → IsLineOf journal place c → IsLineOf (journal ++ more) place c
line_stays journal more place c h =
    let within = h.within in
    record {
      some = h.some;
      within = omega (arith, within, length-append journal more);
      there = get_more journal more (c.number - 1) (line_of place c.serial c.operation c.reply) h.there;
    }

-- of a journal with one line more, a line is one of those before or the last
pub line_cases : (journal : List Line) (l : Line) (place : ℕ) (c : Call) → IsLineOf (journal ++ l ∷ []) place c
    → IsLineOf journal place c ⊎ ((c.number ≡ length journal + 1) × (l ≡ line_of place c.serial c.operation c.reply))
line_cases journal l place c h =
    let some = h.some in
    ⊎_elim
    (λ t. inl record { some = h.some; within = (let lt = t.0 in omega (arith, some, lt)); there = t.1 })
    (λ t.
    (let u = one_alone l (line_of place c.serial c.operation c.reply) t.0 t.2 in
    let e = t.1 in
    let f = u.0 in
    inr (omega (arith, some, e, f), u.1)))
    (get_cases journal (l ∷ []) (c.number - 1) (line_of place c.serial c.operation c.reply) h.there)

-- no line of a call that the journal doesn't have
pub none_of : (journal : List Line) (place serial : ℕ) → HasNo journal place serial → (c : Call) → IsLineOf journal place c → c.serial ≡ serial → ⊥
none_of journal place serial h c at e =
    all_at (λ (l : Line). place ≡ l.place → l.serial ≢ serial) journal (c.number - 1) (line_of place c.serial c.operation c.reply) h at.there refl e

-- The calls that have ended so: the history and the journal are those of them.
pub record Kept (room : ℕ) (Over : ℕ → ℕ → Type 0) (history : List Act) (journal : List Line) : Type 0 where
  pub begun : (place : ℕ) (c : Call) → IsLineOf journal place c → IsIn history (Begins place c.serial c.operation)
  pub over : (place serial : ℕ) (answer : Answer) → IsIn history (Ends place serial answer) → Over place serial
  pub ended : (place serial : ℕ) (answer : Answer) → IsIn history (Ends place serial answer) → IsTrueOf room journal place serial answer
  pub order :
      (place place' : ℕ) (b c : Call) → IsLineOf journal place b → IsLineOf journal place' c → Precedes history place b.serial place' c.serial
      → b.number < c.number

-- the journal stays as it is, or gains the line of a call that has begun and not ended
abbrev pub Gains : (Over : ℕ → ℕ → Type 0) → List Act → List Line → List Line → Type 0
Gains Over history journal journal' =
    (journal' ≡ journal)
    ⊎ ((l : Line) × (journal' ≡ journal ++ l ∷ []) × (Over l.place l.serial → ⊥) × IsIn history (Begins l.place l.serial l.operation))

-- What a step adds: over is what was over and what it ends, which is true; what it begins has no line; and
-- it begins nothing behind what it ends.
pub record Adds (room : ℕ) (Over Over' : ℕ → ℕ → Type 0) (old new : List Act) (journal journal' : List Line) : Type 0 where
  pub stays : (place serial : ℕ) → Over place serial → Over' place serial
  pub gains : Gains Over (old ++ new) journal journal'
  pub over : (place serial : ℕ) (answer : Answer) → IsIn new (Ends place serial answer) → Over' place serial
  pub ended : (place serial : ℕ) (answer : Answer) → IsIn new (Ends place serial answer) → IsTrueOf room journal' place serial answer
  pub begins : (place serial : ℕ) (operation : Operation) → IsIn new (Begins place serial operation) → HasNo journal place serial
  pub apart : (place serial place' serial' : ℕ) → Precedes new place serial place' serial' → ⊥

module _ (Over : ℕ → ℕ → Type 0) (acts : List Act) (journal journal' : List Line) (g : Gains Over acts journal journal') where
  -- the line of what is over was there
  pub was_there : (place : ℕ) (c : Call) → Over place c.serial → IsLineOf journal' place c → IsLineOf journal place c
  was_there place c over h =
      ⊎_elim
      (λ e. subst (λ js. IsLineOf js place c) e h)
      (λ t.
      ⊎_elim
      (λ u. u)
      (λ u. absurd (t.2 (subst (λ (y : Line). Over y.place y.serial) (sym u.1) over)))
      (line_cases journal t.0 place c (subst (λ js. IsLineOf js place c) t.1 h)))
      g

  -- a line was there, or is behind all that were
  pub there_or_last : (place : ℕ) (c : Call) → IsLineOf journal' place c
      → IsLineOf journal place c ⊎ ((c.number ≡ length journal + 1) × IsIn acts (Begins place c.serial c.operation))
  there_or_last place c h =
      ⊎_elim
      (λ e. inl (subst (λ js. IsLineOf js place c) e h))
      (λ t.
      ⊎_elim
      (λ u. inl u)
      (λ u. inr (u.0, subst (λ (y : Line). IsIn acts (Begins y.place y.serial y.operation)) u.1 t.3))
      (line_cases journal t.0 place c (subst (λ js. IsLineOf js place c) t.1 h)))
      g

  pub still_there : (place : ℕ) (c : Call) → IsLineOf journal place c → IsLineOf journal' place c
  still_there place c h =
      ⊎_elim
      (λ e. subst (λ js. IsLineOf js place c) (sym e) h)
      (λ t. subst (λ js. IsLineOf js place c) (sym t.1) (line_stays journal (t.0 ∷ []) place c h))
      g

  pub still_none : (place serial : ℕ) → Over place serial → HasNo journal place serial → HasNo journal' place serial
  still_none place serial over h =
      let P : Line → Type 0 = λ l. place ≡ l.place → l.serial ≢ serial in
      ⊎_elim
      (λ e. subst (λ js. HasNo js place serial) (sym e) h)
      (λ t.
      subst (λ js. HasNo js place serial) (sym t.1)
      (all_more P journal t.0 h (λ e f. t.2 (subst (λ n. Over n t.0.serial) e (subst (Over place) (sym f) over)))))
      g

  pub still_full : (room : ℕ) → length journal' ≤ room → length journal ≡ room → length journal' ≡ room
  still_full room within full =
      ⊎_elim
      (λ e. ap length e ∙ full)
      (λ t. absurd (let e = ap length t.1 in omega (arith, e, length-append journal (t.0 ∷ []), within, full)))
      g

  pub still_barred : (why : Refusal) → Bars journal why → Bars journal' why
  still_barred why bars =
      ⊎_elim
      (λ e. subst (λ js. Bars js why) (sym e) bars)
      (λ t. subst (λ js. Bars js why) (sym t.1) (bars_more journal (t.0 ∷ []) why bars))
      g

  pub still_true : (room : ℕ) → length journal' ≤ room → (place serial : ℕ) (answer : Answer) → Over place serial
      → IsTrueOf room journal place serial answer → IsTrueOf room journal' place serial answer
  still_true room within place serial (Entered number reply) over h = (h.0, still_there place (call_of number serial h.0 reply) h.1)
  still_true room within place serial BookFull over h = (still_full room within h.0, still_none place serial over h.1)
  still_true room within place serial NoMemory over h = still_none place serial over h
  still_true room within place serial (Refused why) over h = (still_barred why h.0, still_none place serial over h.1)

module _ (room : ℕ) (Over Over' : ℕ → ℕ → Type 0) (old new : List Act) (journal journal' : List Line) (k : Kept room Over old journal) (a : Adds room Over Over' old new journal journal') (within : length journal' ≤ room) where
  order_keeps : (place place' : ℕ) (b c : Call) → IsLineOf journal' place b → IsLineOf journal' place' c → Precedes (old ++ new) place b.serial place' c.serial
      → b.number < c.number
  order_keeps place place' b c is_b is_c t =
      let before = t.before in
      ⊎_elim
      (λ u.
      (let over : Over place b.serial = k.over place b.serial t.answer (t.end, u.1) in
      let was : IsLineOf journal place b = was_there Over (old ++ new) journal journal' a.gains place b over is_b in
      let inside = was.within in
      ⊎_elim
      (λ v.
      ⊎_elim
      (λ w.
      k.order place place' b c was w
      record { end = t.end; begin = t.begin; answer = t.answer; operation = t.operation; before = t.before; ends = u.1; begins = v.1 })
      (λ w. let last = w.0 in omega (arith, inside, last))
      (there_or_last Over (old ++ new) journal journal' a.gains place' c is_c))
      (λ v.
      ⊎_elim
      (λ w. absurd (none_of journal place' c.serial (a.begins place' c.serial t.operation (v.0, v.2)) c w refl))
      (λ w. let last = w.0 in omega (arith, inside, last))
      (there_or_last Over (old ++ new) journal journal' a.gains place' c is_c))
      (get_cases old new t.begin (Begins place' c.serial t.operation) t.begins)))
      (λ u.
      (let e = u.1 in
      ⊎_elim
      (λ v. absurd (let lt = v.0 in omega (arith, lt, e, before)))
      (λ v.
      (let f = v.1 in
      absurd (a.apart place b.serial place' c.serial
      record { end = u.0; begin = v.0; answer = t.answer; operation = t.operation; before = omega (arith, e, f, before); ends = u.2; begins = v.2 })))
      (get_cases old new t.begin (Begins place' c.serial t.operation) t.begins)))
      (get_cases old new t.end (Ends place b.serial t.answer) t.ends)

  pub kept_on : Kept room Over' (old ++ new) journal'
  kept_on =
      record {
        begun = λ place c h.
            ⊎_elim
            (λ u. in_left old new (Begins place c.serial c.operation) (k.begun place c u))
            (λ u. u.1)
            (there_or_last Over (old ++ new) journal journal' a.gains place c h);
        over = λ place serial answer h.
            ⊎_elim
            (λ u. a.stays place serial (k.over place serial answer u))
            (λ u. a.over place serial answer u)
            (in_cases old new (Ends place serial answer) h);
        ended = λ place serial answer h.
            ⊎_elim
            (λ u. still_true Over (old ++ new) journal journal' a.gains room within place serial answer (k.over place serial answer u) (k.ended place serial answer u))
            (λ u. a.ended place serial answer u)
            (in_cases old new (Ends place serial answer) h);
        order = order_keeps;
      }
