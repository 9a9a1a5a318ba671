-- What stands in a pen's record, by cases.
use Rattle.std.proofs.Common.{map, ◌≡◌, ◌≢◌, ℕ, ◌+◌, ◌-◌, ◌<◌, ◌≤◌, ◌⊎◌, inl, inr, Bool, true, List, [], ◌∷◌, ◌++◌, length, refl, ap, sym, ◌∙◌, subst, arith, append-nil, append_assoc, length-append}
use Rattle.std.specs.Prelude.{Option, Some, None, slice_get, ◌||◌, false}
use Rattle.std.specs.List.{AllByRecursion}
use Rattle.pq_types.specs.Item.{Item}
use Rattle.pq_types.specs.Asked.{Request, Operation}
use Rattle.pq_types.specs.Entry.{item_of, IsProperOperationOf}
use Rattle.pq_types.specs.Operation.{Asked}
use Rattle.pq_types.specs.Asked.{Answer}
use Rattle.pq_types.specs.declared.answer.Answer.TheVariants.{Entered, BookFull, NoMemory, Refused}
use Rattle.pq_types.specs.declared.control.Kind.{Kind}
use Rattle.pq_types.specs.declared.control.Kind.TheVariants as kind
use Rattle.pq_types.specs.declared.control.Outcome.{Outcome}
use Rattle.pq_types.specs.declared.control.Notice.TheVariants as notice
use Rattle.pq_types.specs.declared.control.Control.{Control}
use Rattle.pq_types.specs.declared.control.Control.TheVariants.{Nothing, Posted, Answered}
use Rattle.pq_types.specs.Asked.{Line}
use Rattle.pq_types.specs.declared.journal.TheConstants.{GREATEST_NUMBER}
use Rattle.pq_types.specs.Queue.{IsProperRequestOf, IsProperReplyOf, AreItemsOf}
use Rattle.pq_types.specs.Control.{kind_of, request_item, answer_item, posted, answered, Carries, is_posted, is_answer}
use Rattle.pq_types.specs.Mail.{IsLineNumber}
use Rattle.pq_types.specs.History.{line, line_of, left, entries_of, journal_by, journal_after}
use Rattle.pq_types.specs.History.{shuts, is_shut}
use Rattle.pq_types.specs.declared.answer.Refusal.{Refusal}
use Rattle.pq_types.specs.declared.answer.Refusal.TheVariants.{Shut, Unarchived, Full}
use Rattle.desk_core.specs.Answering.{Bars, IsBarred}
use Rattle.pq_types.specs.Laws.{RepliesAreProper}
use Rattle.desk_core.specs.declared.model.Call.{Call}
use Rattle.desk_core.specs.declared.model.Standing.{Standing}
use Rattle.desk_core.specs.declared.model.Standing.TheVariants.{Idle, Waiting}
use Rattle.desk_core.specs.Calls.{call, call_of, calls_of, gained, gained_by}
use Rattle.desk_core.specs.Pen.{IsIdle, told_full_by}
use Rattle.desk_core.specs.Rule.{Stands, fresh, idle, unanswered, entered, full, refused, barred, StartsWith, Lawful}
use Rattle.desk_core.proofs.Loose.{MayTellOf, MayTell}
use Rattle.desk_core.proofs.Records.{no_post, not_both, no_item, same_answer}
use Rattle.desk_core.proofs.Journals.{QueueLaws, all_more, all_weaker, calls_here, calls_elsewhere, get_last, get_more, lines_below}

pub not_idle : (standing : Standing) (q : Request) → standing ≡ Waiting q → IsIdle standing → ⊥
not_idle standing q w n = let h : Waiting q ≡ Idle n.0 = sym w ∙ n.1 in cc

pub one_request : (standing : Standing) (u q : Request) → standing ≡ Waiting u → standing ≡ Waiting q → u ≡ q
one_request standing u q w v = let h : Waiting u ≡ Waiting q = sym w ∙ v in cc

-- a journal that is shut stays so as lines come
shut_stays : (ls more : List Line) → is_shut ls ≡ true → is_shut (ls ++ more) ≡ true
shut_stays [] more h = absurd (let f : false ≡ true = h in cc)
shut_stays (m ∷ ls) more h = at_line (shuts m.operation) h (shut_stays ls more) where
  at_line : (b : Bool) → (b || is_shut ls) ≡ true → (is_shut ls ≡ true → is_shut (ls ++ more) ≡ true) → (b || is_shut (ls ++ more)) ≡ true
  at_line true h rest = refl
  at_line false h rest = rest h

-- so what a refusal by the rules says stays true
pub bars_more : (ls more : List Line) (why : Refusal) → Bars ls why → Bars (ls ++ more) why
bars_more ls more Shut h = shut_stays ls more h
bars_more ls more Unarchived h = tt
bars_more ls more Full h = tt

-- and is true where it is answered
pub own_bars : (room : ℕ) (journal : List Line) (o : Operation) (why : Refusal) → MayTell room journal o (Refused why) → Bars journal why
own_bars room journal o Shut may = may.2
own_bars room journal o Unarchived may = tt
own_bars room journal o Full may = tt

deals_bar : (room : ℕ) (journal : List Line) (q : Request) (why : Refusal) → MayTellOf room journal q (Refused why) → IsBarred q why × Bars journal why
deals_bar room journal q Shut may = (may.1, may.2)
deals_bar room journal q Unarchived may = (tt, tt)
deals_bar room journal q Full may = (may.1, tt)

-- what a post that stands unanswered says of its pen
pub record Unanswered (journal : List Line) (cell : Item) (place posts : ℕ) (standing : Standing) (mine : List Call) (s : ℕ) (k : Kind) : Type 0 where
  pub request : Request
  pub waits : standing ≡ Waiting request
  pub proper : IsProperRequestOf true request
  pub kind : kind_of request ≡ k
  pub item : Carries (request_item request) cell
  pub serial : posts ≡ s
  pub some : 0 < posts
  pub lines : calls_of place journal ≡ mine

-- the calls of a place after an answer there
own_calls : (room : ℕ) (journal : List Line) (place s : ℕ) (q : Operation) (a : Answer) → MayTell room journal q a → (mine : List Call)
    → calls_of place journal ≡ mine
    → calls_of place (journal_by journal place s q a) ≡ mine ++ gained_by s q a
own_calls room journal place s q (Entered l r) may mine seen =
    let e : 1 + length journal ≡ l = omega (arith, may.1) in
    calls_here 1 place journal s q r ∙ (ap (λ c. c ++ call_of (1 + length journal) s q r ∷ []) seen ∙ ap (λ m. mine ++ call_of m s q r ∷ []) e)
own_calls room journal place s q BookFull may mine seen = seen ∙ sym (append-nil mine)
own_calls room journal place s q NoMemory may mine seen = seen ∙ sym (append-nil mine)
own_calls room journal place s q (Refused why) may mine seen = seen ∙ sym (append-nil mine)

-- a full journal stays as it is
pub full_stays : (room : ℕ) (journal : List Line) (place s : ℕ) (q : Operation) (a : Answer) → MayTell room journal q a → length journal ≡ room
    → length (journal_by journal place s q a) ≡ room
full_stays room journal place s q (Entered l r) may all = absurd (let lt = may.0 in omega (arith, lt, all))
full_stays room journal place s q BookFull may all = all
full_stays room journal place s q NoMemory may all = all
full_stays room journal place s q (Refused why) may all = all

-- no line comes to it, so no answer with one
pub full_bars : (room : ℕ) (journal : List Line) (q : Operation) (a : Answer) → MayTell room journal q a → length journal ≡ room → (n : ℕ) (o : Outcome)
    → answered a ≢ Answered (notice.Entered n o)
full_bars room journal q (Entered l r) may all n o h = let lt = may.0 in omega (arith, lt, all)
full_bars room journal q BookFull may all n o h = let f : answered BookFull ≡ Answered (notice.Entered n o) = h in cc
full_bars room journal q NoMemory may all n o h = let f : answered NoMemory ≡ Answered (notice.Entered n o) = h in cc
full_bars room journal q (Refused why) may all n o h = let f : answered (Refused why) ≡ Answered (notice.Entered n o) = h in cc

-- and it is full for whoever is told so of a request of its own
pub own_filled : (room : ℕ) (journal : List Line) (place s : ℕ) (q : Operation) (a : Answer) (before : Bool) → MayTell room journal q a
    → (before ≡ true → length journal ≡ room) → told_full_by before a ≡ true → length (journal_by journal place s q a) ≡ room
own_filled room journal place s q (Entered l r) before may was h = full_stays room journal place s q (Entered l r) may (was h)
own_filled room journal place s q BookFull before may was h = may
own_filled room journal place s q NoMemory before may was h = was h
own_filled room journal place s q (Refused why) before may was h = was h

module _ (room : ℕ) (journal : List Line) (control : Control) (cell : Item) (place posts : ℕ) (mine : List Call) (standing : Standing) where
  -- where a waiting pen is answered that the journal is full, it is
  pub full_stands : (q : Request) → standing ≡ Waiting q → control ≡ answered BookFull → Stands room journal control cell place posts standing mine
      → length journal ≡ room
  full_stands q v e (fresh x w draft at seen) = absurd (not_idle standing q v (x, w))
  full_stands q v e (idle x w draft some at seen) = absurd (not_idle standing q v (x, w))
  full_stands q v e (unanswered u w proper some at item seen) = absurd (no_post control posts (kind_of u) at (ap is_answer e))
  full_stands q v e (entered u l y w some proper at item seen there) = absurd (let f : answered (Entered l y) ≡ answered BookFull = sym at ∙ e in cc)
  full_stands q v e (full u w some at all seen) = all
  full_stands q v e (refused u w some push at seen) = absurd (let f : answered NoMemory ≡ answered BookFull = sym at ∙ e in cc)
  full_stands q v e (barred u why w some is at seen) = absurd (let f : answered (Refused why) ≡ answered BookFull = sym at ∙ e in cc)

  -- where it is answered that the rules refuse it, they do
  pub barred_stands : (q : Request) (why : Refusal) → standing ≡ Waiting q → control ≡ answered (Refused why)
      → Stands room journal control cell place posts standing mine → Bars journal why
  barred_stands q y v e (fresh x w draft at seen) = absurd (not_idle standing q v (x, w))
  barred_stands q y v e (idle x w draft some at seen) = absurd (not_idle standing q v (x, w))
  barred_stands q y v e (unanswered u w proper some at item seen) = absurd (no_post control posts (kind_of u) at (ap is_answer e))
  barred_stands q y v e (entered u l r w some proper at item seen there) = absurd (let f : answered (Entered l r) ≡ answered (Refused y) = sym at ∙ e in cc)
  barred_stands q y v e (full u w some at all seen) = absurd (let f : answered BookFull ≡ answered (Refused y) = sym at ∙ e in cc)
  barred_stands q y v e (refused u w some push at seen) = absurd (let f : answered NoMemory ≡ answered (Refused y) = sym at ∙ e in cc)
  barred_stands q y v e (barred u why w some is at seen) =
      let f : answered (Refused why) ≡ answered (Refused y) = sym at ∙ e in
      let m : why ≡ y = cc in
      subst (Bars journal) m is.1

  -- an idle pen's record is not posted, and it has read all lines of its place
  pub idle_stands : IsIdle standing → Stands room journal control cell place posts standing mine
      → (is_posted control ≡ true → ⊥) × (calls_of place journal ≡ mine)
  idle_stands free (fresh x w draft at seen) = (λ h. absurd (let e : is_posted Nothing ≡ true = sym (ap is_posted at) ∙ h in cc), seen)
  idle_stands free (idle x w draft some at seen) = (λ h. not_both control h at, seen)
  idle_stands free (unanswered q w proper some at item seen) = absurd (not_idle standing q w free)
  idle_stands free (entered q l r w some proper at item seen there) = absurd (not_idle standing q w free)
  idle_stands free (full q w some at all seen) = absurd (not_idle standing q w free)
  idle_stands free (refused q w some push at seen) = absurd (not_idle standing q w free)
  idle_stands free (barred q why w some is at seen) = absurd (not_idle standing q w free)

  -- its draft stands in its cell
  pub draft_stands : (draft : Option Item) → standing ≡ Idle draft → Stands room journal control cell place posts standing mine → Carries draft cell
  draft_stands draft free (fresh x w item at seen) = let e : Idle x ≡ Idle draft = sym w ∙ free in let f : x ≡ draft = cc in subst (λ o. Carries o cell) f item
  draft_stands draft free (idle x w item some at seen) = let e : Idle x ≡ Idle draft = sym w ∙ free in let f : x ≡ draft = cc in subst (λ o. Carries o cell) f item
  draft_stands draft free (unanswered q w proper some at item seen) = absurd (not_idle standing q w (draft, free))
  draft_stands draft free (entered q l r w some proper at item seen there) = absurd (not_idle standing q w (draft, free))
  draft_stands draft free (full q w some at all seen) = absurd (not_idle standing q w (draft, free))
  draft_stands draft free (refused q w some push at seen) = absurd (not_idle standing q w (draft, free))
  draft_stands draft free (barred q why w some is at seen) = absurd (not_idle standing q w (draft, free))

  -- once it has drafted another item
  pub draft_anew : (x : Item) → IsIdle standing → Stands room journal control cell place posts standing mine
      → Stands room journal control x place posts (Idle (Some x)) mine
  draft_anew x free (fresh y w item at seen) = fresh (Some x) refl refl at seen
  draft_anew x free (idle y w item some at seen) = idle (Some x) refl refl some at seen
  draft_anew x free (unanswered q w proper some at item seen) = absurd (not_idle standing q w free)
  draft_anew x free (entered q l r w some proper at item seen there) = absurd (not_idle standing q w free)
  draft_anew x free (full q w some at all seen) = absurd (not_idle standing q w free)
  draft_anew x free (refused q w some push at seen) = absurd (not_idle standing q w free)
  draft_anew x free (barred q why w some is at seen) = absurd (not_idle standing q w free)

  -- where a request stands posted, it is that of its pen, which waits, and all lines of its place
  -- have been read
  pub posted_stands : (s : ℕ) (k : Kind) → control ≡ Posted s k → Stands room journal control cell place posts standing mine
      → Unanswered journal cell place posts standing mine s k
  posted_stands s k e (fresh x w draft at seen) = absurd (let h : Posted s k ≡ Nothing = sym e ∙ at in cc)
  posted_stands s k e (idle x w draft some at seen) = absurd (no_post control s k e at)
  posted_stands s k e (unanswered q w proper some at item seen) =
      let h : Posted posts (kind_of q) ≡ Posted s k = sym at ∙ e in
      record { request = q; waits = w; proper = proper; kind = cc; item = item; serial = cc; some = some; lines = seen }
  posted_stands s k e (entered q l r w some proper at item seen there) = absurd (no_post control s k e (ap is_answer at))
  posted_stands s k e (full q w some at all seen) = absurd (no_post control s k e (ap is_answer at))
  posted_stands s k e (refused q w some push at seen) = absurd (no_post control s k e (ap is_answer at))
  posted_stands s k e (barred q why w some is at seen) = absurd (no_post control s k e (ap is_answer at))

  -- the cell of a posted request that has no item has no meaning
  pub plain_stands : (s : ℕ) (k : Kind) (x : Item) → control ≡ Posted s k → k ≢ kind.Push → Stands room journal control cell place posts standing mine
      → Stands room journal control x place posts standing mine
  plain_stands s k x e ne (fresh y w draft at seen) = absurd (let h : Posted s k ≡ Nothing = sym e ∙ at in cc)
  plain_stands s k x e ne (idle y w draft some at seen) = absurd (no_post control s k e at)
  plain_stands s k x e ne (unanswered q w proper some at item seen) =
      let h : Posted posts (kind_of q) ≡ Posted s k = sym at ∙ e in
      let f : kind_of q ≡ k = cc in
      unanswered q w proper some at (subst (λ o. Carries o x) (sym (no_item q (λ g. ne (sym f ∙ g)))) tt) seen
  plain_stands s k x e ne (entered q l r w some proper at item seen there) = absurd (no_post control s k e (ap is_answer at))
  plain_stands s k x e ne (full q w some at all seen) = absurd (no_post control s k e (ap is_answer at))
  plain_stands s k x e ne (refused q w some push at seen) = absurd (no_post control s k e (ap is_answer at))
  plain_stands s k x e ne (barred q why w some is at seen) = absurd (no_post control s k e (ap is_answer at))

  -- where an answer with its item stands in a waiting pen's record, the lines of its place are
  -- those that it has read, and then this one
  pub answered_stands : (q : Request) (a : Answer) → standing ≡ Waiting q → control ≡ answered a → Carries (answer_item a) cell
      → Stands room journal control cell place posts standing mine
      → (0 < posts) × (calls_of place journal ≡ mine ++ gained posts q a)
  answered_stands q a v e has (fresh x w draft at seen) = absurd (not_idle standing q v (x, w))
  answered_stands q a v e has (idle x w draft some at seen) = absurd (not_idle standing q v (x, w))
  answered_stands q a v e has (unanswered u w proper some at item seen) = absurd (no_post control posts (kind_of u) at (ap is_answer e))
  answered_stands q a v e has (entered u l r w some proper at item seen there) =
      let m : Entered l r ≡ a = same_answer cell (Entered l r) a item has (sym at ∙ e) in
      (some, seen ∙ (ap (λ y. mine ++ call l posts y r ∷ []) (one_request standing u q w v) ∙ ap (λ y. mine ++ gained posts q y) m))
  answered_stands q a v e has (full u w some at all seen) =
      let m : BookFull ≡ a = same_answer cell BookFull a tt has (sym at ∙ e) in
      (some, seen ∙ (sym (append-nil mine) ∙ ap (λ y. mine ++ gained posts q y) m))
  answered_stands q a v e has (refused u w some push at seen) =
      let m : NoMemory ≡ a = same_answer cell NoMemory a tt has (sym at ∙ e) in
      (some, seen ∙ (sym (append-nil mine) ∙ ap (λ y. mine ++ gained posts q y) m))
  answered_stands q a v e has (barred u why w some is at seen) =
      let m : Refused why ≡ a = same_answer cell (Refused why) a tt has (sym at ∙ e) in
      (some, seen ∙ (sym (append-nil mine) ∙ ap (λ y. mine ++ gained posts q y) m))

  -- the cell of an answer without an item has no meaning
  pub plain_answered : (q : Request) (a : Answer) → standing ≡ Waiting q → control ≡ answered a → answer_item a ≡ None
      → Stands room journal control cell place posts standing mine
      → (0 < posts) × (calls_of place journal ≡ mine ++ gained posts q a)
  plain_answered q a v e none = answered_stands q a v e (subst (λ o. Carries o cell) (sym none) tt)

  -- the record of a pen that waits is its post, or an answer
  pub waiting_there : (q : Request) → standing ≡ Waiting q → Stands room journal control cell place posts standing mine
      → (control ≡ posted posts q) ⊎ (is_answer control ≡ true)
  waiting_there q v (fresh x w draft at seen) = absurd (not_idle standing q v (x, w))
  waiting_there q v (idle x w draft some at seen) = absurd (not_idle standing q v (x, w))
  waiting_there q v (unanswered u w proper some at item seen) = inl (at ∙ ap (posted posts) (one_request standing u q w v))
  waiting_there q v (entered u l r w some proper at item seen there) = inr (ap is_answer at)
  waiting_there q v (full u w some at all seen) = inr (ap is_answer at)
  waiting_there q v (refused u w some push at seen) = inr (ap is_answer at)
  waiting_there q v (barred u why w some is at seen) = inr (ap is_answer at)

  -- a pen that has posted is idle, or its record is a post or an answer
  pub record_there : Stands room journal control cell place posts standing mine → (is_posted control ≡ true) ⊎ (IsIdle standing ⊎ (is_answer control ≡ true))
  record_there (fresh x w draft at seen) = inr (inl (x, w))
  record_there (idle x w draft some at seen) = inr (inl (x, w))
  record_there (unanswered q w proper some at item seen) = inl (ap is_posted at)
  record_there (entered q l r w some proper at item seen there) = inr (inr (ap is_answer at))
  record_there (full q w some at all seen) = inr (inr (ap is_answer at))
  record_there (refused q w some push at seen) = inr (inr (ap is_answer at))
  record_there (barred q why w some is at seen) = inr (inr (ap is_answer at))

  -- after an answer to its own request
  pub served_stands : RepliesAreProper → (q : Request) (a : Answer) → room ≤ GREATEST_NUMBER → AreItemsOf true (left journal) → MayTellOf room journal q a
      → Carries (answer_item a) cell → standing ≡ Waiting q → 0 < posts → calls_of place journal ≡ mine
      → Stands room (journal_after journal place posts q a) (answered a) cell place posts standing mine
  served_stands reply_proper q (Entered l r) small items may has w some seen =
      let e : 1 + length journal ≡ l = omega (arith, may.1) in
      let f : length journal ≡ l - 1 = omega (arith, may.1) in
      let n : IsLineNumber l = (omega (arith, may.1), omega (arith, may.0, may.1)) in
      entered q l r w some (n, subst (IsProperReplyOf true) (sym may.2) (reply_proper true (left journal) q items)) refl has
      (calls_here 1 place journal posts (Asked q) r ∙ (ap (λ c. c ++ call (1 + length journal) posts q r ∷ []) seen ∙ ap (λ m. mine ++ call m posts q r ∷ []) e))
      (subst (λ m. slice_get (journal ++ line place posts q r ∷ []) m ≡ Some (line place posts q r)) f (get_last journal (line place posts q r)))
  served_stands reply_proper q BookFull small items may has w some seen = full q w some refl may seen
  served_stands reply_proper q NoMemory small items may has w some seen = refused q w some may.1 refl seen
  served_stands reply_proper q (Refused why) small items may has w some seen = barred q why w some (deals_bar room journal q why may) refl seen

  -- after a request of its own, answered under its next serial: no word of the record has changed
  pub own_stands : (q : Operation) (a : Answer) → MayTell room journal q a → IsIdle standing → Stands room journal control cell place posts standing mine
      → Stands room (journal_by journal place (posts + 1) q a) control cell place (posts + 1) (Idle None) (mine ++ gained_by (posts + 1) q a)
  own_stands q a may free (fresh x w draft at seen) = fresh None refl tt at (own_calls room journal place (posts + 1) q a may mine seen)
  own_stands q a may free (idle x w draft some at seen) = idle None refl tt (omega arith) at (own_calls room journal place (posts + 1) q a may mine seen)
  own_stands q a may free (unanswered u w proper some at item seen) = absurd (not_idle standing u w free)
  own_stands q a may free (entered u l r w some proper at item seen there) = absurd (not_idle standing u w free)
  own_stands q a may free (full u w some at all seen) = absurd (not_idle standing u w free)
  own_stands q a may free (refused u w some push at seen) = absurd (not_idle standing u w free)
  own_stands q a may free (barred u why w some is at seen) = absurd (not_idle standing u w free)

  -- after an answer at another place
  pub other_stands : (k s : ℕ) (q : Operation) (a : Answer) → k ≢ place → MayTell room journal q a
      → Stands room journal control cell place posts standing mine → Stands room (journal_by journal k s q a) control cell place posts standing mine
  other_stands k s q BookFull ne may h = h
  other_stands k s q NoMemory ne may h = h
  other_stands k s q (Refused why) ne may h = h
  other_stands k s q (Entered l r) ne may (fresh x w draft at seen) = fresh x w draft at (calls_elsewhere 1 place k journal s q r ne ∙ seen)
  other_stands k s q (Entered l r) ne may (idle x w draft some at seen) = idle x w draft some at (calls_elsewhere 1 place k journal s q r ne ∙ seen)
  other_stands k s q (Entered l r) ne may (unanswered u w proper some at item seen) = unanswered u w proper some at item (calls_elsewhere 1 place k journal s q r ne ∙ seen)
  other_stands k s q (Entered l r) ne may (entered u m v w some proper at item seen there) =
      entered u m v w some proper at item (calls_elsewhere 1 place k journal s q r ne ∙ seen) (get_more journal (line_of k s q r ∷ []) (m - 1) (line place posts u v) there)
  other_stands k s q (Entered l r) ne may (full u w some at all seen) = absurd (let lt = may.0 in omega arith)
  other_stands k s q (Entered l r) ne may (refused u w some push at seen) = refused u w some push at (calls_elsewhere 1 place k journal s q r ne ∙ seen)
  other_stands k s q (Entered l r) ne may (barred u why w some is at seen) = barred u why w some (is.0, bars_more journal (line_of k s q r ∷ []) why is.1) at (calls_elsewhere 1 place k journal s q r ne ∙ seen)

-- the serials of what it has read stay below its next post
pub gained_below : (posts : ℕ) (q : Operation) (a : Answer) (mine : List Call) → AllByRecursion (λ c. c.serial < posts) mine
    → AllByRecursion (λ c. c.serial < posts + 1) (mine ++ gained_by posts q a)
gained_below posts q (Entered l r) mine h = all_more (λ (c : Call). c.serial < posts + 1) mine (call_of l posts q r) (all_weaker (λ (c : Call). c.serial < posts) (λ (c : Call). c.serial < posts + 1) mine (λ c k. omega arith) h) (omega arith)
gained_below posts q BookFull mine h = rw append-nil (all_weaker (λ (c : Call). c.serial < posts) (λ (c : Call). c.serial < posts + 1) mine (λ c k. omega arith) h)
gained_below posts q NoMemory mine h = rw append-nil (all_weaker (λ (c : Call). c.serial < posts) (λ (c : Call). c.serial < posts + 1) mine (λ c k. omega arith) h)
gained_below posts q (Refused why) mine h = rw append-nil (all_weaker (λ (c : Call). c.serial < posts) (λ (c : Call). c.serial < posts + 1) mine (λ c k. omega arith) h)

-- what it knows stays a beginning of the journal
pub known_keeps : (journal known : List Line) (k s : ℕ) (q : Operation) (a : Answer) → StartsWith journal known → StartsWith (journal_by journal k s q a) known
known_keeps journal known k s q (Entered l r) h = (h.0 ++ line_of k s q r ∷ [], ap (λ js. js ++ line_of k s q r ∷ []) h.1 ∙ append_assoc known h.0 (line_of k s q r ∷ []))
known_keeps journal known k s q BookFull h = h
known_keeps journal known k s q NoMemory h = h
known_keeps journal known k s q (Refused why) h = h

-- an answer to a proper request, whose serial is above all of its place, keeps the journal lawful
pub lawful_keeps : QueueLaws → (room : ℕ) (journal : List Line) (k s : ℕ) (q : Operation) (a : Answer) → IsProperOperationOf true q → MayTell room journal q a
    → AllByRecursion (λ c. c.serial < s) (calls_of k journal) → Lawful room journal → Lawful room (journal_by journal k s q a)
lawful_keeps laws room journal k s q (Entered l r) proper may below h =
    record {
      legal = laws.legal journal (line_of k s q r) h.legal may.2;
      rise = laws.rise journal (line_of k s q r) h.rise (lines_below 1 k s journal below);
      heeds = laws.heeds journal (line_of k s q r) h.heeds may.3;
      within = (let lt = may.0 in omega (arith, length-append journal (line_of k s q r ∷ [])));
      items = subst (λ es. AreItemsOf true (map item_of es)) (sym (laws.enters journal (line_of k s q r))) (laws.entries true (entries_of journal) (length journal + 1) q proper h.items);
    }
lawful_keeps laws room journal k s q BookFull proper may below h = h
lawful_keeps laws room journal k s q NoMemory proper may below h = h
lawful_keeps laws room journal k s q (Refused why) proper may below h = h

-- the lines of other places
pub keeps_unwritten : (place k s : ℕ) (q : Operation) (a : Answer) → k ≢ place → (journal : List Line)
    → calls_of place (journal_by journal k s q a) ≡ calls_of place journal
keeps_unwritten place k s q (Entered l r) ne journal = calls_elsewhere 1 place k journal s q r ne
keeps_unwritten place k s q BookFull ne journal = refl
keeps_unwritten place k s q NoMemory ne journal = refl
keeps_unwritten place k s q (Refused why) ne journal = refl
