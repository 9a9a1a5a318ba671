-- What the steps on the words of an item come to, one or two.
use Rattle.std.proofs.Common.{◌≡◌, ℕ, ◌+◌, ◌^◌, ◌<◌, Bool, true, false, true≢false, refl, ap, sym, ◌∙◌, subst, arith}
use Rattle.std.specs.Prelude.{Some}
use Rattle.pq_types.specs.Item.{Item, IsItemOf}
use Rattle.pq_types.specs.Asked.{Request, Operation}
use Rattle.pq_types.specs.declared.control.Notice.{Notice}
use Rattle.pq_types.specs.Item.{item}
use Rattle.pq_types.specs.declared.request.Request.TheVariants.{Push, Pop, Least}
use Rattle.pq_types.specs.Operation.{Asked, ByTicket, Shuts, Remove, Move}
use Rattle.pq_types.specs.Queue.{IsProperRequestOf}
use Rattle.pq_types.specs.Entry.{IsProperOperationOf}
use Rattle.atomic_table.specs.Seated.{TableId}
use Rattle.desk_core.specs.Words.{word_number, word_of, mixed, WordsTellItems}
use Rattle.desk_core.specs.Pen.{IsKept, with_known, after_draft, after_read_item, after_lay, after_see, after_take}
use Rattle.desk_core.specs.declared.model.Standing.TheVariants.{Idle, Waiting}
use Rattle.desk_core.specs.declared.model.Due.{Due}
use Rattle.desk_core.specs.declared.model.Duty.TheVariants.{Active}
use Rattle.desk_core.specs.declared.model.PenState.{PenState}
use Rattle.desk_core.specs.declared.model.View.TheVariants.{Holder}
use Rattle.announce_board.specs.Rule.{Seated}
use Rattle.announce_board.specs.Steps.{pen_at, Becomes, WordDrafted, WordLaid, CellRead, WordSeen, Taken}
use Rattle.announce_board.specs.Tokens.{IsAt}
use Rattle.announce_board.specs.Serving.{IsServing}
use Rattle.pq_types.specs.Control.{request_item}
use Rattle.announce_board.specs.Asking.{IsDrafted}
use Rattle.announce_board.specs.ItemWords.{drafted_by, read_by, laid_by, taken_by}
use Rattle.announce_board.specs.Loads.{LoadsCell, TakesOwn}
use Rattle.announce_board.specs.Told.{CellsStand}
use Rattle.announce_board.proofs.Looks.{pen_is}

-- a seat after a step that keeps its place
pub at_after : (table : TableId) (m n : Seated) (q : PenState) (place : ℕ) → IsAt table m place → Becomes m (record q { duty = Active }) n → q.place ≡ (pen_at m).place
    → IsAt table n place
at_after table m n q place at e same =
    let pen = pen_is m n (record q { duty = Active }) e in
    record { is = ap (λ (s : Seated). s.0) e ∙ ap Holder (sym pen); here = at.here ∙ sym (ap (λ (r : PenState). r.place) pen ∙ same); inside = at.inside }

pub serving_after : (table : TableId) (places place : ℕ) (m n : Seated) (q : PenState) → IsServing table places m place → Becomes m (record q { duty = Active }) n → q.leading ≡ (pen_at m).leading
    → IsServing table places n place
serving_after table places place m n q at e same =
    let pen = pen_is m n (record q { duty = Active }) e in
    record { is = ap (λ (s : Seated). s.0) e ∙ ap Holder (sym pen); leads = ap (λ (r : PenState). r.leading) pen ∙ (same ∙ at.leads); within = at.within; inside = at.inside }

-- two steps more
two_more : (n : ℕ) → n + 1 + 1 ≡ n + 2
two_more n = omega arith

-- the items of two words
both_words : (first second : ℕ) (x y : Item) → first ≡ x.priority → second ≡ y.value → y ≡ x → item first second ≡ x
both_words first second x y e f g = ap (λ n. item n second) e ∙ ap (λ n. item x.priority n) (f ∙ ap (λ (z : Item). z.value) g)

-- a draft
pub drafted_narrow : (wide : Bool) (x : Item) (a b : Seated) → wide ≡ false → WordDrafted wide 0 x a b → Becomes a (drafted_by (word_number wide) (pen_at a) x) b
drafted_narrow false x a b e h = h.next
drafted_narrow true x a b e h = absurd (true≢false e)

pub drafted_wide : CellsStand → (wide : Bool) (x : Item) (a b c : Seated) → wide ≡ true → WordDrafted wide 0 x a b → WordDrafted wide 1 x b c
    → Becomes a (drafted_by (word_number wide) (pen_at a) x) c
drafted_wide stand false x a b c e h k = absurd (true≢false (sym e))
drafted_wide stand true x a b c e h k =
    let p = pen_at a in
    let y = mixed true 0 x (h.desk.item p.place) in
    let pen : pen_at b ≡ after_draft p y = pen_is a b (after_draft p y) h.next in
    let cell : k.desk.item (pen_at b).place ≡ y = stand.draft k.desk k.stands.seat (pen_at b) k.stands.meets k.stands.has y (ap (λ (r : PenState). r.standing) pen) in
    let f : Seated → Seated = λ m. (Holder (after_draft (pen_at m) x), m.1) in
    k.next ∙ (ap (λ z. (Holder (after_draft (pen_at b) (mixed true 1 x z)), b.1)) cell ∙ (ap f h.next
    ∙ ap (λ n. (Holder (record p { standing = Idle (Some x); steps = n }), a.1)) (two_more p.steps)))

-- the item of a push is drafted once it is stored
pub push_drafted : (words : ℕ) (a b : Seated) (q : Request) (x : Item) → q ≡ Push x → Becomes a (drafted_by words (pen_at a) x) b → IsDrafted (pen_at b).standing q
push_drafted words a b q x is next =
    (Some x, ap (λ (r : PenState). r.standing) (pen_is a b (drafted_by words (pen_at a) x) next), subst (λ r. IsKept (request_item r) (Some x)) (sym is) refl)

-- what was drafted first leaves the pen idle, at its place
pub drafted_at : (wide : Bool) (table : TableId) (x : Item) (a b : Seated) (place : ℕ) → IsAt table a place → WordDrafted wide 0 x a b → IsAt table b place
drafted_at wide table x a b place at h = at_after table a b (after_draft (pen_at a) (mixed wide 0 x (h.desk.item (pen_at a).place))) place at h.next refl

pub drafted_idle : (wide : Bool) (x : Item) (a b : Seated) → (h : WordDrafted wide 0 x a b) → (pen_at b).standing ≡ Idle (Some (mixed wide 0 x (h.desk.item (pen_at a).place)))
drafted_idle wide x a b h = ap (λ (r : PenState). r.standing) (pen_is a b (after_draft (pen_at a) (mixed wide 0 x (h.desk.item (pen_at a).place))) h.next)

-- a read
pub read_narrow : WordsTellItems → (wide : Bool) (due : Due) (a b : Seated) (word first second : ℕ) → wide ≡ false → (pen_at a).due ≡ Some due → CellRead wide 0 due a word b
    → IsItemOf false (item first second) → word_of false 0 (item first second) ≡ word → LoadsCell (word_number wide) a (item first second) b
read_narrow tell true due a b word first second e is_due h fits same = absurd (true≢false e)
read_narrow tell false due a b word first second e is_due h fits same =
    let x = h.desk.item due.place in
    let is : item first second ≡ x = tell false (item first second) x fits h.range (λ j lt. same ∙ h.word_is) in
    record { due = due; is_due = is_due; desk = h.desk; stands = h.stands; item = is; next = h.next ∙ ap (λ z. (Holder (read_by 1 (pen_at a) due z), a.1)) (sym is) }

pub read_due : (wide : Bool) (due : Due) (a b : Seated) (word : ℕ) → (h : CellRead wide 0 due a word b) → (pen_at b).due ≡ Some (with_known due (h.desk.item due.place))
read_due wide due a b word h = ap (λ (r : PenState). r.due) (pen_is a b (after_read_item (pen_at a) due (h.desk.item due.place)) h.next)

pub read_serving : (wide : Bool) (table : TableId) (places place : ℕ) (due : Due) (a b : Seated) (word : ℕ) → IsServing table places a place → CellRead wide 0 due a word b
    → IsServing table places b place
read_serving wide table places place due a b word at h = serving_after table places place a b (after_read_item (pen_at a) due (h.desk.item due.place)) at h.next refl

pub read_wide : CellsStand → (wide : Bool) (due : Due) (a b c : Seated) (first second : ℕ) → wide ≡ true → (pen_at a).due ≡ Some due → CellRead wide 0 due a first b
    → ((now : Due) → (pen_at b).due ≡ Some now → CellRead wide 1 now b second c) → LoadsCell (word_number wide) a (item first second) c
read_wide stand false due a b c first second e is_due h then = absurd (true≢false (sym e))
read_wide stand true due a b c first second e is_due h then =
    let p = pen_at a in
    let x = h.desk.item due.place in
    let now = with_known due x in
    let is_now = read_due true due a b first h in
    let k = then now is_now in
    let cell : k.desk.item due.place ≡ x = stand.due k.desk k.stands.seat (pen_at b) k.stands.meets k.stands.has now x is_now refl in
    let is = both_words first second x (k.desk.item due.place) h.word_is k.word_is cell in
    let f : Seated → Seated = λ m. (Holder (after_read_item (pen_at m) now x), m.1) in
    record {
      due = due;
      is_due = is_due;
      desk = h.desk;
      stands = h.stands;
      item = is;
      next = k.next ∙ (ap (λ z. (Holder (after_read_item (pen_at b) now z), b.1)) cell ∙ (ap f h.next
          ∙ (ap (λ n. (Holder (record (read_by 1 p due x) { steps = n }), a.1)) (two_more p.steps) ∙ ap (λ z. (Holder (read_by 2 p due z), a.1)) (sym is))));
    }

pub read_fits : (wide : Bool) (due : Due) (a b c : Seated) (first second : ℕ) → wide ≡ true → CellRead wide 0 due a first b
    → (now : Due) → CellRead wide 1 now b second c → IsItemOf wide (item first second)
read_fits false due a b c first second e h now k = absurd (true≢false (sym e))
read_fits true due a b c first second e h now k = (subst (λ n. n < 2 ^ 64) (sym h.word_is) h.range.0, subst (λ n. n < 2 ^ 64) (sym k.word_is) k.range.1)

-- a laying
pub laid_narrow : (wide : Bool) (due : Due) (x : Item) (a b : Seated) → wide ≡ false → WordLaid wide 0 due x a b → Becomes a (laid_by (word_number wide) (pen_at a) due x) b
laid_narrow false due x a b e h = h.next
laid_narrow true due x a b e h = absurd (true≢false e)

pub laid_due : (wide : Bool) (due : Due) (x : Item) (a b : Seated) → (h : WordLaid wide 0 due x a b) → (pen_at b).due ≡ Some (with_known due (mixed wide 0 x (h.desk.item due.place)))
laid_due wide due x a b h = ap (λ (r : PenState). r.due) (pen_is a b (after_lay (pen_at a) due (mixed wide 0 x (h.desk.item due.place))) h.next)

pub laid_serving : (wide : Bool) (table : TableId) (places place : ℕ) (due : Due) (x : Item) (a b : Seated) → IsServing table places a place → WordLaid wide 0 due x a b
    → IsServing table places b place
laid_serving wide table places place due x a b at h = serving_after table places place a b (after_lay (pen_at a) due (mixed wide 0 x (h.desk.item due.place))) at h.next refl

pub laid_wide : CellsStand → (wide : Bool) (due : Due) (x : Item) (a b c : Seated) → wide ≡ true → WordLaid wide 0 due x a b
    → ((now : Due) → (pen_at b).due ≡ Some now → WordLaid wide 1 now x b c) → Becomes a (laid_by (word_number wide) (pen_at a) due x) c
laid_wide stand false due x a b c e h then = absurd (true≢false (sym e))
laid_wide stand true due x a b c e h then =
    let p = pen_at a in
    let y = mixed true 0 x (h.desk.item due.place) in
    let now = with_known due y in
    let is_now = laid_due true due x a b h in
    let k = then now is_now in
    let cell : k.desk.item due.place ≡ y = stand.due k.desk k.stands.seat (pen_at b) k.stands.meets k.stands.has now y is_now refl in
    let f : Seated → Seated = λ m. (Holder (after_lay (pen_at m) now x), m.1) in
    k.next ∙ (ap (λ z. (Holder (after_lay (pen_at b) now (mixed true 1 x z)), b.1)) cell ∙ (ap f h.next
    ∙ ap (λ n. (Holder (record p { due = Some (with_known due x); steps = n }), a.1)) (two_more p.steps)))

-- a taking
pub taken_narrow : WordsTellItems → (wide : Bool) (request : Request) (notice : Notice) (a b : Seated) (word first second : ℕ) → wide ≡ false → (pen_at a).standing ≡ Waiting request
    → Taken wide 0 request notice a word b → IsItemOf false (item first second) → word_of false 0 (item first second) ≡ word → TakesOwn (word_number wide) notice a (item first second) b
taken_narrow tell true request notice a b word first second e waits h fits same = absurd (true≢false e)
taken_narrow tell false request notice a b word first second e waits h fits same =
    let x = h.desk.item (pen_at a).place in
    let is : item first second ≡ x = tell false (item first second) x fits h.range (λ j lt. same ∙ h.word_is) in
    record { request = request; waited = waits; desk = h.desk; stands = h.stands; item = is; now = h.now; next = h.next ∙ ap (λ z. (Holder (taken_by 1 (pen_at a) request notice z h.now), a.1)) (sym is) }

pub seen_pen : (wide : Bool) (a b : Seated) (word : ℕ) → (h : WordSeen wide 0 a word b) → pen_at b ≡ after_see (pen_at a) (h.desk.item (pen_at a).place)
seen_pen wide a b word h = pen_is a b (after_see (pen_at a) (h.desk.item (pen_at a).place)) h.next

pub seen_at : (wide : Bool) (table : TableId) (a b : Seated) (word place : ℕ) → IsAt table a place → WordSeen wide 0 a word b → IsAt table b place
seen_at wide table a b word place at h = at_after table a b (after_see (pen_at a) (h.desk.item (pen_at a).place)) place at h.next refl

pub taken_wide : CellsStand → (wide : Bool) (request : Request) (notice : Notice) (a b c : Seated) (first second : ℕ) → wide ≡ true → (pen_at a).standing ≡ Waiting request
    → WordSeen wide 0 a first b → ((q : Request) → (pen_at b).standing ≡ Waiting q → Taken wide 1 q notice b second c) → TakesOwn (word_number wide) notice a (item first second) c
taken_wide stand false request notice a b c first second e waits h then = absurd (true≢false (sym e))
taken_wide stand true request notice a b c first second e waits h then =
    let p = pen_at a in
    let x = h.desk.item p.place in
    let pen = seen_pen true a b first h in
    let k = then request (ap (λ (r : PenState). r.standing) pen ∙ waits) in
    let cell : k.desk.item (pen_at b).place ≡ x = stand.seen k.desk k.stands.seat (pen_at b) k.stands.meets k.stands.has x (ap (λ (r : PenState). r.seen) pen) in
    let is = both_words first second x (k.desk.item (pen_at b).place) h.word_is k.word_is cell in
    let f : Seated → Seated = λ m. (Holder (after_take (pen_at m) request notice x k.now), m.1) in
    record {
      request = request;
      waited = waits;
      desk = h.desk;
      stands = h.stands;
      item = is;
      now = k.now;
      next = k.next ∙ (ap (λ z. (Holder (after_take (pen_at b) request notice z k.now), b.1)) cell ∙ (ap f h.next
          ∙ (ap (λ n. (Holder (record (taken_by 1 p request notice x k.now) { steps = n }), a.1)) (two_more p.steps) ∙ ap (λ z. (Holder (taken_by 2 p request notice z k.now), a.1)) (sym is))));
    }

pub taken_fits : (wide : Bool) (request : Request) (notice : Notice) (a b c : Seated) (first second : ℕ) → wide ≡ true → WordSeen wide 0 a first b
    → Taken wide 1 request notice b second c → IsItemOf wide (item first second)
taken_fits false request notice a b c first second e h k = absurd (true≢false (sym e))
taken_fits true request notice a b c first second e h k = (subst (λ n. n < 2 ^ 64) (sym h.word_is) h.range.0, subst (λ n. n < 2 ^ 64) (sym k.word_is) k.range.1)

-- the words of an item
pub one_word : (wide : Bool) → 0 < word_number wide
one_word false = omega arith
one_word true = omega arith

pub two_words : (wide : Bool) → wide ≡ true → 1 < word_number wide
two_words false e = absurd (true≢false (sym e))
two_words true e = omega arith

pub second_is : (wide : Bool) (x : Item) → wide ≡ true → x.value ≡ word_of wide 1 x
second_is false x e = absurd (true≢false (sym e))
second_is true x e = refl

-- a request in the range of either width is in that of wide ones
pub wider_request : (wide : Bool) (q : Request) → IsProperRequestOf wide q → IsProperRequestOf true q
wider_request false (Push x) h = (omega (arith, h.0), omega (arith, h.1))
wider_request true (Push x) h = h
wider_request wide Pop h = tt
wider_request wide Least h = tt

-- an operation in the range of its width is in that of the greater
pub wider_operation : (wide : Bool) (o : Operation) → IsProperOperationOf wide o → IsProperOperationOf true o
wider_operation wide (Asked q) h = wider_request wide q h
wider_operation wide (ByTicket (Remove i)) h = tt
wider_operation false (ByTicket (Move i priority)) h = omega (arith, h)
wider_operation true (ByTicket (Move i priority)) h = h
wider_operation wide Shuts h = tt

-- zeros are in the range of either width
pub zero_in_range : (wide : Bool) → IsItemOf wide (item 0 0)
zero_in_range false = (omega arith, omega arith)
zero_in_range true = (omega arith, omega arith)
