-- What the calls of a member's pen leave as it was.
use Rattle.std.proofs.Common.{◌≡◌, ◌∙◌, ap, refl, true, false, Bool}
use Rattle.std.specs.Prelude.{ℕ, Option}
use Rattle.pq_types.specs.Item.{Item}
use Rattle.pq_types.specs.Asked.{Request}
use Rattle.pq_types.specs.declared.request.Request.TheVariants.{Push, Pop, Least}
use Rattle.pq_types.specs.Asked.{Answer}
use Rattle.pq_types.specs.declared.control.Notice.{Notice}
use Rattle.pq_types.specs.declared.control.Control.{Control}
use Rattle.pq_types.specs.declared.control.Control.TheVariants.{Nothing, Posted, Answered}
use Rattle.pq_types.specs.Control.{notice_has_item}
use Rattle.desk_core.specs.Pen.{after_look}
use Rattle.desk_core.specs.declared.model.PenState.{PenState}
use Rattle.announce_board.specs.Asking.{asked_by, seen_by, taken_if, LooksBy}

pub asked_place : (words : ℕ) (p : PenState) (request : Request) (now : ℕ) → (asked_by words p request now).place ≡ p.place
asked_place words p (Push x) now = refl
asked_place words p Pop now = refl
asked_place words p Least now = refl

pub asked_room : (words : ℕ) (p : PenState) (request : Request) (now : ℕ) → (asked_by words p request now).room ≡ p.room
asked_room words p (Push x) now = refl
asked_room words p Pop now = refl
asked_room words p Least now = refl

taken_place : (words : ℕ) (b : Bool) (p : PenState) (request : Request) (n : Notice) (cell : Item) (now : ℕ) → (taken_if words b p request n cell now).place ≡ p.place
taken_place words true p request n cell now = refl
taken_place words false p request n cell now = refl

taken_room : (words : ℕ) (b : Bool) (p : PenState) (request : Request) (n : Notice) (cell : Item) (now : ℕ) → (taken_if words b p request n cell now).room ≡ p.room
taken_room words true p request n cell now = refl
taken_room words false p request n cell now = refl

seen_place : (words : ℕ) (p : PenState) (request : Request) (control : Control) (cell : Item) (now : ℕ) → (seen_by words p request control cell now).place ≡ p.place
seen_place words p request Nothing cell now = refl
seen_place words p request (Posted serial kind) cell now = refl
seen_place words p request (Answered n) cell now = taken_place words (notice_has_item n) (after_look p request (Answered n) now) request n cell now

seen_room : (words : ℕ) (p : PenState) (request : Request) (control : Control) (cell : Item) (now : ℕ) → (seen_by words p request control cell now).room ≡ p.room
seen_room words p request Nothing cell now = refl
seen_room words p request (Posted serial kind) cell now = refl
seen_room words p request (Answered n) cell now = taken_room words (notice_has_item n) (after_look p request (Answered n) now) request n cell now

pub looks_place : (words : ℕ) (p : PenState) (result : Option Answer) (p' : PenState) → LooksBy words p result p' → p'.place ≡ p.place
looks_place words p result p' h = ap (λ (z : PenState). z.place) h.next ∙ seen_place words p h.request h.control h.cell h.now

pub looks_room : (words : ℕ) (p : PenState) (result : Option Answer) (p' : PenState) → LooksBy words p result p' → p'.room ≡ p.room
looks_room words p result p' h = ap (λ (z : PenState). z.room) h.next ∙ seen_room words p h.request h.control h.cell h.now
