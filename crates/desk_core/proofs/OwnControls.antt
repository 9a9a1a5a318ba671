-- What a leader notes of its own place, as it reads the mail at a place or answers there.
use Rattle.std.proofs.Common.{◌≡◌, ◌≢◌, ℕ, ◌⊎◌, inl, inr, refl, eq-eqb, ne_eqb}
use Rattle.std.specs.Prelude.{if◌then◌else◌, ◌==◌}
use mathlib.Core.Logic.{dite}
use native.Mathlib.Decide.{ℕ_discrete}
use Rattle.pq_types.specs.Asked.{Request}
use Rattle.pq_types.specs.Asked.{Answer}
use Rattle.pq_types.specs.declared.control.Control.{Control}
use Rattle.pq_types.specs.Control.{answered}
use Rattle.desk_core.specs.declared.model.Due.{Due}
use Rattle.desk_core.specs.declared.model.PenState.{PenState}
use Rattle.desk_core.specs.Pen.{after_read, after_answer}

-- at the pen's own place it is this control now, at another place it stays
abbrev pub Notes : ℕ → PenState → Control → Control → Type 0
Notes place p control own = ((place ≡ p.place) × (own ≡ control)) ⊎ ((place ≢ p.place) × (own ≡ p.own))

notes : (place : ℕ) (p : PenState) (control : Control) → Notes place p control (if place == p.place then control else p.own)
notes place p control =
    dite (ℕ_discrete place p.place)
    (λ e. inl (e, rw (eq-eqb place p.place e) refl))
    (λ ne. inr (ne, rw (ne_eqb place p.place ne) refl))

pub read_notes : (p : PenState) (place : ℕ) (control : Control) → Notes place p control (after_read p place control).own
read_notes p place control = notes place p control

pub answer_notes : (p : PenState) (due : Due) (request : Request) (answer : Answer)
    → Notes due.place p (answered answer) (after_answer p due request answer).own
answer_notes p due request answer = notes due.place p (answered answer)
