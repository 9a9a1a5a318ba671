-- How the turns of a call follow one another.
use Rattle.std.proofs.Common.{◌≡◌, ◌≢◌, ◌∙◌, zero, suc, ⊎_elim, ℕ, inl, inr, sym, ap, subst, refl, true, true≢false}
use Rattle.std.specs.Prelude.{Some, None, is_some}
use Rattle.pq_types.specs.Item.{Item}
use Rattle.pq_types.specs.Asked.{Answer}
use Rattle.pq_types.specs.declared.control.Control.{Control}
use Rattle.pq_types.specs.declared.control.Control.TheVariants.{Nothing, Posted, Answered}
use Rattle.pq_types.specs.Control.{is_answer}
use Rattle.announce_board.specs.Asking.{answer_in, LooksBy}
use Rattle.flat_queue.specs.Members.{Joined, StaysAtPlace}
use Rattle.flat_queue.specs.declared.gate.Turn.{Turn}
use Rattle.flat_queue.specs.declared.gate.Turn.TheVariants.{Lead, Look, GiveUp}
use Rattle.flat_queue.specs.Turns.{TakesBy, LooksInVainBy, LeadsItselfBy, WaitedBy, EndsWaitingBy}

-- a control that is an answer tells one
no_answer : (control : Control) (cell : Item) → is_answer control ≡ true → None ≡ answer_in control cell → ⊥
no_answer Nothing cell h e = true≢false (sym h)
no_answer (Posted serial kind) cell h e = true≢false (sym h)
no_answer (Answered notice) cell h e = true≢false (sym (ap is_some e))

-- behind a round of its own no look is in vain
not_in_vain : (words : ℕ) (may : Turn → Type 0) (a b c : Joined) → LeadsItselfBy words may a b → LooksInVainBy words b c → ⊥
not_in_vain words may a b c (looked, (s, l), m, (served, doors, r)) (t, k) =
    let own = (r.own l.request ((l.waits refl).0 ∙ l.waited)).1 in
    no_answer k.control k.cell (ap is_answer (k.known own) ∙ own) k.answer

pub waited_at_first : (words : ℕ) (may : Turn → Type 0) (a : Joined) → WaitedBy words may a a
waited_at_first words may a = record { turns = zero; vain = a; in_vain = refl; led = inl refl }

-- one turn more, behind turns in vain alone
turned : (words : ℕ) (may : Turn → Type 0) (turn : Turn) (a b c d : Joined) (w : WaitedBy words may a b) → LooksInVainBy words w.vain c → may turn → TakesBy words turn c d → turn ≢ GiveUp → WaitedBy words may a d
turned words may Lead a b c d w k m (inl r) n = record { turns = w.turns; vain = w.vain; in_vain = w.in_vain; led = inr (c, k, m, r) }
turned words may Lead a b c d w k m (inr f) n = record { turns = suc w.turns; vain = d; in_vain = (w.vain, w.in_vain, (c, k, inr (m, f))); led = inl refl }
turned words may Look a b c d w k m t n = record { turns = suc w.turns; vain = d; in_vain = (w.vain, w.in_vain, (c, k, inl (m, t))); led = inl refl }
turned words may GiveUp a b c d w k m t n = absurd (n refl)

-- one turn more
pub waited_on : (words : ℕ) (may : Turn → Type 0) (turn : Turn) (a b c d : Joined) → WaitedBy words may a b → LooksInVainBy words b c → may turn → TakesBy words turn c d → turn ≢ GiveUp → WaitedBy words may a d
waited_on words may turn a b c d w k m t n =
    ⊎_elim (λ e. turned words may turn a b c d w (subst (λ z. LooksInVainBy words z c) e k) m t n) (λ r. absurd (not_in_vain words may w.vain b c r k)) w.led

-- a look that found the answer
pub ends_told : (words : ℕ) (may : Turn → Type 0) (a b c : Joined) (answer : Answer) → WaitedBy words may a b → StaysAtPlace b c → LooksBy words b.pen (Some answer) c.pen → EndsWaitingBy words may a (Some answer) c
ends_told words may a b c answer w s l = record { last = b; waited = w; stays = s; looks = l; gave_up = λ e. absurd (true≢false (ap is_some e)) }

-- a turn to give up, behind a look that found none
pub ends_untold : (words : ℕ) (may : Turn → Type 0) (a b c d : Joined) → WaitedBy words may a b → LooksInVainBy words b c → may GiveUp → TakesBy words GiveUp c d → EndsWaitingBy words may a None d
ends_untold words may a b c d w (s, l) m t =
    subst (λ z. EndsWaitingBy words may a None z) (sym t) record { last = b; waited = w; stays = s; looks = l; gave_up = λ e. m }
