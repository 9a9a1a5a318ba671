-- What one more line does to what a replay keeps.
use Rattle.std.proofs.Common.{◌≡◌, ◌≢◌, ℕ, ◌+◌, ◌<◌, Bool, true, false, List, [], ◌∷◌, ◌++◌, length, get_or, set, replicate}
use Rattle.std.proofs.Common.{refl, sym, ◌∙◌, ap, subst, arith}
use Rattle.std.specs.Prelude.{◌==◌}
use Rattle.std.specs.List.{AllByRecursion}
use Rattle.std.proofs.lemmas.Bool.Decides.{nat_tests}
use Rattle.std.proofs.Math.ListN.{length-set}
use Rattle.std.proofs.lemmas.List.{get_or-set_same, get_or-set_other, length-replicate, get_or-replicate}
use Rattle.pq_types.specs.Asked.{Line, Operation, Reply}
use Rattle.pq_types.specs.declared.journal.TheConstants.{GREATEST_NUMBER}
use Rattle.pq_types.specs.Entry.{reply_by}
use Rattle.pq_types.specs.History.{entries_of, last_serial, IsHeard}
use Rattle.pq_types.specs.Operation.{Asked, ByTicket, Shuts, Remove, Move}
use Rattle.pq_types.specs.Laws.{SerialOfOneMore, StaysLegal, StillRises, StillHeeds}
use Rattle.pq_book.specs.Book.{Volume, IsPlain, KeepsTerms}
use Rattle.queue_texts.specs.declared.replay.TheConstants.{PLACES}
use Rattle.queue_texts.specs.declared.refusal.Breach.{Breach}
use Rattle.queue_texts.specs.LineText.{MayReplyTo, HasReplyOfItsKind}
use Rattle.queue_texts.specs.Audit.{IsLawful, Breaks, breach_by}
use Rattle.queue_texts.specs.Replay.{AreLastSerials, IsReplayed}

-- a serial above the last of its place is above each
below : (p n : ℕ) (ls : List Line) → last_serial p ls < n → AllByRecursion (λ m. p ≡ m.place → m.serial < n) ls
below p n [] h = tt
below p n (m ∷ ls) h = ((λ e. grind (arith, nat_tests, h, e)), below p n ls (omega (arith, h)))

pub lawful_none : IsLawful []
lawful_none = record { legal = tt; rise = tt; heeds = tt }

-- a lawful journal with a line that has the due reply, a serial above the last of its place, and is refused by no shut
pub lawful_more : StaysLegal → StillRises → StillHeeds → (ls : List Line) (l : Line) → l.reply ≡ reply_by (entries_of ls) l.operation
    → last_serial l.place ls < l.serial → IsHeard ls l.operation → IsLawful ls → IsLawful (ls ++ l ∷ [])
lawful_more legal_more rise_more heeds_more ls l reply above heard h = record {
  legal = legal_more ls l h.legal reply;
  rise = rise_more ls l h.rise (below l.place l.serial ls above);
  heeds = heeds_more ls l h.heeds heard;
}

-- the last serials with one more line
serials_more : SerialOfOneMore → (ls : List Line) (l : Line) (last : List ℕ) → l.place < PLACES → last_serial l.place ls < l.serial
    → AreLastSerials last ls → AreLastSerials (set last l.place l.serial) (ls ++ l ∷ [])
serials_more one_more ls l last within above h = (length-set last l.place l.serial ∙ h.0, at) where
  at : (place : ℕ) → place < PLACES → get_or (set last l.place l.serial) place 0 ≡ last_serial place (ls ++ l ∷ [])
  at place small = by (place == l.place) refl where
    by : (b : Bool) → (place == l.place) ≡ b → get_or (set last l.place l.serial) place 0 ≡ last_serial place (ls ++ l ∷ [])
    by true e =
        let same : place ≡ l.place = grind (arith, nat_tests, e) in
        subst (λ p. get_or (set last l.place l.serial) p 0 ≡ last_serial p (ls ++ l ∷ [])) (sym same)
        (get_or-set_same last l.place l.serial 0 (omega (arith, h.0, within)) ∙ grind (arith, nat_tests, one_more l.place ls l, above))
    by false e =
        let other : place ≢ l.place = λ same. grind (arith, nat_tests, e, same) in
        get_or-set_other last l.place place l.serial 0 other ∙ h.1 place small ∙ grind (arith, nat_tests, one_more place ls l, e)

-- what a replay keeps, with one more line, where each part is known by an equation
pub replayed_more : SerialOfOneMore → StaysLegal → StillRises → StillHeeds → (book after : Volume) (last last' : List ℕ) (l : Line)
    → IsReplayed book last → l.place < PLACES → last_serial l.place book.journal < l.serial → l.reply ≡ reply_by (entries_of book.journal) l.operation
    → IsHeard book.journal l.operation → KeepsTerms book after → after.allowed ≡ book.allowed → after.journal ≡ book.journal ++ l ∷ []
    → last' ≡ set last l.place l.serial → IsReplayed after last'
replayed_more one_more legal_more rise_more heeds_more book after last last' l h within above reply heard terms allowed f g = record {
  room_is = terms.0 ∙ h.room_is;
  plain = (terms.1 ∙ h.plain.0 ∙ ap (λ n. n + 1) (sym terms.0), allowed ∙ h.plain.1 ∙ sym terms.0);
  lawful = subst IsLawful (sym f) (lawful_more legal_more rise_more heeds_more book.journal l reply above heard h.lawful);
  serials =
      subst (λ x. AreLastSerials x after.journal) (sym g)
      (subst (λ x. AreLastSerials (set last l.place l.serial) x) (sym f) (serials_more one_more book.journal l last within above h.serials));
}

none_yet : (n : ℕ) → n ≡ PLACES → AreLastSerials (replicate n 0) []
none_yet n e = (length-replicate n 0 ∙ e, λ place within. get_or-replicate n place 0 0 (subst (λ m. place < m) (sym e) within))

-- what a replay of no lines keeps
pub replayed_none : (n : ℕ) (book : Volume) (last : List ℕ) → n ≡ PLACES → book.room ≡ GREATEST_NUMBER → book.journal ≡ [] → IsPlain book
    → last ≡ replicate n 0 → IsReplayed book last
replayed_none n book last few e f plain g = record {
  room_is = e;
  plain = plain;
  lawful = subst IsLawful (sym f) lawful_none;
  serials =
      subst (λ x. AreLastSerials x book.journal) (sym g) (subst (λ x. AreLastSerials (replicate n 0) x) (sym f) (none_yet n few));
}

-- how a line breaks the law that comes next, and has another reply than the due one
pub breaks_by : (journal : List Line) (number : ℕ) (l : Line) (due : Reply) (b : Breach) → HasReplyOfItsKind l → number ≡ length journal + 1
    → last_serial l.place journal < l.serial → due ≡ reply_by (entries_of journal) l.operation → l.reply ≢ due
    → b ≡ breach_by l.operation l.reply due → Breaks journal number l b
breaks_by journal number l due b kind next above is other breach = subst (Breaks journal number l) (sym breach) (by l.operation refl kind) where
  by : (o : Operation) → l.operation ≡ o → MayReplyTo o l.reply → Breaks journal number l (breach_by o l.reply due)
  by (Asked q) e may = (next, above, refl, (q, e, is ∙ ap (reply_by (entries_of journal)) e), other)
  by (ByTicket (Remove ticket)) e may = (next, above, e, refl, is, other)
  by (ByTicket (Move ticket priority)) e may = (next, above, e, refl, is, other)
  by Shuts e may = absurd (other (may ∙ sym (is ∙ ap (reply_by (entries_of journal)) e)))
