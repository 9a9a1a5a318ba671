-- What a line put in waits until a line takes it out.
use Rattle.std.proofs.Common.{◌≡◌, ℕ, ◌+◌, ◌⊎◌, inl, inr, Bool, true, false, List, [], ◌∷◌, ◌++◌, length, append_assoc, refl, sym, ◌∙◌, ap, subst, arith}
use Rattle.std.specs.Prelude.{Some}
use Rattle.pq_types.specs.Asked.{Line}
use Rattle.pq_types.specs.Entry.{Entry, item_of, item_at, entries_after}
use Rattle.pq_types.specs.History.{entries_from, entries_of}
use Rattle.pq_types.specs.Outs.{StandsAt, IsPutInOn, IsOutOn}
use Rattle.pq_book.specs.Outs.{WaitsOrIsOut}
use Rattle.pq_book.proofs.Entries.{entries_from-append, entries_are_put_in}
use Rattle.pq_book.proofs.FirstIn.{TakesOut, Takes, taken_among, waits, waits_new, one_put}
use Rattle.pq_book.proofs.OnceOut.{item_that_waits}

pub waits_or_is_out : WaitsOrIsOut
waits_or_is_out journal i x (l, at, put) = at_choice (waits i (entries_of journal)) refl where
  number : ℕ
  number = 1 + length at.before

  after_put : List Entry
  after_put = entries_after (entries_of at.before) number l.operation

  onward : (ls : List Line) → entries_of (at.before ++ l ∷ ls) ≡ entries_from after_put (number + 1) ls
  onward ls = entries_from-append [] 1 at.before (l ∷ ls)

  it_waits : waits i (entries_of journal) ≡ true → item_at i (entries_of journal) ≡ Some x
  it_waits w =
      let e = item_that_waits (λ f. IsPutInOn journal f.line (item_of f)) i (entries_of journal) w (entries_are_put_in journal) in
      e.3 ∙ ap Some (one_put journal i (item_of e.0) x (subst (λ n. IsPutInOn journal n (item_of e.0)) e.1 e.2) (l, at, put))

  is_out : Takes i (number + 1) after_put at.behind → (h : ℕ) × IsOutOn journal i h
  is_out taken = (length before + 1, goes_out taken.takes) where
    before : List Line
    before = at.before ++ l ∷ taken.before

    stands : StandsAt journal (length before + 1) taken.taker
    stands = record {
      before = before;
      behind = taken.behind;
      split = at.split ∙ ap (λ ls. at.before ++ l ∷ ls) taken.split ∙ sym (append_assoc at.before (l ∷ taken.before) (taken.taker ∷ taken.behind));
      counted = refl;
    }

    goes_out : TakesOut i (entries_from after_put (number + 1) taken.before) taken.taker.operation → IsOutOn journal i (length before + 1)
    goes_out (inl (pops, (e, others, first, is))) = inl (taken.taker, stands, pops, (e, others, onward taken.before ∙ first, is))
    goes_out (inr (uses, s)) = inr (taken.taker, stands, uses, (s.own, s.front, s.back, onward taken.before ∙ s.split, s.is))

  at_choice : (b : Bool) → waits i (entries_of journal) ≡ b → (item_at i (entries_of journal) ≡ Some x) ⊎ ((h : ℕ) × IsOutOn journal i h)
  at_choice true w = inl (it_waits w)
  at_choice false w =
      let first = waits_new i number (entries_of at.before) l.operation x (omega (arith, at.counted)) put in
      let gone : waits i (entries_from after_put (number + 1) at.behind) ≡ false = ap (waits i) (sym (onward at.behind) ∙ ap entries_of (sym at.split)) ∙ w in
      inr (is_out (taken_among i (number + 1) after_put at.behind first gone))
