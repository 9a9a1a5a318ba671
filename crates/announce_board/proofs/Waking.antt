-- The mask that a pen keeps of those whom its releases have woken.
use Rattle.std.proofs.Common.{◌≡◌, ◌↔◌, ◌==◌, ◌&&◌, ◌||◌, not, ℕ, Bool, true, false, true≢false, List, [], ◌∷◌, ◌++◌, inl, inr, cond, length, ◌+◌, bit_or, refl, ap, sym, ◌∙◌, subst, arith}
use Rattle.std.specs.List.{list_any}
use Rattle.std.specs.Int.{bit_at}
use Rattle.std.proofs.lemmas.Bool.{cases_eq, eqb-true, eq-eqb}
use Rattle.std.proofs.lemmas.Bool.Decides.{eqb_tells}
use Rattle.std.proofs.lemmas.List.Folds.{list_any-append}
use Rattle.std.proofs.lemmas.Nat.Bits.{bit_at-zero, bit_at_or, bit_at-lt, same_from_bits}
use Rattle.std.specs.Prelude.{Option, Some, None}
use Rattle.pq_types.specs.Asked.{Request, Answer}
use Rattle.pq_types.specs.declared.answer.Answer.TheVariants as answer
use Rattle.pq_types.specs.History.{Limits}
use Rattle.wait_list.specs.declared.waiter.Waiter.{Waiter}
use Rattle.wait_list.specs.Waiters.{is_woken_at}
use Rattle.pq_book.specs.Book.{Volume}
use Rattle.pq_book.specs.Stock.{settled_book}
use Rattle.desk_core.specs.Pen.{newly, newly_woken, after_apply}
use Rattle.desk_core.specs.declared.model.PenState.{PenState}
use Rattle.announce_board.specs.Batches.{Told, AppliesEach, EndsEach, AppliesUntil}
use Rattle.announce_board.specs.Waking.{IsMaskOf, owes_any}

abbrev has : ℕ → List ℕ → Bool
has n ns = list_any (λ m. n == m) ns

-- of none
pub none_owed : IsMaskOf 0 []
none_owed = record { bits = λ n. (λ e. absurd (omega (arith, e, bit_at-zero n)), λ e. absurd (true≢false (sym e))) }

in_either : (a b i : ℕ) (x y : Bool) → (bit_at a i ≡ 1) ↔ (x ≡ true) → (bit_at b i ≡ 1) ↔ (y ≡ true) → (bit_at (bit_or a b) i ≡ 1) ↔ ((x || y) ≡ true)
in_either a b i true y h k = (λ e. refl, λ e. omega (arith, h.1 refl, bit_at_or a b i, bit_at-lt b i))
in_either a b i false y h k = (
  λ e. elim (cases_eq (bit_at a i) 1) [ inl one ↦ absurd (true≢false (sym (h.0 one))) | inr ne ↦ k.0 (omega (arith, e, ne, bit_at_or a b i, bit_at-lt a i)) ],
  λ e. omega (arith, k.1 e, bit_at_or a b i, bit_at-lt a i),
)

-- of those of two masks
pub both_masks : (a b : ℕ) (xs ys : List ℕ) → IsMaskOf a xs → IsMaskOf b ys → IsMaskOf (bit_or a b) (xs ++ ys)
both_masks a b xs ys h k =
    record {
      bits = λ n. subst (λ (is : Bool). (bit_at (bit_or a b) n ≡ 1) ↔ (is ≡ true)) (sym (list_any-append (λ m. n == m) xs ys)) (in_either a b n (has n xs) (has n ys) (h.bits n) (k.bits n));
    }

-- none is in it only where there is none
no_bit : (mask : ℕ) → IsMaskOf mask [] → mask ≡ 0
no_bit mask h =
    same_from_bits mask 0 (λ i. elim (cases_eq (bit_at mask i) 1) [ inl one ↦ absurd (true≢false (sym ((h.bits i).0 one))) | inr ne ↦ omega (arith, ne, bit_at-zero i, bit_at-lt mask i) ])

pub owes_is : (mask : ℕ) (ns : List ℕ) → IsMaskOf mask ns → not (mask == 0) ≡ owes_any ns
owes_is mask [] h = rw (no_bit mask h) refl
owes_is mask (n ∷ ns) h =
    elim (eqb_tells mask 0) [
      | inl none ↦
          let one : bit_at mask n ≡ 1 = (h.bits n).1 (ap (λ (same : Bool). same || has n ns) (eq-eqb n n refl)) in
          let zero : bit_at 0 n ≡ 1 = subst (λ (k : ℕ). bit_at k n ≡ 1) none.1 one in
          absurd (omega (arith, zero, bit_at-zero n))
      | inr some ↦ ap not some.0
    ]

-- whom a list wakes
joined : (n k : ℕ) (joins : Bool) (ns : List ℕ) → has n (cond joins (k ∷ ns) ns) ≡ ((joins && (n == k)) || has n ns)
joined n k true ns = refl
joined n k false ns = refl

newly_so : (woken same b c r : Bool) → (same ≡ true → c ≡ b) → (((woken && not c) && same) || (not b && r)) ≡ (not b && ((woken && same) || r))
newly_so false same b c r e = refl
newly_so true false b true r e = refl
newly_so true false b false r e = refl
newly_so true true true true r e = refl
newly_so true true false false r e = refl
newly_so true true true false r e = absurd (true≢false (sym (e refl)))
newly_so true true false true r e = absurd (true≢false (e refl))

never : (b : Bool) → false ≡ (not b && false)
never true = refl
never false = refl

newly_has : (n : ℕ) (before ws : List Waiter) → has n (newly before ws) ≡ (not (is_woken_at n before) && is_woken_at n ws)
newly_has n before [] = never (is_woken_at n before)
newly_has n before (w ∷ ws) =
    joined n w.number (w.is_woken && not (is_woken_at w.number before)) (newly before ws)
    ∙ (ap (λ (r : Bool). ((w.is_woken && not (is_woken_at w.number before)) && (n == w.number)) || r) (newly_has n before ws)
    ∙ newly_so w.is_woken (n == w.number) (is_woken_at n before) (is_woken_at w.number before) (is_woken_at n ws) (λ e. ap (λ (k : ℕ). is_woken_at k before) (sym (eqb-true n w.number e))))

both_say : (b a : Bool) → ((b ≡ false) × (a ≡ true)) ↔ ((not b && a) ≡ true)
both_say true a = (λ h. absurd (true≢false h.0), λ e. absurd (true≢false (sym e)))
both_say false a = (λ h. h.1, λ e. (refl, e))

-- the mask of those who were not woken before, and are now
pub newly_mask : (mask : ℕ) (before after : List Waiter) → ((number : ℕ) → (bit_at mask number ≡ 1) ↔ ((is_woken_at number before ≡ false) × (is_woken_at number after ≡ true))) → IsMaskOf mask (newly before after)
newly_mask mask before after h =
    record {
      bits = λ n.
          let two = both_say (is_woken_at n before) (is_woken_at n after) in
          subst (λ (is : Bool). (bit_at mask n ≡ 1) ↔ (is ≡ true)) (sym (newly_has n before after)) (λ e. two.0 ((h n).0 e), λ e. (h n).1 (two.1 e));
    }

-- and of those whom a Book wakes
pub settled_mask : (b c : Volume) (mask : ℕ) → c ≡ settled_book b
    → ((number : ℕ) → (bit_at mask number ≡ 1) ↔ ((is_woken_at number b.waiters ≡ false) × (is_woken_at number c.waiters ≡ true))) → IsMaskOf mask (newly_woken b)
settled_mask b c mask is h =
    newly_mask mask b.waiters (settled_book b).waiters
    (subst (λ (v : Volume). (number : ℕ) → (bit_at mask number ≡ 1) ↔ ((is_woken_at number b.waiters ≡ false) × (is_woken_at number v.waiters ≡ true))) is h)

-- a pen that applies requests of its own owes whom it owed before
applied_owed : (limits : Limits) (p q : PenState) (told : List Told) → AppliesEach limits p told q → q.owed ≡ p.owed
applied_owed limits p q [] h = ap (λ (r : PenState). r.owed) h
applied_owed limits p q (t ∷ ts) h = applied_owed limits (after_apply p t.0 (answer.Entered (length p.hand + 1) t.1) h.0) q ts h.2

ends_owed : (limits : Limits) (is_next : Request → Type 0) (p q : PenState) (refused : Option Answer) → EndsEach limits is_next p refused q → q.owed ≡ p.owed
ends_owed limits is_next p q None h = ap (λ (r : PenState). r.owed) h
ends_owed limits is_next p q (Some (answer.Entered number reply)) h = absurd h
ends_owed limits is_next p q (Some answer.BookFull) h = ap (λ (r : PenState). r.owed) h.4
ends_owed limits is_next p q (Some answer.NoMemory) h = ap (λ (r : PenState). r.owed) h.4
ends_owed limits is_next p q (Some (answer.Refused why)) h = ap (λ (r : PenState). r.owed) h.4

pub until_owed : (limits : Limits) (is_next : Request → Type 0) (p q : PenState) (told : List Told) (refused : Option Answer) → AppliesUntil limits is_next p told refused q → q.owed ≡ p.owed
until_owed limits is_next p q told refused h = ends_owed limits is_next h.0 q refused h.2 ∙ applied_owed limits p h.0 told h.1
