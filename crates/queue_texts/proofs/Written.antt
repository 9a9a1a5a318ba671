-- What is written of a journal spells it, and no line of it is too long.
use Rattle.std.proofs.Common.{◌≡◌, ◌≢◌, ℕ, ◌+◌, ◌<◌, ◌≤◌, ◌^◌, Bool, true, false, inr, List, [], ◌∷◌, ◌++◌, length, length-append, codes}
use Rattle.std.proofs.Common.{refl, sym, ◌∙◌, ap, subst, arith, append_assoc, ne_eqb}
use Rattle.std.specs.Prelude.{decimal, ◌==◌, if◌then◌else◌}
use Rattle.std.specs.List.{AllByRecursion}
use Rattle.std.specs.Str.Parse.{AllDigits}
use Rattle.std.proofs.lemmas.Bool.Decides.{nat_tests}
use Rattle.std.proofs.lemmas.Fmt.{decimal_is_IsNumeral, decimal_nonempty, length-decimal-le}
use Rattle.std.proofs.lemmas.Str.Parse.{digit_at}
use Rattle.pq_types.specs.Item.{Item, IsItemOf}
use Rattle.pq_types.specs.Asked.{Reply, Line, Operation}
use Rattle.pq_types.specs.declared.request.Request.TheVariants.{Push, Pop, Least}
use Rattle.pq_types.specs.declared.answer.Reply.TheVariants.{Pushed, Got, Empty, Least as LeastIs}
use Rattle.pq_types.specs.Operation.{Asked, ByTicket, Shuts, Remove, Move}
use Rattle.pq_types.specs.Queue.{IsProperReplyOf}
use Rattle.line_script.specs.Lines.{Cut, with_byte, cut, lines_of, without_return}
use Rattle.line_script.proofs.CutLines.{lines_of-feed}
use Rattle.queue_texts.specs.declared.line_text.TheConstants.{LONGEST_ENTRY}
use Rattle.queue_texts.specs.ItemText.{item_text}
use Rattle.queue_texts.specs.Text.{reply_text}
use Rattle.queue_texts.specs.LineText.{operation_text, told_text, line_text, journal_text, IsOperationInRange, IsInRange, IsLineText}
use Rattle.queue_texts.specs.Audit.{SpellsFrom}
use Rattle.queue_texts.specs.Laws.{WrittenIsSpelled}
use Rattle.queue_texts.proofs.Items.{below_bound}
use Rattle.queue_texts.proofs.WrittenLines.{line_written, regroup}

-- no byte ends a line, or is dropped at its end
abbrev IsPlain : List ℕ → Type 0
IsPlain text = AllByRecursion (λ byte. (byte ≢ 10) × (byte ≢ 13)) text

plain_both : (a b : List ℕ) → IsPlain a → IsPlain b → IsPlain (a ++ b)
plain_both [] b h k = k
plain_both (x ∷ a) b h k = (h.0, plain_both a b h.1 k)

-- digits are plain
plain_digits : (ds : List ℕ) → AllDigits 10 ds → IsPlain ds
plain_digits [] h = tt
plain_digits (d ∷ ds) h =
    let range = digit_at (d ∷ ds) 0 h (omega arith) in
    (((λ e. omega (arith, e, range.0)), (λ e. omega (arith, e, range.0))), plain_digits ds h.1)

plain_number : (n : ℕ) → n < 2 ^ 64 → IsPlain (decimal n)
plain_number n small = plain_digits (decimal n) (decimal_is_IsNumeral n small).0.1

-- a word whose bytes are looked at
abbrev plain : List ℕ → Bool
plain [] = true
plain (byte ∷ bytes) = if byte == 10 then false else if byte == 13 then false else plain bytes

plain_word : (text : List ℕ) → plain text ≡ true → IsPlain text
plain_word [] e = tt
plain_word (byte ∷ bytes) e = by (plain_word bytes) (byte == 10) (byte == 13) refl refl e
  where
    by : (plain bytes ≡ true → IsPlain bytes) → (feed ret : Bool) → (byte == 10) ≡ feed → (byte == 13) ≡ ret
        → (if feed then false else if ret then false else plain bytes) ≡ true → IsPlain (byte ∷ bytes)
    by rest true ret f r e = absurd (cc)
    by rest false true f r e = absurd (cc)
    by rest false false f r e = (((λ same. grind (arith, nat_tests, f, same)), (λ same. grind (arith, nat_tests, r, same))), rest e)

-- a plain text is cut into itself
cut_plain : (text : List ℕ) → IsPlain text → cut text ≡ record { lines = []; rest = text }
cut_plain [] h = refl
cut_plain (x ∷ xs) h =
    ap (λ v. if v then record { lines = [] ∷ (cut xs).lines; rest = (cut xs).rest } else with_byte x (cut xs).lines (cut xs).rest) (ne_eqb x 10 h.0.0)
    ∙ ap (λ (c : Cut). with_byte x c.lines c.rest) (cut_plain xs h.1)

-- and loses nothing at its end
kept_plain : (text : List ℕ) → IsPlain text → without_return text ≡ text
kept_plain [] h = refl
kept_plain (b ∷ []) h = ap (λ v. if v then [] else b ∷ []) (ne_eqb b 13 h.0.1)
kept_plain (b ∷ c ∷ bs) h = ap (λ ys. b ∷ ys) (kept_plain (c ∷ bs) h.1)

-- how long it is at most, and that it is plain
record Fits (text : List ℕ) (most : ℕ) : Type 0 where
  short : length text ≤ most
  is_plain : IsPlain text

fits_both : (a b : List ℕ) (m n : ℕ) → Fits a m → Fits b n → Fits (a ++ b) (m + n)
fits_both a b m n h k = record { short = omega (arith, length-append {A = ℕ} a b, h.short, k.short); is_plain = plain_both a b h.is_plain k.is_plain }

fits_less : (a : List ℕ) (m n : ℕ) → m ≤ n → Fits a m → Fits a n
fits_less a m n less h = record { short = omega (arith, less, h.short); is_plain = h.is_plain }

fits_number : (n : ℕ) → n < 2 ^ 64 → Fits (decimal n) 20
fits_number n small = record { short = length-decimal-le 20 n (omega arith) (omega (arith, small)) small; is_plain = plain_number n small }

fits_word : (text : List ℕ) (n : ℕ) → length text ≤ n → plain text ≡ true → Fits text n
fits_word text n short is = record { short = short; is_plain = plain_word text is }

fits_item : (wide : Bool) (x : Item) → IsItemOf wide x → Fits (item_text x) 41
fits_item wide x h =
    fits_both (decimal x.priority) (32 ∷ decimal x.value) 20 21 (fits_number x.priority (below_bound wide x.priority h.0))
    (fits_both (32 ∷ []) (decimal x.value) 1 20 (fits_word (32 ∷ []) 1 (omega arith) refl) (fits_number x.value (below_bound wide x.value h.1)))

fits_reply : (wide : Bool) (r : Reply) → IsProperReplyOf wide r → Fits (reply_text r) 47
fits_reply wide Pushed h = fits_word (codes "pushed") 47 (omega arith) refl
fits_reply wide (Got x) h = fits_less (codes "got " ++ item_text x) 45 47 (omega arith) (fits_both (codes "got ") (item_text x) 4 41 (fits_word (codes "got ") 4 (omega arith) refl) (fits_item wide x h))
fits_reply wide (LeastIs x) h = fits_both (codes "least ") (item_text x) 6 41 (fits_word (codes "least ") 6 (omega arith) refl) (fits_item wide x h)
fits_reply wide Empty h = fits_word (codes "empty") 47 (omega arith) refl

space_word : Fits (codes " ") 1
space_word = fits_word (codes " ") 1 (omega arith) refl

fits_operation : (wide : Bool) (o : Operation) → IsOperationInRange wide o → Fits (operation_text o) 46
fits_operation wide (Asked (Push x)) h = fits_both (codes "push ") (item_text x) 5 41 (fits_word (codes "push ") 5 (omega arith) refl) (fits_item wide x h)
fits_operation wide (Asked Pop) h = fits_word (codes "pop") 46 (omega arith) refl
fits_operation wide (Asked Least) h = fits_word (codes "least") 46 (omega arith) refl
fits_operation wide (ByTicket (Remove ticket)) h =
    fits_less (codes "remove " ++ decimal ticket) 27 46 (omega arith)
    (fits_both (codes "remove ") (decimal ticket) 7 20 (fits_word (codes "remove ") 7 (omega arith) refl) (fits_number ticket h))
fits_operation wide (ByTicket (Move ticket priority)) (t, p) =
    let word = fits_both _ _ _ _ (fits_word (codes "move ") 5 (omega arith) refl) (fits_number ticket t) in
    fits_both _ _ _ _ (fits_both _ _ _ _ word space_word) (fits_number priority (below_bound wide priority p))
fits_operation wide Shuts h = fits_word (codes "shut") 46 (omega arith) refl

fits_told : (wide : Bool) (o : Operation) (r : Reply) → IsProperReplyOf wide r → Fits (told_text o r) 48
fits_told wide (Asked q) r h = fits_both (codes " ") (reply_text r) 1 47 space_word (fits_reply wide r h)
fits_told wide (ByTicket t) r h = fits_both (codes " ") (reply_text r) 1 47 space_word (fits_reply wide r h)
fits_told wide Shuts r h = fits_word [] 48 (omega arith) refl

-- the text of a line in range
fits_line : (wide : Bool) (number : ℕ) (l : Line) → IsInRange wide number l → Fits (line_text number l) LONGEST_ENTRY
fits_line wide number l h =
    let place = fits_both _ _ _ _ (fits_both _ _ _ _ (fits_number number (omega (arith, h.number_range.1))) space_word)
    (fits_number l.place (omega (arith, h.place_range))) in
    let serial = fits_both _ _ _ _ (fits_both _ _ _ _ place space_word) (fits_number l.serial (omega (arith, h.serial_range.1))) in
    let operation = fits_both _ _ _ _ (fits_both _ _ _ _ serial space_word) (fits_operation wide l.operation h.operation_range) in
    let told = fits_both _ _ _ _ operation (fits_told wide l.operation l.reply h.reply_range) in
    fits_less (line_text number l) 157 LONGEST_ENTRY (omega arith) told

filled : (number : ℕ) (l : Line) → number < 2 ^ 64 → 0 < length (line_text number l)
filled number l small =
    let behind = 32 ∷ (decimal l.place ++ 32 ∷ (decimal l.serial ++ 32 ∷ (operation_text l.operation ++ told_text l.operation l.reply))) in
    let split : length (decimal number ++ behind) ≡ length (decimal number) + length behind = length-append {A = ℕ} (decimal number) behind in
    omega (arith, decimal_nonempty number small, split, ap length (regroup number l))

pub written_is_spelled : WrittenIsSpelled
written_is_spelled wide n [] h = refl
written_is_spelled wide n (l ∷ ls) (range, may, rest) =
    let text = line_text n l in
    let fits = fits_line wide n l range in
    let cuts = cut_plain text fits.is_plain in
    let kept = kept_plain text fits.is_plain in
    let behind = journal_text (n + 1) ls in
    let split : lines_of (journal_text n (l ∷ ls)) ≡ text ∷ lines_of behind =
    ap lines_of (append_assoc text (codes "\n") behind) ∙ lines_of-feed text behind ∙ ap (λ (c : Cut). c.lines ++ c.rest ∷ lines_of behind) cuts in
    subst (λ texts. SpellsFrom wide n texts (l ∷ ls)) (sym split) (
      fits.short,
      inr (
        l,
        ls,
        subst (λ t. 0 < length t) (sym kept) (filled n l (omega (arith, range.number_range.1))),
        refl,
        subst (λ t. IsLineText wide t n l) (sym kept) (line_written wide n l range may, range, may),
        written_is_spelled wide (n + 1) ls rest,
      ),
    )
