-- The peak of a journal, as lines come.
use Rattle.std.proofs.Common.{◌≡◌, ℕ, ◌⊎◌, inl, inr, ◌+◌, ◌<◌, ◌≤◌, List, [], ◌∷◌, ◌++◌, length, length-append, take, sym, ◌∙◌, ap, subst, arith}
use Rattle.std.specs.Prelude.{max}
use Rattle.std.proofs.Math.Nat.{le-max_left, le-max_right}
use Rattle.std.proofs.Math.Seq.{take-append_seam, take-length}
use Rattle.std.proofs.lemmas.List.{take-append-le, take_all}
use Rattle.std.proofs.lemmas.Bool.{cases_lt}
use Rattle.pq_types.specs.Asked.{Line}
use Rattle.pq_types.specs.History.{left}
use Rattle.pq_book.specs.Peak.{IsPeak, IsPeakWith}

-- how many items these lines leave
abbrev count : List Line → ℕ
count lines = length (left lines)

-- what begins a journal begins it with a line more
starts_with : (k : ℕ) (lines : List Line) (l : Line) → (k < length lines) ⊎ (length lines ≤ k) → (j : ℕ) × (take j (lines ++ l ∷ []) ≡ take k lines)
starts_with k lines l (inl less) = (k, take-append-le k lines (l ∷ []) (omega (arith, less)))
starts_with k lines l (inr more) = (length lines, take-append_seam lines (l ∷ []) ∙ sym (take_all k lines more))

bound_still : (lines : List Line) (l : Line) (before items : ℕ) → IsPeak lines before → items ≡ count (lines ++ l ∷ [])
    → (k : ℕ) → (k < length lines + 1) ⊎ (length lines + 1 ≤ k) → count (take k (lines ++ l ∷ [])) ≤ max before items
bound_still lines l before items m is k (inl less) =
    let same : count (take k (lines ++ l ∷ [])) ≡ count (take k lines) = ap count (take-append-le k lines (l ∷ []) (omega (arith, less))) in
    omega (arith, same, m.bound k, le-max_left before items)
bound_still lines l before items m is k (inr more) =
    let whole : count (take k (lines ++ l ∷ [])) ≡ count (lines ++ l ∷ []) =
    ap count (take_all k (lines ++ l ∷ []) (omega (arith, more, length-append {A = Line} lines (l ∷ [])))) in
    omega (arith, whole, is, le-max_right before items)

reached_still : (lines : List Line) (l : Line) (before items : ℕ) → IsPeak lines before → items ≡ count (lines ++ l ∷ [])
    → (before < items) ⊎ (items ≤ before) → (k : ℕ) × (count (take k (lines ++ l ∷ [])) ≡ max before items)
reached_still lines l before items m is (inl less) =
    let whole : count (take (length (lines ++ l ∷ [])) (lines ++ l ∷ [])) ≡ count (lines ++ l ∷ []) = ap count (take-length (lines ++ l ∷ [])) in
    (length (lines ++ l ∷ []), omega (arith, whole, is, less))
reached_still lines l before items m is (inr more) =
    let start = starts_with m.reached.0 lines l (cases_lt m.reached.0 (length lines)) in
    let same : count (take start.0 (lines ++ l ∷ [])) ≡ count (take m.reached.0 lines) = ap count start.1 in
    (start.0, omega (arith, same, m.reached.1, more))

-- with a line more it is the greater of what it was and of how many items are left then
pub peak_of_one_more : (lines : List Line) (l : Line) (before items : ℕ) → IsPeak lines before → items ≡ count (lines ++ l ∷ [])
    → IsPeak (lines ++ l ∷ []) (max before items)
peak_of_one_more lines l before items m is = record {
  bound = λ k. bound_still lines l before items m is k (cases_lt k (length lines + 1));
  reached = reached_still lines l before items m is (cases_lt before items);
}

-- so the greater of the two is the peak, whatever journal had the one before
pub peak_is_the_greater : (before items peak : ℕ) → peak ≡ max before items → IsPeakWith before items peak
peak_is_the_greater before items peak is journal line most left =
    subst (λ n. IsPeak (journal ++ line ∷ []) n) (sym is) (peak_of_one_more journal line before items most left)

-- so it is kept up where a line is entered
pub peak_entered : (old new : List Line) (l : Line) (before items peak : ℕ) → IsPeak old before → IsPeakWith before items peak → new ≡ old ++ l ∷ []
    → items ≡ length (left new) → IsPeak new peak
peak_entered old new l before items peak was now grown is = subst (λ ls. IsPeak ls peak) (sym grown) (now old l was (is ∙ ap count grown))

-- and it stays where the line changes nothing
pub peak_stays : (old new : List Line) (l : Line) (peak : ℕ) → IsPeak old peak → new ≡ old ++ l ∷ [] → count new ≡ count old → IsPeak new peak
peak_stays old new l peak was grown same =
    let now : count old ≤ peak = omega (arith, was.bound (length old), ap count (take-length old)) in
    peak_entered old new l peak (count new) peak was (peak_is_the_greater peak (count new) peak (omega (arith, now, same))) grown (omega arith)
