-- Where a run over a script stands after one more byte, and what it has written when it stops.
use Rattle.std.proofs.Common.{◌≡◌, ◌≢◌, ℕ, ◌+◌, ◌<◌, ◌≤◌, inl, inr, List, [], ◌∷◌, ◌++◌, length, length-append, take, drop, get_or, Option, None}
use Rattle.std.proofs.Common.{refl, sym, ◌∙◌, ap, subst, arith, append_assoc}
use Rattle.std.proofs.lemmas.List.{take_more, take-append-drop}
use Rattle.std.specs.Prelude.{min}
use Rattle.std.specs.Io.KnownBytes.{Appends}
use Rattle.line_script.specs.declared.lines.TheConstants.{LINE_FEED}
use Rattle.line_script.specs.declared.error.RunError.{RunError}
use Rattle.line_script.specs.declared.error.RunError.TheVariants.{Refused, TooLong, NoMemory, Input, Output}
use Rattle.line_script.specs.declared.script.Run.{Run}
use Rattle.line_script.specs.Lines.{Cut, cut, lines_of, count_of}
use Rattle.line_script.specs.Script.{Kind}
use Rattle.line_script.specs.Script as script
use Rattle.line_script.specs.Run as run
use Rattle.line_script.proofs.CutLines.{append_nil, cut-feed, cut-byte, lines_of-feed, onward}
use Rattle.std.proofs.KnownBytes.{Appends-trans, Appends-nil}

pub count_more : (count lines : ℕ) → count ≡ count_of lines → min (count + 1) 18446744073709551615 ≡ count_of (lines + 1)
count_more count lines e = omega (arith, e)

-- no lines behind these
pub nil : (ls : List (List ℕ)) → ls ++ [] ≡ ls
nil [] = refl
nil (l ∷ ls) = ap (λ ks. l ∷ ks) (nil ls)

-- one more byte of a piece
pub next_byte : (before xs : List ℕ) (i : ℕ) → i < length xs → (before ++ take i xs) ++ get_or xs i 0 ∷ [] ≡ before ++ take (i + 1) xs
next_byte before xs i h = append_assoc before (take i xs) (get_or xs i 0 ∷ []) ∙ ap (λ ys. before ++ ys) (sym (take_more xs i 0 h))

-- the bytes before one of a piece, and what is behind it
pub around_byte : (before xs rest : List ℕ) (i : ℕ) → i < length xs
    → (before ++ take i xs) ++ get_or xs i 0 ∷ (drop (i + 1) xs ++ rest) ≡ before ++ (xs ++ rest)
around_byte before xs rest i h =
    sym (append_assoc (before ++ take i xs) (get_or xs i 0 ∷ []) (drop (i + 1) xs ++ rest))
    ∙ ap (λ ys. ys ++ (drop (i + 1) xs ++ rest)) (next_byte before xs i h)
    ∙ append_assoc before (take (i + 1) xs) (drop (i + 1) xs ++ rest)
    ∙ ap (λ ys. before ++ ys) (sym (append_assoc (take (i + 1) xs) (drop (i + 1) xs) rest) ∙ ap (λ ys. ys ++ rest) (take-append-drop (i + 1) xs))

-- what one piece wrote, and then another
pub extend : (K : List ℕ → Type 0) (old mid new : Option (List ℕ)) (text first : List ℕ) → Appends old mid first → (more : List ℕ)
    × Appends mid new more × K ((text ++ first) ++ more) → (more : List ℕ) × Appends old new more × K (text ++ more)
extend K old mid new text first e (more, f, k) = (first ++ more, Appends-trans old mid new first more e f, subst K (append_assoc text first more) k)

-- nothing is written
pub unchanged : (K : List ℕ → Type 0) (old : Option (List ℕ)) (text : List ℕ) → K text → (more : List ℕ) × Appends old old more × K (text ++ more)
unchanged K old text k = ([], Appends-nil old, subst K (sym (append_nil text)) k)

module _ {S R : Type 0} (k : Kind S R) where
  abbrev PlaysLine : S → List ℕ → List ℕ → S → Type 0
  PlaysLine = script.PlaysLine k

  abbrev PlaysAll : S → List (List ℕ) → List ℕ → S → Type 0
  PlaysAll = script.PlaysAll k

  abbrev StopsWith : S → List ℕ → Option (List ℕ) → List ℕ → RunError R → Type 0
  StopsWith = script.StopsWith k

  abbrev HasRead : S → List ℕ → List ℕ → Run S → Type 0
  HasRead = run.HasRead k

  -- one more line is accepted
  pub played_more : (s mid t : S) (lines : List (List ℕ)) (line text more : List ℕ) → PlaysAll s lines text mid → PlaysLine mid line more t
      → PlaysAll s (lines ++ line ∷ []) (text ++ more) t
  played_more s mid t [] line text more h p =
      let here = subst (λ x. PlaysLine x line more t) h.1 p in
      (t, more, [], here, (refl, refl), ap (λ xs. xs ++ more) h.0 ∙ sym (append_nil more))
  played_more s mid t (l ∷ lines) line text more (next, first, others, one, rest, split) p = (
    next,
    first,
    others ++ more,
    one,
    played_more next mid t lines line others more rest p,
    ap (λ xs. xs ++ more) split
        ∙ append_assoc first others more,
  )

  -- a line feed ends a line that is accepted
  pub feed_goes : (start : S) (before text : List ℕ) (r after : Run S) (line old new : List ℕ) → line ≡ r.line.items
      → after.count ≡ min (r.count + 1) 18446744073709551615 → after.line.items ≡ []
      → HasRead start before text r → (more : List ℕ) × PlaysLine r.player line more after.player × (new ≡ old ++ more)
      → (more : List ℕ) × (new ≡ old ++ more) × HasRead start (before ++ LINE_FEED ∷ []) (text ++ more) after
  feed_goes start before text r after line old new held next none h (more, plays, grown) =
      let c : Cut = cut before in
      let all : (cut (before ++ LINE_FEED ∷ [])).lines ≡ c.lines ++ c.rest ∷ [] = ap (λ (c : Cut). c.lines) (cut-feed before []) in
      let one : PlaysLine r.player c.rest more after.player = subst (λ l. PlaysLine r.player l more after.player) (held ∙ h.holds) plays in (
        more,
        grown,
        record {
          played =
              subst (λ ls. PlaysAll start ls (text ++ more) after.player) (sym all)
              (played_more start r.player after.player c.lines c.rest text more h.played one);
          holds = none ∙ sym (ap (λ (c : Cut). c.rest) (cut-feed before []));
          short = omega (arith, ap length none);
          counted =
              next ∙ count_more r.count (length c.lines) h.counted
              ∙ ap count_of (omega (arith, ap length all, length-append {A = List ℕ} c.lines (c.rest ∷ [])));
        },
      )

  -- the line under way is stopped at its end
  stopped_feed : (start : S) (before text rest : List ℕ) (r : Run S) (line old new : List ℕ) (number : ℕ) (e : RunError R)
      → line ≡ (cut before).rest → number ≡ count_of (length (cut before).lines + 1)
      → PlaysAll start (cut before).lines text r.player → script.StopsLine k r.player number line e old new
      → (part : List ℕ) × (new ≡ old ++ part) × StopsWith start (before ++ LINE_FEED ∷ rest) None (text ++ part) e
  stopped_feed start before text rest r line old new number (Refused reason) held next played (refused, same) =
      let here = subst (λ n. script.PlayerRefuses k r.player n (cut before).rest reason) next
      (subst (λ l. script.PlayerRefuses k r.player number l reason) held refused) in (
        [],
        same ∙ sym (append_nil old),
        inl (
          (cut before).lines,
          (cut before).rest,
          lines_of rest,
          r.player,
          lines_of-feed before rest,
          subst (λ t. PlaysAll start (cut before).lines t r.player) (sym (append_nil text)) played,
          here,
        ),
      )
  stopped_feed start before text rest r line old new number NoMemory held next played (inl same) = (
    [],
    same ∙ sym (append_nil old),
    (
      (cut before).lines,
      (cut before).rest ∷ lines_of rest,
      r.player,
      [],
      lines_of-feed before rest,
      subst (λ t. PlaysAll start (cut before).lines t r.player) (sym (append_nil (text ++ []) ∙ append_nil text)) played,
    ),
  )
  stopped_feed start before text rest r line old new number NoMemory held next played (inr (part, left, t, plays, grown)) = (
    part,
    grown,
    (
      (cut before).lines ++ (cut before).rest ∷ [],
      lines_of rest,
      t,
      left,
      lines_of-feed before rest ∙ sym (append_assoc (cut before).lines ((cut before).rest ∷ []) (lines_of rest)),
      subst (λ x. PlaysAll start ((cut before).lines ++ (cut before).rest ∷ []) x t) (sym (append_assoc text part left))
          (played_more start r.player t (cut before).lines (cut before).rest text (part ++ left) played
          (subst (λ l. PlaysLine r.player l (part ++ left) t) held plays)),
    ),
  )
  stopped_feed start before text rest r line old new number (TooLong line') held next played none = absurd none
  stopped_feed start before text rest r line old new number Input held next played none = absurd none
  stopped_feed start before text rest r line old new number Output held next played none = absurd none

  pub feed_stops : (start : S) (before text rest : List ℕ) (r : Run S) (line old new : List ℕ) (number : ℕ) (e : RunError R)
      → line ≡ r.line.items → number ≡ min (r.count + 1) 18446744073709551615
      → HasRead start before text r → script.StopsLine k r.player number line e old new
      → (part : List ℕ) × (new ≡ old ++ part) × StopsWith start (before ++ LINE_FEED ∷ rest) None (text ++ part) e
  feed_stops start before text rest r line old new number e held next h stops =
      stopped_feed start before text rest r line old new number e (held ∙ h.holds)
      (next ∙ count_more r.count (length (cut before).lines) h.counted) h.played stops

  -- any other byte goes onto the line under way, and writes nothing
  pub byte_goes : (start : S) (before text : List ℕ) (r after : Run S) (old : List ℕ) (byte : ℕ) → byte ≢ LINE_FEED
      → after.player ≡ r.player → after.count ≡ r.count → after.line.items ≡ r.line.items ++ byte ∷ [] → length after.line.items ≤ k.longest
      → HasRead start before text r → (more : List ℕ) × (old ≡ old ++ more) × HasRead start (before ++ byte ∷ []) (text ++ more) after
  byte_goes start before text r after old byte ne player count grown short h =
      let same : (cut (before ++ byte ∷ [])).lines ≡ (cut before).lines = ap (λ (c : Cut). c.lines) (cut-byte before byte ne) in (
        [],
        sym (append_nil old),
        record {
          played =
              subst (λ ls. PlaysAll start ls (text ++ []) after.player) (sym same)
              (subst (λ t. PlaysAll start (cut before).lines t after.player) (sym (append_nil text))
              (subst (λ p. PlaysAll start (cut before).lines text p) (sym player) h.played));
          holds = grown ∙ ap (λ xs. xs ++ byte ∷ []) h.holds ∙ sym (ap (λ (c : Cut). c.rest) (cut-byte before byte ne));
          short = short;
          counted = count ∙ h.counted ∙ ap (λ ls. count_of (length ls)) (sym same);
        },
      )

  -- the byte behind as many as a line may have makes the line too long
  pub byte_stops : (start : S) (before text rest : List ℕ) (r : Run S) (old : List ℕ) (number byte : ℕ) → byte ≢ LINE_FEED
      → number ≡ min (r.count + 1) 18446744073709551615 → k.longest ≤ length r.line.items
      → HasRead start before text r → (part : List ℕ) × (old ≡ old ++ part)
      × StopsWith start (before ++ byte ∷ rest) None (text ++ part) (TooLong number)
  byte_stops start before text rest r old number byte ne next long h =
      let o = onward before rest byte ne in
      let over : k.longest < length o.line = omega (arith, o.longer, ap length h.holds, long) in (
        [],
        sym (append_nil old),
        (
          (cut before).lines,
          o.line,
          o.behind,
          r.player,
          o.split,
          subst (λ t. PlaysAll start (cut before).lines t r.player) (sym (append_nil text)) h.played,
          (over, next ∙ count_more r.count (length (cut before).lines) h.counted),
        ),
      )
