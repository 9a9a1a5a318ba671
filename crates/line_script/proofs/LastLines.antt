-- The end of a script: the bytes behind its last line feed, and the end itself.
use Rattle.std.proofs.Common.{◌≡◌, ℕ, ◌+◌, ◌<◌, inl, inr, List, [], ◌∷◌, ◌++◌, length, Option, None, sym, ◌∙◌, ap, subst, arith, append_assoc}
use Rattle.std.specs.Prelude.{min}
use Rattle.line_script.specs.declared.error.RunError.{RunError}
use Rattle.line_script.specs.declared.error.RunError.TheVariants.{Refused, TooLong, NoMemory, Input, Output}
use Rattle.line_script.specs.declared.script.Run.{Run}
use Rattle.line_script.specs.Lines.{cut, last_line, lines_of, count_of}
use Rattle.line_script.specs.Script.{Kind}
use Rattle.line_script.specs.Script as script
use Rattle.line_script.specs.Run as run
use Rattle.line_script.proofs.CutLines.{append_nil}
use Rattle.line_script.proofs.Pieces.{count_more, nil, played_more}

last_line-cons : (rest pending : List ℕ) → pending ≡ rest → 0 < length pending → last_line rest ≡ pending ∷ []
last_line-cons [] pending e z = absurd (omega (arith, ap length e, z))
last_line-cons (x ∷ rest) pending e z = ap (λ l. l ∷ []) (sym e)

module _ {S R : Type 0} (k : Kind S R) where
  abbrev PlaysLine : S → List ℕ → List ℕ → S → Type 0
  PlaysLine = script.PlaysLine k

  abbrev PlaysAll : S → List (List ℕ) → List ℕ → S → Type 0
  PlaysAll = script.PlaysAll k

  abbrev StopsWith : S → List ℕ → Option (List ℕ) → List ℕ → RunError R → Type 0
  StopsWith = script.StopsWith k

  abbrev HasRead : S → List ℕ → List ℕ → Run S → Type 0
  HasRead = run.HasRead k

  -- the bytes behind the last line feed are a line
  all_with_last : (start : S) (bytes text : List ℕ) (r : Run S) → 0 < length r.line.items → HasRead start bytes text r
      → lines_of bytes ≡ (cut bytes).lines ++ r.line.items ∷ []
  all_with_last start bytes text r some h = ap (λ ls. (cut bytes).lines ++ ls) (last_line-cons (cut bytes).rest r.line.items h.holds some)

  pub last_goes : (start after : S) (bytes text : List ℕ) (r : Run S) (line old new : List ℕ) → line ≡ r.line.items
      → 0 < length r.line.items → HasRead start bytes text r → (more : List ℕ) × PlaysLine r.player line more after × (new ≡ old ++ more)
      → (more : List ℕ) × (new ≡ old ++ more) × PlaysAll start (lines_of bytes) (text ++ more) after
  last_goes start after bytes text r line old new held some h (more, plays, grown) = (
    more,
    grown,
    subst (λ ls. PlaysAll start ls (text ++ more) after) (sym (all_with_last start bytes text r some h))
        (played_more k start r.player after (cut bytes).lines r.line.items text more h.played
        (subst (λ l. PlaysLine r.player l more after) held plays)),
  )

  last_stopped : (start now : S) (bytes text line old new : List ℕ) (number : ℕ) (e : RunError R)
      → lines_of bytes ≡ (cut bytes).lines ++ line ∷ [] → number ≡ count_of (length (cut bytes).lines + 1) → PlaysAll start (cut bytes).lines text now
      → script.StopsLine k now number line e old new → (part : List ℕ) × (new ≡ old ++ part) × StopsWith start bytes None (text ++ part) e
  last_stopped start now bytes text line old new number (Refused reason) all next played (refused, same) =
      let here = subst (λ n. script.PlayerRefuses k now n line reason) next refused in (
        [],
        same ∙ sym (append_nil old),
        inl ((cut bytes).lines, line, [], now, all, subst (λ t. PlaysAll start (cut bytes).lines t now) (sym (append_nil text)) played, here),
      )
  last_stopped start now bytes text line old new number NoMemory all next played (inl same) = (
    [],
    same ∙ sym (append_nil old),
    (
      (cut bytes).lines,
      line ∷ [],
      now,
      [],
      all,
      subst (λ t. PlaysAll start (cut bytes).lines t now) (sym (append_nil (text ++ []) ∙ append_nil text)) played,
    ),
  )
  last_stopped start now bytes text line old new number NoMemory all next played (inr (part, left, t, plays, grown)) = (
    part,
    grown,
    (
      (cut bytes).lines ++ line ∷ [],
      [],
      t,
      left,
      all ∙ sym (nil ((cut bytes).lines ++ line ∷ [])),
      subst (λ x. PlaysAll start ((cut bytes).lines ++ line ∷ []) x t) (sym (append_assoc text part left))
          (played_more k start now t (cut bytes).lines line text (part ++ left) played plays),
    ),
  )
  last_stopped start now bytes text line old new number (TooLong line') all next played none = absurd none
  last_stopped start now bytes text line old new number Input all next played none = absurd none
  last_stopped start now bytes text line old new number Output all next played none = absurd none

  pub last_stops : (start : S) (bytes text : List ℕ) (r : Run S) (line old new : List ℕ) (number : ℕ) (e : RunError R)
      → line ≡ r.line.items → number ≡ min (r.count + 1) 18446744073709551615 → 0 < length r.line.items
      → HasRead start bytes text r
      → script.StopsLine k r.player number line e old new → (part : List ℕ) × (new ≡ old ++ part) × StopsWith start bytes None (text ++ part) e
  last_stops start bytes text r line old new number e held next some h stops =
      let all = all_with_last start bytes text r some h ∙ ap (λ l. (cut bytes).lines ++ l ∷ []) (sym held) in
      last_stopped start r.player bytes text line old new number e all
      (next ∙ count_more r.count (length (cut bytes).lines) h.counted) h.played stops

  -- all lines are accepted, and the end is not met
  pub end_stops : (start t : S) (bytes text : List ℕ) (e : RunError R) → PlaysAll start (lines_of bytes) text t → script.StopsEnd k t e
      → StopsWith start bytes None text e
  end_stops start t bytes text (Refused reason) h stops = inr (t, h, stops)
  end_stops start t bytes text NoMemory h stops =
      (lines_of bytes, [], t, [], sym (nil (lines_of bytes)), subst (λ x. PlaysAll start (lines_of bytes) x t) (sym (append_nil text)) h)
  end_stops start t bytes text (TooLong line) h none = absurd none
  end_stops start t bytes text Input h none = absurd none
  end_stops start t bytes text Output h none = absurd none
