-- A run under way, and what a piece of it adds: for every start from which the run has come so far.
use Rattle.std.specs.Prelude.{◌≡◌, ℕ, ◌≤◌, List, ◌++◌, length, Option, None}
use Rattle.std.specs.Io.KnownBytes.{Appends}
use Rattle.line_script.specs.declared.error.RunError.{RunError}
use Rattle.line_script.specs.declared.script.Run.{Run}
use Rattle.line_script.specs.Lines.{cut, lines_of, count_of}
use Rattle.line_script.specs.Script.{Kind, PlaysAll, FinishesAs, StopsWith}

module _ {S R : Type 0} (k : Kind S R) where
  -- From this start the run has read these bytes and said this text: it has accepted their lines,
  -- holds the bytes behind the last line feed, and has counted the lines.
  pub record HasRead (start : S) (bytes text : List ℕ) (run : Run S) : Type 0 where
    pub played : PlaysAll k start (cut bytes).lines text run.player
    pub holds : run.line.items ≡ (cut bytes).rest
    pub short : length run.line.items ≤ k.longest
    pub counted : run.count ≡ count_of (length (cut bytes).lines)

  -- these further bytes are read, and what they say stands behind what was there
  abbrev pub PlaysOn : Run S → List ℕ → Run S → Option (List ℕ) → Option (List ℕ) → Type 0
  PlaysOn run bytes after old new = (start : S) (before text : List ℕ) → HasRead start before text run
      → (more : List ℕ) × Appends old new more × HasRead start (before ++ bytes) (text ++ more) after

  -- the run stops within these further bytes, whatever follows them
  abbrev pub StopsWithin : Run S → List ℕ → RunError R → Option (List ℕ) → Option (List ℕ) → Type 0
  StopsWithin run bytes e old new = (start : S) (before text rest : List ℕ) → HasRead start before text run
      → (part : List ℕ) × Appends old new part × StopsWith k start (before ++ (bytes ++ rest)) None (text ++ part) e

  -- the bytes behind the last line feed are played, where there are any
  abbrev pub PlaysLastLine : Run S → Run S → Option (List ℕ) → Option (List ℕ) → Type 0
  PlaysLastLine run after old new = (start : S) (bytes text : List ℕ) → HasRead start bytes text run
      → (more : List ℕ) × Appends old new more × PlaysAll k start (lines_of bytes) (text ++ more) after.player

  -- the script ends here, and its end is met, as this player
  abbrev pub PlaysToEnd : Run S → Run S → Option (List ℕ) → Option (List ℕ) → Type 0
  PlaysToEnd run after old new = (start : S) (bytes text : List ℕ) → HasRead start bytes text run
      → (more : List ℕ) × Appends old new more × FinishesAs k start bytes (text ++ more) after.player

  -- the script ends here, and the run stops at its end
  abbrev pub StopsAtEnd : Run S → RunError R → Option (List ℕ) → Option (List ℕ) → Type 0
  StopsAtEnd run e old new = (start : S) (bytes text : List ℕ) → HasRead start bytes text run
      → (part : List ℕ) × Appends old new part × StopsWith k start bytes None (text ++ part) e
