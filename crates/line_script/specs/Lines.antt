-- How the bytes of a script are cut into lines.
use Rattle.std.specs.Prelude.{ℕ, min, List, [], ◌∷◌, ◌++◌, ◌==◌, if◌then◌else◌}
use Rattle.line_script.specs.declared.lines.TheConstants.{LINE_FEED, CARRIAGE_RETURN}

-- the lines that have their line feed, each without it, and the bytes behind the last line feed
pub record Cut : Type 0 where
  pub lines : List (List ℕ)
  pub rest : List ℕ

-- a byte before the first line, or before the rest where there is no line
abbrev pub with_byte : ℕ → List (List ℕ) → List ℕ → Cut
with_byte byte [] rest = record { lines = []; rest = byte ∷ rest }
with_byte byte (line ∷ lines) rest = record { lines = (byte ∷ line) ∷ lines; rest = rest }

-- the bytes, cut at each line feed
abbrev pub cut : List ℕ → Cut
cut [] = record { lines = []; rest = [] }
cut (byte ∷ bytes) =
    if byte == LINE_FEED then record { lines = [] ∷ (cut bytes).lines; rest = (cut bytes).rest }
    else with_byte byte (cut bytes).lines (cut bytes).rest

-- a last piece that isn't empty is a line too
abbrev pub last_line : List ℕ → List (List ℕ)
last_line [] = []
last_line (byte ∷ bytes) = (byte ∷ bytes) ∷ []

-- all lines of a script
abbrev pub lines_of : List ℕ → List (List ℕ)
lines_of bytes = (cut bytes).lines ++ last_line (cut bytes).rest

-- the line without one carriage return at its end
abbrev pub without_return : List ℕ → List ℕ
without_return [] = []
without_return (byte ∷ []) = if byte == CARRIAGE_RETURN then [] else byte ∷ []
without_return (byte ∷ next ∷ bytes) = byte ∷ without_return (next ∷ bytes)

-- lines are counted from 1, and the count stays at the greatest number of 64 bits
abbrev pub count_of : ℕ → ℕ
count_of lines = min lines 18446744073709551615
