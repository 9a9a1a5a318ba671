-- What a run over a script writes, whatever its lines mean: the texts of the lines before the first
-- refused one; and where it leaves the reader.
use Rattle.std.specs.Prelude.{◌≡◌, ℕ, ◌+◌, ◌<◌, ◌≤◌, ◌⊎◌, List, [], ◌∷◌, ◌++◌, length, Option, Some, Result, Ok, Err}
use Rattle.std.specs.Io.KnownBytes.{Consumes}
use Rattle.line_script.specs.declared.lines.TheConstants.{BUFFER}
use Rattle.line_script.specs.declared.error.RunError.{RunError}
use Rattle.line_script.specs.declared.error.RunError.TheVariants.{Refused, TooLong, NoMemory, Input, Output}
use Rattle.line_script.specs.Lines.{cut, lines_of, without_return, count_of}

-- A kind of script, by what its lines mean in each state; a refusal is the player's own.
pub record Kind (S R : Type 0) : Type 1 where
  -- how many bytes a line may have
  pub longest : ℕ
  -- the line is accepted in this state, writes this text and leaves that state
  pub plays : S → List ℕ → List ℕ → S → Type 0
  -- the line is refused in this state, as the line with this number
  pub refuses : S → ℕ → List ℕ → R → Type 0
  -- the end of the script is met in this state, or refused
  pub ends : S → Result (Unit {0}) R → Type 0

module _ {S R : Type 0} (k : Kind S R) where
  -- an empty line is skipped, any other is played
  abbrev pub PlaysUnlessEmpty : S → List ℕ → List ℕ → S → Type 0
  PlaysUnlessEmpty s [] text t = (text ≡ []) × (t ≡ s)
  PlaysUnlessEmpty s (byte ∷ bytes) text t = k.plays s (byte ∷ bytes) text t

  -- a line that isn't too long, which loses a carriage return at its end
  abbrev pub PlaysLine : S → List ℕ → List ℕ → S → Type 0
  PlaysLine s line text t = (length line ≤ k.longest) × PlaysUnlessEmpty s (without_return line) text t

  -- all these lines are accepted, one after another, and write this text
  abbrev pub PlaysAll : S → List (List ℕ) → List ℕ → S → Type 0
  PlaysAll s [] text t = (text ≡ []) × (t ≡ s)
  PlaysAll s (line ∷ lines) text t = (mid : S) × (first : List ℕ) × (others : List ℕ)
      × PlaysLine s line first mid × PlaysAll mid lines others t × (text ≡ first ++ others)

  -- the player refuses line n, which isn't too long and not empty
  abbrev pub PlayerRefuses : S → ℕ → List ℕ → R → Type 0
  PlayerRefuses s n line reason =
      (length line ≤ k.longest) × (0 < length (without_return line)) × k.refuses s n (without_return line) reason

  -- line n is refused: by the player, or because it is too long
  abbrev pub RefusesLine : S → ℕ → List ℕ → RunError R → Type 0
  RefusesLine s n line (Refused reason) = PlayerRefuses s n line reason
  RefusesLine s n line (TooLong number) = (k.longest < length line) × (number ≡ n)
  RefusesLine s n line NoMemory = ⊥
  RefusesLine s n line Input = ⊥
  RefusesLine s n line Output = ⊥

  -- all lines are accepted, and so is the end, as this state
  abbrev pub FinishesAs : S → List ℕ → List ℕ → S → Type 0
  FinishesAs s input text t = PlaysAll s (lines_of input) text t × k.ends t (Ok tt)

  -- all lines are accepted, and so is the end
  abbrev pub Finishes : S → List ℕ → List ℕ → Type 0
  Finishes s input text = (t : S) × PlaysAll s (lines_of input) text t × k.ends t (Ok tt)

  -- the text is that of the lines before the first refused one
  abbrev pub RefusedAtLine : S → List ℕ → List ℕ → RunError R → Type 0
  RefusedAtLine s input text e = (before : List (List ℕ)) × (line : List ℕ) × (behind : List (List ℕ)) × (t : S)
      × (lines_of input ≡ before ++ line ∷ behind) × PlaysAll s before text t
      × RefusesLine t (count_of (length before + 1)) line e

  -- all lines are accepted, and the end is refused
  abbrev pub RefusedAtEnd : S → List ℕ → List ℕ → R → Type 0
  RefusedAtEnd s input text reason = (t : S) × PlaysAll s (lines_of input) text t × k.ends t (Err reason)

  -- a beginning of the text of the first lines
  abbrev pub WritesPart : S → List ℕ → List ℕ → Type 0
  WritesPart s input text = (before : List (List ℕ)) × (behind : List (List ℕ)) × (t : S) × (left : List ℕ)
      × (lines_of input ≡ before ++ behind) × PlaysAll s before (text ++ left) t

  -- What a run writes that ends so: after a fault of a read, the texts of all whole lines read;
  -- after a fault of a write, or where memory is refused, a beginning of the text; else the text up
  -- to the refusal.
  abbrev pub StopsWith : S → List ℕ → Option (List ℕ) → List ℕ → RunError R → Type 0
  StopsWith s input unread text (Refused reason) = RefusedAtLine s input text (Refused reason) ⊎ RefusedAtEnd s input text reason
  StopsWith s input unread text (TooLong line) = RefusedAtLine s input text (TooLong line)
  StopsWith s input unread text NoMemory = WritesPart s input text
  StopsWith s input unread text Output = WritesPart s input text
  StopsWith s input unread text Input =
      (bytes : List ℕ) × Consumes (Some input) unread bytes × (t : S) × PlaysAll s (cut bytes).lines text t

  -- Where a run that stops leaves its reader: the bytes of all reads but the last, which gave at
  -- most a buffer of them, are lines that were accepted, whose texts are written, and a line under
  -- way that isn't too long.
  pub record StopsReading (s : S) (input : List ℕ) (unread : Option (List ℕ)) (text : List ℕ) : Type 0 where
    pub earlier : List ℕ
    pub last : List ℕ
    pub read : Consumes (Some input) unread (earlier ++ last)
    pub one_buffer : length last ≤ BUFFER
    pub state : S
    pub first : List ℕ
    pub others : List ℕ
    pub accepted : PlaysAll s (cut earlier).lines first state
    pub written : text ≡ first ++ others
    pub under_way : length (cut earlier).rest ≤ k.longest

  -- what a run writes over this input, of which the last bytes are unread when it ends: none are
  -- where the whole script is played
  abbrev pub Writes : S → List ℕ → Option (List ℕ) → Result (Unit {0}) (RunError R) → List ℕ → Type 0
  Writes s input unread (Ok done) text = Finishes s input text × (unread ≡ Some [])
  Writes s input unread (Err e) text = StopsWith s input unread text e × StopsReading s input unread text

  -- the same of a run that hands its player back where all lines are accepted
  abbrev pub WritesAs : S → List ℕ → Option (List ℕ) → Result S (RunError R) → List ℕ → Type 0
  WritesAs s input unread (Ok t) text = FinishesAs s input text t × (unread ≡ Some [])
  WritesAs s input unread (Err e) text = StopsWith s input unread text e × StopsReading s input unread text

  -- the text of a line stands behind what was there
  abbrev pub PlaysInto : S → List ℕ → List ℕ → List ℕ → S → Type 0
  PlaysInto s line old new t = (text : List ℕ) × k.plays s line text t × (new ≡ old ++ text)

  -- Why line n isn't played: it is refused, and nothing is written; or memory is refused, and at
  -- most a beginning of its text is written.
  abbrev pub StopsInto : S → ℕ → List ℕ → RunError R → List ℕ → List ℕ → Type 0
  StopsInto s n line (Refused reason) old new = k.refuses s n line reason × (new ≡ old)
  StopsInto s n line NoMemory old new = (new ≡ old)
      ⊎ ((part : List ℕ) × (left : List ℕ) × (t : S) × k.plays s line (part ++ left) t × (new ≡ old ++ part))
  StopsInto s n line (TooLong number) old new = ⊥
  StopsInto s n line Input old new = ⊥
  StopsInto s n line Output old new = ⊥

  -- the same of a line of a script, which may lose a carriage return, or be empty
  abbrev pub StopsLine : S → ℕ → List ℕ → RunError R → List ℕ → List ℕ → Type 0
  StopsLine s n line (Refused reason) old new = PlayerRefuses s n line reason × (new ≡ old)
  StopsLine s n line NoMemory old new = (new ≡ old)
      ⊎ ((part : List ℕ) × (left : List ℕ) × (t : S) × PlaysLine s line (part ++ left) t × (new ≡ old ++ part))
  StopsLine s n line (TooLong number) old new = ⊥
  StopsLine s n line Input old new = ⊥
  StopsLine s n line Output old new = ⊥

  -- why the end of the script isn't met: it is refused, or memory is
  abbrev pub StopsEnd : S → RunError R → Type 0
  StopsEnd s (Refused reason) = k.ends s (Err reason)
  StopsEnd s NoMemory = Unit {0}
  StopsEnd s (TooLong number) = ⊥
  StopsEnd s Input = ⊥
  StopsEnd s Output = ⊥
