-- What a writer holds after a piece of a run, and how a run over known bytes ends.
use Rattle.std.proofs.Common.{true, false, ◌≡◌, ℕ, ◌≤◌, inl, inr, List, [], ◌∷◌, ◌++◌, length, Option, Some, None, Result, Ok, Err, refl, sym, ◌∙◌}
use Rattle.std.proofs.Common.{ap, subst, append_assoc, arith}
use Rattle.std.specs.Prelude.{OnOk, OnErr, IfErr, is_err}
use Rattle.std.specs.Io.KnownBytes.{Appends, Consumes, Keeps, IsAtEnd}
use Rattle.std.proofs.KnownBytes.{Appends-trans, Consumes-trans, Consumes-kept, Keeps-refl}
use Rattle.line_script.specs.declared.lines.TheConstants.{BUFFER}
use Rattle.line_script.specs.declared.error.RunError.{RunError}
use Rattle.line_script.specs.declared.error.RunError.TheVariants.{Refused, TooLong, NoMemory, Input, Output}
use Rattle.line_script.specs.declared.script.Run.{Run}
use Rattle.byte_writer.specs.Bytes.{AppendsPart}
use Rattle.line_script.specs.Lines.{Cut, cut, last_line, lines_of}
use Rattle.line_script.specs.Script.{Kind}
use Rattle.line_script.specs.Script as script
use Rattle.line_script.specs.Run as run
use Rattle.line_script.proofs.CutLines.{append_nil, cut-append, onto}
use Rattle.line_script.proofs.Pieces.{nil}

-- the whole lines of a beginning are the first lines of the whole
lines_from : (xs ys : List ℕ) (lines : List (List ℕ)) (rest : List ℕ) (more : List (List ℕ)) (last : List ℕ)
    → cut (xs ++ ys) ≡ onto lines rest more last → (behind : List (List ℕ)) × (lines_of (xs ++ ys) ≡ lines ++ behind)
lines_from xs ys lines rest [] last e = (last_line (rest ++ last), ap (λ (c : Cut). c.lines ++ last_line c.rest) e)
lines_from xs ys lines rest (line ∷ more) last e = (
  (rest ++ line) ∷ more ++ last_line last,
  ap (λ (c : Cut). c.lines ++ last_line c.rest) e
      ∙ append_assoc lines ((rest ++ line) ∷ more) (last_line last),
)

first_lines : (xs ys : List ℕ) → (behind : List (List ℕ)) × (lines_of (xs ++ ys) ≡ (cut xs).lines ++ behind)
first_lines xs ys = lines_from xs ys (cut xs).lines (cut xs).rest (cut ys).lines (cut ys).rest (cut-append xs ys)

-- what a result promises, once it is known which it is
pub failed : {X E : Type 0} (P : Type 0) (r : Result X E) → true ≡ is_err r → OnErr r P → P
failed P (Ok x) e h = absurd (cc)
failed P (Err x) e h = h

pub succeeded : {X E : Type 0} (P : Type 0) (r : Result X E) → false ≡ is_err r → OnOk r P → P
succeeded P (Ok x) e h = h
succeeded P (Err x) e h = absurd (cc)

-- all of what was to be written is
pub wrote : (K : List ℕ → Type 0) (old new : Option (List ℕ)) (before out text : List ℕ) → before ≡ [] → Appends old new out
    → (more : List ℕ) × (out ≡ before ++ more) × K (text ++ more) → (more : List ℕ) × Appends old new more × K (text ++ more)
wrote K old new before out text none a (more, e, k) = (more, subst (λ x. Appends old new x) (e ∙ ap (λ x. x ++ more) none) a, k)

module _ {S R : Type 0} (k : Kind S R) where
  abbrev PlaysAll : S → List (List ℕ) → List ℕ → S → Type 0
  PlaysAll = script.PlaysAll k

  abbrev StopsWith : S → List ℕ → Option (List ℕ) → List ℕ → RunError R → Type 0
  StopsWith = script.StopsWith k

  abbrev WritesPart : S → List ℕ → List ℕ → Type 0
  WritesPart = script.WritesPart k

  abbrev HasRead : S → List ℕ → List ℕ → Run S → Type 0
  HasRead = run.HasRead k

  -- less of a beginning is a beginning
  part_less : (s : S) (input text left : List ℕ) → WritesPart s input (text ++ left) → WritesPart s input text
  part_less s input text left (before, behind, t, more, split, h) =
      (before, behind, t, left ++ more, split, subst (λ x. PlaysAll s before x t) (append_assoc text left more) h)

  -- the text of these lines, of which none is behind them
  whole_part : (s t : S) (input text : List ℕ) (before behind : List (List ℕ)) → lines_of input ≡ before ++ behind
      → PlaysAll s before text t → WritesPart s input text
  whole_part s t input text before behind split h = (before, behind, t, [], split, subst (λ x. PlaysAll s before x t) (sym (append_nil text)) h)

  -- however a run stops, what it wrote is a beginning
  part_stopped : (s : S) (input text : List ℕ) (e : RunError R) → StopsWith s input None text e → WritesPart s input text
  part_stopped s input text (Refused reason) (inl (before, line, behind, t, split, h, refused)) =
      whole_part s t input text before (line ∷ behind) split h
  part_stopped s input text (Refused reason) (inr (t, h, refused)) = whole_part s t input text (lines_of input) [] (sym (nil (lines_of input))) h
  part_stopped s input text (TooLong number) (before, line, behind, t, split, h, refused) = whole_part s t input text before (line ∷ behind) split h
  part_stopped s input text NoMemory h = h
  part_stopped s input text Output h = h
  part_stopped s input text Input (bytes, no_bytes, t, h) = absurd no_bytes

  part_read : (s : S) (bytes rest text : List ℕ) (r : Run S) → HasRead s bytes text r → WritesPart s (bytes ++ rest) text
  part_read s bytes rest text r h =
      let first = first_lines bytes rest in
      whole_part s r.player (bytes ++ rest) text (cut bytes).lines first.0 first.1 h.played

  part_finished : (s t : S) (input text : List ℕ) → script.FinishesAs k s input text t → WritesPart s input text
  part_finished s t input text (h, ends) = whole_part s t input text (lines_of input) [] (sym (nil (lines_of input))) h

  -- a write that failed wrote a beginning of a beginning
  pub part_written : (s : S) (input : List ℕ) (old new : Option (List ℕ)) (before out text : List ℕ) → before ≡ []
      → AppendsPart old new out → (more : List ℕ) × (out ≡ before ++ more) × WritesPart s input (text ++ more)
      → (part : List ℕ) × Appends old new part × WritesPart s input (text ++ part)
  part_written s input old new before out text none (part, left, split, some, a) (more, e, h) = (
    part,
    a,
    part_less s input (text ++ part) left
        (subst (λ x. WritesPart s input x)
        (ap (λ x. text ++ x) (ap (λ x. x ++ more) (sym none) ∙ sym e ∙ split) ∙ sym (append_assoc text part left)) h),
  )

  -- after a piece, played to its end or not, what is to be written begins the text
  pub part_of_piece : (result : Result (Unit {0}) (RunError R)) (r after : Run S) (bytes old out : List ℕ)
      → OnOk result (run.PlaysOn k r bytes after (Some old) (Some out)) → IfErr result (λ e. run.StopsWithin k r bytes e (Some old) (Some out))
      → (s : S) (before text rest : List ℕ) → HasRead s before text r → (more : List ℕ) × (out ≡ old ++ more)
      × WritesPart s (before ++ (bytes ++ rest)) (text ++ more)
  part_of_piece (Ok x) r after bytes old out goes stops s before text rest h =
      let one = goes s before text h in (
        one.0,
        one.1,
        subst (λ input. WritesPart s input (text ++ one.0)) (append_assoc before bytes rest)
            (part_read s (before ++ bytes) rest (text ++ one.0) after one.2),
      )
  part_of_piece (Err e) r after bytes old out goes stops s before text rest h =
      let one = stops s before text rest h in
      (one.0, one.1, part_stopped s (before ++ (bytes ++ rest)) (text ++ one.0) e one.2)

  -- the same of the end
  pub part_of_end : (result : Result (Unit {0}) (RunError R)) (r after : Run S) (old out : List ℕ)
      → OnOk result (run.PlaysToEnd k r after (Some old) (Some out)) → IfErr result (λ e. run.StopsAtEnd k r e (Some old) (Some out))
      → (s : S) (bytes text : List ℕ) → HasRead s bytes text r → (more : List ℕ) × (out ≡ old ++ more) × WritesPart s bytes (text ++ more)
  part_of_end (Ok x) r after old out goes stops s bytes text h =
      let one = goes s bytes text h in (one.0, one.1, part_finished s after.player bytes (text ++ one.0) one.2)
  part_of_end (Err e) r after old out goes stops s bytes text h =
      let one = stops s bytes text h in (one.0, one.1, part_stopped s bytes (text ++ one.0) e one.2)

  -- Where a run over known bytes stands between two reads: these bytes are read, and their lines'
  -- text is written.
  pub record Between (start : S) (input : List ℕ) (unread first last : Option (List ℕ)) (r : Run S) : Type 0 where
    pub bytes : List ℕ
    pub text : List ℕ
    pub consumed : Consumes (Some input) unread bytes
    pub written : Appends first last text
    pub read : HasRead start bytes text r

  -- a piece that is played to its end
  pub between_more : (start : S) (r after : Run S) (input chunk : List ℕ) (mid new first last grown : Option (List ℕ))
      → Between start input mid first last r → Consumes mid new chunk → run.PlaysOn k r chunk after last grown
      → Between start input new first grown after
  between_more start r after input chunk mid new first last grown b c goes =
      let one = goes start b.bytes b.text b.read in
      record {
        bytes = b.bytes ++ chunk;
        text = b.text ++ one.0;
        consumed = Consumes-trans (Some input) mid new b.bytes chunk b.consumed c;
        written = Appends-trans first last grown b.text one.0 b.written one.1;
        read = one.2;
      }

  -- what was read before the last read is accepted, and written
  stops_reading : (start : S) (r : Run S) (input chunk more : List ℕ) (mid new first last : Option
      (List ℕ)) (b : Between start input mid first last r) → length chunk ≤ BUFFER → Consumes mid new chunk
      → script.StopsReading k start input new (b.text ++ more)
  stops_reading start r input chunk more mid new first last b short c = record {
    earlier = b.bytes;
    last = chunk;
    read = Consumes-trans (Some input) mid new b.bytes chunk b.consumed c;
    one_buffer = short;
    state = r.player;
    first = b.text;
    others = more;
    accepted = b.read.played;
    written = refl;
    under_way = subst (λ xs. length xs ≤ k.longest) b.read.holds b.read.short;
  }

  -- what a run writes, and where it leaves the reader, that stops so after these bytes of the
  -- writer
  abbrev Stopped : S → List ℕ → Option (List ℕ) → Option (List ℕ) → Option (List ℕ) → Result S (RunError R) → Type 0
  Stopped start input new first last result = (text : List ℕ) × Appends first last text × script.WritesAs k start input new result text

  nothing_read : (a b : Option (List ℕ)) → Keeps a b → Consumes a b []
  nothing_read None b h = tt
  nothing_read (Some us) None h = absurd h
  nothing_read (Some us) (Some vs) h = sym h

  -- a fault of a read
  pub between_fault : (start : S) (r : Run S) (input : List ℕ) (mid new first last : Option (List ℕ))
      → Between start input mid first last r → Keeps mid new → Stopped start input new first last (Err Input)
  between_fault start r input mid new first last b keeps =
      let reading = stops_reading start r input [] [] mid new first last b (omega arith) (nothing_read mid new keeps) in (
        b.text,
        b.written,
        (
          (b.bytes, Consumes-kept (Some input) mid new b.bytes b.consumed keeps, r.player, b.read.played),
          subst (λ t. script.StopsReading k start input new t) (append_nil b.text) reading,
        ),
      )

  -- more reads than can be counted
  pub between_gives_up : (start : S) (r : Run S) (input : List ℕ) (unread first last : Option (List ℕ))
      → Between start input unread first last r → Stopped start input unread first last (Err Input)
  between_gives_up start r input unread first last b = between_fault start r input unread unread first last b (Keeps-refl unread)

  -- which bytes are unread matters after a fault of a read alone
  any_unread : (s : S) (input text : List ℕ) (unread : Option (List ℕ)) (e : RunError R) → StopsWith s input None text e
      → StopsWith s input unread text e
  any_unread s input text unread (Refused reason) h = h
  any_unread s input text unread (TooLong number) h = h
  any_unread s input text unread NoMemory h = h
  any_unread s input text unread Output h = h
  any_unread s input text unread Input (bytes, no_bytes, t, h) = absurd no_bytes

  -- a piece that is not played to its end
  pub between_stops : (start : S) (r : Run S) (input chunk : List ℕ) (mid new first last grown : Option (List ℕ)) (e : RunError R)
      → Between start input mid first last r → length chunk ≤ BUFFER → Consumes mid new chunk
      → run.StopsWithin k r chunk e last grown → Stopped start input new first grown (Err e)
  between_stops start r input chunk mid None first last grown e b short c stops =
      absurd (Consumes-trans (Some input) mid None b.bytes chunk b.consumed c)
  between_stops start r input chunk mid (Some rest) first last grown e b short c stops =
      let one = stops start b.bytes b.text rest b.read in
      let all : input ≡ b.bytes ++ (chunk ++ rest) = Consumes-trans (Some input) mid (Some rest) b.bytes chunk b.consumed c
      ∙ append_assoc b.bytes chunk rest in (
        b.text ++ one.0,
        Appends-trans first last grown b.text one.0 b.written one.1,
        (
          any_unread start input (b.text ++ one.0) (Some rest) e (subst (λ i. StopsWith start i None (b.text ++ one.0) e) (sym all) one.2),
          stops_reading start r input chunk one.0 mid (Some rest) first last b short c,
        ),
      )

  all_read : (input bytes chunk : List ℕ) (mid new : Option (List ℕ)) → Consumes (Some input) mid bytes → Consumes mid new chunk
      → chunk ≡ [] → IsAtEnd new → input ≡ bytes
  all_read input bytes chunk None new h c none end = absurd h
  all_read input bytes chunk (Some us) None h c none end = absurd c
  all_read input bytes chunk (Some us) (Some vs) h c none end =
      let nothing_left : us ≡ [] = c ∙ ap (λ xs. xs ++ vs) none ∙ end in
      h ∙ ap (λ xs. bytes ++ xs) nothing_left ∙ append_nil bytes

  none_unread : (input bytes chunk : List ℕ) (mid new : Option (List ℕ)) → Consumes (Some input) mid bytes → Consumes mid new chunk
      → IsAtEnd new → new ≡ Some []
  none_unread input bytes chunk None new h c end = absurd h
  none_unread input bytes chunk (Some us) None h c end = absurd c
  none_unread input bytes chunk (Some us) (Some vs) h c end = ap Some end

  -- the end of the input
  pub between_ends : (start : S) (r after : Run S) (input chunk : List ℕ) (mid new first last grown : Option (List ℕ))
      → Between start input mid first last r → Consumes mid new chunk → chunk ≡ [] → IsAtEnd new
      → run.PlaysToEnd k r after last grown → Stopped start input new first grown (Ok after.player)
  between_ends start r after input chunk mid new first last grown b c none end goes =
      let one = goes start b.bytes b.text b.read in
      let all = all_read input b.bytes chunk mid new b.consumed c none end in (
        b.text ++ one.0,
        Appends-trans first last grown b.text one.0 b.written one.1,
        (
          subst (λ i. script.FinishesAs k start i (b.text ++ one.0) after.player) (sym all) one.2,
          none_unread input b.bytes chunk mid new b.consumed c end,
        ),
      )

  -- an end that is not met
  pub between_ends_not : (start : S) (r : Run S) (input chunk : List ℕ) (mid new first last grown : Option (List ℕ)) (e : RunError R)
      → Between start input mid first last r → length chunk ≤ BUFFER → Consumes mid new chunk → chunk ≡ [] → IsAtEnd new
      → run.StopsAtEnd k r e last grown → Stopped start input new first grown (Err e)
  between_ends_not start r input chunk mid new first last grown e b short c none end stops =
      let one = stops start b.bytes b.text b.read in
      let all = all_read input b.bytes chunk mid new b.consumed c none end in (
        b.text ++ one.0,
        Appends-trans first last grown b.text one.0 b.written one.1,
        (
          any_unread start input (b.text ++ one.0) new e (subst (λ i. StopsWith start i None (b.text ++ one.0) e) (sym all) one.2),
          stops_reading start r input chunk one.0 mid new first last b short c,
        ),
      )

  -- a run whose player is let go
  pub let_go : (start t : S) (input : List ℕ) (unread first last : Option (List ℕ)) → Stopped start input unread first last (Ok t)
      → (text : List ℕ) × Appends first last text × script.Writes k start input unread (Ok tt) text
  let_go start t input unread first last (text, a, h) = (text, a, ((t, h.0.0, h.0.1), h.1))
