-- A journal that grows, and what is written of it.
use Rattle.std.proofs.Common.{◌≡◌, ℕ, ◌+◌, Bool, true, false, List, [], ◌∷◌, ◌++◌, length, length-append, length-take, take, drop, get_or, Option, refl, sym, ◌∙◌, ap, subst, append_assoc, append-nil, codes, arith, ◌<◌}
use Rattle.std.proofs.lemmas.List.{take_more}
use Rattle.std.specs.Io.KnownBytes.{Appends}
use Rattle.std.proofs.KnownBytes.{Appends-nil, Appends-trans}
use Rattle.std.specs.Prelude.{Result, Ok, Err, Some, None, IfSome, IfNone}
use Rattle.pq_types.specs.Asked.{Line}
use Rattle.flat_queue.specs.declared.error.ArchiveError.{ArchiveError}
use Rattle.flat_queue.specs.declared.error.ArchiveError.TheVariants.{Forgotten, NoMemory, Ahead}
use Rattle.queue_texts.specs.LineText.{line_text, journal_text}
use Rattle.desk_core.specs.Pen.{after_miss}
use Rattle.desk_core.specs.Rule.{StartsWith}
use Rattle.flat_queue.specs.Members.{Joined}
use Rattle.flat_queue.specs.Settling.{Settles, SettlesArchive, SettlesBy, Archives}
use Rattle.queue_load.specs.JournalWriter.{AppendsBeginning, StandsWritten, Begins, EndsSo, GoesOn, HasPut, WritesAll, StaysIdle}
use Rattle.queue_load.specs.declared.journal_writer.JournalWriter.{JournalWriter}
use Rattle.queue_load.proofs.Coming.{starts_refl, starts_trans}

-- the text of a journal is that of its first lines and then of the others
journal_text-append : (n : ℕ) (ls ms : List Line) → journal_text n (ls ++ ms) ≡ journal_text n ls ++ journal_text (n + length ls) ms
journal_text-append n [] ms = ap (λ k. journal_text k ms) (omega arith)
journal_text-append n (l ∷ ls) ms =
    let text = line_text n l ++ codes "\n" in
    ap (λ t. text ++ t) (journal_text-append (n + 1) ls ms) ∙ sym (append_assoc text (journal_text (n + 1) ls) (journal_text (n + 1 + length ls) ms))
    ∙ ap (λ k. text ++ journal_text (n + 1) ls ++ journal_text k ms) (omega arith)

-- a line more
pub text_more : (number next at : ℕ) (lines : List Line) (d : Line) (text text' : List ℕ) → at < length lines → next ≡ number + at → text ≡ journal_text number (take at lines) → text' ≡ text ++ (line_text next (get_or lines at d) ++ codes "\n") → text' ≡ journal_text number (take (at + 1) lines)
text_more number next at lines d text text' lt is so more =
    let before = take at lines in
    let one = get_or lines at d in
    let count : length before ≡ at = omega (arith, lt, length-take {A = Line} at lines) in
    more ∙ ap (λ t. t ++ (line_text next one ++ codes "\n")) so ∙ ap (λ k. journal_text number before ++ (line_text k one ++ codes "\n")) (omega (arith, is, count))
    ∙ ap (λ t. journal_text number before ++ t) (sym (append-nil (line_text (number + length before) one ++ codes "\n")))
    ∙ sym (journal_text-append number before (one ∷ [])) ∙ ap (journal_text number) (sym (take_more lines at d lt))

-- a journal that begins so begins so when it has grown
pub grown : (failed : Bool) (first now : Option (List ℕ)) (written : ℕ) (known known' : List Line) → StandsWritten failed first now written known → StartsWith known' known → StandsWritten failed first now written known'
grown false first now written known known' (ls, more, e, count, a) (rest, f) = (ls, more ++ rest, f ∙ ap (λ l. l ++ rest) e ∙ append_assoc ls more rest, count, a)
grown true first now written known known' (part, left, e, a) (rest, f) =
    let text = ap (journal_text 1) f ∙ journal_text-append 1 known rest in
    (part, left ++ journal_text (1 + length known) rest, text ∙ ap (λ t. t ++ journal_text (1 + length known) rest) e ∙ append_assoc part left (journal_text (1 + length known) rest), a)

-- what is written is a beginning
pub beginning : (failed : Bool) (first now : Option (List ℕ)) (written : ℕ) (known : List Line) → StandsWritten failed first now written known → AppendsBeginning first now (journal_text 1 known)
beginning false first now written known (ls, more, e, count, a) = (journal_text 1 ls, journal_text (1 + length ls) more, ap (journal_text 1) e ∙ journal_text-append 1 ls more, a)
beginning true first now written known h = h

-- the lines behind the first so many
behind : (ls ms : List Line) → drop (length ls) (ls ++ ms) ≡ ms
behind [] ms = refl
behind (l ∷ ls) ms = behind ls ms

-- the others of a journal are put behind those that were written
pub put_more : (failed : Bool) (first mid now : Option (List ℕ)) (written lines : ℕ) (known known' page : List Line) (writing : JournalWriter) → writing.failed ≡ failed → StandsWritten false first mid written known → StartsWith known' known → page ≡ drop written known' → lines ≡ length known' → HasPut failed mid now written lines page writing → StandsWritten failed first now writing.written known'
put_more failed first mid now written lines known known' page writing is (ls, more, e, count, a) (rest, f) page_is lines_are put = told failed put
  where
    whole : known' ≡ ls ++ (more ++ rest)
    whole = f ∙ ap (λ l. l ++ rest) e ∙ append_assoc ls more rest

    others : page ≡ more ++ rest
    others = page_is ∙ ap (λ n. drop n known') count ∙ ap (drop (length ls)) whole ∙ behind ls (more ++ rest)

    text : journal_text 1 known' ≡ journal_text 1 ls ++ journal_text (written + 1) page
    text = ap (journal_text 1) whole ∙ journal_text-append 1 ls (more ++ rest) ∙ ap (λ l. journal_text 1 ls ++ journal_text (1 + length ls) l) (sym others)
        ∙ ap (λ k. journal_text 1 ls ++ journal_text k page) (omega (arith, count))

    told : (b : Bool) → HasPut b mid now written lines page writing → StandsWritten b first now writing.written known'
    told false (all, b) =
        (known', [], sym (append-nil known'), all ∙ lines_are, subst (λ t. Appends first now t) (sym text) (Appends-trans first mid now (journal_text 1 ls) (journal_text (written + 1) page) a b))
    told true (part, left, g, b) = (
      journal_text 1 ls ++ part,
      left,
      text ∙ ap (λ t. journal_text 1 ls ++ t) g ∙ sym (append_assoc (journal_text 1 ls) part left),
      Appends-trans first mid now (journal_text 1 ls) part a b,
    )

-- where as many lines are written as there are, all are
all_written : (ls more rest journal known : List Line) → known ≡ ls ++ more → journal ≡ known ++ rest → length ls ≡ length journal → journal ≡ ls
all_written ls more rest journal known e f count =
    let whole : journal ≡ ls ++ (more ++ rest) = f ∙ ap (λ l. l ++ rest) e ∙ append_assoc ls more rest in
    let none : length (more ++ rest) ≡ 0 = omega (arith, count, ap (λ (l : List Line). length l) whole, length-append ls (more ++ rest)) in
    whole ∙ ap (λ l. ls ++ l) (empty (more ++ rest) none) ∙ append-nil ls
  where
    empty : (xs : List Line) → length xs ≡ 0 → xs ≡ []
    empty [] h = refl
    empty (x ∷ xs) h = absurd (omega (arith, h))

pub writes_all : (failed : Bool) (first now : Option (List ℕ)) (written : ℕ) (journal known : List Line) → StandsWritten failed first now written known → StartsWith journal known → failed ≡ false → written ≡ length journal → WritesAll true first now journal
writes_all true first now written journal known h s e count = absurd (cc)
writes_all false first now written journal known (ls, more, e, is, a) (rest, f) off count =
    subst (λ l. Appends first now (journal_text 1 l)) (sym (all_written ls more rest journal known e f (sym is ∙ count))) a

pub writes_some : (failed : Bool) (first now : Option (List ℕ)) (written : ℕ) (journal known : List Line) → StandsWritten failed first now written known → StartsWith journal known → WritesAll false first now journal
writes_some failed first now written journal known h s = beginning failed first now written journal (grown failed first now written known journal h s)

-- nothing is written in the beginning
nothing_written : (failed : Bool) (written : ℕ) (first : Option (List ℕ)) (known : List Line) → written ≡ 0 → StandsWritten failed first first written known
nothing_written false written first known e = ([], known, refl, e, Appends-nil first)
nothing_written true written first known e = ([], journal_text 1 known, refl, Appends-nil first)

pub begins_so : (writing : JournalWriter) → writing.written ≡ 0 → Begins writing
begins_so writing e = record { writes = λ first known. nothing_written writing.failed writing.written first known e }

pub whole_if : (writing : JournalWriter) (lines : ℕ) → writing.failed ≡ false → writing.written ≡ lines → EndsSo writing lines true
whole_if writing lines off same = record { writes = λ first now journal known h s e. writes_all writing.failed first now writing.written journal known h s off (same ∙ e) }

pub part_if : (writing : JournalWriter) (lines : ℕ) → EndsSo writing lines false
part_if writing lines = record { writes = λ first now journal known h s e. writes_some writing.failed first now writing.written journal known h s }

-- an archive that was empty has all lines behind the first so many
pub archives_all : (room archived count : ℕ) (journal archive after : List Line) (told : Result ℕ ArchiveError) → Archives room archived journal archive after told → told ≡ Ok count → archive ≡ [] → (after ≡ drop archived journal) × (count ≡ length journal)
archives_all room archived count journal archive after (Ok n) h e none = (h.2 ∙ ap (λ ls. ls ++ drop archived journal) none, let many = h.1 in cc)
archives_all room archived count journal archive after (Err x) h e none = absurd (cc)

-- nothing more is written, and nothing more is known
pub goes_same : (writing : JournalWriter) (old : Option (List ℕ)) (known : List Line) → GoesOn writing writing old old known known
goes_same writing old known = record { writes = λ first h. h }

-- the writing ends, and maybe more is known
pub goes_failed : (before after : JournalWriter) (old : Option (List ℕ)) (m m' : Joined) → after.failed ≡ true → StaysIdle m m' → GoesOn before after old old m.pen.known m'.pen.known
goes_failed before after old m m' off stays =
    record {
      writes = λ first h.
          subst (λ b. StandsWritten b first old after.written m'.pen.known) (sym off)
          (grown true first old after.written m.pen.known m'.pen.known (beginning before.failed first old before.written m.pen.known h) stays.known);
    }

-- what is known is put
pub goes_put : (before after : JournalWriter) (old new : Option (List ℕ)) (m m' : Joined) (page : List Line) (lines : ℕ) → before.failed ≡ false → StaysIdle m m' → page ≡ drop before.written m'.pen.known → lines ≡ length m'.pen.known → HasPut after.failed old new before.written lines page after → GoesOn before after old new m.pen.known m'.pen.known
goes_put before after old new m m' page lines on stays page_is lines_are put =
    record {
      writes = λ first h.
          put_more after.failed first old new before.written lines m.pen.known m'.pen.known page after refl (subst (λ b. StandsWritten b first old before.written m.pen.known) on h) stays.known page_is lines_are put;
    }

-- one behind the other
pub goes_trans : (a b c : JournalWriter) (old mid new : Option (List ℕ)) (known known' known'' : List Line) → GoesOn a b old mid known known' → GoesOn b c mid new known' known'' → GoesOn a c old new known known''
goes_trans a b c old mid new known known' known'' g h = record { writes = λ first i. h.writes first (g.writes first i) }

-- the writer stays, and more is known
pub goes_known : (writing : JournalWriter) (old : Option (List ℕ)) (known known' : List Line) → StartsWith known' known → GoesOn writing writing old old known known'
goes_known writing old known known' s = record { writes = λ first h. grown writing.failed first old writing.written known known' h s }

-- the member that has led and released stays idle, and so does one that found the lock held
settles_idle : (before after : Joined) (lines : ℕ) → Settles before lines after → StaysIdle before after
settles_idle before after lines s =
    let pen = s.won.next in let release = s.release in
    record {
      queue = ap (λ (m : Joined). m.queue) s.release ∙ s.stays.queue;
      comer = ap (λ (m : Joined). m.comer) s.release ∙ s.stays.comer;
      place = ap (λ (m : Joined). m.pen.place) s.release ∙ ap (λ p. p.place) s.won.next;
      standing = ap (λ (m : Joined). m.pen.standing) s.release ∙ ap (λ p. p.standing) s.won.next;
      leading = ap (λ (m : Joined). m.pen.leading) s.release ∙ sym s.won.led_not;
      posts = ap (λ (m : Joined). m.pen.posts) s.release ∙ ap (λ p. p.posts) s.won.next;
      mine = ap (λ (m : Joined). m.pen.mine) s.release ∙ ap (λ p. p.mine) s.won.next;
      known = subst (λ l. StartsWith l before.pen.known) (sym (ap (λ (m : Joined). m.pen.known) s.release ∙ ap (λ p. p.hand) s.won.next)) s.won.knows.known;
    }

-- so does one that was told, while it led, that lines are archived
archives_idle : (before after : Joined) (archived : ℕ) → SettlesArchive before archived after → StaysIdle before after
archives_idle before after archived s =
    record {
      queue = ap (λ (m : Joined). m.queue) s.release ∙ s.stays.queue;
      comer = ap (λ (m : Joined). m.comer) s.release ∙ s.stays.comer;
      place = ap (λ (m : Joined). m.pen.place) s.release ∙ ap (λ p. p.place) s.won.next;
      standing = ap (λ (m : Joined). m.pen.standing) s.release ∙ ap (λ p. p.standing) s.won.next;
      leading = ap (λ (m : Joined). m.pen.leading) s.release ∙ sym s.won.led_not;
      posts = ap (λ (m : Joined). m.pen.posts) s.release ∙ ap (λ p. p.posts) s.won.next;
      mine = ap (λ (m : Joined). m.pen.mine) s.release ∙ ap (λ p. p.mine) s.won.next;
      known = subst (λ l. StartsWith l before.pen.known) (sym (ap (λ (m : Joined). m.pen.known) s.release ∙ ap (λ p. p.hand) s.won.next)) s.won.knows.known;
    }

misses_idle : (before after : Joined) → after ≡ record before { pen = after_miss before.pen } → StaysIdle before after
misses_idle before after e =
    record {
      queue = ap (λ (m : Joined). m.queue) e;
      comer = ap (λ (m : Joined). m.comer) e;
      place = ap (λ (m : Joined). m.pen.place) e;
      standing = ap (λ (m : Joined). m.pen.standing) e;
      leading = ap (λ (m : Joined). m.pen.leading) e;
      posts = ap (λ (m : Joined). m.pen.posts) e;
      mine = ap (λ (m : Joined). m.pen.mine) e;
      known = subst (λ l. StartsWith l before.pen.known) (sym (ap (λ (m : Joined). m.pen.known) e)) (starts_refl before.pen.known);
    }

-- so one does that would bring an archive up to date
pub archive_idle : (before after : Joined) (archived : ℕ) (told : Option (Result ℕ ArchiveError)) → IfSome told (λ t. SettlesBy archived before t after)
    → IfNone told (after ≡ record before { pen = after_miss before.pen }) → StaysIdle before after
archive_idle before after archived None s e = misses_idle before after e
archive_idle before after archived (Some (Ok count)) s e = archives_idle before after archived s
archive_idle before after archived (Some (Err Forgotten)) s e = archives_idle before after archived s
archive_idle before after archived (Some (Err NoMemory)) s e = archives_idle before after archived s
archive_idle before after archived (Some (Err Ahead)) s e = settles_idle before after (length after.pen.known) s

pub same_idle : (m : Joined) → StaysIdle m m
same_idle m = record { queue = refl; comer = refl; place = refl; standing = refl; leading = refl; posts = refl; mine = refl; known = starts_refl m.pen.known }

-- and what stays so twice stays so
pub idle_trans : (a b c : Joined) → StaysIdle a b → StaysIdle b c → StaysIdle a c
idle_trans a b c g h =
    record {
      queue = h.queue ∙ g.queue;
      comer = h.comer ∙ g.comer;
      place = h.place ∙ g.place;
      standing = h.standing ∙ g.standing;
      leading = h.leading ∙ g.leading;
      posts = h.posts ∙ g.posts;
      mine = h.mine ∙ g.mine;
      known = starts_trans c.pen.known b.pen.known a.pen.known h.known g.known;
    }
