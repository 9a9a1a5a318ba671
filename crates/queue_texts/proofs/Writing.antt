-- How the text of a journal reaches a writer, page by page.
use Rattle.std.proofs.Common.{◌≡◌, ℕ, ◌+◌, ◌<◌, List, [], ◌∷◌, ◌++◌, length, length-append, length-take, take, get_or, Option, Result, Ok}
use Rattle.std.proofs.Common.{Err, OnErr, sym, ◌∙◌, ap, subst, append_assoc, append-nil, codes, arith}
use Rattle.std.proofs.lemmas.List.{take_more}
use Rattle.std.specs.Io.KnownBytes.{Appends}
use Rattle.std.proofs.KnownBytes.{Appends-trans}
use Rattle.byte_writer.specs.Bytes.{AppendsPart}
use Rattle.pq_types.specs.Asked.{Line}
use Rattle.queue_texts.specs.LineText.{line_text, journal_text, IsWritten}

-- the text of a journal is that of its first lines and then of the others
journal_text-append : (n : ℕ) (ls ms : List Line) → journal_text n (ls ++ ms) ≡ journal_text n ls ++ journal_text (n + length ls) ms
journal_text-append n [] ms = ap (λ k. journal_text k ms) (omega arith)
journal_text-append n (l ∷ ls) ms =
    let text = line_text n l ++ codes "\n" in
    ap (λ t. text ++ t) (journal_text-append (n + 1) ls ms) ∙ sym (append_assoc text (journal_text (n + 1) ls) (journal_text (n + 1 + length ls) ms))
    ∙ ap (λ k. text ++ journal_text (n + 1) ls ++ journal_text k ms) (omega arith)

-- a text is with the writer, but for this page of it
abbrev pub IsPaged : Option (List ℕ) → Option (List ℕ) → List ℕ → List ℕ → Type 0
IsPaged first now page text = (out : List ℕ) × Appends first now out × (text ≡ out ++ page)

paged_more : (first mid now : Option (List ℕ)) (page text more page' : List ℕ) → IsPaged first mid page text
    → IsWritten mid page more now page' → IsPaged first now page' (text ++ more)
paged_more first mid now page text more page' (out, a, e) (out', b, f) = (
  out ++ out',
  Appends-trans first mid now out out' a b,
  ap (λ t. t ++ more) e ∙ append_assoc out page more ∙ ap (λ t. out ++ t) f ∙ sym (append_assoc out out' page'),
)

-- one more line is put
pub line_put : (first mid now : Option (List ℕ)) (page page' : List ℕ) (ls ms : List Line) (l : Line) (number : ℕ) → ms ≡ ls ++ l ∷ []
    → number ≡ length ls + 1 → IsPaged first mid page (journal_text 1 ls)
    → IsWritten mid page (line_text number l ++ codes "\n") now page' → IsPaged first now page' (journal_text 1 ms)
line_put first mid now page page' ls ms l number more is h w =
    let text : journal_text 1 ls ++ (line_text number l ++ codes "\n") ≡ journal_text 1 ms =
    ap (λ k. journal_text 1 ls ++ (line_text k l ++ codes "\n")) (is ∙ omega arith)
    ∙ ap (λ t. journal_text 1 ls ++ t) (sym (append-nil (line_text (1 + length ls) l ++ codes "\n")))
    ∙ sym (journal_text-append 1 ls (l ∷ [])) ∙ ap (journal_text 1) (sym more) in
    subst (λ t. IsPaged first now page' t) text (paged_more first mid now page (journal_text 1 ls) (line_text number l ++ codes "\n") page' h w)

-- the page is written, and so is the whole
pub all_written : (first mid now : Option (List ℕ)) (page : List ℕ) (ls lines : List Line) → ls ≡ lines
    → IsPaged first mid page (journal_text 1 ls) → Appends mid now page → Appends first now (journal_text 1 lines)
all_written first mid now page ls lines all (out, a, e) b =
    subst (λ t. Appends first now t) (sym e ∙ ap (journal_text 1) all) (Appends-trans first mid now out page a b)

-- a part of the page is written, and so is a part of the whole
pub part_written : (first mid now : Option (List ℕ)) (page : List ℕ) (ls ms lines : List Line) → lines ≡ ls ++ ms
    → IsPaged first mid page (journal_text 1 ls) → AppendsPart mid now page → AppendsPart first now (journal_text 1 lines)
part_written first mid now page ls ms lines all (out, a, e) (part, rest, split, some, b) =
    let others = journal_text (1 + length ls) ms in (
      out ++ part,
      rest ++ others,
      ap (journal_text 1) all ∙ journal_text-append 1 ls ms
          ∙ ap (λ t. t ++ others) (e ∙ ap (λ t. out ++ t) split ∙ sym (append_assoc out part rest)) ∙ append_assoc (out ++ part) rest others,
      omega (arith, some, length-append {A = ℕ} rest others),
      Appends-trans first mid now out part a b,
    )

-- the next line of a journal is put
pub next_put : (first mid now : Option (List ℕ)) (page page' : List ℕ) (lines : List Line) (n : ℕ) (d : Line) (number : ℕ)
    → n < length lines → number ≡ n + 1 → IsPaged first mid page (journal_text 1 (take n lines))
    → IsWritten mid page (line_text number (get_or lines n d) ++ codes "\n") now page' → IsPaged first now page' (journal_text 1 (take (n + 1) lines))
next_put first mid now page page' lines n d number lt is h w =
    line_put first mid now page page' (take n lines) (take (n + 1) lines) (get_or lines n d) number (take_more lines n d lt)
    (omega (arith, is, lt, length-take {A = Line} n lines)) h w

-- the same of a line that stands there
pub next_put_of : (first mid now : Option (List ℕ)) (page page' : List ℕ) (lines : List Line) (n : ℕ) (l : Line) (number : ℕ)
    → n < length lines → number ≡ n + 1 → IsPaged first mid page (journal_text 1 (take n lines)) → l ≡ get_or lines n l
    → IsWritten mid page (line_text number l ++ codes "\n") now page' → IsPaged first now page' (journal_text 1 (take (n + 1) lines))
next_put_of first mid now page page' lines n l number lt is h there w =
    next_put first mid now page page' lines n l number lt is h (subst (λ x. IsWritten mid page (line_text number x ++ codes "\n") now page') there w)

pub on_err : {X E : Type 0} (P : Type 0) (r : Result X E) → P → OnErr r P
on_err P (Ok x) h = tt
on_err P (Err e) h = h

pub err_so : {X E : Type 0} (P Q : Type 0) (r : Result X E) → (P → Q) → OnErr r P → OnErr r Q
err_so P Q (Ok x) f h = tt
err_so P Q (Err e) f h = f h
