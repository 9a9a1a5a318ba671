-- How a script's lines come as its bytes do.
use Rattle.std.proofs.Common.{◌≡◌, ◌≢◌, ℕ, ◌<◌, Bool, true, false, List, [], ◌∷◌, ◌++◌, length, length-append, eq-eqb, ne_eqb, refl, sym}
use Rattle.std.proofs.Common.{◌∙◌, ap, arith, append_assoc}
use Rattle.std.specs.Prelude.{◌==◌, if◌then◌else◌}
use Rattle.line_script.specs.Lines.{Cut, with_byte, cut, last_line, lines_of, without_return}

-- the carriage return goes, where it is the last byte
pub without_return-snoc : (xs : List ℕ) (b : ℕ) → without_return (xs ++ b ∷ []) ≡ (if b == 13 then xs else xs ++ b ∷ [])
without_return-snoc [] b = refl
without_return-snoc (x ∷ []) b =
    elim (b == 13) as (λ v. x ∷ (if v then [] else b ∷ []) ≡ (if v then x ∷ [] else x ∷ b ∷ [])) [ true ↦ refl | false ↦ refl ]
without_return-snoc (x ∷ y ∷ ys) b =
    ap (λ zs. x ∷ zs) (without_return-snoc (y ∷ ys) b)
    ∙ elim (b == 13) as (λ v. x ∷ (if v then y ∷ ys else (y ∷ ys) ++ b ∷ [])
    ≡ (if v then x ∷ y ∷ ys else (x ∷ y ∷ ys) ++ b ∷ [])) [ true ↦ refl | false ↦ refl ]

pub return_dropped : (line text : List ℕ) (b : ℕ) → line ≡ text ++ b ∷ [] → b ≡ 13 → text ≡ without_return line
return_dropped line text b split e =
    sym (ap without_return split ∙ without_return-snoc text b ∙ ap (λ v. if v then text else text ++ b ∷ []) (eq-eqb b 13 e))

pub return_absent : (line text : List ℕ) (b : ℕ) → line ≡ text ++ b ∷ [] → b ≢ 13 → line ≡ without_return line
return_absent line text b split ne =
    split ∙ sym (ap without_return split ∙ without_return-snoc text b ∙ ap (λ v. if v then text else text ++ b ∷ []) (ne_eqb b 13 ne))

-- a cut of further bytes behind one: its first line goes onto the rest
abbrev pub onto : List (List ℕ) → List ℕ → List (List ℕ) → List ℕ → Cut
onto lines rest [] last = record { lines = lines; rest = rest ++ last }
onto lines rest (line ∷ more) last = record { lines = lines ++ (rest ++ line) ∷ more; rest = last }

onto_nothing : (more : List (List ℕ)) (last : List ℕ) → record { lines = more; rest = last } ≡ onto [] [] more last
onto_nothing [] last = refl
onto_nothing (line ∷ more) last = refl

-- one byte before a cut
abbrev put : Bool → ℕ → Cut → Cut
put feed byte c = if feed then record { lines = [] ∷ c.lines; rest = c.rest } else with_byte byte c.lines c.rest

put_onto : (feed : Bool) (byte : ℕ) (lines : List (List ℕ)) (rest : List ℕ) (more : List (List ℕ)) (last : List ℕ)
    → put feed byte (onto lines rest more last)
    ≡ onto (put feed byte (record { lines = lines; rest = rest })).lines (put feed byte (record { lines = lines; rest = rest })).rest more last
put_onto true byte lines rest [] last = refl
put_onto true byte lines rest (line ∷ more) last = refl
put_onto false byte [] rest [] last = refl
put_onto false byte [] rest (line ∷ more) last = refl
put_onto false byte (l ∷ lines) rest [] last = refl
put_onto false byte (l ∷ lines) rest (line ∷ more) last = refl

-- two pieces of a script are cut one after the other
pub cut-append : (xs ys : List ℕ) → cut (xs ++ ys) ≡ onto (cut xs).lines (cut xs).rest (cut ys).lines (cut ys).rest
cut-append [] ys = onto_nothing (cut ys).lines (cut ys).rest
cut-append (x ∷ xs) ys = ap (put (x == 10) x) (cut-append xs ys) ∙ put_onto (x == 10) x (cut xs).lines (cut xs).rest (cut ys).lines (cut ys).rest

-- nothing behind a list of bytes
pub append_nil : (xs : List ℕ) → xs ++ [] ≡ xs
append_nil [] = refl
append_nil (x ∷ xs) = ap (λ ys. x ∷ ys) (append_nil xs)

-- a line feed ends the line under way
pub cut-feed : (xs ys : List ℕ) → cut (xs ++ 10 ∷ ys) ≡ record { lines = (cut xs).lines ++ (cut xs).rest ∷ (cut ys).lines; rest = (cut ys).rest }
cut-feed xs ys =
    cut-append xs (10 ∷ ys)
    ∙ ap (λ rest. record { lines = (cut xs).lines ++ rest ∷ (cut ys).lines; rest = (cut ys).rest }) (append_nil (cut xs).rest)

pub lines_of-feed : (xs ys : List ℕ) → lines_of (xs ++ 10 ∷ ys) ≡ (cut xs).lines ++ (cut xs).rest ∷ lines_of ys
lines_of-feed xs ys =
    ap (λ (c : Cut). c.lines ++ last_line c.rest) (cut-feed xs ys)
    ∙ append_assoc (cut xs).lines ((cut xs).rest ∷ (cut ys).lines) (last_line (cut ys).rest)

-- any other byte goes onto the line under way
pub cut-byte : (xs : List ℕ) (b : ℕ) → b ≢ 10 → cut (xs ++ b ∷ []) ≡ record { lines = (cut xs).lines; rest = (cut xs).rest ++ b ∷ [] }
cut-byte xs b ne =
    cut-append xs (b ∷ []) ∙ ap (λ v. onto (cut xs).lines (cut xs).rest (put v b (cut [])).lines (put v b (cut [])).rest) (ne_eqb b 10 ne)

-- the line under way, with all that comes of it, among the lines of the whole script
pub record LineOnward (script : List ℕ) (before : List (List ℕ)) (begun : List ℕ) : Type 0 where
  pub line : List ℕ
  pub behind : List (List ℕ)
  pub split : lines_of script ≡ before ++ line ∷ behind
  pub longer : length begun < length line

longer_by : (rest end : List ℕ) (b : ℕ) → length rest < length (rest ++ b ∷ end)
longer_by rest end b = omega (arith, length-append {A = ℕ} rest (b ∷ end))

last_line-filled : (rest end : List ℕ) (b : ℕ) → last_line (rest ++ b ∷ end) ≡ (rest ++ b ∷ end) ∷ []
last_line-filled [] end b = refl
last_line-filled (x ∷ rest) end b = refl

onward_from : (script : List ℕ) (before : List (List ℕ)) (begun : List ℕ) (b : ℕ) (lines : List (List ℕ)) (last : List ℕ)
    → cut script ≡ onto before begun (with_byte b lines last).lines (with_byte b lines last).rest → LineOnward script before begun
onward_from script before begun b [] last e = record {
  line = begun ++ b ∷ last;
  behind = [];
  split = ap (λ (c : Cut). c.lines ++ last_line c.rest) e ∙ ap (λ ls. before ++ ls) (last_line-filled begun last b);
  longer = longer_by begun last b;
}
onward_from script before begun b (l ∷ lines) last e = record {
  line = begun ++ b ∷ l;
  behind = lines ++ last_line last;
  split = ap (λ (c : Cut). c.lines ++ last_line c.rest) e ∙ append_assoc before ((begun ++ b ∷ l) ∷ lines) (last_line last);
  longer = longer_by begun l b;
}

pub onward : (xs ys : List ℕ) (b : ℕ) → b ≢ 10 → LineOnward (xs ++ b ∷ ys) (cut xs).lines (cut xs).rest
onward xs ys b ne =
    onward_from (xs ++ b ∷ ys) (cut xs).lines (cut xs).rest b (cut ys).lines (cut ys).rest
    (cut-append xs (b ∷ ys) ∙ ap (λ v. onto (cut xs).lines (cut xs).rest (put v b (cut ys)).lines (put v b (cut ys)).rest) (ne_eqb b 10 ne))

pub empty_still : (line : List ℕ) → length line ≡ 0 → line ≡ without_return line
empty_still [] e = refl
empty_still (b ∷ bs) e = absurd (omega (arith, e))
