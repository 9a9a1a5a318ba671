-- A script whose lines are played or refused in one way has one text and one ending.
use Rattle.std.proofs.Common.{◌≡◌, ℕ, ◌+◌, ◌<◌, inl, inr, List, [], ◌∷◌, ◌++◌, length, Option, Result, Ok, Err, refl, sym, ◌∙◌, ap, subst, arith}
use Rattle.line_script.specs.declared.error.RunError.{RunError}
use Rattle.line_script.specs.declared.error.RunError.TheVariants.{Refused, TooLong, NoMemory, Input, Output}
use Rattle.line_script.specs.Lines.{lines_of, without_return, count_of}
use Rattle.line_script.specs.Script.{Kind, Writes}
use Rattle.line_script.specs.Script as script
use Rattle.queue_texts.specs.Laws.{IsPlayedOrRefused}

-- in each state a line is played in one way, or refused for one reason, and so is the end
pub record IsSingle {S R : Type 0} (k : Kind S R) : Type 0 where
  pub plays : (s : S) (line text text' : List ℕ) (t t' : S) → k.plays s line text t → k.plays s line text' t' → (text ≡ text') × (t ≡ t')
  pub refuses : (s : S) (n : ℕ) (line : List ℕ) (r r' : R) → k.refuses s n line r → k.refuses s n line r' → r ≡ r'
  pub either : (s : S) (n : ℕ) (line text : List ℕ) (t : S) (r : R) → k.plays s line text t → k.refuses s n line r → ⊥
  pub ends : (s : S) (r r' : Result (Unit {0}) R) → k.ends s r → k.ends s r' → r ≡ r'

-- two runs over lines, of which each is refused at a line
record SameLine {S : Type 0} (before before' : List (List ℕ)) (line line' text text' : List ℕ) (t t' : S) : Type 0 where
  count : length before ≡ length before'
  refused : line ≡ line'
  written : text ≡ text'
  state : t ≡ t'

module _ {S R : Type 0} (k : Kind S R) (one : IsSingle k) where
  unless_empty : (s : S) (line text text' : List ℕ) (t t' : S) → script.PlaysUnlessEmpty k s line text t → script.PlaysUnlessEmpty k s line text' t' → (text ≡ text') × (t ≡ t')
  unless_empty s [] text text' t t' (none, same) (none', same') = (none ∙ sym none', same ∙ sym same')
  unless_empty s (byte ∷ bytes) text text' t t' h h' = one.plays s (byte ∷ bytes) text text' t t' h h'

  all_one : (s : S) (lines : List (List ℕ)) (text text' : List ℕ) (t t' : S) → script.PlaysAll k s lines text t → script.PlaysAll k s lines text' t' → (text ≡ text') × (t ≡ t')
  all_one s [] text text' t t' (none, same) (none', same') = (none ∙ sym none', same ∙ sym same')
  all_one s (line ∷ lines) text text' t t' (mid, first, others, (short, here), rest, split) (mid', first', others', (short', here'), rest', split') =
      let same = unless_empty s (without_return line) first first' mid mid' here here' in
      let behind = all_one mid lines others others' t t' rest (subst (λ m. script.PlaysAll k m lines others' t') (sym same.1) rest') in
      (split ∙ ap (λ f. f ++ others) same.0 ∙ ap (λ o. first' ++ o) behind.0 ∙ sym split', behind.1)

  not_both_filled : (s : S) (n : ℕ) (line text : List ℕ) (t : S) (r : R) → script.PlaysUnlessEmpty k s line text t → 0 < length line → k.refuses s n line r → ⊥
  not_both_filled s n [] text t r plays filled refused = omega (arith, filled)
  not_both_filled s n (byte ∷ bytes) text t r plays filled refused = one.either s n (byte ∷ bytes) text t r plays refused

  not_both : (s : S) (n : ℕ) (line text : List ℕ) (t : S) (e : RunError R) → script.PlaysLine k s line text t → script.RefusesLine k s n line e → ⊥
  not_both s n line text t (Refused r) (short, plays) (short', filled, refused) = not_both_filled s n (without_return line) text t r plays filled refused
  not_both s n line text t (TooLong m) (short, plays) (long, number) = omega (arith, short, long)
  not_both s n line text t NoMemory plays none = none
  not_both s n line text t Input plays none = none
  not_both s n line text t Output plays none = none

  refused_one : (s : S) (n : ℕ) (line : List ℕ) (e e' : RunError R) → script.RefusesLine k s n line e → script.RefusesLine k s n line e' → e ≡ e'
  refused_one s n line (Refused r) (Refused r') (short, filled, h) (short', filled', h') = ap (λ x. Refused x) (one.refuses s n (without_return line) r r' h h')
  refused_one s n line (Refused r) (TooLong m) (short, filled, h) (long, number) = absurd (omega (arith, short, long))
  refused_one s n line (TooLong m) (Refused r) (long, number) (short, filled, h) = absurd (omega (arith, short, long))
  refused_one s n line (TooLong m) (TooLong m') (long, number) (long', number') = ap (λ x. TooLong x) (number ∙ sym number')
  refused_one s n line NoMemory e' none h = absurd none
  refused_one s n line Input e' none h = absurd none
  refused_one s n line Output e' none h = absurd none
  refused_one s n line (Refused r) NoMemory h none = absurd none
  refused_one s n line (Refused r) Input h none = absurd none
  refused_one s n line (Refused r) Output h none = absurd none
  refused_one s n line (TooLong m) NoMemory h none = absurd none
  refused_one s n line (TooLong m) Input h none = absurd none
  refused_one s n line (TooLong m) Output h none = absurd none

  -- all lines are not accepted where one is refused
  not_all : (s : S) (lines before behind : List (List ℕ)) (line text text' : List ℕ) (t t' : S) (n : ℕ) (e : RunError R) → lines ≡ before ++ line ∷ behind → script.PlaysAll k s lines text t
      → script.PlaysAll k s before text' t' → script.RefusesLine k t' n line e → ⊥
  not_all s [] [] behind line text text' t t' n e split all (none, same) refused = absurd (cc)
  not_all s [] (b ∷ before) behind line text text' t t' n e split all before_all refused = absurd (cc)
  not_all s (l ∷ lines) [] behind line text text' t t' n e split (mid, first, others, here, rest, cuts) (none, same) refused =
      let at : l ≡ line = cc in
      not_both s n line first mid e (subst (λ x. script.PlaysLine k s x first mid) at here) (subst (λ x. script.RefusesLine k x n line e) same refused)
  not_all s (l ∷ lines) (b ∷ before) behind line text text' t t' n e split (mid, first, others, here, rest, cuts) (mid', first', others', here', rest', cuts') refused =
      let at : l ≡ b = cc in
      let tail : lines ≡ before ++ line ∷ behind = cc in
      let here'' : script.PlaysLine k s l first' mid' = subst (λ x. script.PlaysLine k s x first' mid') (sym at) here' in
      let same : (first ≡ first') × (mid ≡ mid') = unless_empty s (without_return l) first first' mid mid' here.1 here''.1 in
      not_all mid lines before behind line others others' t t' n e tail rest (subst (λ m. script.PlaysAll k m before others' t') (sym same.1) rest') refused

  -- two refusals are of one line
  same_line : (s : S) (before before' behind behind' : List (List ℕ)) (line line' text text' : List ℕ) (t t' : S) (n n' : ℕ) (e e' : RunError R) → before ++ line ∷ behind ≡ before' ++ line' ∷ behind'
      → script.PlaysAll k s before text t → script.RefusesLine k t n line e → script.PlaysAll k s before' text' t' → script.RefusesLine k t' n' line' e' → SameLine before before' line line' text text' t t'
  same_line s [] [] behind behind' line line' text text' t t' n n' e e' split (none, same) refused (none', same') refused' =
      record { count = refl; refused = cc; written = none ∙ sym none'; state = same ∙ sym same' }
  same_line s [] (b ∷ before') behind behind' line line' text text' t t' n n' e e' split (none, same) refused (mid, first, others, here, rest, cuts) refused' =
      let at : b ≡ line = cc in
      absurd (not_both s n line first mid e (subst (λ x. script.PlaysLine k s x first mid) at here) (subst (λ x. script.RefusesLine k x n line e) same refused))
  same_line s (b ∷ before) [] behind behind' line line' text text' t t' n n' e e' split (mid, first, others, here, rest, cuts) refused (none, same) refused' =
      let at : b ≡ line' = cc in
      absurd (not_both s n' line' first mid e' (subst (λ x. script.PlaysLine k s x first mid) at here) (subst (λ x. script.RefusesLine k x n' line' e') same refused'))
  same_line s (b ∷ before) (b' ∷ before') behind behind' line line' text text' t t' n n' e e' split (mid, first, others, here, rest, cuts) refused (mid', first', others', here', rest', cuts') refused' =
      let at : b ≡ b' = cc in
      let tail : before ++ line ∷ behind ≡ before' ++ line' ∷ behind' = cc in
      let here'' : script.PlaysLine k s b first' mid' = subst (λ x. script.PlaysLine k s x first' mid') (sym at) here' in
      let same : (first ≡ first') × (mid ≡ mid') = unless_empty s (without_return b) first first' mid mid' here.1 here''.1 in
      let on = same_line mid before before' behind behind' line line' others others' t t' n n' e e' tail rest refused (subst (λ m. script.PlaysAll k m before' others' t') (sym same.1) rest') refused' in
      record { count = omega (arith, on.count); refused = on.refused; written = cuts ∙ ap (λ f. f ++ others) same.0 ∙ ap (λ o. first' ++ o) on.written ∙ sym cuts'; state = on.state }

  abbrev Same : Result (Unit {0}) (RunError R) → Result (Unit {0}) (RunError R) → List ℕ → List ℕ → Type 0
  Same r r' text text' = (r ≡ r') × (text ≡ text')

  -- a run that is refused at a line, and another
  at_one_line : (s : S) (input text text' : List ℕ) (e e' : RunError R) → script.RefusedAtLine k s input text e → script.RefusedAtLine k s input text' e' → Same (Err e) (Err e') text text'
  at_one_line s input text text' e e' (before, line, behind, t, split, plays, refused) (before', line', behind', t', split', plays', refused') =
      let same = same_line s before before' behind behind' line line' text text' t t' (count_of (length before + 1)) (count_of (length before' + 1)) e e' (sym split ∙ split') plays refused plays' refused' in
      let moved : script.RefusesLine k t (count_of (length before + 1)) line e' = subst (λ n. script.RefusesLine k t n line e') (ap (λ m. count_of (m + 1)) (sym same.count)) (subst (λ l. script.RefusesLine k t (count_of (length before' + 1)) l e') (sym same.refused) (subst (λ x. script.RefusesLine k x (count_of (length before' + 1)) line' e') (sym same.state) refused')) in
      (ap (λ x. Err x) (refused_one t (count_of (length before + 1)) line e e' refused moved), same.written)

  at_line_or_all : (s : S) (input text text' : List ℕ) (t : S) (e : RunError R) → script.RefusedAtLine k s input text e → script.PlaysAll k s (lines_of input) text' t → ⊥
  at_line_or_all s input text text' t e (before, line, behind, t', split, plays, refused) all = not_all s (lines_of input) before behind line text' text t t' (count_of (length before + 1)) e split all plays refused

  -- both accept all lines
  at_one_end : (s t t' : S) (input text text' : List ℕ) (r r' : Result (Unit {0}) R) → script.PlaysAll k s (lines_of input) text t → k.ends t r → script.PlaysAll k s (lines_of input) text' t' → k.ends t' r' → (r ≡ r') × (text ≡ text')
  at_one_end s t t' input text text' r r' all ends all' ends' =
      let same = all_one s (lines_of input) text text' t t' all all' in
      (one.ends t r r' ends (subst (λ x. k.ends x r') (sym same.1) ends'), same.0)

  ok_or_err : {X E : Type 0} (x : X) (e : E) → Ok x ≡ Err e → ⊥
  ok_or_err x e h = absurd (cc)

  same_reason : {X E : Type 0} (r r' : E) → ◌≡◌ {A = Result X E} (Err r) (Err r') → r ≡ r'
  same_reason r r' h = cc

  pub one_text : (s : S) (input : List ℕ) (unread unread' : Option (List ℕ)) (r r' : Result (Unit {0}) (RunError R)) (text text' : List ℕ) → Writes k s input unread r text → Writes k s input unread' r' text'
      → IsPlayedOrRefused r → IsPlayedOrRefused r' → Same r r' text text'
  one_text s input u u' (Ok d) (Ok d') text text' ((t, all, ends), none) ((t', all', ends'), none') f f' = (refl, (at_one_end s t t' input text text' (Ok tt) (Ok tt) all ends all' ends').1)
  one_text s input u u' (Ok d) (Err (Refused r)) text text' ((t, all, ends), none) (inl refused, reading) f f' = absurd (at_line_or_all s input text' text t (Refused r) refused all)
  one_text s input u u' (Ok d) (Err (Refused r)) text text' ((t, all, ends), none) (inr (t', all', ends'), reading) f f' = absurd (ok_or_err tt r (at_one_end s t t' input text text' (Ok tt) (Err r) all ends all' ends').0)
  one_text s input u u' (Ok d) (Err (TooLong n)) text text' ((t, all, ends), none) (refused, reading) f f' = absurd (at_line_or_all s input text' text t (TooLong n) refused all)
  one_text s input u u' (Err (Refused r)) (Ok d) text text' (inl refused, reading) ((t, all, ends), none) f f' = absurd (at_line_or_all s input text text' t (Refused r) refused all)
  one_text s input u u' (Err (Refused r)) (Ok d) text text' (inr (t, all, ends), reading) ((t', all', ends'), none) f f' = absurd (ok_or_err tt r (at_one_end s t' t input text' text (Ok tt) (Err r) all' ends' all ends).0)
  one_text s input u u' (Err (TooLong n)) (Ok d) text text' (refused, reading) ((t, all, ends), none) f f' = absurd (at_line_or_all s input text text' t (TooLong n) refused all)
  one_text s input u u' (Err (Refused r)) (Err (Refused r')) text text' (inl refused, reading) (inl refused', reading') f f' = at_one_line s input text text' (Refused r) (Refused r') refused refused'
  one_text s input u u' (Err (Refused r)) (Err (Refused r')) text text' (inl refused, reading) (inr (t, all, ends), reading') f f' = absurd (at_line_or_all s input text text' t (Refused r) refused all)
  one_text s input u u' (Err (Refused r)) (Err (Refused r')) text text' (inr (t, all, ends), reading) (inl refused, reading') f f' = absurd (at_line_or_all s input text' text t (Refused r') refused all)
  one_text s input u u' (Err (Refused r)) (Err (Refused r')) text text' (inr (t, all, ends), reading) (inr (t', all', ends'), reading') f f' =
      let same = at_one_end s t t' input text text' (Err r) (Err r') all ends all' ends' in
      (ap (λ x. Err (Refused x)) (same_reason {X = Unit {0}} r r' same.0), same.1)
  one_text s input u u' (Err (Refused r)) (Err (TooLong n)) text text' (inl refused, reading) (refused', reading') f f' = at_one_line s input text text' (Refused r) (TooLong n) refused refused'
  one_text s input u u' (Err (Refused r)) (Err (TooLong n)) text text' (inr (t, all, ends), reading) (refused, reading') f f' = absurd (at_line_or_all s input text' text t (TooLong n) refused all)
  one_text s input u u' (Err (TooLong n)) (Err (Refused r)) text text' (refused, reading) (inl refused', reading') f f' = at_one_line s input text text' (TooLong n) (Refused r) refused refused'
  one_text s input u u' (Err (TooLong n)) (Err (Refused r)) text text' (refused, reading) (inr (t, all, ends), reading') f f' = absurd (at_line_or_all s input text text' t (TooLong n) refused all)
  one_text s input u u' (Err (TooLong n)) (Err (TooLong m)) text text' (refused, reading) (refused', reading') f f' = at_one_line s input text text' (TooLong n) (TooLong m) refused refused'
  one_text s input u u' (Err NoMemory) r' text text' w w' f f' = absurd f
  one_text s input u u' (Err Input) r' text text' w w' f f' = absurd f
  one_text s input u u' (Err Output) r' text text' w w' f f' = absurd f
  one_text s input u u' r (Err NoMemory) text text' w w' f f' = absurd f'
  one_text s input u u' r (Err Input) text text' w w' f f' = absurd f'
  one_text s input u u' r (Err Output) text text' w w' f f' = absurd f'
