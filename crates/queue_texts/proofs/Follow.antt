-- A kind of script over the states of running code, and the kind that it plays, over states of the
-- definition.
use Rattle.std.proofs.Common.{◌≡◌, ℕ, ◌<◌, ◌≤◌, inl, inr, length, List, [], ◌∷◌, ◌++◌, Option, Some, Result, Ok, Err, refl, sym, subst, arith}
use Rattle.std.specs.Io.KnownBytes.{Appends, Consumes}
use Rattle.std.proofs.KnownBytes.{Appends-nil}
use Rattle.line_script.specs.declared.error.RunError.{RunError}
use Rattle.line_script.specs.declared.error.RunError.TheVariants.{Refused, TooLong, NoMemory, Input, Output}
use Rattle.line_script.specs.Lines.{cut, lines_of, without_return}
use Rattle.line_script.specs.Script.{Kind, StopsReading, Writes}
use Rattle.line_script.specs.Script as script

-- For s p says that the running state s stands for p. What the code does from s, the definition
-- does from each p that s stands for.
pub record Follows {S T R : Type 0} (k : Kind S R) (k' : Kind T R) (For : S → T → Type 0) : Type 0 where
  pub longest : k.longest ≡ k'.longest
  pub plays : (s t : S) (p : T) (line text : List ℕ) → For s p → k.plays s line text t → (q : T) × For t q × k'.plays p line text q
  pub refuses : (s : S) (p : T) (n : ℕ) (line : List ℕ) (reason : R) → For s p → k.refuses s n line reason → k'.refuses p n line reason
  pub ends : (s : S) (p : T) (r : Result (Unit {0}) R) → For s p → k.ends s r → k'.ends p r

module _ {S T R : Type 0} (k : Kind S R) (k' : Kind T R) (For : S → T → Type 0) (f : Follows k k' For) where
  unless_empty : (s t : S) (p : T) (line text : List ℕ) → For s p → script.PlaysUnlessEmpty k s line text t → (q : T) × For t q × script.PlaysUnlessEmpty k' p line text q
  unless_empty s t p [] text h (none, same) = (p, subst (λ x. For x p) (sym same) h, (none, refl))
  unless_empty s t p (byte ∷ bytes) text h plays = f.plays s t p (byte ∷ bytes) text h plays

  pub all_follow : (s t : S) (p : T) (lines : List (List ℕ)) (text : List ℕ) → For s p → script.PlaysAll k s lines text t → (q : T) × For t q × script.PlaysAll k' p lines text q
  all_follow s t p [] text h (none, same) = (p, subst (λ x. For x p) (sym same) h, (none, refl))
  all_follow s t p (line ∷ lines) text h (mid, first, others, (short, one), rest, split) =
      let here = unless_empty s mid p (without_return line) first h one in
      let there = all_follow mid t here.0 lines others here.1 rest in
      (there.0, there.1, (here.0, first, others, (subst (λ n. length line ≤ n) f.longest short, here.2), there.2, split))

  line_refused : (s : S) (p : T) (n : ℕ) (line : List ℕ) (e : RunError R) → For s p → script.RefusesLine k s n line e → script.RefusesLine k' p n line e
  line_refused s p n line (Refused reason) h (short, filled, refused) = (subst (λ n. length line ≤ n) f.longest short, filled, f.refuses s p n (without_return line) reason h refused)
  line_refused s p n line (TooLong number) h (long, at) = (subst (λ n. n < length line) f.longest long, at)
  line_refused s p n line NoMemory h none = none
  line_refused s p n line Input h none = none
  line_refused s p n line Output h none = none

  part_follows : (s : S) (p : T) (input text : List ℕ) → For s p → script.WritesPart k s input text → script.WritesPart k' p input text
  part_follows s p input text h (before, behind, t, left, split, plays) =
      let all = all_follow s t p before (text ++ left) h plays in (before, behind, all.0, left, split, all.2)

  refused_at_line : (s : S) (p : T) (input text : List ℕ) (e : RunError R) → For s p → script.RefusedAtLine k s input text e → script.RefusedAtLine k' p input text e
  refused_at_line s p input text e h (before, line, behind, t, split, plays, refused) =
      let all = all_follow s t p before text h plays in
      (before, line, behind, all.0, split, all.2, line_refused t all.0 _ line e all.1 refused)

  stops_follow : (s : S) (p : T) (input : List ℕ) (unread : Option (List ℕ)) (text : List ℕ) (e : RunError R) → For s p → script.StopsWith k s input unread text e → script.StopsWith k' p input unread text e
  stops_follow s p input unread text (Refused reason) h (inl refused) = inl (refused_at_line s p input text (Refused reason) h refused)
  stops_follow s p input unread text (Refused reason) h (inr (t, plays, ends)) =
      let all = all_follow s t p (lines_of input) text h plays in inr (all.0, all.2, f.ends t all.0 (Err reason) all.1 ends)
  stops_follow s p input unread text (TooLong number) h refused = refused_at_line s p input text (TooLong number) h refused
  stops_follow s p input unread text NoMemory h stops = part_follows s p input text h stops
  stops_follow s p input unread text Output h stops = part_follows s p input text h stops
  stops_follow s p input unread text Input h (bytes, read, t, plays) =
      let all = all_follow s t p (cut bytes).lines text h plays in (bytes, read, all.0, all.2)

  reading_follows : (s : S) (p : T) (input : List ℕ) (unread : Option (List ℕ)) (text : List ℕ) → For s p → StopsReading k s input unread text → StopsReading k' p input unread text
  reading_follows s p input unread text h r =
      let all = all_follow s r.state p (cut r.earlier).lines r.first h r.accepted in
      record { earlier = r.earlier; last = r.last; read = r.read; one_buffer = r.one_buffer; state = all.0; first = r.first; others = r.others; accepted = all.2; written = r.written; under_way = subst (λ n. length (cut r.earlier).rest ≤ n) f.longest r.under_way }

  pub writes_follow : (s : S) (p : T) (input : List ℕ) (unread : Option (List ℕ)) (r : Result (Unit {0}) (RunError R)) (text : List ℕ) → For s p → Writes k s input unread r text → Writes k' p input unread r text
  writes_follow s p input unread (Ok done) text h ((t, plays, ends), at_end) =
      let all = all_follow s t p (lines_of input) text h plays in ((all.0, all.2, f.ends t all.0 (Ok tt) all.1 ends), at_end)
  writes_follow s p input unread (Err e) text h (stops, reading) = (stops_follow s p input unread text e h stops, reading_follows s p input unread text h reading)

-- memory is refused before anything is read
pub nothing_done : {S R : Type 0} (k : Kind S R) (s : S) (input : List ℕ) (unread contents : Option (List ℕ)) → unread ≡ Some input → (text : List ℕ) × Appends contents contents text × Writes k s input unread (Err NoMemory) text
nothing_done k s input unread contents known = (
  [],
  Appends-nil contents,
  (
    ([], lines_of input, s, [], refl, (refl, refl)),
    record { earlier = []; last = []; read = subst (λ u. Consumes (Some input) u []) (sym known) refl; one_buffer = omega arith; state = s; first = []; others = []; accepted = (refl, refl); written = refl; under_way = omega arith },
  ),
)
