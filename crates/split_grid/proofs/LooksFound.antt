-- A trail scan of which a comer has made the looks is one beside the run.
use Rattle.std.proofs.Common.{◌≡◌, ℕ, ◌+◌, ◌*◌, ◌/◌, ◌==◌, ◌⊎◌, inl, inr, Bool, true, false, if◌then◌else◌, List, [], ◌∷◌, ◌++◌, length, Contains}
use Rattle.std.proofs.Common.{refl, ap, sym, ◌∙◌, subst}
use Rattle.std.proofs.lemmas.Bool.{eqb-true, eq-eqb}
use Rattle.split_core.specs.Places.{place}
use Rattle.split_core.specs.Scan.{with_found}
use Rattle.split_core.specs.Grid.{Grid, Event, happens, run, opening}
use Rattle.split_core.specs.Trail.{Spot, Trail, trail_start, led_to, follows}
use Rattle.split_core.specs.TrailReads as core
use Rattle.split_core.specs.TrailReads.{reads_word, reads_words, trail_by, trail_beside, FindsClosed}
use Rattle.split_grid.specs.declared.rule.Look.{Look}
use Rattle.split_grid.specs.DoorLooks.{Moment, Happens, LooksAt, events_in, look, looks_of, look_next, looks_by, LooksFind}

-- what of these moments one trail scan of the comer at `who` sees
abbrev beside : ℕ → List Moment → List core.Moment
beside who [] = []
beside who (Happens e ∷ ms) = core.Happens e ∷ beside who ms
beside who (LooksAt a p ∷ ms) = if a == who then core.Reads ∷ beside who ms else beside who ms

-- a scan that is over reads nothing
none_more : (n : ℕ) (z : Trail) (words : List ℕ) → z.ahead ≡ [] → (looks_by n z words ≡ []) × (reads_words n z words ≡ z)
none_more n z [] over = (refl, refl)
none_more n z (w ∷ words) over =
    let same : reads_word n z w ≡ z = ap (λ ps. follows n (λ _. w) ps z) over in
    let k = none_more n z words over in (
      ap (λ ps. look_next ps w ++ looks_by n (reads_word n z w) words) over ∙ (ap (λ (y : Trail). looks_by n y words) same ∙ k.0),
      ap (λ (y : Trail). reads_words n y words) same ∙ k.1,
    )

some_place : (ps : List Spot) → (ps ≡ []) ⊎ ((p : Spot) × (rest : List Spot) × (ps ≡ p ∷ rest))
some_place [] = inl refl
some_place (p ∷ rest) = inr (p, rest, refl)

-- the next door, by the word that stands there
reads_there : (n : ℕ) (door : ℕ → ℕ) (z : Trail) (w : ℕ) (p : Spot) (rest ps : List Spot) → ps ≡ p ∷ rest → door (place p.row p.column) ≡ w
    → follows n door ps z ≡ follows n (λ _. w) ps z
reads_there n door z w p rest ps e here =
    subst (λ qs. follows n door qs z ≡ follows n (λ _. w) qs z) (sym e)
    (ap (λ d. record { ahead = led_to n p d rest; found = with_found d (place p.row p.column) z.found; doors = z.doors + 1 }) here)

first_of : (x y : Look) (xs ys : List Look) → x ∷ xs ≡ y ∷ ys → (x ≡ y) × (xs ≡ ys)
first_of x y xs ys e = (cc, cc)

module _ (who n : ℕ) where
  -- one look of that comer
  next_look : (words : List ℕ) (door : ℕ → ℕ) (z : Trail) (p : ℕ) (rest : List Look) → look p (door p) ∷ rest ≡ looks_by n z words
      → (w : ℕ) × (more : List ℕ) × (reads_words n z words ≡ reads_words n (follows n door z.ahead z) more) × (rest ≡ looks_by n (follows n door z.ahead z) more)
  next_look [] door z p rest e = cc
  next_look (w ∷ words) door z p rest e = elim (some_place z.ahead) [
    | inl over ↦ let k = none_more n z (w ∷ words) over in let none = e ∙ k.0 in cc
    | inr (q, others, ahead) ↦
        let f = first_of (look p (door p)) (look (place q.row q.column) w) rest (looks_by n (reads_word n z w) words)
        (e ∙ ap (λ ps. look_next ps w ++ looks_by n (reads_word n z w) words) ahead) in
        let at : p ≡ place q.row q.column = ap (λ (l : Look). l.place) f.0 in
        let here : door (place q.row q.column) ≡ w = ap door (sym at) ∙ ap (λ (l : Look). l.word) f.0 in
        let same : follows n door z.ahead z ≡ reads_word n z w = reads_there n door z w q others z.ahead ahead here in
        (w, words, ap (λ (y : Trail). reads_words n y words) (sym same), f.1 ∙ ap (λ (y : Trail). looks_by n y words) (sym same))
  ]

  abbrev Follows : List Moment → Grid → Trail → List ℕ → Type 0
  Follows ms s z words = looks_of who ms s ≡ looks_by n z words → trail_beside (beside who ms) s z ≡ reads_words n z words

  -- a look, of that comer or of another
  follow_look : (b : Bool) (ms : List Moment) (s : Grid) (z : Trail) (words : List ℕ) (p : ℕ) → length s.comers ≡ n
      → ((y : Trail) (more : List ℕ) → Follows ms s y more)
      → (if b then look p (s.door p) ∷ looks_of who ms s else looks_of who ms s) ≡ looks_by n z words
      → trail_beside (if b then core.Reads ∷ beside who ms else beside who ms) s z ≡ reads_words n z words
  follow_look false ms s z words p len rest e = rest z words e
  follow_look true ms s z words p len rest e =
      let k = next_look words s.door z p (looks_of who ms s) e in
      ap (λ m. trail_beside (beside who ms) s (follows m s.door z.ahead z)) len
      ∙ (rest (follows n s.door z.ahead z) k.1 k.3 ∙ sym k.2)

  none_at_all : (z : Trail) (words : List ℕ) → looks_by n z words ≡ [] → reads_words n z words ≡ z
  none_at_all z [] e = refl
  none_at_all z (w ∷ words) e = elim (some_place z.ahead) [
    | inl over ↦ (none_more n z (w ∷ words) over).1
    | inr (q, others, ahead) ↦ let some_look = sym (ap (λ ps. look_next ps w ++ looks_by n (reads_word n z w) words) ahead) ∙ e in cc
  ]

  follow : (ms : List Moment) (s : Grid) (z : Trail) (words : List ℕ) → ((es : List Event) → length (run es s).comers ≡ n) → Follows ms s z words
  follow [] s z words len e = sym (none_at_all z words (sym e))
  follow (Happens x ∷ ms) s z words len e = follow ms (happens s x) z words (λ es. len (x ∷ es)) e
  follow (LooksAt a p ∷ ms) s z words len e = follow_look (a == who) ms s z words p (len []) (λ y more. follow ms s y more len) e

  -- the moment of one of the looks
  pub record LookIs (ms : List Moment) (s : Grid) (earlier : List Look) (y : Look) (later : List Look) : Type 0 where
    pub before : List Moment
    pub after : List Moment
    pub place_read : ℕ
    pub split : ms ≡ before ++ LooksAt who place_read ∷ after
    pub early : looks_of who before s ≡ earlier
    pub here : look place_read ((run (events_in before) s).door place_read) ≡ y
    pub late : looks_of who after (run (events_in before) s) ≡ later

  moment_at : (b : Bool) (a p : ℕ) (ms : List Moment) (s : Grid) (earlier : List Look) (y : Look) (later : List Look) → (a == who) ≡ b
      → ((xs : List Look) → looks_of who ms s ≡ xs ++ y ∷ later → LookIs ms s xs y later)
      → (if b then look p (s.door p) ∷ looks_of who ms s else looks_of who ms s) ≡ earlier ++ y ∷ later
      → LookIs (LooksAt a p ∷ ms) s earlier y later
  moment_at false a p ms s earlier y later is rest e =
      let k = rest earlier e in record {
        before = LooksAt a p ∷ k.before;
        after = k.after;
        place_read = k.place_read;
        split = ap (λ l. LooksAt a p ∷ l) k.split;
        early = ap (λ b. if b then look p (s.door p) ∷ looks_of who k.before s else looks_of who k.before s) is ∙ k.early;
        here = k.here;
        late = k.late;
      }
  moment_at true a p ms s [] y later is rest e =
      let f = first_of (look p (s.door p)) y (looks_of who ms s) later e in record {
        before = [];
        after = ms;
        place_read = p;
        split = ap (λ j. LooksAt j p ∷ ms) (eqb-true a who is);
        early = refl;
        here = f.0;
        late = f.1;
      }
  moment_at true a p ms s (x ∷ earlier) y later is rest e =
      let f = first_of (look p (s.door p)) x (looks_of who ms s) (earlier ++ y ∷ later) e in
      let k = rest earlier f.1 in record {
        before = LooksAt a p ∷ k.before;
        after = k.after;
        place_read = k.place_read;
        split = ap (λ l. LooksAt a p ∷ l) k.split;
        early =
            ap (λ b. if b then look p (s.door p) ∷ looks_of who k.before s else looks_of who k.before s) is
            ∙ (ap (λ l. look p (s.door p) ∷ l) k.early ∙ ap (λ l. l ∷ earlier) f.0);
        here = k.here;
        late = k.late;
      }

  moment_of : (ms : List Moment) (s : Grid) (earlier : List Look) (y : Look) (later : List Look) → looks_of who ms s ≡ earlier ++ y ∷ later
      → LookIs ms s earlier y later
  moment_of [] s [] y later e = cc
  moment_of [] s (x ∷ earlier) y later e = cc
  moment_of (Happens x ∷ ms) s earlier y later e =
      let k = moment_of ms (happens s x) earlier y later e in record {
        before = Happens x ∷ k.before;
        after = k.after;
        place_read = k.place_read;
        split = ap (λ l. Happens x ∷ l) k.split;
        early = k.early;
        here = k.here;
        late = k.late;
      }
  moment_of (LooksAt a p ∷ ms) s earlier y later e =
      moment_at (a == who) a p ms s earlier y later refl (λ xs. moment_of ms s xs y later) e

run_on : (es fs : List Event) (s : Grid) → run fs (run es s) ≡ run (es ++ fs) s
run_on [] fs s = refl
run_on (e ∷ es) fs s = run_on es fs (happens s e)

pub looks_find : (ids : List ℕ) → FindsClosed ids → ((events : List Event) → length (run events (opening ids)).comers ≡ length ids)
    → place 0 0 ≡ (0 + 0) * (0 + 0 + 1) / 2 + 0 → LooksFind ids
looks_find ids closed len at_zero moments who earlier [] e over = cc
looks_find ids closed len at_zero moments who earlier (w ∷ words) e over =
    let n = length ids in
    let k = moment_of who n moments (opening ids) earlier (look (place 0 0) w) (looks_by n (reads_word n trail_start w) words) e in
    let s = run (events_in k.before) (opening ids) in
    let first : k.place_read ≡ 0 = ap (λ (l : Look). l.place) k.here ∙ at_zero in
    let mine : (k.place_read == k.place_read) ≡ true = eq-eqb k.place_read k.place_read refl in
    let looked : looks_of who (LooksAt who k.place_read ∷ k.after) s ≡ looks_by n trail_start (w ∷ words) =
    ap (λ b. if b then look k.place_read (s.door k.place_read) ∷ looks_of who k.after s else looks_of who k.after s) (eq-eqb who who refl)
    ∙ (ap (λ y. y ∷ looks_of who k.after s) k.here ∙ ap (λ l. look (place 0 0) w ∷ l) k.late) in
    let is : trail_beside (beside who (LooksAt who k.place_read ∷ k.after)) s trail_start ≡ trail_by n (w ∷ words) =
    follow who n (LooksAt who k.place_read ∷ k.after) s trail_start (w ∷ words)
    (λ es. ap (λ (g : Grid). length g.comers) (run_on (events_in k.before) es (opening ids)) ∙ len (events_in k.before ++ es)) looked in (
      k.before,
      k.after,
      k.split ∙ ap (λ q. k.before ++ LooksAt who q ∷ k.after) first,
      k.early,
      λ p shut. subst (λ (y : Trail). Contains y.found p) is
          (closed (events_in k.before) (beside who (LooksAt who k.place_read ∷ k.after)) p shut (ap (λ (y : Trail). y.ahead) is ∙ over)),
    )
