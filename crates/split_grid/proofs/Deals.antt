-- The opening keeps the rule, and so does each comer that gets its seat.
use Rattle.std.proofs.Common.{◌≡◌, ℕ, zero, suc, ◌+◌, ◌*◌, ◌/◌, ◌<◌, List, [], ◌∷◌, ◌++◌, map, length, slice_get, slice_set, slice_index, get_or}
use Rattle.std.proofs.Common.{take, drop, replicate, Option, Some, true, false, true≢false, refl, sym, ap, ◌∙◌, subst, arith, append_assoc}
use Rattle.std.proofs.Math.Seq.{drop-cons, take-suc}
use Rattle.std.proofs.lemmas.List.{length-map}
use Rattle.std.proofs.lemmas.List.Elements.{All-map}
use Rattle.std.specs.List.{All}
use native.Mathlib.Numerals.{add-one}
use mathlib.Core.Option.{some, none, some-ne-none, some-injective}
use mathlib.Core.Option as home
use lib.ListN.{get_elem?}
use Rattle.atomic_table.specs.Table.{State, Me, opening as table_opening, Splits}
use Rattle.atomic_table.proofs.Lists.{at_map}
use Rattle.atomic_table.specs.Seated.{TableId}
use Rattle.split_core.specs.Places.{place, Numbered}
use Rattle.split_core.specs.Comer.{comer_of}
use Rattle.split_core.specs.Grid.{Different}
use Rattle.split_core.specs.declared.model.Comer.{Comer}
use Rattle.split_core.specs.declared.model.Next.TheVariants.{WriteLast, Stopped}
use Rattle.split_grid.specs.Words.{door_at, last_at}
use Rattle.split_grid.specs.Rule.{dealer, seated, is_dealt, bare, looks_in, Keeps}
use Rattle.split_grid.specs.Dealing.{without_first, first_alone, IsFirst}
use Rattle.split_grid.specs.Opening.{places_of, AllFit, newcomer_in}
use Rattle.split_grid.specs.Tokens.{Walking}
use Rattle.split_grid.specs.declared.rule.Role.{Role}
use Rattle.split_grid.specs.declared.rule.Role.TheVariants.{Dealer, Dealt}
use Rattle.split_grid.specs.declared.rule.View.{View}
use Rattle.split_grid.specs.declared.rule.Look.{Look}
use Rattle.split_grid.proofs.Boards.{looks_else}
use lib.Seq.{map-set}

map_append : {A B : Type 0} (f : A → B) (xs ys : List A) → map f (xs ++ ys) ≡ map f xs ++ map f ys
map_append f [] ys = refl
map_append f (x ∷ xs) ys = ap (λ l. f x ∷ l) (map_append f xs ys)

there : {A : Type 0} (xs : List A) (i : ℕ) → i < length xs → (a : A) × (get_elem? xs i ≡ some a)
there [] i h = absurd (omega arith)
there (x ∷ xs) zero h = (x, refl)
there (x ∷ xs) (suc i) h = there xs i (omega arith)

zeros : (n i : ℕ) → slice_index (replicate n 0) i ≡ 0
zeros zero i = refl
zeros (suc n) zero = refl
zeros (suc n) (suc i) = zeros n i

length_zeros : (n : ℕ) → length {A = ℕ} (replicate n 0) ≡ n
length_zeros zero = refl
length_zeros (suc n) = ap suc (length_zeros n)

none_stopped : (ids : List ℕ) (a : ℕ) (c : Comer) → slice_get (map comer_of ids) a ≡ Some c → c.next ≡ Stopped → ⊥
none_stopped [] a c e s = cc
none_stopped (id ∷ ids) zero c e s = let h : comer_of id ≡ c = cc in let h' : WriteLast ≡ Stopped = ap (λ (x : Comer). x.next) h ∙ s in cc
none_stopped (id ∷ ids) (suc a) c e s = none_stopped ids a c e s

module _ {G : Type 0} (tag : G) (n : ℕ) where
  in_dealt : (l : List Comer) (i : ℕ) (v : View G) → get_elem? (map (seated tag n) l) i ≡ some v → is_dealt v.role ≡ true
  in_dealt [] i v e = absurd (some-ne-none v (sym e))
  in_dealt (x ∷ xs) zero v e = ap (λ (u : View G). is_dealt u.role) (sym (some-injective (seated tag n x) v e))
  in_dealt (x ∷ xs) (suc i) v e = in_dealt xs i v e

  -- the dealer has the first seat
  dealer_at : (waiting : List ℕ) (l : List Comer) (id : ℕ) (v : View G)
      → get_elem? (dealer tag n waiting ∷ map (seated tag n) l) id ≡ some (bare v) → is_dealt v.role ≡ false → (id ≡ 0) × (bare v ≡ dealer tag n waiting)
  dealer_at waiting l zero v e d = (refl, sym (some-injective (dealer tag n waiting) (bare v) e))
  dealer_at waiting l (suc i) v e d = absurd (true≢false (sym (in_dealt l i (bare v) e) ∙ d))

-- a seat more that has no looks
looks_behind : {G : Type 0} (vs : List (View G)) (w : View G) (i : ℕ) → w.looks ≡ [] → looks_in (vs ++ w ∷ []) i ≡ looks_in vs i
looks_behind [] w zero e = e
looks_behind [] w (suc i) e = refl
looks_behind (v ∷ vs) w zero e = refl
looks_behind (v ∷ vs) w (suc i) e = looks_behind vs w i e

ids_of : Role → List ℕ
ids_of (Dealer l) = l
ids_of (Dealt c) = []

module _ {T G : Type 0} (fits : G → ℕ → T → Type 0) (tag : G) (ids : List ℕ) where
  abbrev Rule : State (Option T) (View G) → Type 0
  Rule = Keeps fits tag ids

  abbrev n : ℕ
  n = length ids

  cuts_at : (s : State (Option T) (View G)) (k : Rule s) (x : ℕ) (xs : List ℕ) → k.shows.waiting ≡ x ∷ xs
      → Rule record { words = s.words; homes = s.homes; views = slice_set s.views 0 (dealer tag n xs) ++ seated tag n (comer_of x) ∷ [] }
  cuts_at s k x xs has = record {
    differ = k.differ;
    moments = k.moments;
    stopped = k.stopped;
    looked = λ who.
        k.looked who
        ∙ sym (looks_behind (slice_set s.views 0 (dealer tag n xs)) (seated tag n (comer_of x)) (suc who) refl
        ∙ looks_else s.views 0 (suc who) (dealer tag n xs) (λ e. cc));
    shows = record {
      words = k.shows.words;
      waiting = xs;
      dealt = k.shows.dealt ++ comer_of x ∷ [];
      comers =
          k.shows.comers ∙ (ap (λ l. k.shows.dealt ++ map comer_of l) has ∙ sym (append_assoc k.shows.dealt (comer_of x ∷ []) (map comer_of xs)));
      views =
          map_append bare (slice_set s.views 0 (dealer tag n xs)) (seated tag n (comer_of x) ∷ [])
          ∙ (ap (λ (l : List (View G)). l ++ seated tag n (comer_of x) ∷ []) (map-set bare s.views 0 (dealer tag n xs))
          ∙ (ap (λ (l : List (View G)). slice_set l 0 (dealer tag n xs) ++ seated tag n (comer_of x) ∷ []) k.shows.views
          ∙ ap (λ l. dealer tag n xs ∷ l) (sym (map_append (seated tag n) k.shows.dealt (comer_of x ∷ [])))));
      values = k.shows.values;
    };
  }

  cuts_by : (id : ℕ) (t : G) (m : ℕ) (role : Role) (looks : List Look) (x : ℕ) → IsFirst role x
      → let v : View G = record { tag = t; comers = m; role = role; looks = looks } in Splits Rule id v (without_first v) (first_alone v)
  unfolding ids_of
  cuts_by id t m (Dealer []) looks x h = absurd h
  cuts_by id t m (Dealt c) looks x h = absurd h
  cuts_by id t m (Dealer (y ∷ ys)) looks x h = λ s k at.
      let v : View G = record { tag = t; comers = m; role = Dealer (y ∷ ys); looks = looks } in
      let is = dealer_at tag n k.shows.waiting k.shows.dealt id v
      (ap (λ (l : List (View G)). get_elem? l id) (sym k.shows.views) ∙ at_map bare s.views id v at) refl in
      let has : y ∷ ys ≡ k.shows.waiting = ap (λ (u : View G). ids_of u.role) is.1 in
      subst (λ u. Rule record {
        words = s.words;
        homes = s.homes;
        views = slice_set s.views id (dealer u m ys) ++ seated u m (comer_of y) ∷ [];
      }) (ap (λ (u : View G). u.tag) (sym is.1))
      (subst (λ u. Rule record {
        words = s.words;
        homes = s.homes;
        views = slice_set s.views id (dealer tag u ys) ++ seated tag u (comer_of y) ∷ [];
      }) (ap (λ (u : View G). u.comers) (sym is.1))
      (subst (λ j. Rule record {
        words = s.words;
        homes = s.homes;
        views = slice_set s.views j (dealer tag n ys) ++ seated tag n (comer_of y) ∷ [];
      }) (sym is.0) (cuts_at s k y ys (sym has))))

  -- the next comer gets its seat
  pub cuts : (id : ℕ) (v : View G) (x : ℕ) → IsFirst v.role x → Splits Rule id v (without_first v) (first_alone v)
  cuts id v x h = cuts_by id v.tag v.comers v.role v.looks x h

  -- the opening keeps the rule
  pub begins : (words : List ℕ) (slots : List (Option T)) (values : List T) (places : ℕ) → words ≡ replicate (2 * places) 0
      → slots ≡ map Some values → length values ≡ places → places ≡ place 0 n → Different ids → AllFit fits tag values
      → Rule (table_opening words slots (dealer tag n ids))
  begins words slots values places blank full long counted differ fit =
      let homes : List (home.Option (Option T)) = map some slots in
      record {
        differ = differ;
        moments = [];
        looked = λ who. refl;
        stopped = tt;
        shows = record {
          words = record {
            room = ap length blank ∙ (length_zeros (2 * places) ∙ ap (λ k. 2 * k) counted);
            lasts = λ p lt. ap (λ (l : List ℕ). slice_index l (last_at (place 0 n) p)) blank ∙ zeros (2 * places) (last_at (place 0 n) p);
            doors = λ p lt. ap (λ (l : List ℕ). slice_index l (door_at p)) blank ∙ zeros (2 * places) (door_at p);
          };
          waiting = ids;
          dealt = [];
          comers = refl;
          views = refl;
          values = record {
            slots = length-map slots some ∙ (ap length full ∙ (length-map values Some ∙ (long ∙ counted)));
            home = λ p lt free. let t = there values p (omega (arith, lt, long, counted)) in
                (t.0, at_map some slots p (Some t.0) (ap (λ (l : List (Option T)). get_elem? l p) full ∙ at_map Some values p t.0 t.1));
            out = λ a c e s. absurd (none_stopped ids a c e s);
            fit = λ p x e. fit p x (value_at values p x (ap (λ (l : List (Option T)). get_elem? (map some l) p) (sym full) ∙ e));
          };
        };
      }
    where
      value_at : (l : List T) (p : ℕ) (x : T) → get_elem? (map some (map Some l)) p ≡ some (some (Some x)) → slice_get l p ≡ Some x
      value_at [] p x e = absurd (some-ne-none (some (Some x)) (sym e))
      value_at (y ∷ ys) zero x e = some-injective (Some y) (Some x) (some-injective (some (Some y)) (some (Some x)) e)
      value_at (y ∷ ys) (suc p) x e = value_at ys p x e

drops : (ids : List ℕ) (i : ℕ) → i < length ids → drop i ids ≡ get_or ids i 0 ∷ drop (i + 1) ids
drops ids i h = drop-cons ids i 0 h ∙ ap (λ k. get_or ids i 0 ∷ drop k ids) (sym (add-one i))

module _ {S G : Type 0} (t : G) (n : ℕ) (ids : List ℕ) (i : ℕ) (m : Me S (View G)) (is : m ≡ (dealer t n (drop i ids), [])) (h : i < length ids) where
  now : m ≡ (dealer t n (get_or ids i 0 ∷ drop (i + 1) ids), [])
  now = is ∙ ap (λ l. (dealer t n l, [])) (drops ids i h)

  pub first : IsFirst m.0.role (get_or ids i 0)
  first = subst (λ (x : Me S (View G)). IsFirst x.0.role (get_or ids i 0)) (sym now) refl

  pub rest : ◌≡◌ {A = Me S (View G)} (without_first m.0, m.1) (dealer t n (drop (i + 1) ids), [])
  rest = let f : Me S (View G) → Me S (View G) = λ x. (without_first x.0, x.1) in ap f now

-- one more newcomer
pub dealt_more : {G : Type 0} (deal : ℕ → Walking G) (ids : List ℕ) (i : ℕ) (ns : List (Walking G)) (n : Walking G)
    → ns ≡ map deal (take i ids) → i < length ids → n ≡ deal (get_or ids i 0) → ns ++ n ∷ [] ≡ map deal (take (i + 1) ids)
dealt_more deal ids i ns n old h new =
    ap (λ l. l ++ n ∷ []) old
    ∙ (ap (λ x. map deal (take i ids) ++ x ∷ []) new
    ∙ (sym (map_append deal (take i ids) (get_or ids i 0 ∷ [])) ∙ ap (map deal) (sym (take-suc ids i 0 h) ∙ ap (λ k. take k ids) (sym (add-one i)))))

no_more : (m : ℕ) → m + 0 ≡ m
no_more m = omega arith

-- the number of places of a grid of n comers
pub places_are : ((r c : ℕ) → Numbered r c) → (n : ℕ) → place 0 n ≡ places_of n
places_are numbered n =
    let h : 0 + n ≡ n = omega arith in
    (numbered 0 n).number ∙ (ap (λ m. m * (m + 1) / 2 + 0) h ∙ no_more (n * (n + 1) / 2))

-- each newcomer that was dealt has this table
pub all_here : {G : Type 0} (table : TableId) (tag : G) (n : ℕ) (ids : List ℕ) → All (λ w. w.table ≡ table) (map (newcomer_in table tag n) ids)
all_here table tag n ids = All-map (λ w. w.table ≡ table) (newcomer_in table tag n) ids (λ _ _ _. refl)
