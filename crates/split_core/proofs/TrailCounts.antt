-- How many doors a trail scan reads: its places stand in ascending order, and each is one to which a
-- found one leads.
use Rattle.std.proofs.Common.{◌≡◌, ◌<◌, ◌≤◌, ◌≢◌, ℕ, ◌+◌, ◌*◌, ◌⊎◌, inl, inr, List, [], ◌∷◌, ◌++◌, Contains, refl, ap, sym, ◌∙◌, subst, arith, false}
use Rattle.std.proofs.Common.{not, ◌&&◌, ◌==◌, nat_lt, length, eqb-true}
use Rattle.std.proofs.lemmas.Bool.{and_parts, or_parts, cases_eq, cases_lt, cond_both, not-true, both_ways}
use Rattle.std.proofs.lemmas.List.{length-append}
use Rattle.split_core.specs.Places.{place}
use Rattle.split_core.specs.Scan.{with_found}
use Rattle.split_core.specs.Trail.{Spot, spot, Trail, lists, joined, led_to, follows}
use Rattle.split_core.proofs.Ways.{place_split, place_right, place_down, first_next, first_grows, same_place}
use Rattle.split_core.proofs.ScanFacts.{found_before, found_now, found_from, nowhere}
use Rattle.split_core.proofs.TrailFacts.{same_spot}

-- the numbers of these places ascend, from `low` on
abbrev pub Ascends : ℕ → List Spot → Type 0
Ascends low [] = Unit {0}
Ascends low (p ∷ ps) = (low ≤ place p.row p.column) × Ascends (place p.row p.column + 1) ps

-- they are below `top`
abbrev pub Under : ℕ → List Spot → Type 0
Under top [] = Unit {0}
Under top (p ∷ ps) = (place p.row p.column < top) × Under top ps

-- none stands behind the place right of the first
abbrev pub Span : List Spot → Type 0
Span [] = Unit {0}
Span (p ∷ ps) = Under (place p.row (p.column + 1) + 1) ps

-- one of the places found stands on the diagonal before this one, or behind it
abbrev pub Led : List ℕ → ℕ → Type 0
Led found d = (d ≡ 0) ⊎ ((e : ℕ) × (q : ℕ) × Contains found q × (e + 1 ≡ d) × (place 0 e ≤ q))

abbrev pub AllLed : List ℕ → List Spot → Type 0
AllLed found [] = Unit {0}
AllLed found (p ∷ ps) = Led found (p.row + p.column) × AllLed found ps

ascends_less : (low low' : ℕ) (ps : List Spot) → low' ≤ low → Ascends low ps → Ascends low' ps
ascends_less low low' [] l a = tt
ascends_less low low' (p ∷ ps) l a = (omega (arith, a.0), a.1)

ascends_push : (low i j : ℕ) (ps : List Spot) → Ascends low ps → Under (place i j) ps → low ≤ place i j → Ascends low (ps ++ spot i j ∷ [])
ascends_push low i j [] a u l = (l, tt)
ascends_push low i j (p ∷ ps) a u l = (a.0, ascends_push (place p.row p.column + 1) i j ps a.1 u.1 (omega (arith, u.0)))

under_push : (top i j : ℕ) (ps : List Spot) → Under top ps → place i j < top → Under top (ps ++ spot i j ∷ [])
under_push top i j [] u l = (l, tt)
under_push top i j (p ∷ ps) u l = (u.0, under_push top i j ps u.1 l)

under_more : (top top' : ℕ) (ps : List Spot) → top ≤ top' → Under top ps → Under top' ps
under_more top top' [] l u = tt
under_more top top' (p ∷ ps) l u = (omega (arith, u.0), under_more top top' ps l u.1)

-- a place that isn't listed, and that none is behind, is behind all
under_new : (i j : ℕ) (ps : List Spot) → lists i j ps ≡ false → Under (place i j + 1) ps → Under (place i j) ps
under_new i j [] f u = tt
under_new i j (p ∷ ps) f u =
    let b = or_parts ((p.row == i) && (p.column == j)) (lists i j ps) f in
    let ne : place p.row p.column ≢ place i j = λ e. let s = same_place p.row p.column i j e in both_ways _ b.0 (same_spot p i j s.0 s.1) in
    (omega (arith, u.0), under_new i j ps b.1 u.1)

module _ (n low i j : ℕ) (ps : List Spot) (a : Ascends low ps) (u : Under (place i j + 1) ps) (l : low ≤ place i j) where
  joined_ascends : Ascends low (joined n i j ps)
  joined_ascends =
      cond_both (nat_lt (i + j) n && not (lists i j ps)) _ _ (λ (qs : List Spot). Ascends low qs)
      (λ t. ascends_push low i j ps a
      (under_new i j ps (not-true (lists i j ps) (and_parts (nat_lt (i + j) n) (not (lists i j ps)) t).1) u) l) (λ _. a)

  joined_under : Under (place i j + 1) (joined n i j ps)
  joined_under =
      cond_both (nat_lt (i + j) n && not (lists i j ps)) _ _ (λ (qs : List Spot). Under (place i j + 1) qs)
      (λ _. under_push (place i j + 1) i j ps u (omega arith)) (λ _. u)

joined_length : (n i j : ℕ) (ps : List Spot) → length (joined n i j ps) ≤ length ps + 1
joined_length n i j ps =
    cond_both (nat_lt (i + j) n && not (lists i j ps)) _ _ (λ (qs : List Spot). length qs ≤ length ps + 1)
    (λ _. omega (arith, length-append ps (spot i j ∷ []))) (λ _. omega arith)

all_push : (found : List ℕ) (i j : ℕ) (ps : List Spot) → AllLed found ps → Led found (i + j) → AllLed found (ps ++ spot i j ∷ [])
all_push found i j [] a l = (l, tt)
all_push found i j (p ∷ ps) a l = (a.0, all_push found i j ps a.1 l)

all_joined : (n : ℕ) (found : List ℕ) (i j : ℕ) (ps : List Spot) → AllLed found ps → Led found (i + j) → AllLed found (joined n i j ps)
all_joined n found i j ps a l =
    cond_both (nat_lt (i + j) n && not (lists i j ps)) _ _ (λ (qs : List Spot). AllLed found qs) (λ _. all_push found i j ps a l) (λ _. a)

led_more : (found : List ℕ) (w q d : ℕ) → Led found d → Led (with_found w q found) d
led_more found w q d (inl e) = inl e
led_more found w q d (inr k) = inr (k.0, k.1, found_before w q k.1 found k.2, k.3, k.4)

all_more : (found : List ℕ) (w q : ℕ) (ps : List Spot) → AllLed found ps → AllLed (with_found w q found) ps
all_more found w q [] a = tt
all_more found w q (p ∷ ps) a = (led_more found w q (p.row + p.column) a.0, all_more found w q ps a.1)

-- the place right of a later one doesn't stand before the one below
right_after : (r c i j : ℕ) → place r c < place i j → place (r + 1) c ≤ place i (j + 1)
right_after r c i j l =
    elim (cases_lt (i + j) (r + c)) [
      | inl k ↦ absurd (omega (arith, place_split r c, place_split i j, first_next (i + j), first_grows (i + j + 1) (r + c) (omega arith)))
      | inr k ↦ omega (arith, place_down r c, place_right i j)
    ]

span_from : (r c : ℕ) (ps : List Spot) → Ascends (place r c + 1) ps → Under (place (r + 1) c + 1) ps → Span ps
span_from r c [] a u = tt
span_from r c (h ∷ qs) a u =
    under_more (place (r + 1) c + 1) (place h.row (h.column + 1) + 1) qs (omega (arith, right_after r c h.row h.column (omega (arith, a.0)))) u.1

-- what a trail is at any moment, beside these doors, whose places found, count of doors and places
-- ahead are these
pub record TrailOk (door : ℕ → ℕ) (found : List ℕ) (doors : ℕ) (ahead : List Spot) : Type 0 where
  pub closed : (p : ℕ) → Contains found p → door p ≡ 1
  pub order : (low : ℕ) × (doors ≤ low) × Ascends low ahead
  pub behind : (p : ℕ) → Contains found p → p < order.0
  pub span : Span ahead
  pub led : AllLed found ahead
  pub bound : (d : ℕ) × (doors ≤ place 0 (d + 1)) × Led found d
  pub pair : doors + length ahead ≤ 1 + 2 * length found

pub trail_stays : (door door' : ℕ → ℕ) (found : List ℕ) (doors : ℕ) (ahead : List Spot) → ((p : ℕ) → door p ≡ 1 → door' p ≡ 1)
    → TrailOk door found doors ahead → TrailOk door' found doors ahead
trail_stays door door' found doors ahead mono o = record {
  closed = λ p c. mono p (o.closed p c);
  order = o.order;
  behind = o.behind;
  span = o.span;
  led = o.led;
  bound = o.bound;
  pair = o.pair;
}

pub none_ok : (door : ℕ → ℕ) → TrailOk door [] 0 []
none_ok door = record {
  closed = λ p c. absurd (nowhere p c);
  order = (0, omega arith, tt);
  behind = λ p c. absurd (nowhere p c);
  span = tt;
  led = tt;
  bound = (0, omega arith, inl refl);
  pair = omega arith;
}

pub start_ok : (door : ℕ → ℕ) → TrailOk door [] 0 (spot 0 0 ∷ [])
start_ok door = record {
  closed = λ p c. absurd (nowhere p c);
  order = (0, omega arith, (omega arith, tt));
  behind = λ p c. absurd (nowhere p c);
  span = tt;
  led = (inl refl, tt);
  bound = (0, omega arith, inl refl);
  pair = omega arith;
}

-- the next door is read as the word w
module _ (n : ℕ) (door : ℕ → ℕ) (found : List ℕ) (doors : ℕ) (p : Spot) (rest : List Spot) (o : TrailOk door found doors (p ∷ rest))
    (w : ℕ) (is_shut : w ≡ 1 → door (place p.row p.column) ≡ 1) where
  abbrev here : ℕ
  here = place p.row p.column

  abbrev now : List ℕ
  now = with_found w here found

  abbrev right : List Spot
  right = joined n p.row (p.column + 1) rest

  up : Ascends (here + 1) rest
  up = o.order.2.1

  right_ascends : Ascends (here + 1) right
  right_ascends = joined_ascends n (here + 1) p.row (p.column + 1) rest up o.span (omega (arith, place_right p.row p.column))

  right_under : Under (place (p.row + 1) p.column + 1) right
  right_under =
      under_more (place p.row (p.column + 1) + 1) (place (p.row + 1) p.column + 1) right
      (omega (arith, place_right p.row p.column, place_down p.row p.column))
      (joined_under n (here + 1) p.row (p.column + 1) rest up o.span (omega (arith, place_right p.row p.column)))

  low_below : here + 1 ≤ place (p.row + 1) p.column
  low_below = omega (arith, place_down p.row p.column)

  ahead_ascends : Ascends (here + 1) (led_to n p w rest)
  ahead_ascends =
      cond_both (w == 1) _ _ (λ (qs : List Spot). Ascends (here + 1) qs)
      (λ _. joined_ascends n (here + 1) (p.row + 1) p.column right right_ascends right_under low_below) (λ _. up)

  ahead_under : Under (place (p.row + 1) p.column + 1) (led_to n p w rest)
  ahead_under =
      cond_both (w == 1) _ _ (λ (qs : List Spot). Under (place (p.row + 1) p.column + 1) qs)
      (λ _. joined_under n (here + 1) (p.row + 1) p.column right right_ascends right_under low_below)
      (λ _. under_more (place p.row (p.column + 1) + 1) (place (p.row + 1) p.column + 1) rest
      (omega (arith, place_right p.row p.column, place_down p.row p.column)) o.span)

  leads_on : w ≡ 1 → (d : ℕ) → p.row + p.column + 1 ≡ d → Led now d
  leads_on e d q = inr (p.row + p.column, here, found_now w here found e, q, omega (arith, place_split p.row p.column))

  ahead_led : AllLed now (led_to n p w rest)
  ahead_led =
      cond_both (w == 1) _ _ (λ (qs : List Spot). AllLed now qs)
      (λ t. all_joined n now (p.row + 1) p.column right
      (all_joined n now p.row (p.column + 1) rest (all_more found w here rest o.led.1)
      (leads_on (eqb-true w 1 t) (p.row + (p.column + 1)) (omega arith)))
      (leads_on (eqb-true w 1 t) (p.row + 1 + p.column) (omega arith)))
      (λ _. all_more found w here rest o.led.1)

  ahead_pair : doors + 1 + length (led_to n p w rest) ≤ 1 + 2 * length now
  ahead_pair =
      elim (cases_eq w 1) [
        | inl e ↦ subst (λ (v : ℕ). doors + 1 + length (led_to n p v rest) ≤ 1 + 2 * length (with_found v here found)) (sym e)
            (omega (
              arith,
              o.pair,
              joined_length n (p.row + 1) p.column right,
              joined_length n p.row (p.column + 1) rest,
              length-append found (here ∷ []),
            ))
        | inr ne ↦ omega (arith, o.pair, shut_length ne, more_found)
      ]
    where
      shut_length : w ≢ 1 → length (led_to n p w rest) ≡ length rest
      shut_length ne = cond_both (w == 1) _ _ (λ (qs : List Spot). length qs ≡ length rest) (λ t. absurd (ne (eqb-true w 1 t))) (λ _. refl)

      more_found : length found ≤ length now
      more_found =
          cond_both (w == 1) _ _ (λ (qs : List ℕ). length found ≤ length qs) (λ _. omega (arith, length-append found (here ∷ []))) (λ _. omega arith)

  pub ok_read : TrailOk door now (doors + 1) (led_to n p w rest)
  ok_read = record {
    closed = λ q c. elim (found_from w here q found c) [ inl k ↦ o.closed q k | inr k ↦ ap door (sym k.1) ∙ is_shut k.0 ];
    order = (here + 1, omega (arith, o.order.1, o.order.2.0), ahead_ascends);
    behind = λ q c. elim (found_from w here q found c) [ inl k ↦ omega (arith, o.behind q k, o.order.2.0) | inr k ↦ omega (arith, k.1) ];
    span = span_from p.row p.column (led_to n p w rest) ahead_ascends ahead_under;
    led = ahead_led;
    bound = (
      p.row + p.column,
      omega (arith, o.order.1, o.order.2.0, place_split p.row p.column, first_next (p.row + p.column)),
      led_more found w here (p.row + p.column) o.led.0,
    );
    pair = ahead_pair;
  }

abbrev pub OkTrail : (ℕ → ℕ) → Trail → Type 0
OkTrail door z = TrailOk door z.found z.doors z.ahead

pub ok_follows : (n : ℕ) (door : ℕ → ℕ) (z : Trail) (ps : List Spot) → z.ahead ≡ ps → OkTrail door z → OkTrail door (follows n door ps z)
ok_follows n door z [] e o = o
ok_follows n door z (p ∷ rest) e o =
    ok_read n door z.found z.doors p rest (subst (λ (ps : List Spot). TrailOk door z.found z.doors ps) e o) (door (place p.row p.column)) (λ q. q)
