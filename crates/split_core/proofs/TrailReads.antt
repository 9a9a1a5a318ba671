-- A trail scan by the words that it reads alone.
use Rattle.std.proofs.Common.{◌≡◌, ◌<◌, ℕ, ◌+◌, inl, inr, List, [], ◌∷◌, ◌++◌, Contains, refl, sym, subst, arith, true, ◌&&◌, ◌==◌}
use Rattle.std.proofs.lemmas.Bool.{or_cases, or_right}
use Rattle.split_core.specs.Places.{place}
use Rattle.split_core.specs.Trail.{Spot, spot, Trail, trail_start, lists, follows}
use Rattle.split_core.specs.TrailReads.{reads_word, reads_words, trail_by, OnWay, HeedsNext, Heeds, TrailMoment, WaysFound}
use Rattle.split_core.specs.declared.model.Turn.{Turn}
use Rattle.split_core.proofs.TrailFacts.{Leads, leads_start, leads_read, way_found}
use Rattle.split_core.proofs.TrailCounts.{Ascends, TrailOk, OkTrail, start_ok, ok_read}
use Rattle.split_core.proofs.TrailRows.{listed_from, listed_here, led_from, rows_follow}

-- as if every door were closed: of the words read nothing is known
abbrev any_door : ℕ → ℕ
any_door p = 1

abbrev AllInside : ℕ → List Spot → Type 0
AllInside n ps = (r c : ℕ) → lists r c ps ≡ true → r + c < n

reads_ok : (n word : ℕ) (z : Trail) (ps : List Spot) → z.ahead ≡ ps → OkTrail any_door z → OkTrail any_door (follows n (λ _. word) ps z)
reads_ok n word z [] e o = o
reads_ok n word z (p ∷ rest) e o =
    ok_read n any_door z.found z.doors p rest (subst (λ (ps : List Spot). TrailOk any_door z.found z.doors ps) e o) word (λ _. refl)

reads_inside : (n word : ℕ) (z : Trail) (ps : List Spot) → z.ahead ≡ ps → AllInside n z.ahead → AllInside n (follows n (λ _. word) ps z).ahead
reads_inside n word z [] e i = i
reads_inside n word z (p ∷ rest) e i = λ r c h.
    elim (led_from n p word rest r c h) [
      | inl o ↦ i r c (subst (λ (ps : List Spot). lists r c ps ≡ true) (sym e) (or_right ((p.row == r) && (p.column == c)) (lists r c rest) o))
      | inr o ↦ o.1
    ]

all_ok : (n : ℕ) (words : List ℕ) (z : Trail) → OkTrail any_door z → AllInside n z.ahead → OkTrail any_door (reads_words n z words)
    × AllInside n (reads_words n z words).ahead
all_ok n [] z o i = (o, i)
all_ok n (word ∷ words) z o i = all_ok n words (reads_word n z word) (reads_ok n word z z.ahead refl o) (reads_inside n word z z.ahead refl i)

start_inside : (n : ℕ) → 0 < n → AllInside n (spot 0 0 ∷ [])
start_inside n some r c h =
    elim (or_cases ((0 == r) && (0 == c)) _ h) [ inl t ↦ (let k = listed_here (spot 0 0) r c t in omega (arith, k.0, k.1)) | inr t ↦ cc ]

pub moment : (n : ℕ) (words : List ℕ) → 0 < n → TrailMoment n (trail_by n words)
moment n words some =
    let k = all_ok n words trail_start (start_ok any_door) (start_inside n some) in
    let z = trail_by n words in
    let up : (p : Spot) (rest : List Spot) → z.ahead ≡ p ∷ rest → Ascends k.0.order.0 (p ∷ rest) =
    λ p rest e. subst (λ (ps : List Spot). Ascends k.0.order.0 ps) e k.0.order.2 in record {
      order = record {
        others = λ p rest r c e h. omega (arith, listed_from (place p.row p.column + 1) r c rest (up p rest e).1 h);
        behind = λ p rest q e h. omega (arith, k.0.behind q h, (up p rest e).0);
      };
      few = k.0.pair;
      inside = k.1;
      counted = λ p rest e. omega (arith, k.0.order.1, (up p rest e).0);
      rows = rows_follow n k.0.order.0 z k.0.order.2;
    }

-- one word more
pub reads_last : (n : ℕ) (z : Trail) (words : List ℕ) (word : ℕ) → reads_words n z (words ++ word ∷ []) ≡ reads_word n (reads_words n z words) word
reads_last n z [] word = refl
reads_last n z (w ∷ words) word = reads_last n (reads_word n z w) words word

-- the way is found
reads_leads : (n : ℕ) (turns : List Turn) (word : ℕ) (z : Trail) (ps : List Spot) → z.ahead ≡ ps → HeedsNext turns ps word
    → Leads n (OnWay turns) z → Leads n (OnWay turns) (follows n (λ _. word) ps z)
reads_leads n turns word z [] e h k = k
reads_leads n turns word z (p ∷ rest) e h k = leads_read n (OnWay turns) word z p rest e h k

all_lead : (n : ℕ) (turns : List Turn) (words : List ℕ) (z : Trail) → Heeds n turns z words → Leads n (OnWay turns) z
    → Leads n (OnWay turns) (reads_words n z words)
all_lead n turns [] z h k = k
all_lead n turns (word ∷ words) z h k = all_lead n turns words (reads_word n z word) h.1 (reads_leads n turns word z z.ahead refl h.0 k)

pub ways_found : (n : ℕ) → WaysFound n
ways_found n turns words p l heeds over on =
    let k = all_lead n turns words trail_start heeds (leads_start n (OnWay turns)) in
    let w = way_found n (OnWay turns) (trail_by n words) k over turns (λ q v. inl v) l in
    elim on [ inl v ↦ w.1 p v | inr e ↦ subst (λ (j : ℕ). Contains (trail_by n words).found j) e (w.0 (inr refl)) ]
