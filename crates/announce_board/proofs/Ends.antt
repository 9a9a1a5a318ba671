-- The table of a desk at its opening, as pens are dealt, and at its end.
use Rattle.std.proofs.Common.{◌≡◌, ◌≢◌, ℕ, ◌+◌, ⊎_elim, Bool, true, false, true≢false, List, [], ◌∷◌, set, refl, ap, sym, ◌∙◌, subst, arith}
use Rattle.std.specs.Prelude.{Some, None, slice_get, slice_index}
use mathlib.Core.Option.{some, some-injective, some-ne-none}
use lib.ListN.{get_elem?}
use Rattle.atomic_table.specs.Table.{Final, Seen}
use Rattle.pq_types.specs.declared.control.Control.TheVariants.{Nothing}
use Rattle.pq_types.specs.Item.{item}
use Rattle.pq_book.specs.Book.{Volume}
use Rattle.desk_core.specs.Dealing.{IsReached, Deals, MovesReach, EveryDealtRunIsLinearizable}
use Rattle.desk_core.specs.Archiving.{EveryRunHasLimits, LimitsRise}
use Rattle.desk_core.specs.Times.{EveryDealtRunIsTimed}
use Rattle.desk_core.specs.Desk.{Desk, Has, AtHome, volume, dealer_opening}
use Rattle.desk_core.specs.Keeping.{PensAreSeated}
use Rattle.desk_core.specs.Knows.{Knows, HomeIsKnown}
use Rattle.desk_core.specs.Layout.{ZerosAreFresh, WordsAreReadBack, lock_at}
use Rattle.desk_core.specs.Pen.{new_pen}
use Rattle.desk_core.specs.Rule.{MeetsRule, OpeningsMeetRule, DealingKeepsRule, Places}
use Rattle.desk_core.specs.declared.model.PenState.{PenState}
use Rattle.desk_core.specs.declared.model.View.{View}
use Rattle.desk_core.specs.declared.model.View.TheVariants.{Dealer, Holder, Testimony}
use Rattle.announce_board.specs.Rule.{Keeps, Seated, desk_of, book_at_home}
use Rattle.announce_board.specs.declared.terms.Terms.{Terms}
use Rattle.announce_board.specs.Slots.{MeetsTerms, Slotted, with_book, book_of, first_limits}
use Rattle.announce_board.specs.Steps.{pen_at}
use Rattle.announce_board.specs.Allowed.{CutAsMove}
use Rattle.announce_board.specs.Opening.{OpeningIsTheDealers, DealingAllowedBy, EndsAreTold, IsHomeBook, IsHomeWith, IsHeldWith, HasAll, ClosedByAll}
use Rattle.announce_board.proofs.StepLaws.{book_there, book_bounded}
use Rattle.announce_board.proofs.Homes.{same_volume}
use Rattle.announce_board.proofs.Lines.{lines_are_of}
use Rattle.announce_board.proofs.Gathered.{nobody_leads, keepers_testify, pens_apart}
use Rattle.announce_board.proofs.Duties.{none_yet, quiet_set, quiet_more, pen_quiet, dealer_quiet}
use Rattle.announce_board.proofs.Weights.{weighs_more, weighs_dealt}
use Rattle.announce_board.proofs.Same.{not_true}

pub opening_kept : (wide : Bool) (roomy : ℕ → Type 0) → OpeningsMeetRule → ZerosAreFresh → OpeningIsTheDealers wide roomy
opening_kept wide roomy opens zeros room terms places book small sized empty none is =
    let first : Some (volume (first_limits room terms) []) ≡ Some book =
    ap Some (same_volume (volume (first_limits room terms) []) book (sym sized) (ap (λ (t : Terms). t.bound) is) (ap (λ (t : Terms). t.allowed) is) (sym empty) (sym none)) in
    let d : Desk = dealer_opening places (first_limits room terms) in (
      record {
        held = false;
        control = λ _. Nothing;
        cells = λ _. item 0 0;
        words = zeros wide places;
        slots = refl;
        reached = subst (λ h. IsReached places (first_limits room terms) (record d { home = h })) first ([], refl);
        meets = subst (λ h. MeetsRule (record d { home = h })) first (opens.dealer places (first_limits room terms) small);
        duties = quiet_more [] (Dealer 0 room) none_yet (dealer_quiet 0 room);
        weight = (let a = weighs_more places [] (Dealer 0 room) in omega (arith, a));
        memory = λ all place e. absurd (cc e);
      },
      ap (λ h. record d { home = h }) (sym first),
    )

pub dealing_allowed : (wide : Bool) (roomy : ℕ → Type 0) → MovesReach → DealingKeepsRule → DealingAllowedBy CutAsMove wide roomy
dealing_allowed wide roomy goes deals room terms places id place known lt s k at = (
  record {
    held = k.held;
    control = k.control;
    cells = k.cells;
    words = k.words;
    slots = k.slots;
    reached = goes places (first_limits room terms) (desk_of room places k.held k.control k.cells s.homes s.views) _ (Deals id) k.reached (place, known, at, lt, refl);
    meets = deals (desk_of room places k.held k.control k.cells s.homes s.views) id place known k.meets at lt;
    duties = quiet_more (set s.views id (Dealer (place + 1) known)) (Holder (new_pen known place))
        (quiet_set s.views id (Dealer place known) (Dealer (place + 1) known) k.duties at (dealer_quiet place known) (dealer_quiet (place + 1) known))
        (pen_quiet (new_pen known place) refl);
    weight = (let same = weighs_dealt places s.views id place known at lt in let within = k.weight in omega (arith, same, within));
    memory = k.memory;
  },
  (place, known, at, lt, refl),
)

-- with one place alone, the pen that leads is any that has a seat
leads_alone : (d : Desk) (chief seat : ℕ) (p : PenState) → Places d → d.places ≡ 1 → Has d.views seat p
    → (d.held ≡ true) × (d.home ≡ None) × ((q : PenState) × Has d.views chief q × (q.leading ≡ true))
    → p.leading ≡ true
leads_alone d chief seat p places one has (held, home, (q, there, leads)) =
    let inside = places.inside seat p has in
    let within = places.inside chief q there in
    let here : p.place ≡ q.place = omega (arith, inside, within, one) in
    let at : seat ≡ chief = places.apart seat chief p q has there here in
    let e : Holder p ≡ Holder q = some-injective (Holder p) (Holder q) (sym has ∙ (ap (λ i. get_elem? d.views i) at ∙ there)) in
    let f : p ≡ q = cc in
    ap (λ (x : PenState). x.leading) f ∙ leads

pub ends_are_told : (wide : Bool) (roomy : ℕ → Type 0) → WordsAreReadBack → HomeIsKnown → PensAreSeated → EveryDealtRunIsLinearizable → EveryDealtRunIsTimed
    → EveryRunHasLimits → LimitsRise → EndsAreTold wide roomy
ends_are_told wide roomy read known seated linear timed limited rise room terms places s k =
    let back = read wide places s.words k.held k.control k.cells k.words in
    let d : Desk = desk_of room places k.held k.control k.cells s.homes s.views in
    let lock = k.meets.2.lock in
    let bounded = book_bounded limited rise room terms places d k.meets.2.room_in_range k.reached in
    record {
      free = λ e.
          let free : k.held ≡ false = back.lock_free.0 e in
          let home : AtHome (book_at_home s.homes) room k.meets.0 = ⊎_elim (λ u. u.1) (λ u. absurd (true≢false (sym u.0 ∙ free))) lock in
          let book = home.book in (
            book,
            book_there (get_elem? s.homes 0) book home.is,
            record { desk = d; reached = k.reached; meets = k.meets; at_home = home.is; room_is = home.room_is },
            refl,
            λ id m is at.
                let has = at ∙ ap some is in (
                  subst (λ r. Knows r (pen_at m) book.journal) (sym (seated d id (pen_at m) k.meets has).room) (known d id (pen_at m) book k.meets has home.is).1,
                  not_true (pen_at m).leading (λ leads. true≢false (sym (k.meets.2.led id (pen_at m) has leads).1 ∙ free)),
                ),
            bounded book home.is,
          );
      held = λ ne. let h = back.lock_held ne in (h.1, record { desk = d; reached = k.reached; meets = k.meets; held = h.0; room_is = refl }, refl);
      alone = λ ne one id m is at.
          let held : k.held ≡ true = (back.lock_held ne).0 in
          ⊎_elim (λ u. absurd (true≢false (sym held ∙ u.0))) (leads_alone d k.meets.1 id (pen_at m) k.meets.2.seated one (at ∙ ap some is)) lock;
      all = λ id pens n at has_all.
          let home : AtHome (book_at_home s.homes) room k.meets.0 =
          ⊎_elim
          (λ u. u.1)
          (λ u. absurd (nobody_leads s.views id pens n k.duties at places k.weight has_all k.meets.1 u.2.0 u.2.1 u.2.2))
          lock in
          let sits = λ (i : ℕ) (p : PenState) (of : slice_get pens i ≡ Some p). (k.duties.stay id pens n i p at of (has_all.retired i p of)).0 in
          let book = home.book in (
            book,
            book_there (get_elem? s.homes 0) book home.is,
            record {
              home = record { desk = d; reached = k.reached; meets = k.meets; at_home = home.is; room_is = home.room_is; seated = sits };
              knows = λ i p of.
                  (let t = sits i p of in
                  subst (λ r. Knows r p book.journal) (sym (seated d t.0 p k.meets t.1).room) (known d t.0 p book k.meets t.1 home.is).1);
              only = λ i l e.
                  (let (j, p, has, here, (m, keeps)) = lines_are_of linear timed places (first_limits room terms) d book k.meets.2.room_in_range k.reached home.is i l e in
                  let (h, of) = keepers_testify s.views id pens n k.duties at places k.weight has_all j p has m keeps in
                  (h, p, of, here));
              placed = record {
                inside = λ i p of. (let t = sits i p of in k.meets.2.seated.inside t.0 p t.1);
                apart = λ i j p q of there same. pens_apart s.views id pens n k.duties at i j p q of there (has_all.retired i p of) (has_all.retired j q there) same;
              };
              bounded = bounded book home.is;
            },
          );
    }

word_first : (ws : List ℕ) (k : ℕ) → get_elem? ws 0 ≡ some k → slice_index ws 0 ≡ k
word_first [] k e = absurd (some-ne-none k (sym e))
word_first (x ∷ xs) k e = some-injective x k e

-- a desk that has the views of a table has the pens of its seats
seat_of : (id : ℕ) (m : Seated) (views all : List View) → m.0 ≡ Holder (pen_at m) → views ≡ all → get_elem? all id ≡ some m.0 → Has views id (pen_at m)
seat_of id m views all is same at = ap (λ vs. get_elem? vs id) same ∙ at ∙ ap some is

with_pen_at : (room : ℕ) (terms : Terms) (book : Volume) (id : ℕ) (m : Seated) → m.0 ≡ Holder (pen_at m) → (all : List View) (other : Volume) (h : IsHomeBook room terms other) → h.desk.views ≡ all → other ≡ book → get_elem? all id ≡ some m.0 → IsHomeWith room terms (pen_at m) book
with_pen_at room terms book id m is all other h same e at =
    record { desk = h.desk; reached = h.reached; meets = h.meets; at_home = h.at_home ∙ ap Some e; room_is = ap (λ (b : Volume). b.room) (sym e) ∙ h.room_is; seat = id; has = seat_of id m h.desk.views all is same at }

-- the Book that was in the slot of a table which was closed without a seat
pub closes : (wide : Bool) (roomy : ℕ → Type 0) → EndsAreTold wide roomy → (room : ℕ) (terms : Terms) (places : ℕ) (words : List ℕ) (slots : List Slotted) (lock : ℕ) (slot : Slotted)
    → Final (Keeps wide roomy room terms places) words slots → get_elem? words 0 ≡ some lock → get_elem? slots 0 ≡ some slot
    → (book : Volume) → (lock ≡ 0) × (slot ≡ with_book book) → IsHomeBook room terms book × MeetsTerms terms book
closes wide roomy ends room terms places words slots lock slot (s, keeps, same, long, values) first last book h =
    let n : slice_index s.words lock_at ≡ 0 = word_first s.words lock (ap (λ y. get_elem? y 0) same ∙ first) ∙ h.0 in
    let t = (ends room terms places s keeps).free n in
    let there = values 0 (with_book t.0) t.1 in
    let f : some (with_book t.0) ≡ some (with_book book) = sym there ∙ (last ∙ ap some h.1) in
    let g : t.0 ≡ book = cc in
    (subst (IsHomeBook room terms) g t.2, subst (MeetsTerms terms) g t.5)

-- the Book that was in the slot of a table which was closed with the seat of a pen
pub closes_with : (wide : Bool) (roomy : ℕ → Type 0) → EndsAreTold wide roomy → (room : ℕ) (terms : Terms) (places id : ℕ) (m : Seated) (words : List ℕ) (slots : List Slotted) (lock : ℕ) (slot : Slotted) → m.0 ≡ Holder (pen_at m)
    → Final (Seen (Keeps wide roomy room terms places) id m.0) words slots → get_elem? words 0 ≡ some lock → get_elem? slots 0 ≡ some slot
    → (book : Volume) → (lock ≡ 0) × (slot ≡ with_book book) → IsHomeWith room terms (pen_at m) book × Knows (pen_at m).room (pen_at m) book.journal × ((pen_at m).leading ≡ false) × MeetsTerms terms book
closes_with wide roomy ends room terms places id m words slots lock slot is (s, seen, same, long, values) first last book h =
    let n : slice_index s.words lock_at ≡ 0 = word_first s.words lock (ap (λ y. get_elem? y 0) same ∙ first) ∙ h.0 in
    let t = (ends room terms places s seen.0).free n in
    let there = values 0 (with_book t.0) t.1 in
    let f : some (with_book t.0) ≡ some (with_book book) = sym there ∙ (last ∙ ap some h.1) in
    let g : t.0 ≡ book = cc in
    let told = t.4 id m is seen.1 in
    (with_pen_at room terms book id m is s.views t.0 t.2 t.3 g seen.1, subst (λ (b : Volume). Knows (pen_at m).room (pen_at m) b.journal) g told.0, told.1, subst (MeetsTerms terms) g t.5)

-- the Book that was in the slot of a table which was closed with a testimony of all pens
pub closes_all : (wide : Bool) (roomy : ℕ → Type 0) → EndsAreTold wide roomy → (room : ℕ) (terms : Terms) (places id : ℕ) (v : View) (pens : List PenState) (words : List ℕ) (slots : List Slotted) (slot : Slotted)
    → (n : ℕ) → v ≡ Testimony pens n → Final (Seen (Keeps wide roomy room terms places) id v) words slots → HasAll places pens n → get_elem? slots 0 ≡ some slot
    → (book : Volume) × (slot ≡ with_book book) × ClosedByAll room terms places pens book
closes_all wide roomy ends room terms places id v pens words slots slot n is (s, seen, same, long, values) all last =
    let t = (ends room terms places s seen.0).all id pens n (seen.1 ∙ ap some is) all in
    let there = values 0 (with_book t.0) t.1 in
    let f : some (with_book t.0) ≡ some slot = sym there ∙ last in
    let g : slot ≡ with_book t.0 = cc in
    (t.0, g, t.2)

-- the one Book in a slot
pub book_got : (book got : Volume) (slot : Slotted) → slot ≡ with_book book → Some got ≡ book_of slot → book ≡ got
book_got book got slot e f = let g : Some got ≡ Some book = f ∙ ap book_of e in sym (let h : got ≡ book = cc in h)

-- the same, named otherwise
pub closes_all_as : (wide : Bool) (roomy : ℕ → Type 0) → EndsAreTold wide roomy → (room room' : ℕ) (terms terms' : Terms) (places places' id : ℕ) (v : View) (pens : List PenState) (words : List ℕ) (slots : List Slotted) (slot : Slotted)
    → (n : ℕ) → v ≡ Testimony pens n → Final (Seen (Keeps wide roomy room terms places) id v) words slots → get_elem? slots 0 ≡ some slot → room ≡ room' → terms ≡ terms' → places ≡ places'
    → HasAll places' pens n → (book : Volume) × (slot ≡ with_book book) × ClosedByAll room' terms' places' pens book
closes_all_as wide roomy ends room room' terms terms' places places' id v pens words slots slot n is final last e b f all =
    let t = closes_all wide roomy ends room terms places id v pens words slots slot n is final (subst (λ k. HasAll k pens n) (sym f) all) last in
    (t.0, t.1, subst (λ r. ClosedByAll r terms' places' pens t.0) e (subst (λ x. ClosedByAll room x places' pens t.0) b (subst (λ k. ClosedByAll room terms k pens t.0) f t.2)))

-- the lock word of a table that was closed with the seat of a pen, where it was not 0
pub closes_held : (wide : Bool) (roomy : ℕ → Type 0) → EndsAreTold wide roomy → (room : ℕ) (terms : Terms) (places id : ℕ) (m : Seated) (words : List ℕ) (slots : List Slotted) (lock : ℕ) → m.0 ≡ Holder (pen_at m)
    → Final (Seen (Keeps wide roomy room terms places) id m.0) words slots → get_elem? words 0 ≡ some lock → lock ≢ 0 → IsHeldWith room terms (pen_at m)
closes_held wide roomy ends room terms places id m words slots lock is (s, seen, same, long, values) first held =
    let t = (ends room terms places s seen.0).held (λ e. held (sym (word_first s.words lock (ap (λ y. get_elem? y 0) same ∙ first)) ∙ e)) in
    let h = t.1 in
    record { desk = h.desk; reached = h.reached; meets = h.meets; held = h.held; room_is = h.room_is; seat = id; has = seat_of id m h.desk.views s.views is t.2 seen.1 }

-- the lock word of a table of one place that was closed with the seat of its pen
pub closes_alone : (wide : Bool) (roomy : ℕ → Type 0) → EndsAreTold wide roomy → (room : ℕ) (terms : Terms) (places id : ℕ) (m : Seated) (words : List ℕ) (slots : List Slotted) (lock : ℕ) → m.0 ≡ Holder (pen_at m)
    → Final (Seen (Keeps wide roomy room terms places) id m.0) words slots → get_elem? words 0 ≡ some lock → lock ≢ 0 → places ≡ 1 → (pen_at m).leading ≡ true
closes_alone wide roomy ends room terms places id m words slots lock is (s, seen, same, long, values) first held one =
    (ends room terms places s seen.0).alone (λ e. held (sym (word_first s.words lock (ap (λ y. get_elem? y 0) same ∙ first)) ∙ e)) one id m is seen.1

-- the same, named otherwise
pub book_as : (room room' : ℕ) (terms terms' : Terms) (book : Volume) → room ≡ room' → terms ≡ terms' → IsHomeBook room terms book → IsHomeBook room' terms' book
book_as room room' terms terms' book e b h = subst (λ r. IsHomeBook r terms' book) e (subst (λ t. IsHomeBook room t book) b h)

pub home_as : (room room' : ℕ) (terms terms' : Terms) (p p' : PenState) (book : Volume) → room ≡ room' → terms ≡ terms' → p ≡ p' → IsHomeWith room terms p book → IsHomeWith room' terms' p' book
home_as room room' terms terms' p p' book e b f h =
    subst (λ r. IsHomeWith r terms' p' book) e (subst (λ t. IsHomeWith room t p' book) b (subst (λ q. IsHomeWith room terms q book) f h))

pub held_as : (room room' : ℕ) (terms terms' : Terms) (p p' : PenState) → room ≡ room' → terms ≡ terms' → p ≡ p' → IsHeldWith room terms p → IsHeldWith room' terms' p'
held_as room room' terms terms' p p' e b f h =
    subst (λ r. IsHeldWith r terms' p') e (subst (λ t. IsHeldWith room t p') b (subst (λ q. IsHeldWith room terms q) f h))
