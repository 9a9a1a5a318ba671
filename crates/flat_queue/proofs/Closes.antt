-- What a queue that is closed with all its members leaves.
use Rattle.std.proofs.Common.{◌≡◌, ℕ, zero, suc, ◌+◌, ◌-◌, ◌<◌, ◌≤◌, List, [], ◌∷◌, length, map, slice_get, Some, refl, sym, ◌∙◌, ap, subst, arith}
use Rattle.std.proofs.lemmas.List.{length-map, append-nil}
use Rattle.std.specs.Prelude.{Option, None}
use Rattle.std.specs.List.{All}
use Rattle.std.specs.Option.{IsSome}
use Rattle.atomic_table.specs.Seated.{TableId}
use Rattle.std.proofs.lemmas.Option.{slice_get_within, get_or_from_slice_get}
use Rattle.pq_types.specs.Asked.{Line}
use Rattle.pq_book.specs.Book.{Volume}
use Rattle.desk_core.specs.Knows.{Knows}
use Rattle.desk_core.specs.Testimonies.{after_retiring}
use Rattle.desk_core.specs.declared.model.PenState.{PenState}
use Rattle.announce_board.specs.Opening.{HasAll, IsHomeWithAll, AllKnow, LinesAreOfThese, HavePlaces}
use Rattle.flat_queue.specs.Closing.{ClosesAll, ClosedAreLinearized, OfEachMember, retired_pen}
use Rattle.announce_board.specs.Testimonies.{Testified}
use Rattle.flat_queue.specs.Gathered.{Gathers, GathersBoth}
use Rattle.flat_queue.specs.Members.{QueueName, Joined}
use Rattle.flat_queue.proofs.Idle.{idle_known}

-- a pen among those that retired is that of a member
retired_at : (members : List Joined) (k : ℕ) (p : PenState) → slice_get (map retired_pen members) k ≡ Some p → (m : Joined) × (slice_get members k ≡ Some m) × (retired_pen m ≡ p)
retired_at [] zero p h = absurd (cc)
retired_at [] (suc k) p h = absurd (cc)
retired_at (m ∷ ms) zero p h = (m, refl, cc)
retired_at (m ∷ ms) (suc k) p h = retired_at ms k p h

-- and the pen of each member is among them
pub retires_at : (members : List Joined) (k : ℕ) (m : Joined) → slice_get members k ≡ Some m → slice_get (map retired_pen members) k ≡ Some (retired_pen m)
retires_at [] zero m h = absurd (cc)
retires_at [] (suc k) m h = absurd (cc)
retires_at (n ∷ ms) zero m h = let same : n ≡ m = cc in ap (λ x. Some (retired_pen x)) same
retires_at (n ∷ ms) (suc k) m h = retires_at ms k m h

-- what a retired pen knows, it knew before
knew : (room : ℕ) (p : PenState) (journal : List Line) → Knows room (after_retiring p) journal → Knows room p journal
knew room p journal k =
    record {
      legal = k.legal;
      rise = k.rise;
      within = k.within;
      known = k.known;
      lines = k.lines;
      idle = k.idle;
      serials = k.serials;
      used = k.used;
      filled = k.filled;
    }

-- all members have retired, and each other pen has a licence
pub has_all : (members : List Joined) (places comers unjoined : ℕ) → length members + unjoined ≡ comers → comers ≤ places → HasAll places (map retired_pen members) (unjoined + (places - comers))
has_all members places comers unjoined all few =
    record {
      retired = λ k p at. let (m, there, is) = retired_at members k p at in ap (λ (x : PenState). x.duty) (sym is);
      counted = omega (arith, all, few, length-map members retired_pen);
    }

-- what was gathered is some testimony, where it is more than nothing
pub is_some : (table : TableId) (pens : List PenState) (licences : ℕ) (all : Option Testified) → 0 < length pens + licences → Gathers table pens licences all → IsSome all
is_some table pens licences None some h = absurd (let none = ap length h.0 in let zero = h.1 in omega arith)
is_some table pens licences (Some t) some h = refl

pub is_told : (table : TableId) (pens : List PenState) (licences : ℕ) (all : Option Testified) (t : Testified) → all ≡ Some t → Gathers table pens licences all
    → t ≡ record { table = table; pens = pens; licences = licences }
is_told table pens licences None t is h = absurd (cc)
is_told table pens licences (Some u) t is h = let same : u ≡ t = cc in sym same ∙ h

-- the members' pens, the licences of the newcomers and those that no comer has, all together
pub gathers_all : (table : TableId) (pens : List PenState) (n more : ℕ) (retired unused kept licences all : Option Testified) → Gathers table pens 0 retired → Gathers table [] n unused
    → Gathers table [] more kept → GathersBoth table unused kept licences → GathersBoth table retired licences all → Gathers table pens (n + more) all
gathers_all table pens n more retired unused kept licences all r u k some both =
    let whole = both pens [] 0 (n + more) r (some [] [] n more u k) in
    let count : 0 + (n + more) ≡ n + more = omega arith in
    subst (λ c. Gathers table pens c all) count (subst (λ ps. Gathers table ps (0 + (n + more)) all) (append-nil pens) whole)

module _ (queue : QueueName) (members : List Joined) (book : Volume) (here : All (λ m. m.queue ≡ queue) members) (rooms : All (λ m. m.pen.room ≡ m.queue.room) members) where
  each_room : (i : ℕ) (m : Joined) → slice_get members i ≡ Some m → m.pen.room ≡ queue.room
  each_room i m at =
      let is = get_or_from_slice_get members i m m at in let within = slice_get_within members i m at in
      subst (λ (x : Joined). x.pen.room ≡ x.queue.room) is (rooms i m within) ∙ ap (λ (q : QueueName). q.room) (subst (λ (x : Joined). x.queue ≡ queue) is (here i m within))

  pub closes_all : ClosedAreLinearized → IsHomeWithAll queue.room queue.terms (map retired_pen members) book → AllKnow (map retired_pen members) book → LinesAreOfThese (map retired_pen members) book.journal
      → HavePlaces queue.places (map retired_pen members) → ClosesAll queue members book
  closes_all linearized home know only placed =
      let knows : OfEachMember members (λ m. Knows queue.room m.pen book.journal) =
      λ i m at. subst (λ n. Knows n m.pen book.journal) (each_room i m at) (knew m.pen.room m.pen book.journal (know i (retired_pen m) (retires_at members i m at))) in
      record {
        home = home;
        knows = knows;
        idle = λ i m at idle. idle_known queue.room m.pen book.journal (knows i m at) idle;
        apart = λ i j m n at there e. placed.apart i j (retired_pen m) (retired_pen n) (retires_at members i m at) (retires_at members j n there) e;
        only = λ i l at. let (k, p, there, is) = only i l at in let (m, found, same) = retired_at members k p there in (k, m, found, ap (λ (x : PenState). x.place) same ∙ is);
        linearized = linearized queue.room queue.terms members book home each_room knows;
      }
