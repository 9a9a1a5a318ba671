-- What a lead does for a request that was posted before it.
use Rattle.std.specs.Prelude.{◌≡◌, ◌≢◌, ℕ, ◌<◌, ◌≤◌, ◌⊎◌, ◌==◌, if◌then◌else◌, true, false, List, [], ◌∷◌, None, Contains}
use Rattle.pq_types.specs.Control.{is_answer}
use Rattle.desk_core.specs.Pen.{IsIdle}
use Rattle.desk_core.specs.Desk.{Desk, Has}
use Rattle.desk_core.specs.Steps.{Event, Drafts, Posts, Tries, Reads, ReadsItem, LaysItem, Answers, Applies}
use Rattle.desk_core.specs.Steps.{Archives, Changes, HandsOut, Releases, ReleasesBy, Looks, SeesItem, TakesItem, Step}
use Rattle.desk_core.specs.Rule.{MeetsRule}
use Rattle.desk_core.specs.declared.model.PenState.{PenState}

-- the pen of this place has used this serial, for a post or for a request of its own
abbrev pub HasPosted : Desk → ℕ → ℕ → Type 0
HasPosted d place serial =
    (0 < serial) × ((seat : ℕ) × (p : PenState) × Has d.views seat p × (p.place ≡ place) × (serial ≤ p.posts))

-- what has this serial has its answer: its pen has used another, or is idle, or an answer stands in
-- its control
abbrev pub IsAnswered : Desk → PenState → ℕ → Type 0
IsAnswered d p serial = (serial < p.posts) ⊎ (IsIdle p.standing ⊎ (is_answer (d.control p.place) ≡ true))

-- the pen of this place has used that serial, and what has it has its answer
abbrev pub HasAnswer : Desk → ℕ → ℕ → Type 0
HasAnswer d place serial =
    (seat : ℕ) × (p : PenState) × Has d.views seat p × (p.place ≡ place) × (serial ≤ p.posts) × IsAnswered d p serial

-- the pen at this seat owes no answer to what it last read
abbrev pub OwesNothing : Desk → ℕ → Type 0
OwesNothing d seat = (p : PenState) → Has d.views seat p → p.due ≡ None

-- The pen at the seat answers what it has read posted before it reads on, and this event does not
-- end its lead. Others, and the pen's other steps, are free.
abbrev pub InTurn : ℕ → Desk → Event → Type 0
InTurn seat d (Drafts who x) = Unit {0}
InTurn seat d (Posts who request) = Unit {0}
InTurn seat d (Tries who) = Unit {0}
InTurn seat d (Reads who place) = who ≡ seat → OwesNothing d seat
InTurn seat d (ReadsItem who) = Unit {0}
InTurn seat d (LaysItem who x) = Unit {0}
InTurn seat d (Answers who answer) = Unit {0}
InTurn seat d (Applies who request answer) = Unit {0}
InTurn seat d (Archives who lines) = Unit {0}
InTurn seat d (Changes who change) = Unit {0}
InTurn seat d (HandsOut who) = Unit {0}
InTurn seat d (Releases who) = who ≢ seat
InTurn seat d (ReleasesBy who operation answer) = who ≢ seat
InTurn seat d (Looks who) = Unit {0}
InTurn seat d (SeesItem who) = Unit {0}
InTurn seat d (TakesItem who) = Unit {0}

-- A part of a lead, from the first desk to the second: the pen at the seat answers each post that
-- it reads before it reads on, does not release, and owes nothing at the end.
abbrev pub Serving : ℕ → Desk → List Event → Desk → Type 0
Serving seat d [] d' = (d' ≡ d) × OwesNothing d seat
Serving seat d (e ∷ es) d' = (m : Desk) × Step d e m × InTurn seat d e × Serving seat m es d'

-- the places whose mail the pen at the seat reads
abbrev pub places_read : ℕ → List Event → List ℕ
places_read seat [] = []
places_read seat (Drafts who x ∷ es) = places_read seat es
places_read seat (Posts who request ∷ es) = places_read seat es
places_read seat (Tries who ∷ es) = places_read seat es
places_read seat (Reads who place ∷ es) = if who == seat then place ∷ places_read seat es else places_read seat es
places_read seat (ReadsItem who ∷ es) = places_read seat es
places_read seat (LaysItem who x ∷ es) = places_read seat es
places_read seat (Answers who answer ∷ es) = places_read seat es
places_read seat (Applies who request answer ∷ es) = places_read seat es
places_read seat (Archives who lines ∷ es) = places_read seat es
places_read seat (Changes who change ∷ es) = places_read seat es
places_read seat (HandsOut who ∷ es) = places_read seat es
places_read seat (Releases who ∷ es) = places_read seat es
places_read seat (ReleasesBy who operation answer ∷ es) = places_read seat es
places_read seat (Looks who ∷ es) = places_read seat es
places_read seat (SeesItem who ∷ es) = places_read seat es
places_read seat (TakesItem who ∷ es) = places_read seat es

-- what was posted before at a place that the leader reads has its answer afterwards
abbrev pub PostedAreAnswered : Type 0
PostedAreAnswered =
    (d d' : Desk) (seat place serial : ℕ) (events : List Event) → MeetsRule d → Serving seat d events d'
    → Contains (places_read seat events) place
    → HasPosted d place serial → HasAnswer d' place serial

-- an answer stays: whatever happens, an answered post is never unanswered again
abbrev pub AnswersStay : Type 0
AnswersStay = (d d' : Desk) (e : Event) (place serial : ℕ) → MeetsRule d → Step d e d' → HasAnswer d place serial
    → HasAnswer d' place serial

-- the pen at the seat knows that what has this serial has its answer: it has used another, or is
-- idle, or the control that it last read or stored at its own place is an answer
abbrev pub KnowsAnswer : Desk → ℕ → ℕ → Type 0
KnowsAnswer d seat serial =
    (p : PenState) × Has d.views seat p × (serial ≤ p.posts)
    × ((serial < p.posts) ⊎ (IsIdle p.standing ⊎ (is_answer p.own ≡ true)))

-- what a pen knows of its answers it goes on knowing
abbrev pub AnswersStayKnown : Type 0
AnswersStayKnown = (d d' : Desk) (e : Event) (seat serial : ℕ) → MeetsRule d → Step d e d' → KnowsAnswer d seat serial
    → KnowsAnswer d' seat serial

-- a leader that reads its own place knows the answers to its own posts afterwards
abbrev pub LeadersKnowTheirAnswers : Type 0
LeadersKnowTheirAnswers =
    (d d' : Desk) (seat serial : ℕ) (p : PenState) (events : List Event) → MeetsRule d → Serving seat d events d'
    → Has d.views seat p → serial ≤ p.posts
    → Contains (places_read seat events) p.place → KnowsAnswer d' seat serial

-- from the winning of the lock on a leader notes the places that it reads, in their order, and none
-- from before
abbrev pub LeadersNoteWhatTheyRead : Type 0
LeadersNoteWhatTheyRead =
    (d led d' : Desk) (seat : ℕ) (events : List Event) → MeetsRule d → d.held ≡ false → Step d (Tries seat) led
    → Serving seat led events d'
    → (p : PenState) × Has d'.views seat p × (p.leading ≡ true) × (p.dealt ≡ places_read seat events)
