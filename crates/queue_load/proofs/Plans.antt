-- How much a load comes to, and the room of its queue.
use Rattle.std.proofs.Common.{◌≡◌, ℕ, ◌+◌, ◌*◌, ◌<◌, ◌≤◌, Bool, true, false, nat_le, if◌then◌else◌, le-leb, leb-true, refl, ◌∙◌, ap, arith, rules}
use Rattle.pq_types.specs.declared.journal.TheConstants.{MOST_LINES, GREATEST_NUMBER, GREATEST_SERIAL}
use Rattle.flat_queue.specs.Limits.{most_posts}
use Rattle.flat_queue.specs.Members.{QueueName}
use Rattle.program_words.specs.Lines.{lines_of}
use Rattle.queue_load.specs.Lines.{room_for, load_room, MayPostAll}
use Rattle.program_words.specs.Plan.{IsLoad}
use Rattle.program_words.specs.declared.plan.Plan.{Plan}
use Rattle.queue_load.proofs.Widths.{less_often, so_often}

-- the room of so many lines: one of the two
pub room_cases : (lines : ℕ) → (lines ≤ MOST_LINES → room_for lines ≡ lines) × (MOST_LINES < lines → room_for lines ≡ GREATEST_NUMBER)
room_cases lines = (short (nat_le lines MOST_LINES) refl, long (nat_le lines MOST_LINES) refl)
  where
    short : (b : Bool) → nat_le lines MOST_LINES ≡ b → lines ≤ MOST_LINES → (if b then lines else GREATEST_NUMBER) ≡ lines
    short true e few = refl
    short false e few = absurd (let fits = le-leb lines MOST_LINES few in cc)

    long : (b : Bool) → nat_le lines MOST_LINES ≡ b → MOST_LINES < lines → (if b then lines else GREATEST_NUMBER) ≡ GREATEST_NUMBER
    long true e many = absurd (let few = leb-true lines MOST_LINES e in omega (arith, few, many))
    long false e many = refl

-- how often a member of a queue with the room of a short one may post
most_short : (room : ℕ) → room ≤ MOST_LINES → most_posts room ≡ GREATEST_SERIAL
most_short room few = here (nat_le room MOST_LINES) refl
  where
    here : (b : Bool) → nat_le room MOST_LINES ≡ b → (if b then GREATEST_SERIAL else GREATEST_NUMBER) ≡ GREATEST_SERIAL
    here true e = refl
    here false e = absurd (let fits = le-leb room MOST_LINES few in cc)

-- the members of a load's queue may post all requests of a worker
pub may_post_all : (queue : QueueName) (plan : Plan) → queue.room ≡ load_room plan → IsLoad plan.workers plan.pushes plan.pops plan.rounds → MayPostAll queue plan
may_post_all queue plan e fits = here (nat_le (lines_of plan) MOST_LINES) refl
  where
    here : (b : Bool) → nat_le (lines_of plan) MOST_LINES ≡ b → MayPostAll queue plan
    here true short =
        let few = leb-true (lines_of plan) MOST_LINES short in
        let most = ap most_posts (e ∙ (room_cases (lines_of plan)).0 few) ∙ most_short (lines_of plan) few in
        let each = less_often 1 plan.workers (plan.rounds * (plan.pushes + plan.pops)) fits.some_workers in
        omega (arith, most, each, few)
    here false long =
        let many : MOST_LINES < lines_of plan = search rules in
        let most = ap most_posts (e ∙ (room_cases (lines_of plan)).1 many) in
        let few_pushes = fits.few_pushes in let fewer_pops = fits.fewer_pops in
        let one = so_often plan.rounds (plan.pushes + plan.pops) 16384 (omega arith) in
        let all = less_often plan.rounds 1000000 16384 fits.few_rounds in
        omega (arith, most, one, all)
