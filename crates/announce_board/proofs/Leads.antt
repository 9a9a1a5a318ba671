-- The lead of a pen stays its own while the pen drafts, posts and looks.
use Rattle.std.proofs.Common.{ℕ, ◌+◌, ◌<◌, Bool, true, false, List, [], ◌∷◌, arith, sym, subst}
use Rattle.atomic_table.specs.Seated.{TableId}
use Rattle.pq_types.specs.Item.{Item}
use Rattle.pq_types.specs.Asked.{Request}
use Rattle.pq_types.specs.declared.request.Request.TheVariants.{Push, Pop, Least}
use Rattle.pq_types.specs.Asked.{Answer}
use Rattle.pq_types.specs.declared.answer.Answer.TheVariants.{Entered, BookFull, NoMemory, Refused}
use Rattle.pq_types.specs.declared.control.Notice.{Notice}
use Rattle.pq_types.specs.declared.control.Control.{Control}
use Rattle.pq_types.specs.declared.control.Control.TheVariants.{Nothing, Posted, Answered}
use Rattle.pq_types.specs.Asked.{Line}
use Rattle.pq_types.specs.Control.{notice_has_item}
use Rattle.pq_types.specs.History.{journal_after}
use Rattle.desk_core.specs.Knows.{NoneAbove}
use Rattle.desk_core.specs.Pen.{after_look}
use Rattle.desk_core.specs.declared.model.PenState.{PenState}
use Rattle.announce_board.specs.Asking.{seen_by, taken_if}
use Rattle.announce_board.specs.Leading.{DraftKeepsLead, PostKeepsLead, LookKeepsLead}
use Rattle.announce_board.specs.Tokens.{AtDesk, Leading, IsLeadOf}

-- no line is above one serial more
none_above : (place n : ℕ) (lines : List Line) → NoneAbove place n lines → NoneAbove place (n + 1) lines
none_above place n [] h = h
none_above place n (l ∷ ls) h = (λ e. let below : l.serial < n + 1 = h.0 e in omega (arith, below), none_above place n ls h.1)

-- nor is the line that the next serial gains above it
pub none_above_gained : (place n : ℕ) (lines : List Line) (q : Request) (a : Answer) → NoneAbove place n lines → NoneAbove place (n + 1) (journal_after lines place (n + 1) q a)
none_above_gained place n [] q (Entered number reply) h = (λ e. omega arith, tt)
none_above_gained place n (l ∷ ls) q (Entered number reply) h = (λ e. let below : l.serial < n + 1 = h.0 e in omega (arith, below), none_above_gained place n ls q (Entered number reply) h.1)
none_above_gained place n lines q BookFull h = none_above place n lines h
none_above_gained place n lines q NoMemory h = none_above place n lines h
none_above_gained place n lines q (Refused why) h = none_above place n lines h

pub draft_keeps : DraftKeepsLead
draft_keeps words pen lead x h = record { table = h.table; place = h.place; leads = h.leads; book = h.book; used = h.used }

pub post_keeps : PostKeepsLead
post_keeps words pen lead (Push x) now h =
    record { table = h.table; place = h.place; leads = h.leads; book = h.book; used = none_above pen.state.place pen.state.posts pen.state.hand h.used }
post_keeps words pen lead Pop now h =
    record { table = h.table; place = h.place; leads = h.leads; book = h.book; used = none_above pen.state.place pen.state.posts pen.state.hand h.used }
post_keeps words pen lead Least now h =
    record { table = h.table; place = h.place; leads = h.leads; book = h.book; used = none_above pen.state.place pen.state.posts pen.state.hand h.used }

-- the desk's table, and what its pen knows
abbrev at : TableId → PenState → AtDesk
at table p = record { table = table; state = p }

taken : (words : ℕ) (has : Bool) (table : TableId) (p : PenState) (lead : Leading) (request : Request) (notice : Notice) (cell : Item) (now : ℕ) → IsLeadOf (at table p) lead → IsLeadOf (at table (taken_if words has p request notice cell now)) lead
taken words true table p lead request notice cell now h = record { table = h.table; place = h.place; leads = h.leads; book = h.book; used = h.used }
taken words false table p lead request notice cell now h = h

looked : (table : TableId) (p : PenState) (lead : Leading) (request : Request) (control : Control) (now : ℕ) → IsLeadOf (at table p) lead → IsLeadOf (at table (after_look p request control now)) lead
looked table p lead request control now h = record { table = h.table; place = h.place; leads = h.leads; book = h.book; used = h.used }

seen_keeps : (words : ℕ) (table : TableId) (p : PenState) (lead : Leading) (request : Request) (control : Control) (cell : Item) (now : ℕ) → IsLeadOf (at table p) lead → IsLeadOf (at table (seen_by words p request control cell now)) lead
seen_keeps words table p lead request Nothing cell now h = looked table p lead request Nothing now h
seen_keeps words table p lead request (Posted serial kind) cell now h = looked table p lead request (Posted serial kind) now h
seen_keeps words table p lead request (Answered notice) cell now h =
    taken words (notice_has_item notice) table (after_look p request (Answered notice) now) lead request notice cell now (looked table p lead request (Answered notice) now h)

pub look_keeps : LookKeepsLead
look_keeps words pen lead found after h look =
    subst (λ p. IsLeadOf (at pen.table p) lead) (sym look.next) (seen_keeps words pen.table pen.state lead look.request look.control look.cell look.now h)
