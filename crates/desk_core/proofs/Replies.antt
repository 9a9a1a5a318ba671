-- Each call that a pen has read whole has a reply to its request.
use Rattle.std.proofs.Common.{ℕ, ◌+◌, inl, inr, ⊎_elim, Bool, true, false, List, [], ◌∷◌, ◌++◌, refl, sym, subst}
use Rattle.std.specs.Prelude.{◌==◌, if◌then◌else◌, Option, Some, None, map}
use Rattle.std.specs.List.{AllByRecursion}
use Rattle.pq_types.specs.Item.{Item}
use Rattle.pq_types.specs.Asked.{Operation}
use Rattle.pq_types.specs.Asked.{Request}
use Rattle.pq_types.specs.declared.request.Request.TheVariants.{Push, Pop, Least}
use Rattle.pq_types.specs.Asked.{Line}
use Rattle.pq_types.specs.Operation.{Asked, ByTicket, Shuts, ticket_of, request_of}
use Rattle.pq_types.specs.Queue.{reply_to}
use Rattle.pq_types.specs.Entry.{Entry, item_of, item_at, taken, entries_after, reply_by}
use Rattle.pq_types.specs.History.{IsLegalFrom}
use Rattle.desk_core.specs.declared.model.Call.{Call}
use Rattle.desk_core.specs.Calls.{call, call_of, calls_from}
use Rattle.desk_core.specs.Knows.{IsReplyTo, CallsHaveReplies}
use Rattle.desk_core.proofs.Clauses.{knows}

-- such is the reply that the queue of one thread gives
queue_replies : (content : List Item) (q : Request) → IsReplyTo q (reply_to content q)
queue_replies content (Push x) = refl
queue_replies [] Pop = inl refl
queue_replies (y ∷ content) Pop = inr (y, refl)
queue_replies [] Least = inl refl
queue_replies (y ∷ content) Least = inr (y, refl)

taken_fits : (o : Option Item) → IsReplyTo Pop (taken o)
taken_fits None = inl refl
taken_fits (Some x) = inr (x, refl)

line_fits : (es : List Entry) (o : Operation) → IsReplyTo (request_of o) (reply_by es o)
line_fits es (Asked q) = queue_replies (map item_of es) q
line_fits es (ByTicket ticketed) = taken_fits (item_at (ticket_of ticketed) es)
line_fits es Shuts = inl refl

abbrev Fits : Call → Type 0
Fits c = IsReplyTo (request_of c.operation) c.reply

fits_more : (b : Bool) (c : Call) (cs : List Call) → Fits c → AllByRecursion Fits cs → AllByRecursion Fits (if b then c ∷ cs else cs)
fits_more true c cs h hs = (h, hs)
fits_more false c cs h hs = hs

legal_fits : (n place : ℕ) (es : List Entry) (journal : List Line) → IsLegalFrom es n journal → AllByRecursion Fits (calls_from n place journal)
legal_fits n place es [] h = tt
legal_fits n place es (l ∷ ls) h =
    fits_more (l.place == place) (call_of n l.serial l.operation l.reply) (calls_from (n + 1) place ls)
    (subst (IsReplyTo (request_of l.operation)) (sym h.0) (line_fits es l.operation))
    (legal_fits (n + 1) place (entries_after es n l.operation) ls h.1)

all_front : (xs ys : List Call) → AllByRecursion Fits (xs ++ ys) → AllByRecursion Fits xs
all_front [] ys h = tt
all_front (x ∷ xs) ys h = (h.0, all_front xs ys h.1)

pub calls_have_replies : CallsHaveReplies
calls_have_replies d seat p m a =
    let k = knows d m.0 m.1 m.2 seat p a in
    let all = legal_fits 1 p.place [] m.0 k.legal in
    ⊎_elim
    (λ t. subst (AllByRecursion Fits) t all)
    (λ t. all_front p.mine (call t.1 p.posts t.0 t.2 ∷ []) (subst (AllByRecursion Fits) t.4 all))
    k.lines
