-- What the calls of a worker add to the tasks that it has taken out.
use Rattle.std.proofs.Common.{◌≡◌, ◌∙◌, ap, sym, ℕ, List, [], ◌∷◌, ◌++◌, ◌+◌, Some, None}
use Rattle.std.proofs.lemmas.List.{append_assoc, append-nil}
use Rattle.pq_types.specs.Item.{Item}
use Rattle.pq_types.specs.Asked.{Request}
use Rattle.pq_types.specs.declared.request.Request.TheVariants.{Push, Pop}
use Rattle.pq_types.specs.Asked.{Reply}
use Rattle.pq_types.specs.declared.answer.Reply.TheVariants.{Pushed}
use Rattle.desk_core.specs.Calls.{call}
use Rattle.desk_core.specs.declared.model.Call.{Call}
use Rattle.flat_queue.specs.Members.{Joined}
use Rattle.flat_queue.specs.Calling.{IsCalled, IsRefused, popped}
use Rattle.flat_queue.specs.declared.error.CallError.{CallError}
use Rattle.flat_queue.specs.declared.error.CallError.TheVariants.{NoMemory, BookFull, Refused, Spent, GaveUp}
use Rattle.readme_examples.specs.Workers.{handed_over, taken_out}

-- one call more adds what its reply hands over
pub taken_out_more : (calls : List Call) (c : Call) → taken_out (calls ++ c ∷ []) ≡ taken_out calls ++ handed_over c.reply
taken_out_more [] c = append-nil (handed_over c.reply)
taken_out_more (x ∷ xs) c =
    ap (λ ys. handed_over x.reply ++ ys) (taken_out_more xs c) ∙ sym (append_assoc (handed_over x.reply) (taken_out xs) (handed_over c.reply))

-- the tasks of a member that has made one call more
pub after_call : {m m' : Joined} {request : Request} {number : ℕ} {reply : Reply}
    → IsCalled m request number reply m' → taken_out m'.pen.mine ≡ taken_out m.pen.mine ++ handed_over reply
after_call {m} {m'} {request} {number} {reply} called =
    ap taken_out called.member.mine ∙ taken_out_more m.pen.mine (call number (m.pen.posts + 1) request reply)

pub after_push : {m m' : Joined} {x : Item} {number : ℕ} → IsCalled m (Push x) number Pushed m' → taken_out m'.pen.mine ≡ taken_out m.pen.mine
after_push {m} called = after_call called ∙ append-nil (taken_out m.pen.mine)

pub after_pop : {m m' : Joined} {x : Item} {number : ℕ} → IsCalled m Pop number (popped (Some x)) m'
    → taken_out m'.pen.mine ≡ taken_out m.pen.mine ++ x ∷ []
after_pop called = after_call called

pub after_empty_pop : {m m' : Joined} {number : ℕ} → IsCalled m Pop number (popped None) m' → taken_out m'.pen.mine ≡ taken_out m.pen.mine
after_empty_pop {m} called = after_call called ∙ append-nil (taken_out m.pen.mine)

-- a refused call takes nothing out
pub after_refusal : (m m' : Joined) (request : Request) (error : CallError) → IsRefused ⊥ m request error m'
    → taken_out m'.pen.mine ≡ taken_out m.pen.mine
after_refusal m m' request NoMemory h = ap taken_out h.1.mine
after_refusal m m' request BookFull h = ap taken_out h.mine
after_refusal m m' request (Refused why) h = ap taken_out h.1.mine
after_refusal m m' request Spent h = ap (λ (j : Joined). taken_out j.pen.mine) h.1
after_refusal m m' request GaveUp h = absurd h.0
