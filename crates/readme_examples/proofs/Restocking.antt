-- What the pushes of a member add to the items that it has put in.
use Rattle.std.proofs.Common.{◌≡◌, ◌∙◌, ap, sym, ℕ, List, [], ◌∷◌, ◌++◌, ◌+◌, map, Some}
use Rattle.std.proofs.lemmas.List.{append_assoc, append-nil}
use Rattle.pq_types.specs.Item.{Item}
use Rattle.pq_types.specs.declared.request.Request.TheVariants.{Push}
use Rattle.pq_types.specs.Operation.{request_of}
use Rattle.pq_types.specs.declared.answer.Reply.TheVariants.{Pushed}
use Rattle.leftist_heap.specs.Store.{first_of, rest_of}
use Rattle.pq_types.specs.Entry.{Entry}
use Rattle.pq_types.specs.Entry.{item_of}
use Rattle.desk_core.specs.Calls.{call}
use Rattle.desk_core.specs.declared.model.Call.{Call}
use Rattle.flat_queue.specs.Members.{Joined}
use Rattle.flat_queue.specs.Calling.{IsCalled}
use Rattle.readme_examples.specs.Epochs.{put_in_by, pushed_by}
use Rattle.readme_examples.proofs.Firsts.{first_is}

-- one call more adds what its request puts in
pushed_more : (calls : List Call) (c : Call) → pushed_by (calls ++ c ∷ []) ≡ pushed_by calls ++ put_in_by (request_of c.operation)
pushed_more [] c = append-nil (put_in_by (request_of c.operation))
pushed_more (x ∷ xs) c =
    ap (λ ys. put_in_by (request_of x.operation) ++ ys) (pushed_more xs c) ∙ sym (append_assoc (put_in_by (request_of x.operation)) (pushed_by xs) (put_in_by (request_of c.operation)))

-- a push that is entered adds its item
pub pushed_one : {m m' : Joined} {x : Item} {number : ℕ} → IsCalled m (Push x) number Pushed m'
    → pushed_by m'.pen.mine ≡ pushed_by m.pen.mine ++ x ∷ []
pushed_one {m} {m'} {x} {number} called = ap pushed_by called.member.mine ∙ pushed_more m.pen.mine (call number (m.pen.posts + 1) (Push x) Pushed)

-- the next item of a store has gone from there to what the member has put in
pub next_pushed :
    {m m' : Joined} {x : Item} {number : ℕ} (whole : List Item) (entries : List Entry) (e : Entry) → IsCalled m (Push x) number Pushed m'
    → x ≡ item_of e → first_of entries ≡ Some e
    → pushed_by m.pen.mine ++ map item_of entries ≡ whole → pushed_by m'.pen.mine ++ map item_of (rest_of entries) ≡ whole
next_pushed {m} whole entries e called x_is first split =
    let behind = map item_of (rest_of entries) in
    ap (λ xs. xs ++ behind) (pushed_one called ∙ ap (λ y. pushed_by m.pen.mine ++ y ∷ []) x_is)
    ∙ append_assoc (pushed_by m.pen.mine) (item_of e ∷ []) behind
    ∙ ap (λ es. pushed_by m.pen.mine ++ map item_of es) (sym (first_is e entries first)) ∙ split
