-- What a look at the first item under the lock comes to.
use Rattle.std.proofs.Common.{◌≡◌, ℕ, ◌<◌, sym, subst, Bool, List, [], ◌∷◌, length}
use Rattle.pq_types.specs.Item.{Item}
use Rattle.pq_types.specs.declared.request.Request.TheVariants.{Pop}
use Rattle.pq_types.specs.Asked.{Reply}
use Rattle.pq_types.specs.declared.answer.Reply.TheVariants.{Got}
use Rattle.pq_types.specs.Asked.{Answer}
use Rattle.pq_types.specs.declared.answer.Answer.TheVariants.{Entered}
use Rattle.pq_types.specs.declared.answer.Answer.TheVariants as answer
use Rattle.pq_types.specs.Queue.{reply_to}
use Rattle.pq_types.specs.History.{left, is_shut}
use Rattle.pq_book.specs.Book.{Volume}
use Rattle.leftist_heap.specs.Store.{first_of}
use Rattle.desk_core.specs.Pen.{after_release}
use Rattle.announce_board.specs.Asking.{IsAnswerTo}
use Rattle.announce_board.specs.Serving.{Wins}
use Rattle.flat_queue.specs.Members.{Joined, StaysAtPlace}
use Rattle.flat_queue.specs.OwnRequest.{SweepsWhereBy, CarriesOutBy}
use Rattle.flat_queue.specs.Looking.{Looked, IsFirstWanted, IsLeft, looked_by, MakesNoRequest, ServesAloneBy, ServesOthersBy, LooksFirstBy}
use Rattle.flat_queue.specs.declared.looking.Wanted.{Wanted}
use Rattle.flat_queue.specs.declared.looking.Looked.TheVariants as looked
use Rattle.flat_queue.proofs.OwnRequests.{is_ready, IsReady}

-- a member that leads, and releases with no request of its own, makes none
pub releases_none : (a b c : Joined) → IsReady a b → c ≡ record b { pen = after_release b.pen } → MakesNoRequest a c
releases_none a b c h e =
    subst (MakesNoRequest a) (sym e)
    record {
      stays = record {
        queue = h.queue;
        id = h.id;
        turns = h.turns;
        place = h.place;
        room = h.room;
        leading = sym h.led_not;
        rest = h.rest;
        known = h.hand;
      };
      posts = h.posts;
      standing = h.standing;
      mine = h.mine;
    }

-- a member that led, served the others and released has done no more than that
pub serves_alone : (words : ℕ) (hinted : Bool) (a b c d : Joined) (book : Volume) → StaysAtPlace a b → Wins a.pen book b.pen → SweepsWhereBy words hinted b c
    → d ≡ record c { pen = after_release c.pen } → ServesAloneBy words a d
serves_alone words hinted a b c d book stays won sweeps release =
    record {
      book = book;
      led = b;
      ready = c;
      won = won;
      stays = stays;
      hinted = hinted;
      sweeps = sweeps;
      release = release;
      none = releases_none a c d (is_ready words hinted a b c book stays won sweeps) release;
    }

pub serves_others : (words : ℕ) (hinted : Bool) (a b c d : Joined) (book : Volume) → StaysAtPlace a b → Wins a.pen book b.pen → SweepsWhereBy words hinted b c
    → d ≡ record c { pen = after_release c.pen } → length c.pen.hand < a.queue.room → ServesOthersBy words a d
serves_others words hinted a b c d book stays won sweeps release spare =
    record {
      serves = serves_alone words hinted a b c d book stays won sweeps release;
      spare = subst (λ (z : Joined). length z.pen.known < a.queue.room) (sym release) spare;
    }

-- what such a look tells is what it leaves there
pub left_looks : (words : ℕ) (wants : Wanted) (a d : Joined) (told : Looked) → ServesOthersBy words a d → IsLeft wants (first_of (left d.pen.known)) (is_shut d.pen.known) told → LooksFirstBy words wants a told d
left_looks words wants a d (looked.Taken number x) h l = absurd l
left_looks words wants a d (looked.Stays x) h l = (h, l)
left_looks words wants a d looked.Nothing h l = (h, l)
left_looks words wants a d looked.Over h l = (h, l)
left_looks words wants a d looked.BookFull h l = absurd l
left_looks words wants a d (looked.Refused why) h l = absurd l

-- a pop where the first item is wanted takes that out
pop_takes : (words : ℕ) (wants : Wanted) (a c : Joined) (number : ℕ) (reply : Reply) (xs : List Item) → CarriesOutBy words a Pop (Entered number reply) c
    → IsAnswerTo a.queue.room Pop (Entered number reply) → reply ≡ reply_to xs Pop → IsFirstWanted wants (first_of xs) → LooksFirstBy words wants a (looked_by (Entered number reply)) c
pop_takes words wants a c number reply [] h fits is first = absurd first
pop_takes words wants a c number reply (x ∷ xs) h fits is first =
    let moved : CarriesOutBy words a Pop (Entered number (Got x)) c = subst (λ r. CarriesOutBy words a Pop (Entered number r) c) is h in
    let fit : IsAnswerTo a.queue.room Pop (Entered number (Got x)) = subst (λ r. IsAnswerTo a.queue.room Pop (Entered number r)) is fits in
    subst (λ r. LooksFirstBy words wants a (looked_by (Entered number r)) c) (sym is) ((moved, fit), first)

-- what a look comes to that made a pop
pub popped_looks : (words : ℕ) (wants : Wanted) (a c : Joined) (x : Answer) (h : CarriesOutBy words a Pop x c) → IsAnswerTo a.queue.room Pop x
    → (length h.ready.pen.hand < h.ready.pen.room → IsFirstWanted wants (first_of (left h.ready.pen.hand))) → LooksFirstBy words wants a (looked_by x) c
popped_looks words wants a c (Entered number reply) h fits first =
    let may = h.released.may in
    pop_takes words wants a c number reply (left h.ready.pen.hand) h fits may.2 (first may.0.space)
popped_looks words wants a c answer.BookFull h fits first = (h, fits)
popped_looks words wants a c answer.NoMemory h fits first = absurd fits
popped_looks words wants a c (answer.Refused why) h fits first = (h, fits)
