-- The priority queue of one thread: its content is a list that ascends by priority, repeats kept
-- (Knuth, volume 3).
use Rattle.std.specs.Prelude.{◌≡◌, List, [], ◌∷◌, if◌then◌else◌, Bool, true, false}
use Rattle.std.specs.List.{AllByRecursion}
use Rattle.pq_types.specs.Item.{Item}
use Rattle.pq_types.specs.Asked.{Request}
use Rattle.pq_types.specs.declared.request.Request.TheVariants.{Push, Pop, Least}
use Rattle.pq_types.specs.Asked.{Reply}
use Rattle.pq_types.specs.declared.answer.Reply.TheVariants.{Pushed, Got, Empty, Least as LeastIs}
use Rattle.pq_types.specs.Item.{IsItemOf, not_above}

-- each item is in the range, of wide items or of narrow ones
abbrev pub AreItemsOf : Bool → List Item → Type 0
AreItemsOf wide xs = AllByRecursion (IsItemOf wide) xs

-- each item is in the range
abbrev pub AreItems : List Item → Type 0
AreItems = AreItemsOf false

-- a content of the queue: no item's priority is above that of one behind it
abbrev pub IsAscending : List Item → Type 0
IsAscending [] = Unit {0}
IsAscending (x ∷ xs) = AllByRecursion (λ y. not_above x y ≡ true) xs × IsAscending xs

-- the content with x behind every item whose priority is not above its own, and so behind those of
-- the same priority
abbrev pub with_item : Item → List Item → List Item
with_item x [] = x ∷ []
with_item x (y ∷ ys) = if not_above y x then y ∷ with_item x ys else x ∷ y ∷ ys

-- the content after a request: push puts its item in, pop takes the first item out, least changes
-- nothing
abbrev pub content_after : List Item → Request → List Item
content_after xs (Push x) = with_item x xs
content_after [] Pop = []
content_after (x ∷ xs) Pop = xs
content_after xs Least = xs

-- the reply to a request: pop and least tell the first item, where there is one
abbrev pub reply_to : List Item → Request → Reply
reply_to xs (Push x) = Pushed
reply_to [] Pop = Empty
reply_to (x ∷ xs) Pop = Got x
reply_to [] Least = Empty
reply_to (x ∷ xs) Least = LeastIs x

-- the replies to requests one after another, from this content on
abbrev pub replies_from : List Item → List Request → List Reply
replies_from xs [] = []
replies_from xs (q ∷ qs) = reply_to xs q ∷ replies_from (content_after xs q) qs

-- the content that requests leave one after another, from this content on
abbrev pub content_after_all : List Item → List Request → List Item
content_after_all xs [] = xs
content_after_all xs (q ∷ qs) = content_after_all (content_after xs q) qs

-- a request whose item is in the range
abbrev pub IsProperRequestOf : Bool → Request → Type 0
IsProperRequestOf wide (Push x) = IsItemOf wide x
IsProperRequestOf wide Pop = Unit {0}
IsProperRequestOf wide Least = Unit {0}

abbrev pub IsProperRequest : Request → Type 0
IsProperRequest = IsProperRequestOf false

-- a reply whose item is in the range
abbrev pub IsProperReplyOf : Bool → Reply → Type 0
IsProperReplyOf wide Pushed = Unit {0}
IsProperReplyOf wide (Got x) = IsItemOf wide x
IsProperReplyOf wide (LeastIs x) = IsItemOf wide x
IsProperReplyOf wide Empty = Unit {0}

abbrev pub IsProperReply : Reply → Type 0
IsProperReply = IsProperReplyOf false

-- a request that wants room for an item
abbrev pub IsPush : Request → Type 0
IsPush (Push x) = Unit {0}
IsPush Pop = ⊥
IsPush Least = ⊥
