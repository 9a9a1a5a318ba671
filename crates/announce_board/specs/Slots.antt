-- What lies in the slot of a desk's table, and the terms of the Book there.
use Rattle.std.specs.Prelude.{◌≡◌, ◌≤◌, ◌+◌, ℕ, Bool, Option, Some, None}
use Rattle.pq_types.specs.Asked.{Request, Answer}
use Rattle.pq_types.specs.Mail.{IsProperAnswerOf}
use Rattle.pq_types.specs.History.{Limits, MayAnswer, journal_after}
use Rattle.pq_book.specs.Book.{Volume, limits, limits_of, KeepsTerms}
use Rattle.announce_board.specs.declared.terms.Terms.{Terms}

-- the Book has the bound of these terms, and allows as many lines as they do, or more
abbrev pub MeetsTerms : Terms → Volume → Type 0
MeetsTerms terms book = (book.bound ≡ terms.bound) × (terms.allowed ≤ book.allowed)

-- the terms that it has now
abbrev pub terms_of : Volume → Terms
terms_of book = record { bound = book.bound; allowed = book.allowed }

-- the limits of a queue that opens with this room and these terms
abbrev pub first_limits : ℕ → Terms → Limits
first_limits room terms = limits room terms.bound terms.allowed

-- those of a queue without a bound that forgets
abbrev pub plain_terms : ℕ → Terms
plain_terms room = record { bound = room + 1; allowed = room }

-- The Book; or none, while a pen leads. A slot without a Book names terms: by one a step says which terms the
-- desk has.
pub data Slotted : Type 0 where
  with_book : Volume → Slotted
  says : Terms → Slotted

-- no Book, and terms that mean nothing
abbrev pub out : Slotted
out = says record { bound = 0; allowed = 0 }

-- the slot with this Book, or the one without that names these terms
abbrev pub slotted : Option Volume → Terms → Slotted
slotted (Some book) terms = with_book book
slotted None terms = says terms

-- the Book in a slot
abbrev pub book_of : Slotted → Option Volume
book_of (with_book book) = Some book
book_of (says terms) = None

-- the Book in the slot carried out a request of this place under this serial, and was so answered
pub record CarriesOut (wide : Bool) (place serial : ℕ) (request : Request) (before : Slotted) (answer : Answer) (after : Slotted) : Type 0 where
  pub book : Volume
  pub next : Volume
  pub was : before ≡ with_book book
  pub is : after ≡ with_book next
  pub may : MayAnswer (limits_of book) book.journal request answer
  pub proper : IsProperAnswerOf wide answer
  pub journal : next.journal ≡ journal_after book.journal place serial request answer
  pub terms : KeepsTerms book next
  pub allowed : next.allowed ≡ book.allowed
