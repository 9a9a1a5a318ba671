-- How long the journal of a queue is, and the terms of one with such a journal.
use Rattle.std.specs.Prelude.{ℕ, ◌+◌, Option, Some, None}
use Rattle.pq_book.specs.Book.{IsRoom}
use Rattle.pq_book.specs.Pages.{IsLongPage, room_keeping}
use Rattle.announce_board.specs.declared.terms.Terms.{Terms}
use Rattle.flat_queue.specs.declared.length.Length.{Length}
use Rattle.flat_queue.specs.declared.length.Length.TheVariants.{Lines, Keeping, Archived}

-- for how many lines the journal has room
abbrev pub room_of : Length → ℕ
room_of (Lines count) = count
room_of (Keeping kept) = room_keeping kept
room_of (Archived kept) = room_keeping kept

-- how many lines of it memory keeps
abbrev pub kept_of : Length → ℕ
kept_of (Lines count) = count
kept_of (Keeping kept) = kept
kept_of (Archived kept) = kept

-- how many lines it may have before any are archived
abbrev pub allowed_of : Length → ℕ
allowed_of (Lines count) = count
allowed_of (Keeping kept) = room_keeping kept
allowed_of (Archived kept) = kept

-- a journal may have so many lines
abbrev pub IsLength : Length → Type 0
IsLength (Lines count) = IsRoom count
IsLength (Keeping kept) = IsLongPage kept
IsLength (Archived kept) = IsLongPage kept

-- The terms of a queue whose journal has this length: with this bound; or without one, which is a bound that no journal of this
-- room comes to.
abbrev pub terms_with : Length → Option ℕ → Terms
terms_with length (Some bound) = record { bound = bound; allowed = allowed_of length }
terms_with length None = record { bound = room_of length + 1; allowed = allowed_of length }
