-- Where the lock and the records of a desk stand in the words of its table. The lock has a cache
-- line of its own, of 8 words; the control and the item of a place share one, and no two places do,
-- so pens that post do not slow each other down.
use Rattle.std.specs.Prelude.{◌≡◌, ◌≢◌, ◌↔◌, ℕ, ◌+◌, ◌*◌, ◌/◌, ◌<◌, Bool, true, false}
use Rattle.std.specs.Prelude.{List, length, replicate, slice_index, slice_set}
use Rattle.pq_types.specs.Item.{Item, IsItemOf}
use Rattle.pq_types.specs.declared.control.Control.{Control}
use Rattle.pq_types.specs.declared.control.Control.TheVariants.{Nothing}
use Rattle.pq_types.specs.Item.{item}
use Rattle.pq_types.specs.Mail.{IsProperControl, control_word}
use Rattle.desk_core.specs.Desk.{put}
use Rattle.desk_core.specs.Words.{word_number, word_of, mixed}

-- the index of the lock word
abbrev pub lock_at : ℕ
lock_at = 0

-- the index of the control word of a place, and of the first of its item words
abbrev pub control_at : ℕ → ℕ
control_at place = 8 * (place + 1)

abbrev pub item_at : ℕ → ℕ
item_at place = 8 * (place + 1) + 1

-- the number of words of a desk with so many places
abbrev pub word_count : ℕ → ℕ
word_count places = 8 * (places + 1)

-- the cache line of an index
abbrev pub line_of : ℕ → ℕ
line_of index = index / 8

-- the word of a lock: 0 free, 1 held
abbrev pub lock_word : Bool → ℕ
lock_word false = 0
lock_word true = 1

-- the words of the table are those of the lock, of the controls, all proper, and of the item cells
-- of these places, whose items are wide or narrow
pub record AreWords (wide : Bool) (places : ℕ) (words : List ℕ) (held : Bool) (control : ℕ → Control)
    (cells : ℕ → Item) : Type 0 where
  pub room : length words ≡ word_count places
  pub lock : slice_index words lock_at ≡ lock_word held
  pub proper : (p : ℕ) → p < places → IsProperControl (control p)
  pub controls : (p : ℕ) → p < places → slice_index words (control_at p) ≡ control_word (control p)
  pub ranges : (p : ℕ) → p < places → IsItemOf wide (cells p)
  pub items : (p j : ℕ) → p < places → j < word_number wide → slice_index words (item_at p + j) ≡ word_of wide j (cells p)

-- each store keeps this: of a lock word, of the word of a proper control, and of one word of an item
abbrev pub LockStored : Type 0
LockStored =
    (wide : Bool) (places : ℕ) (words : List ℕ) (held now : Bool) (control : ℕ → Control) (cells : ℕ → Item)
    → AreWords wide places words held control cells
    → AreWords wide places (slice_set words lock_at (lock_word now)) now control cells

abbrev pub ControlStored : Type 0
ControlStored =
    (wide : Bool) (places : ℕ) (words : List ℕ) (held : Bool) (control : ℕ → Control) (cells : ℕ → Item) (place : ℕ) (c : Control)
    → AreWords wide places words held control cells → place < places → IsProperControl c
    → AreWords wide places (slice_set words (control_at place) (control_word c)) held (put control place c) cells

abbrev pub ItemStored : Type 0
ItemStored =
    (wide : Bool) (places : ℕ) (words : List ℕ) (held : Bool) (control : ℕ → Control) (cells : ℕ → Item) (place j : ℕ) (x : Item)
    → AreWords wide places words held control cells → place < places → j < word_number wide → IsItemOf wide x
    → AreWords wide places (slice_set words (item_at place + j) (word_of wide j x)) held control
    (put cells place (mixed wide j x (cells place)))

-- and so does a load, which stores what stands there
abbrev pub Loaded : Type 0
Loaded =
    (wide : Bool) (places : ℕ) (words : List ℕ) (held : Bool) (control : ℕ → Control) (cells : ℕ → Item) (index : ℕ)
    → AreWords wide places words held control cells
    → AreWords wide places (slice_set words index (slice_index words index)) held control cells

-- What a word read says: a lock word 0 that the lock is free, any other that it is held; the word
-- of a proper control that this control stands there; and all words of an item that this item does.
pub record ReadBack (wide : Bool) (places : ℕ) (words : List ℕ) (held : Bool) (control : ℕ → Control)
    (cells : ℕ → Item) : Type 0 where
  pub lock_free : (slice_index words lock_at ≡ 0) ↔ (held ≡ false)
  pub lock_held : slice_index words lock_at ≢ 0 → (held ≡ true) × (slice_index words lock_at ≡ 1)
  pub control_there : (place : ℕ) (c : Control) → place < places → IsProperControl c
      → control_word c ≡ slice_index words (control_at place) → control place ≡ c
  pub item_there :
      (place : ℕ) (x : Item) → place < places → IsItemOf wide x
      → ((j : ℕ) → j < word_number wide → word_of wide j x ≡ slice_index words (item_at place + j))
      → cells place ≡ x

abbrev pub WordsAreReadBack : Type 0
WordsAreReadBack =
    (wide : Bool) (places : ℕ) (words : List ℕ) (held : Bool) (control : ℕ → Control) (cells : ℕ → Item)
    → AreWords wide places words held control cells
    → ReadBack wide places words held control cells

-- words that are all 0 are those of a desk before all steps
abbrev pub ZerosAreFresh : Type 0
ZerosAreFresh = (wide : Bool) (places : ℕ)
    → AreWords wide places (replicate (word_count places) 0) false (λ _. Nothing) (λ _. item 0 0)

-- which words share a cache line
pub record CacheLines : Type 0 where
  pub lock : (place : ℕ) → line_of (control_at place) ≢ line_of lock_at
  pub record_together : (wide : Bool) (place j : ℕ) → j < word_number wide
      → line_of (item_at place + j) ≡ line_of (control_at place)
  pub places_apart : (place other : ℕ) → place ≢ other → line_of (control_at place) ≢ line_of (control_at other)
