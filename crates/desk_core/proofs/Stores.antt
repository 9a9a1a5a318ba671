-- What stores and loads do to the words of a desk.
use Rattle.std.proofs.Common.{◌≡◌, ◌≢◌, ℕ, zero, suc, ◌+◌, ◌<◌, Bool, true, false, List, length, set, replicate, refl, ap, sym, ◌∙◌, subst, arith, get_or-set_other, get_or-set_same}
use Rattle.std.specs.Prelude.{slice_index}
use Rattle.std.proofs.lemmas.List.{length-set, length-replicate, set-get_or}
use mathlib.Core.Logic.{dite}
use native.Mathlib.Decide.{ℕ_discrete}
use Rattle.pq_types.specs.Item.{Item, IsItemOf}
use Rattle.pq_types.specs.Mail.{IsProperControl, control_word}
use Rattle.pq_types.specs.Laws.{ControlWordsDiffer, ItemWordsDiffer}
use Rattle.desk_core.specs.Desk.{put}
use Rattle.desk_core.specs.Words.{word_number, word_of, mixed}
use Rattle.desk_core.specs.Layout.{lock_at, control_at, item_at, word_count, lock_word, AreWords, LockStored, ControlStored, ItemStored, Loaded, WordsAreReadBack, ZerosAreFresh, CacheLines}
use Rattle.desk_core.proofs.ItemWords.{few, zero_fits, zero_word, mixed_here, mixed_else, mixed_fits, words_tell}
use Rattle.desk_core.proofs.Records.{put_here, put_else}

-- what stands at an index after a store at another one
else_at : (words : List ℕ) (i j n : ℕ) → j ≢ i → slice_index (set words i n) j ≡ slice_index words j
else_at words i j n ne = get_or-set_other words i j n 0 ne

here_at : (words : List ℕ) (i n : ℕ) → i < length words → slice_index (set words i n) i ≡ n
here_at words i n h = get_or-set_same words i n 0 h

-- what holds of the cell stored, and of each other place, holds of each
each_place : {X : Type 0} (cells : ℕ → X) (place : ℕ) (x : X) (Q : ℕ → X → Type 0) → Q place x → ((p : ℕ) → p ≢ place → Q p (cells p)) → (p : ℕ)
    → Q p (put cells place x p)
each_place cells place x Q here else p =
    dite (ℕ_discrete p place)
    (λ e. subst (λ k. Q k (put cells place x k)) (sym e) (subst (Q place) (sym (put_here cells place x)) here))
    (λ ne. subst (Q p) (sym (put_else cells place x p ne)) (else p ne))

pub lock_stored : LockStored
lock_stored wide places words held now control cells k =
    record {
      room = length-set words lock_at (lock_word now) ∙ k.room;
      lock = here_at words lock_at (lock_word now) (let e = k.room in omega arith);
      proper = k.proper;
      controls = λ p lt. else_at words lock_at (control_at p) (lock_word now) (omega arith) ∙ k.controls p lt;
      ranges = k.ranges;
      items = λ p j lt few. else_at words lock_at (item_at p + j) (lock_word now) (omega arith) ∙ k.items p j lt few;
    }

pub control_stored : ControlStored
control_stored wide places words held control cells place c k inside proper =
    let n = control_word c in
    let i = control_at place in
    record {
      room = length-set words i n ∙ k.room;
      lock = else_at words i lock_at n (let ne : lock_at ≢ control_at place = omega arith in ne) ∙ k.lock;
      proper = each_place control place c (λ p y. p < places → IsProperControl y) (λ _. proper) (λ p ne. k.proper p);
      controls = each_place control place c (λ p y. p < places → slice_index (set words i n) (control_at p) ≡ control_word y)
          (λ _. here_at words i n (let e = k.room in omega arith))
          (λ p ne lt. else_at words i (control_at p) n (let apart : control_at p ≢ control_at place = omega arith in apart) ∙ k.controls p lt);
      ranges = k.ranges;
      items = λ p j lt small.
          else_at words i (item_at p + j) n (let two = few wide in let apart : item_at p + j ≢ control_at place = omega arith in apart) ∙ k.items p j lt small;
    }

-- what holds of the word stored, and of each other word, holds of each
each_word : (wide : Bool) (words : List ℕ) (place j : ℕ) (x y : Item) → item_at place + j < length words → j < word_number wide
    → ((i : ℕ) → i < word_number wide → slice_index words (item_at place + i) ≡ word_of wide i y)
    → (i : ℕ) → i < word_number wide → slice_index (set words (item_at place + j) (word_of wide j x)) (item_at place + i) ≡ word_of wide i (mixed wide j x y)
each_word wide words place j x y inside small old i lt =
    let n = word_of wide j x in
    let at = item_at place + j in
    dite (ℕ_discrete i j)
    (λ e. ap (λ z. slice_index (set words at n) (item_at place + z)) e ∙ (here_at words at n inside ∙ (sym (mixed_here wide j x y) ∙ ap (λ z. word_of wide z (mixed wide j x y)) (sym e))))
    (λ ne. else_at words at (item_at place + i) n (let apart : item_at place + i ≢ item_at place + j = omega (arith, ne) in apart) ∙ (old i lt ∙ sym (mixed_else wide j i x y small lt ne)))

pub item_stored : ItemStored
item_stored wide places words held control cells place j x k inside small range =
    let n = word_of wide j x in
    let i = item_at place + j in
    let y = cells place in
    let two = few wide in
    record {
      room = length-set words i n ∙ k.room;
      lock = else_at words i lock_at n (let ne : lock_at ≢ item_at place + j = omega arith in ne) ∙ k.lock;
      proper = k.proper;
      controls = λ p lt. else_at words i (control_at p) n (let apart : control_at p ≢ item_at place + j = omega (arith, two, small) in apart) ∙ k.controls p lt;
      ranges = each_place cells place (mixed wide j x y) (λ p z. p < places → IsItemOf wide z) (λ _. mixed_fits wide j x y range (k.ranges place inside)) (λ p ne. k.ranges p);
      items = λ p h lt less.
          each_place cells place (mixed wide j x y) (λ p z. (h : ℕ) → p < places → h < word_number wide → slice_index (set words i n) (item_at p + h) ≡ word_of wide h z)
          (λ h _ less. each_word wide words place j x y (let e = k.room in omega (arith, e, inside, two, small)) small (λ g lt. k.items place g inside lt) h less)
          (λ p ne h lt less. else_at words i (item_at p + h) n (let apart : item_at p + h ≢ item_at place + j = omega (arith, ne, two, small, less) in apart) ∙ k.items p h lt less)
          p h lt less;
    }

pub loaded : Loaded
loaded wide places words held control cells i k = subst (λ ws. AreWords wide places ws held control cells) (sym (set-get_or words i 0)) k

free_word : (n : ℕ) (held : Bool) → n ≡ lock_word held → n ≡ 0 → held ≡ false
free_word n true e z = absurd (omega (arith, e, z))
free_word n false e z = refl

held_word : (n : ℕ) (held : Bool) → n ≡ lock_word held → n ≢ 0 → (held ≡ true) × (n ≡ 1)
held_word n true e ne = (refl, e)
held_word n false e ne = absurd (ne e)

pub read_back : ControlWordsDiffer → ItemWordsDiffer → WordsAreReadBack
read_back controls_differ items_differ wide places words held control cells k =
    record {
      lock_free = (λ z. free_word (slice_index words lock_at) held k.lock z, λ e. k.lock ∙ ap lock_word e);
      lock_held = held_word (slice_index words lock_at) held k.lock;
      control_there = λ place c lt proper e. controls_differ (control place) c (k.proper place lt) proper (sym (k.controls place lt) ∙ sym e);
      item_there = λ place x lt range e. words_tell items_differ wide (cells place) x (k.ranges place lt) range (λ j less. sym (k.items place j lt less) ∙ sym (e j less));
    }

zeros : (n k : ℕ) → slice_index (replicate n 0) k ≡ 0
zeros zero k = refl
zeros (suc n) zero = refl
zeros (suc n) (suc k) = zeros n k

pub zeros_are_fresh : ZerosAreFresh
zeros_are_fresh wide places =
    record {
      room = length-replicate (word_count places) 0;
      lock = zeros (word_count places) lock_at;
      proper = λ p lt. tt;
      controls = λ p lt. zeros (word_count places) (control_at p);
      ranges = λ p lt. zero_fits wide;
      items = λ p j lt less. zeros (word_count places) (item_at p + j) ∙ sym (zero_word wide j);
    }

pub cache_lines : CacheLines
cache_lines =
    record {
      lock = λ place e. absurd (omega (arith, e));
      record_together = λ wide place j less. (let two = few wide in omega (arith, two, less));
      places_apart = λ place other ne e. ne (omega (arith, e));
    }
