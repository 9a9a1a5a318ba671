-- Small runs in full: what each of their events shows.
use Rattle.std.specs.Prelude.{ℕ, List, [], ◌∷◌, map, Option}
use Rattle.split_core.specs.Places.{at}
use Rattle.split_core.specs.Grid.{Grid, Event, Goes, Begins, Scans, happens}
use Rattle.split_core.specs.Calls.{seen_of}
use Rattle.split_core.specs.declared.model.Comer.{Comer}
use Rattle.split_core.specs.declared.seen.Seen.{Seen}

-- what these events show, one after the other
abbrev pub told : List Event → Grid → List (Option Seen)
told [] s = []
told (e ∷ es) s = seen_of s e ∷ told es (happens s e)

-- where the comers stand
abbrev pub places : Grid → List ℕ
places s = map (λ (c : Comer). at c.turns) s.comers

-- Comers 7 and 3 write LAST of place 0 one after the other, and each sees its door open.
abbrev pub both_see_open : List Event
both_see_open = Goes 0 ∷ Goes 0 ∷ Goes 1 ∷ Goes 1 ∷ []

-- 7 closes it and reads the id of 3, who then closes it too and stops; 7 stops below.
abbrev pub first_goes_down : List Event
first_goes_down = Goes 0 ∷ Goes 0 ∷ Goes 1 ∷ Goes 1 ∷ Goes 0 ∷ Goes 0 ∷ Goes 0 ∷ Goes 0 ∷ []

-- 7 closes the door of place 0, 3 writes LAST there and finds the door closed, 7 reads the id of 3;
-- so nobody stops at place 0. Then each stops at the place where it came.
abbrev pub nobody_stops_first : List Event
nobody_stops_first =
    Goes 0 ∷ Goes 0 ∷ Goes 0 ∷ Goes 1 ∷ Goes 1 ∷ Goes 0
    ∷ Goes 1 ∷ Goes 1 ∷ Goes 1 ∷ Goes 1 ∷ Goes 0 ∷ Goes 0 ∷ Goes 0 ∷ Goes 0 ∷ []

-- 3 scans
abbrev pub scan_by_second : List Event
scan_by_second = Begins 1 ∷ Scans 1 ∷ Scans 1 ∷ []

-- Comers 7, 3 and 9 write LAST of place 0 in this order and see its door open; so 9 stops there,
-- and the others meet below, where 3 writes last.
abbrev pub last_writer_stops : List Event
last_writer_stops =
    Goes 0 ∷ Goes 0 ∷ Goes 1 ∷ Goes 1 ∷ Goes 2 ∷ Goes 2 ∷ Goes 0 ∷ Goes 0 ∷ Goes 1 ∷ Goes 1 ∷ Goes 2 ∷ Goes 2
    ∷ Goes 0 ∷ Goes 0 ∷ Goes 1 ∷ Goes 1 ∷ Goes 0 ∷ Goes 0 ∷ Goes 1 ∷ Goes 1
    ∷ Goes 0 ∷ Goes 0 ∷ Goes 0 ∷ Goes 0 ∷ []
