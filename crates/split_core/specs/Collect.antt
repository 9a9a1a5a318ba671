-- What a scan has found once it is over, and how many doors it reads (this project's own collect).
use Rattle.std.specs.Prelude.{◌≡◌, ◌≢◌, ℕ, ◌+◌, ◌*◌, ◌/◌, ◌≤◌, true, ◌⊎◌, List, [], ◌∷◌, Contains}
use Rattle.split_core.specs.Places.{at}
use Rattle.split_core.specs.Grid.{Grid, Event, Begins, Has, happens, run, opening, started}
use Rattle.split_core.specs.Splitter.{Left}
use Rattle.split_core.specs.declared.model.Comer.{Comer}
use Rattle.split_core.specs.declared.model.Next.TheVariants.{Stopped}

-- none of these events begins a scan of this comer
abbrev pub NoneBegins : ℕ → List Event → Type 0
NoneBegins who [] = Unit {0}
NoneBegins who (e ∷ es) = (e ≢ Begins who) × NoneBegins who es

-- What the scan of the comer y, which is over, has found, where it began in the grid s: each place
-- whose door was closed before its first read, so each where a comer had stopped; each on its own
-- comer's way; each that any scan of its comer has found closed.
pub record FindsAll (s : Grid) (y : Comer) : Type 0 where
  pub closed : (p : ℕ) → s.door p ≡ 1 → Contains y.scan.found p
  pub stops : (a : ℕ) (z : Comer) → Has s a z → z.next ≡ Stopped → Contains y.scan.found (at z.turns)
  pub way : (p : ℕ) → Left p y.turns ⊎ (at y.turns ≡ p) → Contains y.scan.found p
  pub seen : (p : ℕ) → Contains y.seen p → Contains y.scan.found p

-- every scan that the comer `who` began after the first events, and that is over after the others,
-- has found all that
abbrev pub ScansWhole : List ℕ → Type 0
ScansWhole ids =
    (before during : List Event) (who : ℕ) (x y : Comer) → NoneBegins who during
    → Has (run before (opening ids)) who x → x.next ≡ Stopped
    → Has (run during (happens (run before (opening ids)) (Begins who))) who y → y.scan.over ≡ true
    → FindsAll (run before (opening ids)) y

-- what can be told of a scan that is over from one state alone: it has each place on its comer's
-- way, and each that any scan of its comer has found closed
pub record EndedScan (x : Comer) : Type 0 where
  pub way : (p : ℕ) → Left p x.turns ⊎ (at x.turns ≡ p) → Contains x.scan.found p
  pub seen : (p : ℕ) → Contains x.seen p → Contains x.scan.found p

abbrev pub EndedScans : Grid → Type 0
EndedScans s = (a : ℕ) (x : Comer) → Has s a x → x.scan.over ≡ true → EndedScan x

-- the most doors of a scan where so many comers have started: those of one diagonal more
abbrev pub most_doors : ℕ → ℕ
most_doors k = (k + 1) * (k + 2) / 2

-- a scan has read at most (k + 1)(k + 2)/2 doors, where k comers have started
abbrev pub DoorsRead : Grid → Type 0
DoorsRead s = (a : ℕ) (x : Comer) → Has s a x → x.scan.doors ≤ most_doors (started s)
