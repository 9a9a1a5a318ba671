-- The line of text of each event of a walk.
use Rattle.std.specs.Prelude.{ℕ, List, ◌++◌, codes, decimal, if◌then◌else◌}
use Rattle.split_core.specs.declared.seen.Seen.{Seen}
use Rattle.split_core.specs.declared.seen.Seen.TheVariants.{Wrote, SawOpen, Right, Closed, Stopped, Down, Door}

-- what the comer did, after its id and a space
abbrev pub seen_text : Seen → List ℕ
seen_text (Wrote place) = codes "writes " ++ decimal place
seen_text (SawOpen place) = codes "sees open " ++ decimal place
seen_text (Right place next) = codes "sees closed " ++ decimal place ++ codes " right " ++ decimal next
seen_text (Closed place) = codes "closes " ++ decimal place
seen_text (Stopped place) = codes "stops " ++ decimal place
seen_text (Down place other next) =
    codes "reads " ++ decimal other ++ codes " at " ++ decimal place ++ codes " down " ++ decimal next
seen_text (Door place closed over) = codes "scans " ++ decimal place
    ++ (if closed then codes " closed" else codes " open") ++ (if over then codes " end" else codes "")

-- the line of an event
abbrev pub event_text : ℕ → Seen → List ℕ
event_text id seen = decimal id ++ codes " " ++ seen_text seen ++ codes "\n"
