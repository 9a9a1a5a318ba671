-- The texts of commands: `pop`, `least`, and `push ` with a priority and a value, or with a
-- priority alone. Their items are wide or narrow, and so are their ranges.
use Rattle.std.specs.Prelude.{◌≡◌, ◌≢◌, ℕ, Bool, List, ◌++◌, codes, Result, Ok, Err}
use Rattle.pq_types.specs.Asked.{Request}
use Rattle.pq_types.specs.declared.request.Request.TheVariants.{Push, Pop, Least}
use Rattle.queue_texts.specs.declared.command.ScriptError.{ScriptError}
use Rattle.queue_texts.specs.declared.command.ScriptError.TheVariants.{UnknownCommand, ItemOutOfRange, NotANumber}
use Rattle.pq_types.specs.Item.{IsItemOf, item}
use Rattle.queue_texts.specs.ItemText.{SpellsParts}

-- the line is `push ` and then these bytes
abbrev pub PushesText : List ℕ → List ℕ → Type 0
PushesText line text = line ≡ codes "push " ++ text

-- the line spells this request
abbrev pub Spells : Bool → List ℕ → Request → Type 0
Spells wide line (Push x) = (text : List ℕ) × PushesText line text × SpellsParts text x.priority x.value × IsItemOf wide x
Spells wide line Pop = line ≡ codes "pop"
Spells wide line Least = line ≡ codes "least"

-- the line begins with `push `, and what follows isn't one number, or two with one space between
-- them
abbrev pub PushesNoNumber : List ℕ → Type 0
PushesNoNumber line = (text : List ℕ) × PushesText line text × ((p v : ℕ) → ¬ (SpellsParts text p v))

-- the line is `push ` and numbers of which one is above every priority and every value
abbrev pub PushesTooMuch : Bool → List ℕ → Type 0
PushesTooMuch wide line =
    (text : List ℕ) × (p : ℕ) × (v : ℕ) × PushesText line text × SpellsParts text p v × ¬ (IsItemOf wide (item p v))

-- the line is neither `pop` nor `least`, and doesn't begin with `push `
abbrev pub IsUnknown : List ℕ → Type 0
IsUnknown line = (line ≢ codes "pop") × (line ≢ codes "least") × ((text : List ℕ) → ¬ (PushesText line text))

-- why a line is refused
abbrev pub IsRefusedFor : Bool → List ℕ → ScriptError → Type 0
IsRefusedFor wide line UnknownCommand = IsUnknown line
IsRefusedFor wide line ItemOutOfRange = PushesTooMuch wide line
IsRefusedFor wide line NotANumber = PushesNoNumber line

-- what a line is read as: the request that it spells, or why it is refused
abbrev pub IsReadAs : Bool → List ℕ → Result Request ScriptError → Type 0
IsReadAs wide line (Ok request) = Spells wide line request
IsReadAs wide line (Err error) = IsRefusedFor wide line error

-- the line is read as this, and as nothing else
pub record IsTheCommand (wide : Bool) (line : List ℕ) (r : Result Request ScriptError) : Type 0 where
  pub read : IsReadAs wide line r
  pub spells : (request : Request) → Spells wide line request → r ≡ Ok request
  pub refused : (error : ScriptError) → IsRefusedFor wide line error → r ≡ Err error

-- the number of each refusal
abbrev pub script_code : ScriptError → ℕ
script_code UnknownCommand = 20
script_code ItemOutOfRange = 21
script_code NotANumber = 22
