-- The text of an item: its two numbers, with a space between them.
use Rattle.std.specs.Prelude.{◌≡◌, ◌≢◌, ℕ, ◌⊎◌, Bool, List, ◌∷◌, ◌++◌, decimal, Result, Ok, Err}
use Rattle.std.specs.Str.Parse.{IsNumeral, digits_value}
use Rattle.std.specs.List.{AllByRecursion}
use Rattle.pq_types.specs.Item.{Item, item, IsItemOf}
use Rattle.queue_texts.specs.declared.number.NumberError.{NumberError}
use Rattle.queue_texts.specs.declared.number.NumberError.TheVariants.{NotANumber, OutOfRange}

-- the byte of a space
abbrev pub space : ℕ
space = 32

-- the text of an item: its priority, a space and its value
abbrev pub item_text : Item → List ℕ
item_text x = decimal x.priority ++ space ∷ decimal x.value

-- the text is the decimal digits of this number
abbrev pub SpellsNumber : List ℕ → ℕ → Type 0
SpellsNumber text n = IsNumeral 10 text × (digits_value 10 text ≡ n)

-- the text is a priority and a value with one space between them; or a priority alone, and the
-- value is 0
abbrev pub SpellsParts : List ℕ → ℕ → ℕ → Type 0
SpellsParts text p v =
    (SpellsNumber text p × (v ≡ 0))
    ⊎ ((first : List ℕ) × (second : List ℕ) × (text ≡ first ++ space ∷ second) × SpellsNumber first p × SpellsNumber second v)

-- What a text is read as: the item whose parts it spells; or no number, where it spells no parts;
-- or out of range, where it spells parts of which one is too great for an item of this width.
abbrev pub IsReadAs : Bool → List ℕ → Result Item NumberError → Type 0
IsReadAs wide text (Ok x) = SpellsParts text x.priority x.value × IsItemOf wide x
IsReadAs wide text (Err NotANumber) = (p v : ℕ) → ¬ (SpellsParts text p v)
IsReadAs wide text (Err OutOfRange) = (p : ℕ) × (v : ℕ) × SpellsParts text p v × ¬ (IsItemOf wide (item p v))

-- no byte of the text is a space
abbrev pub HasNoSpace : List ℕ → Type 0
HasNoSpace text = AllByRecursion (λ byte. byte ≢ space) text

-- what two texts are read as, the first for the priority and the second for the value
abbrev pub ArePair : Bool → List ℕ → List ℕ → Result Item NumberError → Type 0
ArePair wide first second (Ok x) = SpellsNumber first x.priority × SpellsNumber second x.value × IsItemOf wide x
ArePair wide first second (Err NotANumber) = ¬ (IsNumeral 10 first × IsNumeral 10 second)
ArePair wide first second (Err OutOfRange) =
    (p : ℕ) × (v : ℕ) × SpellsNumber first p × SpellsNumber second v × ¬ (IsItemOf wide (item p v))
