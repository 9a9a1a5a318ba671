-- The texts of the lines of `flatpq walk`: `comer ID`, `step ID` and `scan ID`, with the id in
-- decimal digits.
use Rattle.std.specs.Prelude.{◌≡◌, ℕ, ◌<◌, ◌≤◌, ◌^◌, List, ◌++◌, codes}
use Rattle.std.specs.Str.Parse.{IsNumeral, digits_value}
use Rattle.queue_texts.specs.declared.orders.Verb.{Verb}
use Rattle.queue_texts.specs.declared.orders.Verb.TheVariants.{Comer, Make}
use Rattle.queue_texts.specs.declared.orders.Move.TheVariants.{Step, Scan}
use Rattle.queue_texts.specs.declared.orders.Order.{Order}
use Rattle.queue_texts.specs.declared.orders.OrderError.{OrderError}
use Rattle.queue_texts.specs.declared.orders.OrderError.TheVariants.{UnknownCommand, NotANumber, IdOutOfRange}

-- the word of each verb, and a space
abbrev pub verb_text : Verb → List ℕ
verb_text Comer = codes "comer "
verb_text (Make Step) = codes "step "
verb_text (Make Scan) = codes "scan "

-- the line is the verb's word and then this text
abbrev pub BeginsWith : List ℕ → Verb → List ℕ → Type 0
BeginsWith line verb text = line ≡ verb_text verb ++ text

-- the line spells this order: the verb's word, and the digits of the id, a number below 2 ^ 64
abbrev pub SpellsOrder : List ℕ → Order → Type 0
SpellsOrder line order = (digits : List ℕ) × BeginsWith line order.verb digits
    × IsNumeral 10 digits × (digits_value 10 digits ≡ order.id) × (order.id < 2 ^ 64)

-- why a line spells no order: it begins with no verb; no number follows; the number is too great
abbrev pub IsNoOrderFor : List ℕ → OrderError → Type 0
IsNoOrderFor line UnknownCommand = (verb : Verb) (text : List ℕ) → ¬ (BeginsWith line verb text)
IsNoOrderFor line NotANumber = (verb : Verb) × (text : List ℕ) × BeginsWith line verb text × ¬ (IsNumeral 10 text)
IsNoOrderFor line IdOutOfRange =
    (verb : Verb) × (text : List ℕ) × BeginsWith line verb text × IsNumeral 10 text × (2 ^ 64 ≤ digits_value 10 text)

-- the number of each refusal
abbrev pub order_code : OrderError → ℕ
order_code UnknownCommand = 20
order_code NotANumber = 22
order_code IdOutOfRange = 28
