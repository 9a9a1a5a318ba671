-- The words of an item's cell. A narrow item has one, its priority in the upper half and its value in the lower; a wide one
-- has two, its priority and then its value. A store of one word leaves an item in the cell too: that of the word stored and of
-- the other word that stood there.
use Rattle.std.specs.Prelude.{◌≡◌, ℕ, zero, suc, ◌+◌, ◌*◌, ◌^◌, ◌<◌, Bool, true, false}
use Rattle.pq_types.specs.Item.{Item}
use Rattle.pq_types.specs.Item.{item, IsItemOf}

-- how many words an item has
abbrev pub word_number : Bool → ℕ
word_number false = 1
word_number true = 2

-- word j of an item
abbrev pub word_of : Bool → ℕ → Item → ℕ
word_of false j x = x.priority * 2 ^ 32 + x.value
word_of true zero x = x.priority
word_of true (suc j) x = x.value

-- the item whose word j is that of x, and whose other word, if there is one, is that of y
abbrev pub mixed : Bool → ℕ → Item → Item → Item
mixed false j x y = x
mixed true zero x y = item x.priority y.value
mixed true (suc j) x y = item y.priority x.value

-- two items with the same words are the same
abbrev pub WordsTellItems : Type 0
WordsTellItems =
    (wide : Bool) (x y : Item) → IsItemOf wide x → IsItemOf wide y
    → ((j : ℕ) → j < word_number wide → word_of wide j x ≡ word_of wide j y) → x ≡ y

-- and so the mixture tells of x its word j alone
abbrev pub MixedByWord : Type 0
MixedByWord =
    (wide : Bool) (j : ℕ) (x x' y : Item) → IsItemOf wide x → IsItemOf wide x' → word_of wide j x ≡ word_of wide j x'
    → mixed wide j x y ≡ mixed wide j x' y

-- each word fits, a mixture is in the range, and all of an item's words in turn leave the item
pub record WordsMix : Type 0 where
  pub small : (wide : Bool) (j : ℕ) (x : Item) → IsItemOf wide x → word_of wide j x < 2 ^ 64
  pub fits : (wide : Bool) (j : ℕ) (x y : Item) → IsItemOf wide x → IsItemOf wide y → IsItemOf wide (mixed wide j x y)
  pub both : (x y : Item) → mixed true 1 x (mixed true 0 x y) ≡ x
