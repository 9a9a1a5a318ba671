-- Words of items and their mixtures.
use Rattle.std.proofs.Common.{◌≡◌, ◌≢◌, ℕ, zero, suc, ◌<◌, ◌≤◌, ◌^◌, Bool, true, false, refl, ap, ◌∙◌, arith, lit<}
use Rattle.pq_types.specs.Item.{Item, IsItemOf}
use Rattle.pq_types.specs.Item.{item}
use Rattle.pq_types.specs.Laws.{ItemWordsDiffer}
use Rattle.desk_core.specs.Words.{word_number, word_of, mixed, WordsTellItems, MixedByWord, WordsMix}

-- an item has one word or two
pub few : (wide : Bool) → word_number wide ≤ 2
few false = omega arith
few true = omega arith

pub zero_fits : (wide : Bool) → IsItemOf wide (item 0 0)
zero_fits false = (lit< tt, lit< tt)
zero_fits true = (lit< tt, lit< tt)

pub zero_word : (wide : Bool) (j : ℕ) → word_of wide j (item 0 0) ≡ 0
zero_word false j = refl
zero_word true zero = refl
zero_word true (suc j) = refl

-- the word stored is that of x, and each other one that of y
pub mixed_here : (wide : Bool) (j : ℕ) (x y : Item) → word_of wide j (mixed wide j x y) ≡ word_of wide j x
mixed_here false j x y = refl
mixed_here true zero x y = refl
mixed_here true (suc j) x y = refl

pub mixed_else : (wide : Bool) (j i : ℕ) (x y : Item) → j < word_number wide → i < word_number wide → i ≢ j → word_of wide i (mixed wide j x y) ≡ word_of wide i y
mixed_else false j i x y h k ne = absurd (ne (omega (arith, h, k)))
mixed_else true zero zero x y h k ne = absurd (ne refl)
mixed_else true zero (suc i) x y h k ne = refl
mixed_else true (suc j) zero x y h k ne = refl
mixed_else true (suc j) (suc i) x y h k ne = absurd (ne (omega (arith, h, k)))

pub mixed_fits : (wide : Bool) (j : ℕ) (x y : Item) → IsItemOf wide x → IsItemOf wide y → IsItemOf wide (mixed wide j x y)
mixed_fits false j x y h k = h
mixed_fits true zero x y h k = (h.0, k.1)
mixed_fits true (suc j) x y h k = (k.0, h.1)

word_small : (wide : Bool) (j : ℕ) (x : Item) → IsItemOf wide x → word_of wide j x < 2 ^ 64
word_small false j x h = omega (arith, h.0, h.1)
word_small true zero x h = h.0
word_small true (suc j) x h = h.1

pub words_mix : WordsMix
words_mix = record { small = word_small; fits = mixed_fits; both = λ x y. refl }

pub words_tell : ItemWordsDiffer → WordsTellItems
words_tell differ false x y h k e = differ x y h k (e 0 (omega arith))
words_tell differ true x y h k e =
    ap (λ n. item n x.value) (e 0 (omega arith)) ∙ ap (λ n. item y.priority n) (e 1 (omega arith))

pub mixed_by_word : ItemWordsDiffer → MixedByWord
mixed_by_word differ false j x x' y h k e = differ x x' h k e
mixed_by_word differ true zero x x' y h k e = ap (λ n. item n y.value) e
mixed_by_word differ true (suc j) x x' y h k e = ap (λ n. item y.priority n) e
