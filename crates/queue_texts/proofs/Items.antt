-- The text of an item is read in one way.
use Rattle.std.proofs.Common.{◌≡◌, ℕ, ◌<◌, ◌^◌, Bool, true, false, inl, inr, List, [], ◌∷◌, ◌++◌, Result, Ok, Err, refl, sym, ◌∙◌, ap, subst, arith}
use Rattle.std.specs.Str.Parse.{AllDigits}
use Rattle.std.specs.Prelude.{decimal}
use Rattle.std.proofs.lemmas.Fmt.{decimal_is_IsNumeral}
use Rattle.std.proofs.lemmas.Str.Parse.{digit_at}
use Rattle.pq_types.specs.Item.{Item}
use Rattle.queue_texts.specs.declared.number.NumberError.{NumberError}
use Rattle.queue_texts.specs.declared.number.NumberError.TheVariants.{NotANumber, OutOfRange}
use Rattle.pq_types.specs.Item.{item, IsItemOf, bound_of}
use Rattle.queue_texts.specs.ItemText.{item_text, SpellsNumber, SpellsParts, IsReadAs, HasNoSpace, ArePair}

-- digits are no spaces
pub no_space : (ds : List ℕ) → AllDigits 10 ds → HasNoSpace ds
no_space [] h = tt
no_space (d ∷ ds) h =
    let range = digit_at (d ∷ ds) 0 h (omega arith) in
    ((λ e. omega (arith, e, range.0)), no_space ds h.1)

pub no_space_at : (a b : List ℕ) → ¬ (HasNoSpace (a ++ 32 ∷ b))
no_space_at [] b h = h.0 refl
no_space_at (x ∷ a) b h = no_space_at a b h.1

abbrev first_of : List ℕ → ℕ
first_of [] = 0
first_of (x ∷ xs) = x

abbrev rest_of : List ℕ → List ℕ
rest_of [] = []
rest_of (x ∷ xs) = xs

-- a text has one first space
pub one_split : (a b c d : List ℕ) → HasNoSpace a → HasNoSpace c → a ++ 32 ∷ b ≡ c ++ 32 ∷ d → (a ≡ c) × (b ≡ d)
one_split [] b [] d h k e = (refl, ap rest_of e)
one_split [] b (y ∷ c) d h k e = absurd (k.0 (sym (ap first_of e)))
one_split (x ∷ a) b [] d h k e = absurd (h.0 (ap first_of e))
one_split (x ∷ a) b (y ∷ c) d h k e =
    let rest = one_split a b c d h.1 k.1 (ap rest_of e) in
    let front : (x ∷ a) ≡ (y ∷ c) = ap (λ z. z ∷ a) (ap first_of e) ∙ ap (λ zs. y ∷ zs) rest.0 in
    (front, rest.1)

pub same_number : (text : List ℕ) (p q : ℕ) → SpellsNumber text p → SpellsNumber text q → p ≡ q
same_number text p q h k = sym h.1 ∙ k.1

-- a text with a first space spells a pair or nothing
pub pair_spelled : (text first second : List ℕ) (p v : ℕ) → text ≡ first ++ 32 ∷ second → HasNoSpace first → SpellsParts text p v
    → SpellsNumber first p × SpellsNumber second v
pair_spelled text first second p v e h (inl (n, z)) = absurd (no_space_at first second (subst HasNoSpace e (no_space text n.0.1)))
pair_spelled text first second p v e h (inr (a, b, split, n, m)) =
    let same = one_split a b first second (no_space a n.0.1) h (sym split ∙ e) in
    (subst (λ t. SpellsNumber t p) same.0 n, subst (λ t. SpellsNumber t v) same.1 m)

-- a text without a space spells one number or nothing
pub single_spelled : (text : List ℕ) (p v : ℕ) → HasNoSpace text → SpellsParts text p v → SpellsNumber text p × (v ≡ 0)
single_spelled text p v h (inl n) = n
single_spelled text p v h (inr (a, b, split, n, m)) = absurd (no_space_at a b (subst HasNoSpace split h))

-- a text spells one pair of numbers at the most
parts_once : (text : List ℕ) (p v q w : ℕ) → SpellsParts text p v → SpellsParts text q w → (p ≡ q) × (v ≡ w)
parts_once text p v q w (inl n) k =
    let other = single_spelled text q w (no_space text n.0.0.1) k in
    (same_number text p q n.0 other.0, n.1 ∙ sym other.1)
parts_once text p v q w (inr (a, b, split, n, m)) k =
    let other = pair_spelled text a b q w split (no_space a n.0.1) k in
    (same_number a p q n other.0, same_number b v w m other.1)

-- a text is read in one way
pub reads_once : (wide : Bool) (text : List ℕ) (r s : Result Item NumberError) → IsReadAs wide text r → IsReadAs wide text s → r ≡ s
reads_once wide text (Ok x) (Ok y) h k =
    let same = parts_once text x.priority x.value y.priority y.value h.0 k.0 in
    ap (λ p. Ok (item p x.value)) same.0 ∙ ap (λ v. Ok (item y.priority v)) same.1
reads_once wide text (Ok x) (Err NotANumber) h k = absurd (k x.priority x.value h.0)
reads_once wide text (Ok x) (Err OutOfRange) h (p, v, spelled, out) =
    let same = parts_once text x.priority x.value p v h.0 spelled in
    absurd (out (omega (arith, same.0, h.1.0), omega (arith, same.1, h.1.1)))
reads_once wide text (Err NotANumber) (Ok y) h k = absurd (h y.priority y.value k.0)
reads_once wide text (Err NotANumber) (Err NotANumber) h k = refl
reads_once wide text (Err NotANumber) (Err OutOfRange) h (p, v, spelled, out) = absurd (h p v spelled)
reads_once wide text (Err OutOfRange) (Ok y) (p, v, spelled, out) k =
    let same = parts_once text y.priority y.value p v k.0 spelled in
    absurd (out (omega (arith, same.0, k.1.0), omega (arith, same.1, k.1.1)))
reads_once wide text (Err OutOfRange) (Err NotANumber) (p, v, spelled, out) k = absurd (k p v spelled)
reads_once wide text (Err OutOfRange) (Err OutOfRange) h k = refl

-- what the two parts of a text are read as is what the text is read as
pub pair_read : (wide : Bool) (text first second : List ℕ) (r : Result Item NumberError) → text ≡ first ++ 32 ∷ second → HasNoSpace first
    → ArePair wide first second r → IsReadAs wide text r
pair_read wide text first second (Ok x) e h (n, m, small) = (inr (first, second, e, n, m), small)
pair_read wide text first second (Err NotANumber) e h none =
    λ p v spelled. let parts = pair_spelled text first second p v e h spelled in none (parts.0.0, parts.1.0)
pair_read wide text first second (Err OutOfRange) e h (p, v, n, m, out) = (p, v, inr (first, second, e, n, m), out)

-- a text without a space is read as its number and a 0
pub alone_read : (wide : Bool) (text : List ℕ) (r : Result Item NumberError) → HasNoSpace text → ArePair wide text (48 ∷ []) r → IsReadAs wide text r
alone_read wide text (Ok x) h (n, m, small) = (inl (n, sym m.1), small)
alone_read wide text (Err NotANumber) h none = λ p v spelled. none ((single_spelled text p v h spelled).0.0, (omega arith, (omega arith, tt)))
alone_read wide text (Err OutOfRange) h (p, v, n, m, out) = (p, v, inl (n, sym m.1), out)

-- a part of an item has 64 bits at the most
pub below_bound : (wide : Bool) (n : ℕ) → n < bound_of wide → n < 2 ^ 64
below_bound true n small = small
below_bound false n small = omega (arith, small)

-- an item's text spells it
pub text_spells : (wide : Bool) (x : Item) → IsItemOf wide x → SpellsParts (item_text x) x.priority x.value
text_spells wide x small =
    let p = decimal_is_IsNumeral x.priority (below_bound wide x.priority small.0) in
    let v = decimal_is_IsNumeral x.value (below_bound wide x.value small.1) in
    inr (decimal x.priority, decimal x.value, refl, p, v)
