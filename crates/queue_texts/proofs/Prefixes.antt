-- The first lines of a lawful journal.
use Rattle.std.proofs.Common.{◌≡◌, ℕ, ◌+◌, ◌<◌, List, [], ◌∷◌, ◌++◌}
use Rattle.std.specs.List.{AllByRecursion}
use Rattle.pq_types.specs.Asked.{Line}
use Rattle.pq_types.specs.Entry.{Entry, entries_after}
use Rattle.pq_types.specs.History.{IsLegalFrom, SerialsRise, EndsAtShut, HeedsShut}
use Rattle.queue_texts.specs.Laws.{PrefixIsLawful}

first_all : (P : Line → Type 0) (first others : List Line) → AllByRecursion P (first ++ others) → AllByRecursion P first
first_all P [] others h = tt
first_all P (l ∷ first) others h = (h.0, first_all P first others h.1)

first_legal : (es : List Entry) (n : ℕ) (first others : List Line) → IsLegalFrom es n (first ++ others) → IsLegalFrom es n first
first_legal es n [] others h = tt
first_legal es n (l ∷ first) others h = (h.0, first_legal (entries_after es n l.operation) (n + 1) first others h.1)

first_rise : (first others : List Line) → SerialsRise (first ++ others) → SerialsRise first
first_rise [] others h = tt
first_rise (l ∷ first) others h =
    (first_all (λ m. m.place ≡ l.place → l.serial < m.serial) first others h.0, first_rise first others h.1)

first_heeds : (first others : List Line) → HeedsShut (first ++ others) → HeedsShut first
first_heeds [] others h = tt
first_heeds (l ∷ first) others h =
    ((λ shuts. first_all (λ m. EndsAtShut m.operation → ⊥) first others (h.0 shuts)), first_heeds first others h.1)

pub prefix_is_lawful : PrefixIsLawful
prefix_is_lawful first others h = record {
  legal = first_legal [] 1 first others h.legal;
  rise = first_rise first others h.rise;
  heeds = first_heeds first others h.heeds;
}
