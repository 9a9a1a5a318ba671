-- The laws of the machine on which the steps of a pen rest, and what they say of the Book at home.
use Rattle.std.proofs.Common.{◌≡◌, ℕ, ◌≤◌, ap, sym, ◌∙◌, subst, arith}
use Rattle.std.specs.Prelude.{Some}
use mathlib.Core.Option.{some, none}
use mathlib.Core.Option as home
use Rattle.desk_core.specs.Words.{MixedByWord, WordsMix}
use Rattle.pq_types.specs.declared.journal.TheConstants.{GREATEST_NUMBER}
use Rattle.pq_types.specs.History.{Limits}
use Rattle.pq_types.specs.Laws.{ControlWordsDiffer}
use Rattle.pq_book.specs.Book.{Volume}
use Rattle.desk_core.specs.Archiving.{archived_of, EveryRunHasLimits, LimitsRise}
use Rattle.desk_core.specs.Waiters.{EveryRunHasWaiters}
use Rattle.desk_core.specs.Beyond.{NextIsUnknown}
use Rattle.desk_core.specs.Dealing.{IsReached, MovesReach}
use Rattle.desk_core.specs.Desk.{Desk, dealer_opening}
use Rattle.desk_core.specs.Keeping.{DraftKeeps, PostKeeps, LeadKeeps, MissKeeps, ReadKeeps, ReadItemKeeps, LayItemKeeps, AnswerKeeps, ApplyKeeps, ArchiveKeeps, ChangeKeeps, HandOutKeeps, ReleaseKeeps, ReleaseByKeeps, LookKeeps, SeeItemKeeps, TakeItemKeeps, DueIsNew, PensAreSeated}
use Rattle.desk_core.specs.Knows.{LeadersKnow, HomeIsKnown}
use Rattle.desk_core.specs.Clauses.{RuleGivesClauses}
use Rattle.desk_core.specs.Layout.{LockStored, ControlStored, ItemStored, Loaded, WordsAreReadBack}
use Rattle.announce_board.specs.Rule.{book_in}
use Rattle.announce_board.specs.declared.terms.Terms.{Terms}
use Rattle.announce_board.specs.Slots.{MeetsTerms, Slotted, with_book, says, first_limits}

-- the laws of the machine that the steps rest on
pub record Laws : Type 0 where
  pub draft : DraftKeeps
  pub post : PostKeeps
  pub lead : LeadKeeps
  pub miss : MissKeeps
  pub read : ReadKeeps
  pub read_item : ReadItemKeeps
  pub lay_item : LayItemKeeps
  pub answer : AnswerKeeps
  pub apply : ApplyKeeps
  pub archive : ArchiveKeeps
  pub change : ChangeKeeps
  pub hand_out : HandOutKeeps
  pub release : ReleaseKeeps
  pub release_by : ReleaseByKeeps
  pub look : LookKeeps
  pub see_item : SeeItemKeeps
  pub take_item : TakeItemKeeps
  pub due : DueIsNew
  pub seated : PensAreSeated
  pub clauses : RuleGivesClauses
  pub home : HomeIsKnown
  pub leaders : LeadersKnow
  pub unknown : NextIsUnknown
  pub lock_stored : LockStored
  pub control_stored : ControlStored
  pub item_stored : ItemStored
  pub loaded : Loaded
  pub read_back : WordsAreReadBack
  pub controls_differ : ControlWordsDiffer
  pub by_word : MixedByWord
  pub mix : WordsMix
  pub goes_on : MovesReach
  pub limited : EveryRunHasLimits
  pub rise : LimitsRise
  pub waited : EveryRunHasWaiters

-- a fact of an index and a word, where both are known by equations
pub at_both : (F : ℕ → ℕ → Type 0) (i j n k : ℕ) → i ≡ j → n ≡ k → F j k → F i n
at_both F i j n k e f h = subst (λ x. F x n) (sym e) (subst (F j) (sym f) h)

-- the Book that the machine sees at home is the one in the slot
pub book_there : (x : home.Option (home.Option Slotted)) (b : Volume) → book_in x ≡ Some b → x ≡ some (some (with_book b))
book_there none b e = absurd (cc e)
book_there (some none) b e = absurd (cc e)
book_there (some (some (says n))) b e = absurd (cc e)
book_there (some (some (with_book c))) b e = let f : Some c ≡ Some b = e in let g : c ≡ b = cc in ap (λ v. some (some (with_book v))) g

-- the Book at home meets the terms of the opening
pub book_bounded : EveryRunHasLimits → LimitsRise → (room : ℕ) (terms : Terms) (places : ℕ) (d : Desk) → room ≤ GREATEST_NUMBER → IsReached places (first_limits room terms) d
    → (book : Volume) → d.home ≡ Some book → MeetsTerms terms book
book_bounded limited rise room terms places d small (moves, run) book at =
    let first = first_limits room terms in
    let archived = archived_of (dealer_opening places first) moves d run in
    let fits = ((limited places first moves d small run).home book at).0 in
    let up = rise first archived in
    let more = up.allowed in
    let same = ap (λ (l : Limits). l.allowed) fits in
    (ap (λ (l : Limits). l.bound) fits ∙ up.bound, omega (arith, more, same))
