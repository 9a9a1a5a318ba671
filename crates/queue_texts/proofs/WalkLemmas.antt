-- A move of the machine in every walk that the running state stands for.
use Rattle.std.proofs.Common.{◌≡◌, ℕ, inl, true, List, [], ◌∷◌, ◌++◌, Option, Some, Result, refl, ◌∙◌, subst}
use Rattle.split_core.specs.declared.trail_machine.TrailMachine.{TrailMachine}
use Rattle.split_core.specs.declared.seen.Seen.{Seen}
use Rattle.queue_texts.specs.EventText.{event_text}
use Rattle.line_script.specs.declared.lines.TheConstants.{LONGEST_LINE}
use Rattle.line_script.specs.declared.error.RunError.{RunError}
use Rattle.line_script.specs.declared.error.RunError.TheVariants.{Refused, TooLong, NoMemory, Input, Output}
use Rattle.line_script.specs.Script.{Kind, Writes, StopsInto}
use Rattle.queue_texts.specs.declared.faults.Refusal.{Refusal}
use Rattle.queue_texts.specs.declared.orders.ScanKind.{ScanKind}
use Rattle.queue_texts.specs.declared.orders.Move.{Move}
use Rattle.queue_texts.specs.declared.orders.Verb.{Verb}
use Rattle.queue_texts.specs.declared.orders.Verb.TheVariants.{Make}
use Rattle.queue_texts.specs.WalkText.{Schedule, blank, PlaysWalk, RefusesWalk, EndsWalk, orders, WalkWrites}
use Rattle.queue_texts.specs.WalkSteps.{OpensAs, MoveMade, OrderPlays, OrderRefused, OrderStops}
use Rattle.queue_texts.proofs.Follow.{Follows, writes_follow}

pub move_plays : {A : Type 0} (kind : ScanKind) (what : Move) (id : ℕ) (ids : List ℕ) (old : Option (TrailMachine A)) (before after : TrailMachine A) (out out' : List ℕ) (seen : Seen)
    → out' ≡ out ++ event_text id seen → OpensAs ids old before → MoveMade kind what id before seen after
    → (text : List ℕ) × (out' ≡ out ++ text) × OrderPlays kind (Make what) id ids old text ids (Some after)
move_plays kind what id ids old before after out out' seen grown opens made = (
  event_text id seen,
  grown,
  λ p is.
      let at = opens p is in
      let on = made p.ids p.acts at.1 in (
        record { ids = p.ids; acts = p.acts ++ on.act ∷ []; open_now = true },
        (is.0, (refl, on.stands, at.0)),
        (at.0, (on.act, seen, on.made, on.shown, refl, refl)),
      ),
)

-- running states that stand for walks
module _ {S : Type 0} (For : S → Schedule → Type 0) (kind_of : S → ScanKind) where
  abbrev over_walk : Kind S Refusal
  over_walk = record {
    longest = LONGEST_LINE;
    plays = λ s line text t. (kind_of t ≡ kind_of s) × ((p : Schedule) → For s p → (q : Schedule) × For t q × PlaysWalk (kind_of s) p line text q);
    refuses = λ s n line refusal. (p : Schedule) → For s p → RefusesWalk (kind_of s) p n line refusal;
    ends = λ s r. (p : Schedule) → For s p → EndsWalk p r;
  }

  -- a walk keeps to its kind of scan
  abbrev Stays : ScanKind → S → Schedule → Type 0
  Stays kind s p = (kind_of s ≡ kind) × For s p

  follows : (kind : ScanKind) → Follows over_walk (orders kind) (Stays kind)
  follows kind = record {
    longest = refl;
    plays = λ s t p line text h plays.
        let after = plays.1 p h.1 in (after.0, (plays.0 ∙ h.0, after.1), subst (λ k. PlaysWalk k p line text after.0) h.0 after.2);
    refuses = λ s p n line refusal h refused. subst (λ k. RefusesWalk k p n line refusal) h.0 (refused p h.1);
    ends = λ s p r h ends. ends p h.1;
  }

  pub walk_writes : (s : S) (input : List ℕ) (unread : Option (List ℕ)) (r : Result (Unit {0}) (RunError Refusal)) (text : List ℕ) → For s blank → Writes over_walk s input unread r text → WalkWrites (kind_of s) input unread r text
  walk_writes s input unread r text h writes = writes_follow over_walk (orders (kind_of s)) (Stays (kind_of s)) (follows (kind_of s)) s blank input unread r text (refl, h) writes

  -- an order that isn't played ends the run, in each walk that the state stands for
  pub order_stops : {A : Type 0} (s : S) (n : ℕ) (line : List ℕ) (e : RunError Refusal) (out out' ids : List ℕ) (machine : Option (TrailMachine A)) (verb : Verb) (id : ℕ)
      → out' ≡ out → OrderStops (kind_of s) verb id ids machine n e → ((refusal : Refusal) (p : Schedule) → OrderRefused (kind_of s) verb id ids machine n refusal → For s p → RefusesWalk (kind_of s) p n line refusal) → StopsInto over_walk s n line e out out'
  order_stops s n line (Refused refusal) out out' ids machine verb id same stops f = ((λ p h. f refusal p stops h), same)
  order_stops s n line NoMemory out out' ids machine verb id same stops f = inl same
  order_stops s n line (TooLong number) out out' ids machine verb id same none f = absurd none
  order_stops s n line Input out out' ids machine verb id same none f = absurd none
  order_stops s n line Output out out' ids machine verb id same none f = absurd none
